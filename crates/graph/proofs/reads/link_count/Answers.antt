-- No node has more than 2 ^ 32 links, and there are fewer nodes.
use Rattle.std.proofs.Common.{◌≡◌, ◌*◌, ◌<◌, ◌≤◌, ◌^◌, None, ◌∙◌, ap, arith, length}
use Rattle.std.specs.Prelude.{sum_by, take}
use Rattle.std.proofs.lemmas.List.{length-map}
use Rattle.std.proofs.lemmas.List.Sums.{sum_by_more}
use Rattle.graph.specs.Graph.{links_into, node_at}
use Rattle.std.specs.Prelude.{option_map}
use Rattle.graph.specs.Stored.{plain, plain_nodes}
use Rattle.graph.proofs.NodeSteps.{links_into-le, entry_is}
use Rattle.graph.proofs.reads.link_count.Goals as goal

pub overflow_add-links : goal.overflow_add-links
overflow_add-links c =
    let here : c.links_into-links.result ≡ links_into (node_at (plain_nodes c.args.nodes.now.entries) c.loop-number.number) =
    c.links_into-links.ensures ∙ ap links_into (entry_is c.args.nodes.now.entries c.loop-number.number c.new.result _ c.get.ensures c.new.ensures) in
    let few : links_into (node_at (plain_nodes c.args.nodes.now.entries) c.loop-number.number) ≤ 2 ^ 32 = links_into-le (plain_nodes c.args.nodes.now.entries) c.requires c.loop-number.number in
    let so_far : c.loop-number.links ≤ c.loop-number.number * 2 ^ 32 = c.loop-number.invariant.1 in
    omega arith

pub loop-number-preserved : goal.loop-number-preserved
loop-number-preserved c =
    let here : c.links_into-links.result ≡ links_into (node_at (plain_nodes c.args.nodes.now.entries) c.loop-number.number) =
    c.links_into-links.ensures ∙ ap links_into (entry_is c.args.nodes.now.entries c.loop-number.number c.new.result _ c.get.ensures c.new.ensures) in
    let few : links_into (node_at (plain_nodes c.args.nodes.now.entries) c.loop-number.number) ≤ 2 ^ 32 = links_into-le (plain_nodes c.args.nodes.now.entries) c.requires c.loop-number.number in
    let so_far : c.loop-number.links ≤ c.loop-number.number * 2 ^ 32 = c.loop-number.invariant.1 in
    let sum : c.loop-number.links ≡ sum_by links_into (take c.loop-number.number (plain_nodes c.args.nodes.now.entries)) = c.loop-number.invariant.0 in
    let within : c.loop-number.number < length (plain_nodes c.args.nodes.now.entries) = omega (arith, length-map c.args.nodes.now.entries (option_map plain), c.made-number-end.ensures, c.loop-number-test.true) in
    let more = sum_by_more links_into (plain_nodes c.args.nodes.now.entries) c.loop-number.number None within in
    (omega arith, omega arith)
