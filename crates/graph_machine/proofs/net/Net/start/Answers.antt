use Rattle.std.proofs.Common.{◌≡◌, ◌<◌, ℕ, List, length, map, ap, sym, subst, ◌∙◌, arith, None, Option, get_or}
use Rattle.graph.specs.Graph.{Graph, node_at}
use Rattle.graph_machine.specs.declared.net.Part.{Part}
use Rattle.graph_machine.specs.Wired.{given, part_at, brief_by, IsWired}
use Rattle.graph_machine.specs.Wiring.{part_out, WiredUp}
use Rattle.graph_machine.proofs.WiringSteps.{begin_small, wired_from}
use Rattle.graph_machine.proofs.net.Net.start.Goals as goal

pub wire-requires-clause-small : goal.wire-requires-clause-small
wire-requires-clause-small c key =
    let is : given c.in_ok-outs.outs.items key ≡ part_out (part_at (node_at c.args.graph.now.nodes key)) =
    c.in_ok-outs.ensures.outs key ∙ ap (λ (l : List (Option Part)). part_out (get_or l key None)) c.deref-2.ensures.value ∙ ap part_out (c.in_ok-parts.ensures.kept key) in
    subst (λ n. n < 16) (sym (ap (λ (l : List ℕ). given l key) c.deref-3.ensures.value ∙ is)) (begin_small c.args.graph.now.nodes c.requires.sound key)

pub invariant_of-result : goal.invariant_of-result
invariant_of-result c =
    let g = c.args.graph.now.nodes in
    let outs = c.in_ok-outs.outs.items in
    let parts = c.in_ok-parts.parts.items in
    let briefs = c.in_ok-briefs.briefs.items in
    let made : briefs ≡ map brief_by parts = c.in_ok-briefs.ensures ∙ ap (map brief_by) c.deref.ensures.value in
    let long : length outs ≡ length parts = c.in_ok-outs.ensures.count ∙ ap (λ (l : List (Option Part)). length l) c.deref-2.ensures.value in
    let small : (key : ℕ) → given outs key < 16 = λ key.
    subst (λ n. n < 16) (sym (c.in_ok-outs.ensures.outs key ∙ ap (λ (l : List (Option Part)). part_out (get_or l key None)) c.deref-2.ensures.value ∙ ap part_out (c.in_ok-parts.ensures.kept key)))
    (begin_small g c.requires.sound key) in
    let wired : WiredUp g (length outs) (given outs) c.wire.new.tables c.in_ok-links.links =
    subst (WiredUp g (length outs) (given outs) c.wire.new.tables) (sym c.in_ok-links.ensures)
    (subst (λ (l : List ℕ). WiredUp g (length l) (given l) c.wire.new.tables c.wire.new.rows) c.deref-3.ensures.value c.in_ok-wire.ensures.wired) in
    let made : IsWired g parts briefs outs c.wire.new.tables c.in_ok-links.links =
    wired_from g parts briefs outs c.wire.new.tables c.in_ok-links.links c.in_ok-parts.ensures.kept made (sym long) (c.in_ok-wire.ensures.whole ∙ ap (λ (l : List ℕ). length l) c.deref-3.ensures.value) small
    (omega (arith, long, c.in_ok-parts.ensures.count, c.requires.few)) wired in
    subst (λ (graph : Graph). IsWired graph.nodes parts briefs outs c.wire.new.tables c.in_ok-links.links) (sym c.of.ensures) made
