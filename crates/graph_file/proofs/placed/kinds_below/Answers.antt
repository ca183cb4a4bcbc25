use Rattle.std.proofs.Common.{◌≡◌, ◌-◌, ℕ, suc, Option, drop, sym, ap, ◌∙◌, arith}
use Rattle.std.specs.HashMap.{get}
use Rattle.std.specs.Map.{lookup}
use Rattle.graph.specs.Clicks.{is_same_place}
use Rattle.graph.specs.Graph.{Node, node_at}
use Rattle.graph_file.specs.Placed.{with_kind, kind_at}
use Rattle.graph_file.proofs.PlacedSteps.{kind_step, kind_past}
use Rattle.graph_file.proofs.placed.kinds_below.Goals as goal

pub loop-key-init : goal.loop-key-init
loop-key-init c place = ap (lookup (is_same_place place)) c.new-kinds.ensures.empty ∙ sym (kind_past c.args.count c.args.graph.now.nodes c.requires.past place)

pub loop-key-preserved : goal.loop-key-preserved
loop-key-preserved c place =
    let g = c.args.graph.now.nodes in
    let key : ℕ = c.loop-key.key - 1 in
    let behind : suc key ≡ c.loop-key.key = omega (arith, c.loop-key-test.true) in
    c.in_ok-put_kind.ensures place
    ∙ ap (λ (entry : Option Node). with_kind entry place (get is_same_place c.loop-key.kinds place)) (c.node.ensures.value ∙ ap (node_at g) c.new.ensures)
    ∙ ap (with_kind (node_at g key) place) (c.loop-key.invariant place ∙ ap (λ (n : ℕ). kind_at (drop n g) place) (sym behind))
    ∙ sym (kind_step key g place)
