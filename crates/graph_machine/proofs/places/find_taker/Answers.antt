use Rattle.std.proofs.Common.{◌∙◌, ap, sym, subst, ℕ, Option}
use Rattle.std.specs.Prelude.{IfNone}
use Rattle.std.specs.BTreeMap.{get}
use Rattle.circuit.specs.Taken.{Takes}
use Rattle.graph.specs.GraphCircuit.{graph_circuit}
use Rattle.graph_machine.specs.Places.{spot_cmp, part_takes}
use Rattle.graph_machine.proofs.PlaceSteps.{taker_here, none_found, other_found}
use Rattle.graph_machine.proofs.places.find_taker.Goals as goal

pub returns-in_err-key-clause-none : goal.returns-in_err-key-clause-none
returns-in_err-key-clause-none c =
    subst (λ (o : Option ℕ). IfNone o (Takes (graph_circuit c.args.net.now.nodes) c.args.pos c.args.click → ⊥)) (sym c.from_residual.ensures)
    (none_found c.args.net.now.nodes c.args.clicked.now c.args.pos c.args.click c.requires (ap (get spot_cmp c.args.clicked.now) (sym c.spot.ensures) ∙ sym c.in_err-key.ensures.value))

pub returns-then-takes-clause-some : goal.returns-then-takes-clause-some
returns-then-takes-clause-some c = taker_here c.args.net.now.nodes c.in_ok-key.field-0.now c.args.pos c.args.click (ap (λ p. part_takes p c.args.pos c.args.click) (sym c.part.ensures) ∙ sym c.takes.ensures ∙ c.if-takes.true)

pub returns-else-takes-clause-none : goal.returns-else-takes-clause-none
returns-else-takes-clause-none c = other_found c.args.net.now.nodes c.args.clicked.now c.in_ok-key.field-0.now c.args.pos c.args.click c.requires (ap (get spot_cmp c.args.clicked.now) (sym c.spot.ensures) ∙ sym c.in_ok-key.ensures.value)
    (ap (λ p. part_takes p c.args.pos c.args.click) (sym c.part.ensures) ∙ sym c.takes.ensures ∙ c.if-takes.false)
