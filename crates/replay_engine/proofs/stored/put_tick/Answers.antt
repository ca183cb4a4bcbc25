use Rattle.std.proofs.Common.{◌∷◌, ℕ, sym, ◌∙◌, refl, get_or, set, subst}
use Rattle.replay_engine.specs.Things.{nothing}
use Rattle.replay_engine.specs.Stores.{AreStored}
use Rattle.replay_engine.proofs.Storing.{tick_nowhere, tick_outside, tick_there}
use Rattle.replay_engine.proofs.stored.put_tick.Goals as goal

pub returns-in_default : goal.returns-in_default
returns-in_default c = tick_nowhere c.args.things.now c.args.tick c.args.cells.now (sym c.role.ensures ∙ c.in_default.is)

pub returns-in_default-number : goal.returns-in_default-number
returns-in_default-number c = tick_outside c.args.things.now c.count.ensures.numbered c.args.tick c.args.cells.now (sym c.number.ensures.found ∙ c.in_default-number.is)

pub returns : goal.returns
returns c = λ rest before.
    let k = c.in-Some-number.number in
    let value = (get_or c.args.cells.now k nothing).value in
    subst (λ (due : ℕ). AreStored c.args.things.now (c.args.tick ∷ rest) (set c.args.cells.now k (record { value = value; due = due; priority = c.args.tick.priority }))) (sym c.from.ensures)
    (tick_there c.args.things.now c.count.ensures.numbered c.args.tick c.args.cells.now k c.in-Some._component value c.requires (sym c.number.ensures.found ∙ c.in-Some-number.is) (sym c.role.ensures ∙ c.in-Some.is) refl rest before)
