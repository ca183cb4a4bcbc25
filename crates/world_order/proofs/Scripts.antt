-- The steps of a script: how many there are, and that their clicks are taken.
use Rattle.std.proofs.Common.{◌≡◌, ℕ, zero, suc, ◌+◌, ◌≤◌, Bool, true, List, [], ◌∷◌, length, Some, refl, arith}
use Rattle.std.proofs.lemmas.List.Sums.{sum_by-cons}
use Rattle.circuit.specs.declared.Act.{Act}
use Rattle.circuit.specs.declared.Act.TheVariants.{Click as ClickAct, Ticks as TicksAct}
use Rattle.circuit.specs.declared.Click.{Click}
use Rattle.circuit.specs.declared.Click.TheVariants.{Use, Press, Leave, Weigh}
use Rattle.circuit.specs.declared.Component.{Component}
use Rattle.circuit.specs.declared.Component.TheVariants.{Lever as LeverPart, Button as ButtonPart, Plate as PlatePart, Weighted as WeightedPart}
use Rattle.circuit.specs.declared.Pos.{Pos}
use Rattle.circuit.specs.declared.Step.{Step}
use Rattle.circuit.specs.declared.Step.TheVariants.{Click as ClickAt, Tick as OneTick}
use Rattle.circuit.specs.Circuit.{Circuit}
use Rattle.circuit.specs.Component.{takes}
use Rattle.circuit.specs.Shows.{ticks, steps_of}
use Rattle.circuit.specs.Taken.{EachTaken, EachActTaken, Takes}
use Rattle.circuit.proofs.Runs.{taken-steps_of}
use Rattle.block_table.specs.declared.Block.{Block}
use Rattle.block_table.specs.declared.Block.TheVariants.{Lever, Button, Plate, Weighted}
use Rattle.build.specs.Plan.{Plan, block_at}
use Rattle.build.specs.Marks.{is_marked}
use Rattle.build.specs.Roles.{button_delay, role_of, role_at}
use Rattle.power_rules.specs.World.{world_circuit}
use Rattle.script.specs.Acts.{ticks_of, ticks_in}
use Rattle.script.specs.Clickable.{block_takes, takes_click}
use Rattle.script.specs.Fit.{EachClickTaken}
use Rattle.world_order.specs.Reading.{TakenStep}

length-ticks : (n : ℕ) (steps : List Step) → length (ticks n steps) ≡ n + length steps
length-ticks zero steps = omega arith
length-ticks (suc n) steps = omega (arith, length-ticks n steps)

pub length-steps_of : (acts : List Act) → length (steps_of acts) ≤ length acts + ticks_in acts
length-steps_of [] = omega arith
length-steps_of (ClickAct place click ∷ acts) = omega (arith, length-steps_of acts, sum_by-cons ticks_of (ClickAct place click) acts)
length-steps_of (TicksAct n ∷ acts) = omega (arith, length-ticks n (steps_of acts), length-steps_of acts, sum_by-cons ticks_of (TicksAct n) acts)

-- a component that takes a click
record TakesAs (block : Block) (marked : Bool) (click : Click) : Type 0 where
  pub component : Component
  pub there : role_of marked block ≡ Some component
  pub taken : takes component click ≡ true

-- the block's component takes the click that the block takes
component_takes : (block : Block) (marked : Bool) (click : Click) → block_takes block click ≡ true → TakesAs block marked click
component_takes (Lever face facing powered) marked Use h = record { component = LeverPart; there = refl; taken = refl }
component_takes (Lever face facing powered) marked _ h = absurd (cc)
component_takes (Button name face facing powered) marked Use h = record { component = ButtonPart (button_delay name); there = refl; taken = refl }
component_takes (Button name face facing powered) marked _ h = absurd (cc)
component_takes (Plate name powered) marked Press h = record { component = PlatePart; there = refl; taken = refl }
component_takes (Plate name powered) marked Leave h = record { component = PlatePart; there = refl; taken = refl }
component_takes (Plate name powered) marked _ h = absurd (cc)
component_takes (Weighted name power) marked Leave h = record { component = WeightedPart; there = refl; taken = refl }
component_takes (Weighted name power) marked (Weigh weight) h = record { component = WeightedPart; there = refl; taken = h }
component_takes (Weighted name power) marked _ h = absurd (cc)
component_takes _ marked click h = absurd (cc)

takes_there : (b : Plan) (marks : List Pos) (p : Pos) (click : Click) → takes_click b p click ≡ true → Takes (world_circuit b marks) p click
unfolding role_at
takes_there b marks p click h =
    let taken = component_takes (block_at b p) (is_marked marks p) click h in
    record { key = p; component = taken.component; there = taken.there; place = refl; taken = taken.taken }

acts_taken : (b : Plan) (marks : List Pos) (acts : List Act) → EachClickTaken (takes_click b) acts → EachActTaken (world_circuit b marks) acts
acts_taken b marks [] k = tt
acts_taken b marks (ClickAct place click ∷ acts) k = (takes_there b marks place click k.0, acts_taken b marks acts k.1)
acts_taken b marks (TicksAct n ∷ acts) k = acts_taken b marks acts k

-- the clicks of a script are taken in the world of its build
pub clicks_taken : (b : Plan) (marks : List Pos) (acts : List Act) → EachClickTaken (takes_click b) acts → EachTaken (world_circuit b marks) (steps_of acts)
clicks_taken b marks acts k = taken-steps_of (world_circuit b marks) acts (acts_taken b marks acts k)

pub taken_first : (C : Circuit Pos) (step : Step) (steps : List Step) → EachTaken C (step ∷ steps) → TakenStep C step
taken_first C (ClickAt place click) steps taken = taken.0
taken_first C OneTick steps taken = tt

pub taken_after : (C : Circuit Pos) (step : Step) (steps : List Step) → EachTaken C (step ∷ steps) → EachTaken C steps
taken_after C (ClickAt place click) steps taken = taken.1
taken_after C OneTick steps taken = taken
