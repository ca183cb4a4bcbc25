-- Which clicks a circuit takes, whatever its state.
use Rattle.std.specs.Prelude.{◌≡◌, true, List, [], ◌∷◌, Some}
use Rattle.circuit.specs.declared.Component.{Component}
use Rattle.circuit.specs.declared.Click.{Click}
use Rattle.circuit.specs.declared.Act.{Act}
use Rattle.circuit.specs.declared.Act.TheVariants.{Click as ClickAct, Ticks as TicksAct}
use Rattle.circuit.specs.declared.Pos.{Pos}
use Rattle.circuit.specs.Component.{takes}
use Rattle.circuit.specs.Circuit.{Circuit}
use Rattle.circuit.specs.declared.Step.{Step}
use Rattle.circuit.specs.declared.Step.TheVariants.{Click as ClickAt, Tick as OneTick}

-- some key of this place has a component that takes the click
pub record Takes {K : Type 0} (C : Circuit K) (pos : Pos) (click : Click) : Type 0 where
  pub key : K
  pub component : Component
  pub there : C.role key ≡ Some component
  pub place : C.place key ≡ pos
  pub taken : takes component click ≡ true

-- each click of the steps is taken
abbrev pub EachTaken : {K : Type 0} → Circuit K → List Step → Type 0
EachTaken C [] = Unit {0}
EachTaken C (ClickAt pos click ∷ steps) = Takes C pos click × EachTaken C steps
EachTaken C (OneTick ∷ steps) = EachTaken C steps

-- and so of a script
abbrev pub EachActTaken : {K : Type 0} → Circuit K → List Act → Type 0
EachActTaken C [] = Unit {0}
EachActTaken C (ClickAct pos click ∷ acts) = Takes C pos click × EachActTaken C acts
EachActTaken C (TicksAct n ∷ acts) = EachActTaken C acts
