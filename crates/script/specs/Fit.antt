-- A script that can be played: each click is taken, and each mark is a wire.
use Rattle.std.specs.Prelude.{◌≡◌, Bool, true, List, [], ◌∷◌}
use Rattle.std.specs.List.{list_all}
use Rattle.circuit.specs.declared.Act.{Act}
use Rattle.circuit.specs.declared.Act.TheVariants.{Click as ClickAct, Ticks}
use Rattle.circuit.specs.declared.Click.{Click}
use Rattle.circuit.specs.declared.Pos.{Pos}
use Rattle.script.specs.Acts.{Meaning}

abbrev pub EachClickTaken : (Pos → Click → Bool) → List Act → Type 0
EachClickTaken takes [] = Unit {0}
EachClickTaken takes (ClickAct place click ∷ acts) = (takes place click ≡ true) × EachClickTaken takes acts
EachClickTaken takes (Ticks n ∷ acts) = EachClickTaken takes acts

pub record IsFit (takes : Pos → Click → Bool) (wire : Pos → Bool) (script : Meaning) : Type 0 where
  pub clicks : EachClickTaken takes script.acts
  pub marks : list_all wire script.marks ≡ true
