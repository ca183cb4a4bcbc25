-- The texts on a small case.
use Rattle.std.proofs.Common.{◌≡◌, ℕ, List, [], ◌∷◌, pos, refl}
use Rattle.std.specs.Prelude.{codes}
use Rattle.std.specs.Fmt.{digits}
use Rattle.circuit.specs.declared.Act.{Act}
use Rattle.circuit.specs.declared.Act.TheVariants.{Click as ClickAct, Ticks as TicksAct}
use Rattle.circuit.specs.declared.Click.TheVariants.{Use as UseClick}
use Rattle.build.specs.declared.OutKind.TheVariants.{Lamp as LampKind}
use Rattle.build.specs.declared.OutPlace.{OutPlace}
use Rattle.report.specs.Header.{count_line, output_line, header}
use Rattle.report.specs.PlaceText.{place_text}
use Rattle.report.specs.ViewLine.{value_text, view_line}
use Rattle.player.specs.Moments.{world_text}

abbrev use_lever : Act
use_lever = ClickAct (record { x = pos 0; y = pos 0; z = pos 0 }) UseClick

abbrev two_uses : List Act
two_uses = use_lever ∷ TicksAct 1 ∷ use_lever ∷ TicksAct 2 ∷ []

abbrev lamp : OutPlace
lamp = record { pos = record { x = pos 2; y = pos 0; z = pos 0 }; kind = LampKind }

abbrev lamp_views : List (List ℕ)
lamp_views = (0 ∷ []) ∷ (1 ∷ []) ∷ (1 ∷ []) ∷ (1 ∷ []) ∷ (1 ∷ []) ∷ (0 ∷ []) ∷ []

world_text-lever_and_lamp : world_text (lamp ∷ []) two_uses lamp_views
    ≡ codes "outputs 1\n2 0 0 lamp\n0 start 0\n0 use 1\n1 tick 1\n1 use 1\n2 tick 1\n3 tick 0\nend\n"
unfolding world_text header count_line output_line place_text view_line value_text digits
world_text-lever_and_lamp = refl
