-- The line of a place that fired.
use Rattle.std.specs.Prelude.{ℕ, List, ◌++◌, codes}
use Rattle.circuit.specs.declared.Pos.{Pos}
use Rattle.report.specs.PlaceText.{place_text}

unfoldable pub fire_line : Pos → List ℕ
fire_line pos = codes "fire " ++ place_text pos ++ codes "\n"
