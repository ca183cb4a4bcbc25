-- A place in a text: its three numbers, with a space between them.
use Rattle.std.specs.Prelude.{ℕ, List, ◌++◌, codes}
use Rattle.std.specs.Fmt.{signed_decimal}
use Rattle.circuit.specs.declared.Pos.{Pos}

unfoldable pub place_text : Pos → List ℕ
place_text pos = signed_decimal pos.x ++ codes " " ++ signed_decimal pos.y ++ codes " " ++ signed_decimal pos.z
