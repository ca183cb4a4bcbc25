-- The header of a text: how many outputs there are, and a line for each.
use Rattle.std.specs.Prelude.{ℕ, List, ◌++◌, length, codes, decimal}
use Rattle.std.specs.List.{flat_map}
use Rattle.build.specs.declared.OutKind.{OutKind}
use Rattle.build.specs.declared.OutKind.TheVariants.{Lamp, Trapdoor, Note, Wire}
use Rattle.build.specs.declared.OutPlace.{OutPlace}
use Rattle.report.specs.PlaceText.{place_text}

abbrev pub kind_text : OutKind → List ℕ
kind_text Lamp = codes "lamp"
kind_text Trapdoor = codes "trapdoor"
kind_text Note = codes "note"
kind_text Wire = codes "wire"

unfoldable pub output_line : OutPlace → List ℕ
output_line output = place_text output.pos ++ codes " " ++ kind_text output.kind ++ codes "\n"

unfoldable pub count_line : ℕ → List ℕ
count_line outputs = codes "outputs " ++ decimal outputs ++ codes "\n"

unfoldable pub header : List OutPlace → List ℕ
header outputs = count_line (length outputs) ++ flat_map output_line outputs
