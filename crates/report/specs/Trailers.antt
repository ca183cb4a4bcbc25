-- The end of a text: of a run of a graph, the counts stand before it.
use Rattle.std.specs.Prelude.{ℕ, List, ◌++◌, Option, Some, None, codes, decimal}
use Rattle.report.specs.declared.Counts.{Counts}

abbrev pub world_trailer : List ℕ
world_trailer = codes "end\n"

unfoldable pub counts_line : Counts → List ℕ
counts_line counts =
    codes "nodes " ++ decimal counts.nodes ++ codes " links " ++ decimal counts.links ++ codes " events " ++ decimal counts.events ++ codes "\n"

unfoldable pub run_trailer : Counts → List ℕ
run_trailer counts = counts_line counts ++ world_trailer

abbrev pub trailer : Option Counts → List ℕ
trailer None = world_trailer
trailer (Some counts) = run_trailer counts
