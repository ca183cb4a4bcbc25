-- What is said of an order that was checked: how many ticks and firings it has.
use Rattle.std.specs.Prelude.{ℕ, List, ◌++◌, codes, decimal}
use Rattle.report.specs.Trailers.{world_trailer}

unfoldable pub tally_line : ℕ → ℕ → List ℕ
tally_line ticks fires = codes "ticks " ++ decimal ticks ++ codes " fires " ++ decimal fires ++ codes "\n"

unfoldable pub checked_text : ℕ → ℕ → List ℕ
checked_text ticks fires = tally_line ticks fires ++ world_trailer
