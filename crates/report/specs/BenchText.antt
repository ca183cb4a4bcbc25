-- The summary of a bench: its number, how many lamps are on in the last view and how many there are, and the counts of the run.
use Rattle.std.specs.Prelude.{ℕ, Bool, true, false, ◌&&◌, nat_lt, List, ◌++◌, count_by, codes, decimal}
use Rattle.std.specs.List.{zip}
use Rattle.build.specs.declared.OutKind.{OutKind}
use Rattle.build.specs.declared.OutKind.TheVariants.{Lamp}
use Rattle.build.specs.declared.OutPlace.{OutPlace}
use Rattle.report.specs.declared.Counts.{Counts}
use Rattle.report.specs.Trailers.{run_trailer}

abbrev pub is_lamp : OutKind → Bool
is_lamp Lamp = true
is_lamp _ = false

-- all lamps among the outputs
abbrev pub lamps : List OutPlace → ℕ
lamps outputs = count_by (λ (output : OutPlace). is_lamp output.kind) outputs

-- the lamps that are on in a view
abbrev pub lamps_on : List OutPlace → List ℕ → ℕ
lamps_on outputs view = count_by (λ (shown : OutPlace × ℕ). is_lamp shown.0.kind && nat_lt 0 shown.1) (zip outputs view)

unfoldable pub bench_line : ℕ → List ℕ
bench_line n = codes "bench " ++ decimal n ++ codes "\n"

unfoldable pub lamps_line : ℕ → ℕ → List ℕ
lamps_line on all = codes "on " ++ decimal on ++ codes " of " ++ decimal all ++ codes "\n"

unfoldable pub bench_text : ℕ → List OutPlace → List ℕ → Counts → List ℕ
bench_text n outputs view counts = bench_line n ++ lamps_line (lamps_on outputs view) (lamps outputs) ++ run_trailer counts
