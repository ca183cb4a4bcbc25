-- The texts of small cases.
use Rattle.std.proofs.Common.{◌≡◌, List, [], ◌∷◌, pos, negsuc, refl}
use Rattle.std.specs.Prelude.{codes}
use Rattle.std.specs.Fmt.{digits}
use Rattle.build.specs.declared.OutKind.TheVariants.{Lamp, Wire}
use Rattle.build.specs.declared.OutPlace.{OutPlace}
use Rattle.report.specs.declared.Cause.TheVariants.{Press}
use Rattle.report.specs.declared.Fault.TheVariants.{Order}
use Rattle.report.specs.declared.OrderKind.TheVariants.{NotDue}
use Rattle.report.specs.PlaceText.{place_text}
use Rattle.report.specs.Header.{count_line, output_line, header}
use Rattle.report.specs.ViewLine.{value_text, view_line}
use Rattle.report.specs.Trailers.{counts_line, run_trailer}
use Rattle.report.specs.BenchText.{bench_line, lamps_line, bench_text}
use Rattle.report.specs.FireLine.{fire_line}
use Rattle.report.specs.FaultLine.{fault_line}

abbrev two_outputs : List OutPlace
two_outputs = record { pos = record { x = pos 2; y = pos 0; z = pos 10 }; kind = Lamp } ∷ record { pos = record { x = negsuc 0; y = pos 1; z = negsuc 99 }; kind = Wire } ∷ []

header-two_outputs : header two_outputs ≡ codes "outputs 2\n2 0 10 lamp\n-1 1 -100 wire\n"
unfolding header count_line output_line place_text digits
header-two_outputs = refl

view_line-two_values : view_line 12 Press (0 ∷ 15 ∷ []) ≡ codes "12 press 0 15\n"
unfolding view_line value_text digits
view_line-two_values = refl

run_trailer-counts : run_trailer (record { nodes = 2; links = 1; events = 3 }) ≡ codes "nodes 2 links 1 events 3\nend\n"
unfolding run_trailer counts_line digits
run_trailer-counts = refl

bench_text-two_outputs : bench_text 40 two_outputs (1 ∷ 15 ∷ []) (record { nodes = 2; links = 1; events = 3 }) ≡ codes "bench 40\non 1 of 1\nnodes 2 links 1 events 3\nend\n"
unfolding bench_text bench_line lamps_line run_trailer counts_line digits
bench_text-two_outputs = refl

fire_line-place : fire_line (record { x = pos 1; y = negsuc 1; z = pos 30 }) ≡ codes "fire 1 -2 30\n"
unfolding fire_line place_text digits
fire_line-place = refl

fault_line-order : fault_line (Order 4 1 NotDue) ≡ codes "redpile: order: line 4 tick 1 not due\n"
unfolding fault_line digits
fault_line-order = refl
