-- Refining is an order of graphs.
use Rattle.circuit.proofs.Simulate.{refines_trans}
use Rattle.graph.specs.Graph.{Nodes}
use Rattle.graph.specs.Refines.{Refines}

pub refines_refl : (g : Nodes) → Refines g g
refines_refl g = record { shows = record { shows = λ acts views events shows. (events, shows) }; kept = λ pos kind outer stands. stands; none_new = λ pos kind outer stands. stands }

pub refines_then : (first second third : Nodes) → Refines first second → Refines second third → Refines first third
refines_then first second third f s = record {
  shows = refines_trans f.shows s.shows;
  kept = λ pos kind outer stands. s.kept pos kind outer (f.kept pos kind outer stands);
  none_new = λ pos kind outer stands. f.none_new pos kind outer (s.none_new pos kind outer stands);
}
