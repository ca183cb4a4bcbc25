use Rattle.report.specs.Trailers.{run_trailer}
use Rattle.report.proofs.Appended.{Appends-then}
use Rattle.report.proofs.trailers.push_trailer.Goals as goal
use Rattle.report.proofs.trailers.push_trailer.Goals.{in-Some, in_default}

pub returns : goal.returns
unfolding run_trailer
returns c = elim c.match-counts.branch [
  | in-Some w ↦ rw w.in-Some.is (Appends-then w.push_counts.ensures.text (rw w.buf-is at c.push.ensures))
  | in_default w ↦ rw w.in_default.is (rw w.buf-is at c.push.ensures)
]
