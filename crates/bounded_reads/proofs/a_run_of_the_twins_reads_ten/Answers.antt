use Rattle.bounded_reads.proofs.TwinRuns.{all_steps}
use Rattle.bounded_reads.proofs.a_run_of_the_twins_reads_ten.Goals as goal

pub returns : goal.returns
returns c = λ order views last run. all_steps run
