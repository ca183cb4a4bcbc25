-- How a call ends that writes one text, and takes all memory before.
use Rattle.std.specs.Prelude.{ℕ, ◌≤◌, Result, IfOk, IsErrOf}
use Rattle.rp_io.specs.Causes.{Rose}
use Rattle.player.specs.declared.PlayRefusal.{PlayRefusal}
use Rattle.player.specs.declared.PlayRefusal.TheVariants.{WriteFault, NoMemory}

-- `Did` holds where all was written, and `Began` where the sink failed, whose count of faults rose then. Where memory was wanting, nothing was touched. The count never falls.
pub record EndsWriting {T : Type 0} (Did : T → Type 0) (Began Untouched : Type 0) (faults_before faults_now : ℕ) (result : Result T PlayRefusal) : Type 0 where
  pub done : IfOk result Did
  pub front : IsErrOf result WriteFault → Began
  pub fault : IsErrOf result WriteFault → Rose faults_before faults_now
  pub nothing : IsErrOf result NoMemory → Untouched
  pub later : faults_before ≤ faults_now
