-- What is known of a source's files and of its answers.
use Rattle.std.specs.Prelude.{◌≡◌, ◌≢◌, ◌↔◌, ℕ, ◌<◌, ◌≤◌, Bool, true, false, List, ◌++◌, length, take, drop, Option, Some, None, Result, Ok, Err}
use Rattle.rp_io.specs.declared.traits.ReadFailed.{ReadFailed}
use Rattle.rp_io.specs.declared.traits.ReadFailed.TheVariants.{Fault, NoMemory}
use Rattle.rp_io.specs.declared.whole.ReadRefusal.{ReadRefusal}
use Rattle.rp_io.specs.declared.whole.ReadRefusal.TheVariants.{ReadFault, NoMemory as NoFileMemory}
use Rattle.rp_io.specs.Causes.{Rose}

-- what a file that is read whole is refused with
abbrev pub refusal_of : ReadFailed → ReadRefusal
refusal_of Fault = ReadFault
refusal_of NoMemory = NoFileMemory

-- the answer is Fault
abbrev pub is_fault_answer : Result ℕ ReadFailed → Bool
is_fault_answer (Ok count) = false
is_fault_answer (Err Fault) = true
is_fault_answer (Err NoMemory) = false

-- the numbers of calls on names, where they are told
abbrev pub Asked : Type 0
Asked = List ℕ → Option ℕ

-- The count rose, where it is told. Whether it is told didn't change.
abbrev pub RoseWhere : Option ℕ → Option ℕ → Type 0
RoseWhere None None = Unit {0}
RoseWhere (Some before) (Some now) = Rose before now
RoseWhere _ _ = ⊥

-- One call asked for this name: its count rose and that of every other name is as before.
pub record Asks (before now : Asked) (name : List ℕ) : Type 0 where
  pub rose : RoseWhere (before name) (now name)
  pub others : (other : List ℕ) → other ≢ name → now other ≡ before other

-- No name but this one was asked for.
abbrev pub AsksAlone : Asked → Asked → List ℕ → Type 0
AsksAlone before now name = (other : List ℕ) → other ≢ name → now other ≡ before other

-- The first n bytes of the buffer are the file's from this place on, where the file is told, and n is 0 exactly at or past its end.
pub record ReadsAt (told : Option (List ℕ)) (at n : ℕ) (now : List ℕ) : Type 0 where
  pub bytes : (whole : List ℕ) → told ≡ Some whole → take n now ≡ take n (drop at whole)
  pub ended : (whole : List ℕ) → told ≡ Some whole → n ≡ 0 ↔ length whole ≤ at

-- These are the file's bytes, where it is told.
abbrev pub IsFile : Option (List ℕ) → List ℕ → Type 0
IsFile told bytes = (whole : List ℕ) → told ≡ Some whole → bytes ≡ whole

-- The file is longer, where it is told.
abbrev pub IsLonger : Option (List ℕ) → ℕ → Type 0
IsLonger told limit = (whole : List ℕ) → told ≡ Some whole → limit < length whole

-- These are the first of the file's bytes, where it is told.
abbrev pub IsFront : Option (List ℕ) → List ℕ → Type 0
IsFront told bytes = (whole : List ℕ) → told ≡ Some whole → (rest : List ℕ) × (whole ≡ bytes ++ rest)
