-- The ticks of a queue: a list by due time, then by priority, then in the order of adding.
use Rattle.std.specs.Prelude.{ℕ, ◌≢◌, ◌+◌, ◌≤◌, ◌==◌, Bool, IsTrue, ◌&&◌, ◌||◌, ltb, leb, cond, List, [], ◌∷◌, Option, Some, None}
use Rattle.std.proofs.Math.Bool.{Bool-set}
use Rattle.std.specs.Coded.{×_prop, Unit-prop, le_prop}
use Rattle.tick_queue.specs.declared.Tick.{Tick}

-- the tick has this due time and this priority
abbrev pub is_at : {K : Type 0} → ℕ → ℕ → Tick K → Bool
is_at due priority x = (x.due == due) && (x.priority == priority)

-- the tick's due time and priority, compared in this order, are at most these
abbrev pub is_up_to : {K : Type 0} → ℕ → ℕ → Tick K → Bool
is_up_to due priority x = ltb x.due due || ((x.due == due) && leb x.priority priority)

-- the list with a tick put in: behind every tick that is up to it, and before every other one
abbrev pub put_in : {K : Type 0} → Tick K → List (Tick K) → List (Tick K)
put_in t [] = t ∷ []
put_in t (x ∷ xs) = cond (is_up_to t.due t.priority x) (x ∷ put_in t xs) (t ∷ x ∷ xs)

-- the key of the first tick with this due time and this priority
abbrev pub first_at : {K : Type 0} → ℕ → ℕ → List (Tick K) → Option K
first_at due priority [] = None
first_at due priority (x ∷ xs) = cond (is_at due priority x) (Some x.key) (first_at due priority xs)

-- the list without that tick
abbrev pub without_first_at : {K : Type 0} → ℕ → ℕ → List (Tick K) → List (Tick K)
without_first_at due priority [] = []
without_first_at due priority (x ∷ xs) = cond (is_at due priority x) xs (x ∷ without_first_at due priority xs)

-- no tick is due at this time
abbrev pub NoneDueAt : {K : Type 0} → ℕ → List (Tick K) → Type 0
NoneDueAt time [] = Unit {0}
NoneDueAt time (x ∷ xs) = (x.due ≢ time) × NoneDueAt time xs

-- the tick is due within 15 ticks of time from now on, and its priority is at most 3
abbrev pub IsInTime : {K : Type 0} → ℕ → Tick K → Type 0
IsInTime time x = (time ≤ x.due) × (x.due ≤ time + 15) × (x.priority ≤ 3)

abbrev pub AllInTime : {K : Type 0} → ℕ → List (Tick K) → Type 0
AllInTime time [] = Unit {0}
AllInTime time (x ∷ xs) = IsInTime time x × AllInTime time xs

-- the tick's due time and priority, compared in this order, are at most those of each of these
abbrev pub IsUpToAll : {K : Type 0} → Tick K → List (Tick K) → Type 0
IsUpToAll first [] = Unit {0}
IsUpToAll first (x ∷ xs) = IsTrue (is_up_to x.due x.priority first) × IsUpToAll first xs

-- the ticks stand by due time, then by priority
abbrev pub IsInOrder : {K : Type 0} → List (Tick K) → Type 0
IsInOrder [] = Unit {0}
IsInOrder (x ∷ xs) = IsUpToAll x xs × IsInOrder xs

-- each of these facts has at most one proof
pub AllInTime-prop : {K : Type 0} (time : ℕ) (xs : List (Tick K)) → IsProp (AllInTime time xs)
AllInTime-prop time [] = Unit-prop
AllInTime-prop time (x ∷ xs) = ×_prop (hlevel le_prop) (AllInTime-prop time xs)

pub IsUpToAll-prop : {K : Type 0} (first : Tick K) (xs : List (Tick K)) → IsProp (IsUpToAll first xs)
IsUpToAll-prop first [] = Unit-prop
IsUpToAll-prop first (x ∷ xs) = ×_prop (hlevel Bool-set) (IsUpToAll-prop first xs)

pub IsInOrder-prop : {K : Type 0} (xs : List (Tick K)) → IsProp (IsInOrder xs)
IsInOrder-prop [] = Unit-prop
IsInOrder-prop (x ∷ xs) = ×_prop (IsUpToAll-prop x xs) (IsInOrder-prop xs)
