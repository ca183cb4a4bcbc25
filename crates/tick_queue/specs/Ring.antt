-- A ring of 16 times 4 slots of keys. A tick's rank is four times its due time and its priority, and its slot is the rank modulo 64.
use Rattle.std.specs.Prelude.{ℕ, zero, suc, ◌*◌, ◌/◌, ◌%◌, List, [], ◌++◌, map, slice_index_or}
use Rattle.tick_queue.specs.declared.Tick.{Tick}

-- the keys in the slot of a rank
abbrev pub keys_at : {K : Type 0} → List (List K) → ℕ → List K
keys_at slots rank = slice_index_or slots (rank % 64) []

-- the tick that has this rank and this key
abbrev pub tick_of_rank : {K : Type 0} → ℕ → K → Tick K
tick_of_rank rank key = record { due = rank / 4; priority = rank % 4; key = key }

-- the ticks of `count` ranks from this rank on
abbrev pub ticks_of_ranks : {K : Type 0} → (ℕ → List K) → ℕ → ℕ → List (Tick K)
ticks_of_ranks keys rank zero = []
ticks_of_ranks keys rank (suc count) = map (tick_of_rank rank) (keys rank) ++ ticks_of_ranks keys (suc rank) count

-- the ticks in the slots at this time
unfoldable pub ring_ticks : {K : Type 0} → ℕ → List (List K) → List (Tick K)
ring_ticks time slots = ticks_of_ranks (keys_at slots) (4 * time) 64
