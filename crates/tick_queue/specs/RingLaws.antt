-- The ticks of a ring are within their time and in order, whatever its slots hold.
use Rattle.std.specs.Prelude.{ℕ, zero, suc, ◌+◌, ◌*◌, ◌/◌, ◌%◌, ◌<◌, ◌≤◌, IsTrue, List, [], ◌∷◌, ◌++◌, map}
use Rattle.std.proofs.Common.{arith}
use Rattle.std.proofs.lemmas.Bool.Decides.{nat_tests}
use Rattle.tick_queue.specs.declared.Tick.{Tick}
use Rattle.tick_queue.specs.Ticks.{is_up_to, IsInTime, AllInTime, IsUpToAll, IsInOrder}
use Rattle.tick_queue.specs.Ring.{keys_at, tick_of_rank, ticks_of_ranks, ring_ticks}

-- a tick of a rank is within its time
rank_in_time : {K : Type 0} (time rank : ℕ) (key : K) → 4 * time ≤ rank → rank < 4 * time + 64 → IsInTime time (tick_of_rank rank key)
rank_in_time time rank key from to = (omega arith, omega arith, omega arith)

in_time_along : {K : Type 0} (time rank : ℕ) (keys : List K) (more : List (Tick K)) → 4 * time ≤ rank → rank < 4 * time + 64 → AllInTime time more → AllInTime time (map (tick_of_rank rank) keys ++ more)
in_time_along time rank [] more from to rest = rest
in_time_along time rank (k ∷ ks) more from to rest = (rank_in_time time rank k from to, in_time_along time rank ks more from to rest)

ranks_in_time : {K : Type 0} (keys : ℕ → List K) (time rank count : ℕ) → 4 * time ≤ rank → rank + count ≤ 4 * time + 64 → AllInTime time (ticks_of_ranks keys rank count)
ranks_in_time keys time rank zero from to = tt
ranks_in_time keys time rank (suc count) from to = in_time_along time rank (keys rank) (ticks_of_ranks keys (suc rank) count) from (omega arith) (ranks_in_time keys time (suc rank) count (omega arith) (omega arith))

pub ring_in_time : {K : Type 0} (time : ℕ) (slots : List (List K)) → AllInTime time (ring_ticks time slots)
unfolding ring_ticks
ring_in_time time slots = ranks_in_time (keys_at slots) time (4 * time) 64 (omega arith) (omega arith)

-- a tick of a rank is up to one of a rank that is no less
rank_up_to : {K : Type 0} (low high : ℕ) (key : K) → low ≤ high → IsTrue (is_up_to (high / 4) (high % 4) (tick_of_rank low key))
rank_up_to low high key h = grind (arith, nat_tests)

up_to_along : {K : Type 0} (low high : ℕ) (key : K) (keys : List K) (more : List (Tick K)) → low ≤ high → IsUpToAll (tick_of_rank low key) more → IsUpToAll (tick_of_rank low key) (map (tick_of_rank high) keys ++ more)
up_to_along low high key [] more h rest = rest
up_to_along low high key (k ∷ ks) more h rest = (rank_up_to low high key h, up_to_along low high key ks more h rest)

up_to_ranks : {K : Type 0} (keys : ℕ → List K) (low : ℕ) (key : K) (rank count : ℕ) → low ≤ rank → IsUpToAll (tick_of_rank low key) (ticks_of_ranks keys rank count)
up_to_ranks keys low key rank zero h = tt
up_to_ranks keys low key rank (suc count) h = up_to_along low rank key (keys rank) (ticks_of_ranks keys (suc rank) count) h (up_to_ranks keys low key (suc rank) count (omega arith))

in_order_along : {K : Type 0} (keys : ℕ → List K) (rank count : ℕ) (ks : List K) → IsInOrder (ticks_of_ranks keys (suc rank) count) → IsInOrder (map (tick_of_rank rank) ks ++ ticks_of_ranks keys (suc rank) count)
in_order_along keys rank count [] rest = rest
in_order_along keys rank count (k ∷ ks) rest = (up_to_along rank rank k ks (ticks_of_ranks keys (suc rank) count) (omega arith) (up_to_ranks keys rank k (suc rank) count (omega arith)), in_order_along keys rank count ks rest)

ranks_in_order : {K : Type 0} (keys : ℕ → List K) (rank count : ℕ) → IsInOrder (ticks_of_ranks keys rank count)
ranks_in_order keys rank zero = tt
ranks_in_order keys rank (suc count) = in_order_along keys rank count (keys rank) (ranks_in_order keys (suc rank) count)

pub ring_in_order : {K : Type 0} (time : ℕ) (slots : List (List K)) → IsInOrder (ring_ticks time slots)
unfolding ring_ticks
ring_in_order time slots = ranks_in_order (keys_at slots) (4 * time) 64
