-- The parts that were given are the whole.
use Rattle.std.proofs.Common.{◌≡◌, ℕ, zero, suc, ◌+◌, ◌<◌, List, [], ◌∷◌, map, Option, Some, None, refl, ap, ap₂, ◌∙◌, arith}
use Rattle.std.specs.List.{range_with_len, filter_map}
use Rattle.circuit.specs.declared.Pos.{Pos}
use Rattle.circuit.specs.Circuit.{State}
use Rattle.build.specs.declared.Pending.{Pending}
use Rattle.build.specs.Plan.{Plan, volume, entry, block_at, place_of, places}
use Rattle.graph.specs.Graph.{Nodes}
use Rattle.handover.specs.declared.held.Held.{Held}
use Rattle.handover.specs.GivenBack.{held_at, given_block, given_level, given_tick, given_back}
use Rattle.handover.specs.HeldByCell.{AreHeld, block_by, level_by, tick_by, ticks_to, with_ticks_by}

-- what is made of each cell is made of each place
map-places : {X : Type 0} (f : Pos → X) (g : ℕ → X) (b : Plan) (a n : ℕ) → ((k : ℕ) → k < a + n → g k ≡ f (place_of b k)) → map g (range_with_len a n) ≡ map f (map (place_of b) (range_with_len a n))
map-places f g b a zero h = refl
map-places f g b a (suc n) h = ap₂ (λ x xs. x ∷ xs) (h a (omega arith)) (map-places f g b (a + 1) n (λ k low. h k (omega arith)))

filter_map-each : {X Y : Type 0} (f : X → Option Y) (xs : List X) → filter_map (λ (y : Option Y). y) (map f xs) ≡ filter_map f xs
filter_map-each f [] = refl
filter_map-each {X} {Y} f (x ∷ xs) = by_head (f x) refl (filter_map-each f xs)
  where
    by_head : (head : Option Y) → f x ≡ head → filter_map (λ (y : Option Y). y) (map f xs) ≡ filter_map f xs → filter_map (λ (y : Option Y). y) (map f (x ∷ xs)) ≡ filter_map f (x ∷ xs)
    by_head None e rest = rw e rest
    by_head (Some y) e rest = rw e (ap (λ ys. y ∷ ys) rest)

pub given_whole : (b : Plan) (g : Nodes) (s : State ℕ) (held : List (Option Held)) → AreHeld b g s held → with_ticks_by b held ≡ given_back b g s
unfolding given_back
given_whole b g s held are = λ j. record {
  width = b.width;
  height = b.height;
  depth = b.depth;
  blocks = blocks j;
  levels = levels j;
  pending = ticks j;
  data_version = b.data_version;
}
  where
    blocks : map (block_by b held) (range_with_len 0 (volume b)) ≡ map (λ (p : Pos). given_block (held_at g s p) (block_at b p)) (places b)
    blocks = map-places (λ (p : Pos). given_block (held_at g s p) (block_at b p)) (block_by b held) b 0 (volume b)
        (λ k low. ap (λ (one : Option Held). given_block one (block_at b (place_of b k))) (are.each k (omega arith)))

    levels : map (level_by b held) (range_with_len 0 (volume b)) ≡ map (λ (p : Pos). given_level (held_at g s p) (block_at b p) (entry b b.levels 0 p)) (places b)
    levels = map-places (λ (p : Pos). given_level (held_at g s p) (block_at b p) (entry b b.levels 0 p)) (level_by b held) b 0 (volume b)
        (λ k low. ap (λ (one : Option Held). given_level one (block_at b (place_of b k)) (entry b b.levels 0 (place_of b k))) (are.each k (omega arith)))

    ticks : ticks_to b held (volume b) ≡ filter_map (λ (p : Pos). given_tick p (held_at g s p)) (places b)
    ticks =
        ap (filter_map (λ (tick : Option Pending). tick))
        (map-places (λ (p : Pos). given_tick p (held_at g s p)) (tick_by b held) b 0 (volume b) (λ k low. ap (given_tick (place_of b k)) (are.each k (omega arith))))
        ∙ filter_map-each (λ (p : Pos). given_tick p (held_at g s p)) (places b)
