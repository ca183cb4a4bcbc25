-- What is read at a place depends on the levels of the place and of those within two steps.
use Rattle.std.proofs.Common.{◌≡◌, ℕ, List, [], ◌∷◌, map, refl, ◌∙◌, ap, inl, inr, ◌⊎◌}
use Rattle.std.specs.Prelude.{not}
use Rattle.std.proofs.lemmas.Bool.{cases_Bool}
use Rattle.block_table.specs.declared.Side.{Side}
use Rattle.block_table.specs.declared.Side.TheVariants.{Down, Up, North, South, West, East}
use Rattle.block_table.specs.declared.Block.{Block}
use Rattle.block_table.specs.declared.Block.TheVariants.{Wire, Torch, WallTorch, Repeater, Comparator, Lamp, Trapdoor, Note}
use Rattle.block_table.specs.Facts.{opposite}
use Rattle.circuit.specs.declared.Pos.{Pos}
use Rattle.build.specs.Place.{beside, sides}
use Rattle.build.specs.Plan.{Plan, block_at, solid_at}
use Rattle.build.specs.Roles.{direct_at, far_at}
use Rattle.wire_net.specs.Net.{greatest}
use Rattle.wire_shape.specs.Shape.{across, wire_at}
use Rattle.power_rules.specs.Power.{weak_of, weak, strong_of, strong, charge, read, undusted, read_no_dust, read_around, input, or_far, or_direct, measured, turned, turned_at, lock_power, lateral, lateral_at, lateral_power, only}
use Rattle.power_rules.specs.Readings.{readings_of, readings_at}
use Rattle.power_rules.specs.RightWires.{source_power}
use Rattle.replay_engine.specs.Near.{IsNearby}
use Rattle.replay_engine.specs.Near.IsNearby.{Itself, OneStep, TwoSteps}

pub record SameNear (f g : Pos → ℕ) (p : Pos) : Type 0 where
  pub here : f p ≡ g p
  pub one : (s : Side) → f (beside s p) ≡ g (beside s p)
  pub two : (s t : Side) → f (beside t (beside s p)) ≡ g (beside t (beside s p))

map-same : (f g : Side → ℕ) → ((s : Side) → f s ≡ g s) → (xs : List Side) → map f xs ≡ map g xs
map-same f g h [] = refl
map-same f g h (x ∷ xs) = ap (λ (n : ℕ). n ∷ map f xs) (h x) ∙ ap (λ (ns : List ℕ). g x ∷ ns) (map-same f g h xs)

weak-same : (b : Plan) (f g : Pos → ℕ) (q : Pos) (side : Side) → f q ≡ g q → weak b f q side ≡ weak b g q side
unfolding weak
weak-same b f g q side e = ap (λ (n : ℕ). weak_of b q (block_at b q) n side) e

strong-same : (b : Plan) (f g : Pos → ℕ) (q : Pos) (side : Side) → f q ≡ g q → strong b f q side ≡ strong b g q side
unfolding strong
strong-same b f g q side e = ap (λ (n : ℕ). strong_of b q (block_at b q) n side) e

charge-same : (b : Plan) (f g : Pos → ℕ) (q : Pos) → ((t : Side) → f (beside t q) ≡ g (beside t q)) → charge b f q ≡ charge b g q
unfolding charge
charge-same b f g q h = ap greatest (map-same (λ t. strong b f (beside t q) (opposite t)) (λ t. strong b g (beside t q) (opposite t)) (λ t. strong-same b f g (beside t q) (opposite t) (h t)) sides)

pub read-same : (b : Plan) (f g : Pos → ℕ) (p : Pos) (side : Side) → SameNear f g p → read b f p side ≡ read b g p side
unfolding read
read-same b f g p side n = elim (cases_Bool (solid_at b (beside side p))) [
  | inl e ↦ rw e (charge-same b f g (beside side p) (n.two side))
  | inr e ↦ rw e (weak-same b f g (beside side p) (opposite side) (n.one side))
]

undusted-same : (b : Plan) (f g : Pos → ℕ) (q : Pos) → f q ≡ g q → undusted b f q ≡ undusted b g q
unfolding undusted
undusted-same b f g q e = ap (λ (n : ℕ). only (not (wire_at b q)) n) e

near-undusted : (b : Plan) (f g : Pos → ℕ) (p : Pos) → SameNear f g p → SameNear (undusted b f) (undusted b g) p
near-undusted b f g p n = record {
  here = undusted-same b f g p n.here;
  one = λ s. undusted-same b f g (beside s p) (n.one s);
  two = λ s t. undusted-same b f g (beside t (beside s p)) (n.two s t);
}

-- the base power of a wire
pub source-same : (b : Plan) (f g : Pos → ℕ) (p : Pos) → SameNear f g p → source_power b f p ≡ source_power b g p
unfolding source_power
source-same b f g p n = ap greatest (map-same (read_no_dust b f p) (read_no_dust b g p) (λ s. read-same b (undusted b f) (undusted b g) p s (near-undusted b f g p n)) sides)

around-same : (b : Plan) (f g : Pos → ℕ) (p : Pos) → SameNear f g p → read_around b f p ≡ read_around b g p
unfolding read_around
around-same b f g p n = ap greatest (map-same (read b f p) (read b g p) (λ s. read-same b f g p s n) sides)

input-same : (b : Plan) (f g : Pos → ℕ) (p : Pos) (facing : Side) → SameNear f g p → input b f p facing ≡ input b g p facing
unfolding input
input-same b f g p facing n = elim (cases_Bool (wire_at b (beside facing p))) [ inl e ↦ rw e (n.one facing) | inr e ↦ rw e (read-same b f g p facing n) ]

measured-same : (b : Plan) (f g : Pos → ℕ) (p : Pos) (facing : Side) → SameNear f g p → measured b f p facing ≡ measured b g p facing
unfolding measured
measured-same b f g p facing n = ap (λ (x : ℕ). or_direct (direct_at b p facing) (or_far (far_at b p facing) x)) (input-same b f g p facing n)

lock-same : (b : Plan) (f g : Pos → ℕ) (p : Pos) (facing : Side) → SameNear f g p → lock_power b f p facing ≡ lock_power b g p facing
unfolding lock_power
lock-same b f g p facing n = ap greatest (map-same (turned_at b f p) (turned_at b g p) (λ s. ap (λ (x : ℕ). turned (block_at b (beside s p)) x s) (n.one s)) (across facing))

lateral-same : (b : Plan) (f g : Pos → ℕ) (p : Pos) (facing : Side) → SameNear f g p → lateral_power b f p facing ≡ lateral_power b g p facing
unfolding lateral_power
lateral-same b f g p facing n = ap greatest (map-same (lateral_at b f p) (lateral_at b g p) (λ s. ap (λ (x : ℕ). lateral (block_at b (beside s p)) x s) (n.one s)) (across facing))

-- so what a component reads
readings_of-same : (b : Plan) (f g : Pos → ℕ) (p : Pos) (block : Block) → SameNear f g p → readings_of b f p block ≡ readings_of b g p block
readings_of-same b f g p (Torch lit) n = rw (read-same b f g p Down n) refl
readings_of-same b f g p (WallTorch facing lit) n = rw (read-same b f g p (opposite facing) n) refl
readings_of-same b f g p (Lamp lit) n = rw (around-same b f g p n) refl
readings_of-same b f g p (Trapdoor facing top powered) n = rw (around-same b f g p n) refl
readings_of-same b f g p (Note powered) n = rw (around-same b f g p n) refl
readings_of-same b f g p (Repeater delay facing powered) n = rw (input-same b f g p facing n, lock-same b f g p facing n) refl
readings_of-same b f g p (Comparator facing subtract) n = rw (measured-same b f g p facing n, lateral-same b f g p facing n) refl
readings_of-same b f g p (Wire north east south west power) n = rw (n.here) refl
readings_of-same b f g p _ n = refl

pub readings-same : (b : Plan) (f g : Pos → ℕ) (p : Pos) → SameNear f g p → readings_at b f p ≡ readings_at b g p
unfolding readings_at
readings-same b f g p n = readings_of-same b f g p (block_at b p) n

-- ---- either the levels near a place are the same, or something holds of it

sides-or : (P : Side → Type 0) (D : Type 0) → ((s : Side) → P s ⊎ D) → ((s : Side) → P s) ⊎ D
sides-or P D h = six (h Down) (h Up) (h North) (h South) (h West) (h East)
  where
    each : P Down → P Up → P North → P South → P West → P East → (s : Side) → P s
    each a b c d e f Down = a
    each a b c d e f Up = b
    each a b c d e f North = c
    each a b c d e f South = d
    each a b c d e f West = e
    each a b c d e f East = f

    six : P Down ⊎ D → P Up ⊎ D → P North ⊎ D → P South ⊎ D → P West ⊎ D → P East ⊎ D → ((s : Side) → P s) ⊎ D
    six (inr x) b c d e f = inr x
    six (inl a) (inr x) c d e f = inr x
    six (inl a) (inl b) (inr x) d e f = inr x
    six (inl a) (inl b) (inl c) (inr x) e f = inr x
    six (inl a) (inl b) (inl c) (inl d) (inr x) f = inr x
    six (inl a) (inl b) (inl c) (inl d) (inl e) (inr x) = inr x
    six (inl a) (inl b) (inl c) (inl d) (inl e) (inl f) = inl (each a b c d e f)

pub near-or : (f g : Pos → ℕ) (p : Pos) (D : Type 0) → ((q : Pos) → IsNearby p q → (f q ≡ g q) ⊎ D) → SameNear f g p ⊎ D
near-or f g p D h = go (h p Itself) (sides-or (λ s. f (beside s p) ≡ g (beside s p)) D (λ s. h (beside s p) (OneStep s)))
    (sides-or (λ s. (t : Side) → f (beside t (beside s p)) ≡ g (beside t (beside s p))) D
    (λ s. sides-or (λ t. f (beside t (beside s p)) ≡ g (beside t (beside s p))) D (λ t. h (beside t (beside s p)) (TwoSteps s t))))
  where
    go : (f p ≡ g p) ⊎ D → ((s : Side) → f (beside s p) ≡ g (beside s p)) ⊎ D → ((s t : Side) → f (beside t (beside s p)) ≡ g (beside t (beside s p))) ⊎ D → SameNear f g p ⊎ D
    go (inr x) b c = inr x
    go (inl a) (inr x) c = inr x
    go (inl a) (inl b) (inr x) = inr x
    go (inl a) (inl b) (inl c) = inl (record { here = a; one = b; two = c })
