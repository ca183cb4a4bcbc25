-- Lists of cells that have room.
use Rattle.std.specs.Prelude.{◌≡◌, ℕ, zero, suc, ◌<◌, ◌≤◌, List, [], ◌∷◌, length, slice_index_or, set, Vec, vec_capacity, ◌++◌}
use Rattle.std.specs.declared.alloc.Global.{Global}
use Rattle.std.proofs.Common.{arith, ap}
pub use Rattle.number_rows.specs.Listed.{list_at, items_of, length-items_of, items_of-at, items_of-set, items_of-more, replicate-more, empty-past}

-- the lists, and for how many cells each has room
pub record Listed : Type 0 where
  pub lists : List (List ℕ)
  pub room : ℕ

-- each vector has room for so many items
abbrev pub AreRoomy : ℕ → List (Vec ℕ Global) → Type 0
AreRoomy room [] = Unit {0}
AreRoomy room (v ∷ vs) = (room ≤ vec_capacity v) × AreRoomy room vs

pub roomy-at : (room : ℕ) (vs : List (Vec ℕ Global)) (i : ℕ) (v : Vec ℕ Global) → i < length vs → AreRoomy room vs → v ≡ slice_index_or vs i v → room ≤ vec_capacity v
roomy-at room [] i v h r e = absurd (omega arith)
roomy-at room (w ∷ vs) zero v h r e = let same : vec_capacity v ≡ vec_capacity w = ap (λ (u : Vec ℕ Global). vec_capacity u) e in omega (arith, r.0, same)
roomy-at room (w ∷ vs) (suc i) v h r e = roomy-at room vs i v (omega arith) r.1 e

pub roomy-set : (room : ℕ) (vs : List (Vec ℕ Global)) (i : ℕ) (v : Vec ℕ Global) → AreRoomy room vs → room ≤ vec_capacity v → AreRoomy room (set vs i v)
roomy-set room [] i v r h = tt
roomy-set room (w ∷ vs) zero v r h = (h, r.1)
roomy-set room (w ∷ vs) (suc i) v r h = (r.0, roomy-set room vs i v r.1 h)

pub roomy-more : (room : ℕ) (vs : List (Vec ℕ Global)) (v : Vec ℕ Global) → AreRoomy room vs → room ≤ vec_capacity v → AreRoomy room (vs ++ v ∷ [])
roomy-more room [] v r h = (h, tt)
roomy-more room (w ∷ vs) v r h = (r.0, roomy-more room vs v r.1 h)
