-- Varints, one after another.
use Rattle.std.proofs.Common.{◌≡◌, ◌≢◌, ℕ, suc, ◌+◌, ◌-◌, ◌*◌, ◌%◌, ◌^◌, ◌<◌, ◌≤◌, ℤ, pos, List, [], ◌∷◌, map, length, take, drop, Option, Some, None, Bool, true, false, refl, sym, ap, ◌∙◌, arith, inl, inr}
use Rattle.std.specs.Prelude.{position, nat_lt, nat_le}
use Rattle.std.specs.List.{position_or_len, onto_first}
use Rattle.std.proofs.lemmas.List.{length-take-le}
use Rattle.std.proofs.lemmas.Bool.{cases_Bool}
use Rattle.std.proofs.lemmas.Bool.Decides.{nat_tests}
use Rattle.block_table.specs.declared.Block.{Block}
use Rattle.schematic.specs.Palette.{block_or_air}
use Rattle.schematic.specs.Cells.{varints, ends, value_of, is_whole, fault_from, IsFirst, HasNoFirst}

-- five groups of seven bits
pub value_small : (g : List ℕ) → length g ≤ 5 → value_of g < 2 ^ 35
value_small [] h = omega arith
value_small (a ∷ []) h = omega arith
value_small (a ∷ (b ∷ [])) h = omega arith
value_small (a ∷ (b ∷ (c ∷ []))) h = omega arith
value_small (a ∷ (b ∷ (c ∷ (d ∷ [])))) h = omega arith
value_small (a ∷ (b ∷ (c ∷ (d ∷ (e ∷ []))))) h = omega arith
value_small (a ∷ (b ∷ (c ∷ (d ∷ (e ∷ (f ∷ g)))))) h = absurd (omega arith)

abbrev low : ℕ → Bool
low b = nat_lt b 128

record StartsWith (cells : List ℕ) (n : ℕ) : Type 0 where
  split : varints cells ≡ take (suc n) cells ∷ varints (drop (suc n) cells)
  whole : ends (take (suc n) cells) ≡ true
  count : length cells ≡ suc n + length (drop (suc n) cells)

starts : (cells : List ℕ) → position_or_len low cells < length cells → StartsWith cells (position_or_len low cells)
starts [] h = absurd (omega arith)
starts (b ∷ []) h = elim (cases_Bool (low b)) [
  | inl e ↦ rw e (record { split = rw e refl; whole = e; count = refl })
  | inr e ↦ absurd (let k : 1 < 1 = rw e at h in omega arith)
]
starts (b ∷ (c ∷ cs)) h = elim (cases_Bool (low b)) [
  | inl e ↦ rw e (record { split = rw e refl; whole = e; count = omega arith })
  | inr e ↦ (let n : ℕ = position_or_len low (c ∷ cs) in
      let k : 1 + n < suc (suc (length cs)) = rw e at h in
      let more : StartsWith (c ∷ cs) n = starts (c ∷ cs) (omega arith) in
      let next : 1 + n ≡ suc n = omega arith in
      rw (e, next) (record { split = rw (e, more.split) refl; whole = more.whole; count = omega (arith, more.count) }))
]

record IsCut (cells : List ℕ) : Type 0 where
  alone : varints cells ≡ cells ∷ []
  open_end : ends cells ≡ false

cut_off : (cells : List ℕ) → length cells ≤ position_or_len low cells → length cells ≢ 0 → IsCut cells
cut_off [] h k = absurd (k refl)
cut_off (b ∷ []) h k = elim (cases_Bool (low b)) [
  | inl e ↦ absurd (let m : 1 ≤ 0 = rw e at h in omega arith)
  | inr e ↦ record { alone = rw e refl; open_end = e }
]
cut_off (b ∷ (c ∷ cs)) h k = elim (cases_Bool (low b)) [
  | inl e ↦ absurd (let m : suc (suc (length cs)) ≤ 0 = rw e at h in omega arith)
  | inr e ↦ (let m : suc (suc (length cs)) ≤ 1 + position_or_len low (c ∷ cs) = rw e at h in
      let more : IsCut (c ∷ cs) = cut_off (c ∷ cs) (omega arith) (λ z. absurd (omega (arith, z))) in
      record { alone = rw (e, more.alone) refl; open_end = more.open_end })
]

not_whole : (v : List ℕ) → ends v ≡ false → is_whole v ≡ false
not_whole v e = rw e refl

-- no byte ends a varint
pub none_ends : (cells : List ℕ) → None ≡ position (λ b. nat_lt b 128) cells → HasNoFirst (varints cells)
none_ends [] h = tt
none_ends (b ∷ bs) h = elim (cases_Bool (nat_lt (position_or_len low (b ∷ bs)) (length (b ∷ bs)))) [
  | inl e ↦ absurd (let m : None ≡ Some (position_or_len low (b ∷ bs)) = rw e at h in cc)
  | inr e ↦ (let c : IsCut (b ∷ bs) = cut_off (b ∷ bs) (grind (arith, nat_tests, e)) (λ z. absurd (omega (arith, z))) in rw c.alone (not_whole (b ∷ bs) c.open_end))
]

found : (cells : List ℕ) (end : ℕ) → Some end ≡ position (λ b. nat_lt b 128) cells → (end < length cells) × StartsWith cells end
found cells end h = elim (cases_Bool (nat_lt (position_or_len low cells) (length cells))) [
  | inl e ↦ (let m : Some end ≡ Some (position_or_len low cells) = rw e at h in
      let same : end ≡ position_or_len low cells = cc in
      let below : position_or_len low cells < length cells = grind (arith, nat_tests, e) in
      rw same (below, starts cells below))
  | inr e ↦ absurd (let m : Some end ≡ None = rw e at h in cc)
]

-- the first varint has more than five bytes
pub too_long : (cells : List ℕ) (end : ℕ) → Some end ≡ position (λ b. nat_lt b 128) cells → 5 ≤ end → HasNoFirst (varints cells)
too_long cells end h k =
    let f = found cells end h in
    let there : suc end ≤ length cells = omega (arith, f.0) in
    let long : nat_le (length (take (suc end) cells)) 5 ≡ false = rw (length-take-le (suc end) cells there) (grind (arith, nat_tests)) in
    rw (f.1.split, f.1.whole, long) refl

-- the first varint ends at this place
pub first_ends : (cells : List ℕ) (end number : ℕ) → Some end ≡ position (λ b. nat_lt b 128) cells → end < 5 → number ≡ value_of (take (end + 1) cells) → IsFirst cells number (drop (end + 1) cells)
first_ends cells end number h k v =
    let f = found cells end h in
    let there : suc end ≤ length cells = omega (arith, f.0) in
    let count : length (take (suc end) cells) ≡ suc end = length-take-le (suc end) cells there in
    let short : nat_le (length (take (suc end) cells)) 5 ≡ true = rw count (grind (arith, nat_tests)) in
    let at : end + 1 ≡ suc end = omega arith in
    let value : number ≡ value_of (take (suc end) cells) = rw at at v in
    rw at (record { first = take (suc end) cells; cut = f.1.split; whole = rw (f.1.whole, short) refl; value = value; count = omega (arith, f.1.count, count) })

-- the first varint is one byte
pub one_byte : (cells behind : List ℕ) (byte number : ℕ) → cells ≡ byte ∷ behind → byte < 128 → number ≡ byte → IsFirst cells number behind
one_byte cells behind byte number e h v =
    let low : nat_lt byte 128 ≡ true = grind (arith, nat_tests) in
    let same : number ≡ byte % 128 + 128 * 0 = omega arith in
    rw e (record { first = byte ∷ []; cut = rw low refl; whole = rw low refl; value = same; count = omega arith })

-- ---- over the cells of a build

-- one varint more is right
pub fault_next : (f : ℤ → Option Block) (place n number : ℕ) (cells behind : List ℕ) (b : Block) → IsFirst cells number behind → f (pos number) ≡ Some b →
    fault_from f place (suc n) (varints cells) ≡ fault_from f (place + (length cells - length behind)) n (varints behind)
fault_next f place n number cells behind b h k =
    let here : f (pos (value_of h.first)) ≡ Some b = ap (λ (m : ℕ). f (pos m)) (sym h.value) ∙ k in
    let size : length h.first ≡ length cells - length behind = omega (arith, h.count) in
    rw (h.cut, h.whole, here) (ap (λ (m : ℕ). fault_from f (place + m) n (varints behind)) size)

pub blocks_next : (f : ℤ → Option Block) (number : ℕ) (cells behind : List ℕ) (b : Block) → IsFirst cells number behind → f (pos number) ≡ Some b →
    map (λ v. block_or_air (f (pos (value_of v)))) (varints cells) ≡ b ∷ map (λ v. block_or_air (f (pos (value_of v)))) (varints behind)
blocks_next f number cells behind b h k =
    let here : f (pos (value_of h.first)) ≡ Some b = ap (λ (m : ℕ). f (pos m)) (sym h.value) ∙ k in
    rw (h.cut, here) refl

-- no varint begins
pub fault_here : (f : ℤ → Option Block) (place n : ℕ) (vs : List (List ℕ)) → HasNoFirst vs → fault_from f place (suc n) vs ≡ Some place
fault_here f place n [] h = refl
fault_here f place n (v ∷ vs) h = rw h refl

-- a varint that is the number of no block
pub fault_unknown : (f : ℤ → Option Block) (place n number : ℕ) (cells behind : List ℕ) → IsFirst cells number behind → f (pos number) ≡ None → fault_from f place (suc n) (varints cells) ≡ Some place
fault_unknown f place n number cells behind h k =
    let here : f (pos (value_of h.first)) ≡ None = ap (λ (m : ℕ). f (pos m)) (sym h.value) ∙ k in
    rw (h.cut, h.whole, here) refl

-- nothing is left over
pub fault_none : (f : ℤ → Option Block) (place : ℕ) (cells : List ℕ) → length cells ≡ 0 → fault_from f place 0 (varints cells) ≡ None
fault_none f place [] h = refl
fault_none f place (b ∷ bs) h = absurd (omega arith)

pub blocks_none : (g : List ℕ → Block) (cells : List ℕ) → length cells ≡ 0 → map g (varints cells) ≡ []
blocks_none g [] h = refl
blocks_none g (b ∷ bs) h = absurd (omega arith)

-- something is left over
pub fault_left : (f : ℤ → Option Block) (place : ℕ) (cells : List ℕ) → length cells ≢ 0 → fault_from f place 0 (varints cells) ≡ Some place
fault_left f place [] h = absurd (h refl)
fault_left f place (b ∷ bs) h = elim (cases_Bool (low b)) [
  | inl e ↦ rw e refl
  | inr e ↦ rw e (some_first (varints bs))
]
  where
    some_first : (vs : List (List ℕ)) → fault_from f place 0 (onto_first b vs) ≡ Some place
    some_first [] = refl
    some_first (v ∷ vs) = refl

-- a number of varints that are to come isn't 0
pub more_to_come : (f : ℤ → Option Block) (place n counter : ℕ) (vs : List (List ℕ)) → counter < n → fault_from f place (n - counter) vs ≡ fault_from f place (suc (n - suc counter)) vs
more_to_come f place n counter vs h =
    let more : n - counter ≡ suc (n - suc counter) = omega arith in
    ap (λ (k : ℕ). fault_from f place k vs) more
