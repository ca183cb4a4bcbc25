-- Shortest varints.
use Rattle.std.proofs.Common.{◌≡◌, ℕ, zero, suc, ◌+◌, ◌*◌, ◌/◌, ◌%◌, ◌^◌, ◌<◌, ◌≤◌, List, [], ◌∷◌, ◌++◌, length, true, false, refl, sym, ap, subst, ◌∙◌, arith, inl, inr}
use Rattle.std.specs.Prelude.{nat_lt, nat_le}
use Rattle.std.proofs.Math.Nat.{pow-succ'}
use Rattle.std.proofs.lemmas.Bool.{cases_Bool, lt-ltb}
use Rattle.std.proofs.lemmas.Bool.Decides.{nat_tests}
use Rattle.std.proofs.lemmas.List.{length-append, append_assoc}
use Rattle.schematic.specs.Cells.{varints, ends, value_of, is_whole, IsFirst}
use Rattle.schem_write.specs.Varint.{varint_within, varint}

small : (n : ℕ) → n < 128 → nat_lt n 128 ≡ true
small n h = lt-ltb n 128 h

large : (n : ℕ) → 128 ≤ n → nat_lt n 128 ≡ false
large n h = grind (arith, nat_tests)

not_small : (n : ℕ) → nat_lt n 128 ≡ false → 128 ≤ n
not_small n h = grind (arith, nat_tests, h)

is_small : (n : ℕ) → nat_lt n 128 ≡ true → n < 128
is_small n h = grind (arith, nat_tests, h)

-- how many bytes may follow doesn't matter, where they are enough
enough : (k m n : ℕ) → n ≤ k → n ≤ m → varint_within k n ≡ varint_within m n
enough zero zero n h l = refl
enough zero (suc m) n h l = rw (small n (omega arith)) refl
enough (suc k) zero n h l = rw (small n (omega arith)) refl
enough (suc k) (suc m) n h l = elim (cases_Bool (nat_lt n 128)) [
  | inl e ↦ rw e refl
  | inr e ↦ (let big : 128 ≤ n = not_small n e in
      rw e (ap (λ (bs : List ℕ). (128 + n % 128) ∷ bs) (enough k m (n / 128) (omega arith) (omega arith))))
]

pub varint-last : (n : ℕ) → n < 128 → varint n ≡ n ∷ []
unfolding varint
varint-last zero h = refl
varint-last (suc k) h = rw (small (suc k) h) refl

pub varint-more : (n : ℕ) → 128 ≤ n → varint n ≡ (128 + n % 128) ∷ varint (n / 128)
unfolding varint
varint-more zero h = absurd (omega arith)
varint-more (suc k) h = rw (large (suc k) h) (ap (λ (bs : List ℕ). (128 + suc k % 128) ∷ bs) (enough k (suc k / 128) (suc k / 128) (omega arith) (omega arith)))

-- one byte more
pub varint-next : (out whole : List ℕ) (n : ℕ) → 128 ≤ n → out ++ varint n ≡ whole → (out ++ (128 + n % 128) ∷ []) ++ varint (n / 128) ≡ whole
varint-next out whole n h e = append_assoc out ((128 + n % 128) ∷ []) (varint (n / 128)) ∙ ap (λ (bs : List ℕ). out ++ bs) (sym (varint-more n h)) ∙ e

-- the last byte
pub varint-end : (out whole : List ℕ) (n : ℕ) → n < 128 → out ++ varint n ≡ whole → out ++ n ∷ [] ≡ whole
varint-end out whole n h e = ap (λ (bs : List ℕ). out ++ bs) (sym (varint-last n h)) ∙ e

-- ---- read back

cut : (k n : ℕ) (rest : List ℕ) → n ≤ k → varints (varint_within k n ++ rest) ≡ varint_within k n ∷ varints rest
cut zero n rest h = rw (small n (omega arith)) refl
cut (suc k) n rest h = elim (cases_Bool (nat_lt n 128)) [
  | inl e ↦ rw (e, e) refl
  | inr e ↦ (let big : 128 ≤ n = not_small n e in
      rw (e, large (128 + n % 128) (omega arith), cut k (n / 128) rest (omega arith)) refl)
]

ends-behind : (b : ℕ) (bs : List ℕ) → ends bs ≡ true → ends (b ∷ bs) ≡ true
ends-behind b [] h = absurd (cc)
ends-behind b (c ∷ bs) h = h

ends-within : (k n : ℕ) → n ≤ k → ends (varint_within k n) ≡ true
ends-within zero n h = small n (omega arith)
ends-within (suc k) n h = elim (cases_Bool (nat_lt n 128)) [
  | inl e ↦ rw e e
  | inr e ↦ (let big : 128 ≤ n = not_small n e in
      rw e (ends-behind (128 + n % 128) (varint_within k (n / 128)) (ends-within k (n / 128) (omega arith))))
]

value-within : (k n : ℕ) → n ≤ k → value_of (varint_within k n) ≡ n
value-within zero n h = omega arith
value-within (suc k) n h = elim (cases_Bool (nat_lt n 128)) [
  | inl e ↦ (let low : n < 128 = is_small n e in rw e (omega arith))
  | inr e ↦ (let big : 128 ≤ n = not_small n e in
      rw (e, value-within k (n / 128) (omega arith)) (omega arith))
]

length-within : (j k n : ℕ) → n < 128 ^ suc j → length (varint_within k n) ≤ suc j
length-within j zero n h = omega arith
length-within zero (suc k) n h = rw (small n h) (omega arith)
length-within (suc j) (suc k) n h = elim (cases_Bool (nat_lt n 128)) [
  | inl e ↦ rw e (omega arith)
  | inr e ↦ (let p : ℕ = 128 ^ suc j in
      let bound : n < 128 * p = rw (pow-succ' 128 (suc j)) at h in
      let more : length (varint_within k (n / 128)) ≤ suc j = length-within j k (n / 128) (omega arith) in
      rw e (omega arith))
]

pub length-varint : (n : ℕ) → n < 2 ^ 35 → length (varint n) ≤ 5
unfolding varint
length-varint n h = length-within 4 n n h

-- a shortest varint is read as its number
pub varint-first : (n : ℕ) (rest : List ℕ) → n < 2 ^ 35 → IsFirst (varint n ++ rest) n rest
unfolding varint
varint-first n rest h =
    let short : nat_le (length (varint_within n n)) 5 ≡ true = grind (arith, nat_tests, length-within 4 n n h) in
    record {
      first = varint_within n n;
      cut = cut n n rest (omega arith);
      whole = rw (ends-within n n (omega arith), short) refl;
      value = sym (value-within n n (omega arith));
      count = length-append (varint_within n n) rest;
    }

value-below : (bytes : List ℕ) → value_of bytes < 128 ^ length bytes
value-below [] = omega arith
value-below (b ∷ bytes) =
    let p : ℕ = 128 ^ length bytes in
    let rest : value_of bytes < p = value-below bytes in
    let more : 128 ^ suc (length bytes) ≡ 128 * p = pow-succ' 128 (length bytes) in
    omega (arith, more)

-- no varint of the number is shorter
pub varint-shortest : (n : ℕ) (bytes : List ℕ) → is_whole bytes ≡ true → value_of bytes ≡ n → length (varint n) ≤ length bytes
unfolding varint
varint-shortest n [] h e = absurd (cc)
varint-shortest n (b ∷ bytes) h e = length-within (length bytes) n n (subst (λ (m : ℕ). m < 128 ^ suc (length bytes)) e (value-below (b ∷ bytes)))
