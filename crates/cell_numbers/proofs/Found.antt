-- A cell that is looked for in its word.
use Rattle.std.proofs.Common.{◌≡◌, ℕ, zero, suc, ◌+◌, ◌*◌, ◌/◌, ◌%◌, ◌^◌, ◌<◌, ◌≤◌, ◌==◌, ◌⊎◌, Bool, true, false, if◌then◌else◌, List, length, Option, Some, None, refl, sym, ◌∙◌, ap, inl, inr, arith, length-append, count_ones}
use Rattle.std.specs.Int.{bit_at}
use Rattle.std.specs.Prelude.{IfSome}
use Rattle.std.proofs.lemmas.Bool.{cases_lt, cases_Bool}
use Rattle.std.proofs.lemmas.Nat.{mod-pow-add, ones_cat, mod_below, ones_le_self}
use Rattle.std.specs.Int.Count.{ones-ones}
use Rattle.std.proofs.lemmas.Nat.Bits.{bit_at-lt}
use Rattle.std.proofs.Math.Pow.{pow_pos}
use Rattle.cell_numbers.specs.Numbers.{number_in}
use Rattle.cell_numbers.specs.Words.{word_in, has_bit, cells_below, cells_in, AreCounted}
use Rattle.cell_numbers.specs.declared.Word.{Word}
use Rattle.cell_numbers.proofs.Kept.{kept, kept-split, kept-few, number-kept, number-outside}

pub bit_cases : (n i : ℕ) → (bit_at n i ≡ 0) ⊎ (bit_at n i ≡ 1)
bit_cases n i = elim (cases_lt (bit_at n i) 1) [ inl low ↦ inl (omega arith) | inr high ↦ inr (omega (arith, bit_at-lt n i)) ]

ones-zero : count_ones 0 ≡ 0
ones-zero = let h : count_ones 0 ≤ 0 = ones_le_self 0 in omega arith

ones-one : count_ones 1 ≡ 1
ones-one = ones-ones 1

-- the bits below j that are set are as many as the numbers that pass
pub ones-kept : (test : ℕ → Bool) (n a : ℕ) → ((i : ℕ) → i < 32 → test (a + i) ≡ (bit_at n i == 1)) → (j : ℕ) → j ≤ 32 → count_ones (n % 2 ^ j) ≡ length (kept test a j)
ones-kept test n a h zero l =
    let none : n % 2 ^ 0 ≡ 0 = let low : n % 2 ^ 0 < 2 ^ 0 = mod_below n (2 ^ 0) (pow_pos 0) in omega arith in
    ap count_ones none ∙ ones-zero
ones-kept test n a h (suc j) l =
    let low : n % 2 ^ j < 2 ^ j = mod_below n (2 ^ j) (pow_pos j) in
    let next : suc j ≡ 1 + j = omega arith in
    let parts : n % 2 ^ suc j ≡ bit_at n j * 2 ^ j + n % 2 ^ j = ap (λ (k : ℕ). n % 2 ^ k) next ∙ mod-pow-add n 1 j in
    let more : length (kept test a (suc j)) ≡ length (kept test a j) + length (kept test (a + j) 1) = ap length (kept-split test a j 1 (suc j) (omega arith)) ∙ length-append (kept test a j) (kept test (a + j) 1) in
    let before : count_ones (n % 2 ^ j) ≡ length (kept test a j) = ones-kept test n a h j (omega arith) in
    ap count_ones parts ∙ ones_cat j (bit_at n j) (n % 2 ^ j) low ∙ elim (bit_cases n j) [
      | inl e ↦ (let none : test (a + j) ≡ false = h j (omega arith) ∙ rw e refl in
          let last : length (kept test (a + j) 1) ≡ 0 = rw none refl in
          rw e (omega (arith, ones-zero, before, more, last)))
      | inr e ↦ (let one : test (a + j) ≡ true = h j (omega arith) ∙ rw e refl in
          let last : length (kept test (a + j) 1) ≡ 1 = rw one refl in
          rw e (omega (arith, ones-one, before, more, last)))
    ]

pub bit-in : (words : List Word) (index i : ℕ) → i < 32 → has_bit words (32 * index + i) ≡ (bit_at (word_in words index).bits i == 1)
bit-in words index i l =
    let quotient : (32 * index + i) / 32 ≡ index = omega arith in
    let rest : (32 * index + i) % 32 ≡ i = omega arith in
    λ p. bit_at (word_in words (quotient p)).bits (rest p) == 1

-- how many cells stand before a cell
pub cells-before : (words : List Word) (count cell : ℕ) → AreCounted words count → cell / 32 < length words
    → length (cells_below words cell) ≡ (word_in words (cell / 32)).before + count_ones ((word_in words (cell / 32)).bits % 2 ^ (cell % 32))
cells-before words count cell counted l =
    let word : Word = word_in words (cell / 32) in
    let whole : 32 * (cell / 32) + cell % 32 ≡ cell = omega arith in
    let parts : length (cells_below words cell) ≡ length (cells_below words (32 * (cell / 32))) + length (kept (has_bit words) (0 + 32 * (cell / 32)) (cell % 32)) =
    ap length (kept-split (has_bit words) 0 (32 * (cell / 32)) (cell % 32) cell whole) ∙ length-append (cells_below words (32 * (cell / 32))) (kept (has_bit words) (0 + 32 * (cell / 32)) (cell % 32)) in
    let start : 0 + 32 * (cell / 32) ≡ 32 * (cell / 32) = omega arith in
    let ones : count_ones (word.bits % 2 ^ (cell % 32)) ≡ length (kept (has_bit words) (32 * (cell / 32)) (cell % 32)) =
    ones-kept (has_bit words) word.bits (32 * (cell / 32)) (bit-in words (cell / 32)) (cell % 32) (omega arith) in
    let earlier : length (cells_below words (32 * (cell / 32))) ≡ word.before = sym (counted.before (cell / 32) l) in
    parts ∙ (λ p. earlier p + length (kept (has_bit words) (start p) (cell % 32))) ∙ ap (λ (n : ℕ). word.before + n) (sym ones)

pub found : (words : List Word) (count cell : ℕ) → AreCounted words count → cell / 32 < length words
    → number_in (cells_in words) cell ≡ (if bit_at (word_in words (cell / 32)).bits (cell % 32) == 1 then Some ((word_in words (cell / 32)).before + count_ones ((word_in words (cell / 32)).bits % 2 ^ (cell % 32))) else None)
found words count cell counted l =
    number-kept (has_bit words) 0 (32 * length words) cell cell (omega arith) (omega arith)
    ∙ ap (λ (n : ℕ). if has_bit words cell then Some n else None) (cells-before words count cell counted l)

pub not_found : (words : List Word) (cell : ℕ) → length words ≤ cell / 32 → number_in (cells_in words) cell ≡ None
not_found words cell l = number-outside (has_bit words) 0 (32 * length words) cell (inr (omega arith))

-- a number is no more than its cell
pub found-low : (words : List Word) (cell number : ℕ) → number_in (cells_in words) cell ≡ Some number → number ≤ cell
found-low words cell number e = elim (cases_lt cell (32 * length words)) [
  | inl within ↦
      let is : (if has_bit words cell then Some (length (cells_below words cell)) else None) ≡ Some number =
      sym (number-kept (has_bit words) 0 (32 * length words) cell cell (omega arith) within) ∙ e in
      elim (cases_Bool (has_bit words cell)) [
        | inl h ↦ (let one : ◌≡◌ {A = Option ℕ} (Some (length (cells_below words cell))) (Some number) = rw h at is in
            let same : length (cells_below words cell) ≡ number = cc in
            omega (arith, kept-few (has_bit words) 0 cell))
        | inr h ↦ absurd (let none : ◌≡◌ {A = Option ℕ} None (Some number) = rw h at is in cc)
      ]
  | inr past ↦ absurd (let none : ◌≡◌ {A = Option ℕ} None (Some number) = sym (number-outside (has_bit words) 0 (32 * length words) cell (inr (omega arith))) ∙ e in cc)
]

pub low : (words : List Word) (cell : ℕ) (o : Option ℕ) → o ≡ number_in (cells_in words) cell → IfSome o (λ (number : ℕ). number ≤ cell)
low words cell None e = tt
low words cell (Some number) e = found-low words cell number (sym e)
