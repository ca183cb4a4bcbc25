-- One cell more.
use Rattle.std.proofs.Common.{◌≡◌, ◌≢◌, ℕ, suc, ◌+◌, ◌-◌, ◌*◌, ◌/◌, ◌%◌, ◌^◌, ◌<◌, ◌≤◌, ◌==◌, Bool, true, false, List, [], ◌∷◌, ◌++◌, length, All, refl, sym, ◌∙◌, ap, subst, inl, inr, arith, length-append, take}
use Rattle.std.specs.Prelude.{bit_or, max, replicate, set}
use Rattle.std.specs.Int.{bit_at}
use Rattle.std.proofs.lemmas.Bool.{cases_Bool, cases_lt, cases_eq}
use Rattle.std.proofs.lemmas.Nat.Bits.{bit_at-lt, bit_at-zero, bit_at_or, bit_at-pow_same, bit_at-pow_other}
use Rattle.std.proofs.lemmas.List.{get_or_append_left, get_or-append_right, get_or-replicate, get_or_past, get_or-set_same, get_or-set_other, length-set, length-replicate, take_all}
use Rattle.cell_numbers.specs.Words.{no_word, word_in, has_bit, cells_below, cells_in, AreCounted, with_bit}
use Rattle.cell_numbers.specs.declared.Word.{Word}
use Rattle.cell_numbers.proofs.Kept.{kept, same_kept, none_kept, kept-split, kept-few, kept-longer, kept-either, kept-all}

abbrev bit_of : ℕ → ℕ → Bool
bit_of n i = bit_at n i == 1

-- a word that isn't there has no bit
pub bit-past : (words : List Word) (i : ℕ) → 32 * length words ≤ i → has_bit words i ≡ false
bit-past words i l =
    let none : word_in words (i / 32) ≡ no_word = get_or_past words (i / 32) no_word (omega arith) in
    ap (λ (word : Word). bit_of word.bits (i % 32)) none ∙ ap (λ (n : ℕ). n == 1) (bit_at-zero (i % 32))

module _ (words : List Word) (count cell more : ℕ) (counted : AreCounted words count) (above : All (λ other. other < cell) (cells_in words)) (grown : length words + more ≡ cell / 32 + 1) where
  abbrev fresh : Word
  fresh = record { bits = 0; before = count }

  abbrev longer : List Word
  longer = words ++ replicate more fresh

  abbrev after : List Word
  after = set longer (cell / 32) (with_bit (cell % 32) (word_in longer (cell / 32)))

  length-longer : length longer ≡ cell / 32 + 1
  length-longer = length-append words (replicate more fresh) ∙ omega (arith, length-replicate more fresh)

  length-after : length after ≡ cell / 32 + 1
  length-after = length-set longer (cell / 32) (with_bit (cell % 32) (word_in longer (cell / 32))) ∙ length-longer

  word-old : (i : ℕ) → i < length words → word_in longer i ≡ word_in words i
  word-old i h = get_or_append_left words (replicate more fresh) no_word i h

  word-fresh : (i : ℕ) → length words ≤ i → i < cell / 32 + 1 → word_in longer i ≡ fresh
  word-fresh i h k =
      get_or-append_right words (replicate more fresh) (length words) i no_word refl h ∙ get_or-replicate more (i - length words) fresh no_word (omega arith)

  bits-longer : (i : ℕ) → (word_in longer i).bits ≡ (word_in words i).bits
  bits-longer i = elim (cases_lt i (length words)) [
    | inl old ↦ ap (λ (word : Word). word.bits) (word-old i old)
    | inr new ↦ (let none : (word_in words i).bits ≡ 0 = ap (λ (word : Word). word.bits) (get_or_past words i no_word new) in
        elim (cases_lt i (cell / 32 + 1)) [
          | inl within ↦ ap (λ (word : Word). word.bits) (word-fresh i new within) ∙ sym none
          | inr past ↦ ap (λ (word : Word). word.bits) (get_or_past longer i no_word (omega (arith, length-longer))) ∙ sym none
        ])
  ]

  word-there : word_in after (cell / 32) ≡ with_bit (cell % 32) (word_in longer (cell / 32))
  word-there = get_or-set_same longer (cell / 32) (with_bit (cell % 32) (word_in longer (cell / 32))) no_word (omega (arith, length-longer))

  word-other : (i : ℕ) → i ≢ cell / 32 → word_in after i ≡ word_in longer i
  word-other i apart = get_or-set_other longer (cell / 32) i (with_bit (cell % 32) (word_in longer (cell / 32))) no_word apart

  before-after : (i : ℕ) → (word_in after i).before ≡ (word_in longer i).before
  before-after i = elim (cases_eq i (cell / 32)) [
    | inl same ↦ ap (λ (k : ℕ). (word_in after k).before) same ∙ ap (λ (word : Word). word.before) word-there ∙ sym (ap (λ (k : ℕ). (word_in longer k).before) same)
    | inr apart ↦ ap (λ (word : Word). word.before) (word-other i apart)
  ]

  bit-there : has_bit after cell ≡ true
  bit-there =
      let bits : ℕ = (word_in longer (cell / 32)).bits in
      let one : bit_at (bit_or bits (2 ^ (cell % 32))) (cell % 32) ≡ 1 =
      bit_at_or bits (2 ^ (cell % 32)) (cell % 32) ∙ ap (λ (n : ℕ). max (bit_at bits (cell % 32)) n) (bit_at-pow_same (cell % 32)) ∙ omega (arith, bit_at-lt bits (cell % 32)) in
      ap (λ (word : Word). bit_of word.bits (cell % 32)) word-there ∙ ap (λ (n : ℕ). n == 1) one

  bit-in_word : (i : ℕ) → i ≢ cell → i / 32 ≡ cell / 32 → has_bit after i ≡ has_bit words i
  bit-in_word i apart same =
      let bits : ℕ = (word_in longer (cell / 32)).bits in
      let rest : i % 32 ≢ cell % 32 = λ e. apart (omega arith) in
      let zeroed : bit_at (bit_or bits (2 ^ (cell % 32))) (i % 32) ≡ bit_at bits (i % 32) =
      bit_at_or bits (2 ^ (cell % 32)) (i % 32) ∙ ap (λ (n : ℕ). max (bit_at bits (i % 32)) n) (bit_at-pow_other (cell % 32) (i % 32) rest) ∙ omega arith in
      ap (λ (k : ℕ). bit_of (word_in after k).bits (i % 32)) same
      ∙ ap (λ (word : Word). bit_of word.bits (i % 32)) word-there
      ∙ ap (λ (n : ℕ). n == 1) zeroed
      ∙ ap (λ (n : ℕ). bit_of n (i % 32)) (bits-longer (cell / 32))
      ∙ sym (ap (λ (k : ℕ). bit_of (word_in words k).bits (i % 32)) same)

  bit-other : (i : ℕ) → i ≢ cell → has_bit after i ≡ has_bit words i
  bit-other i apart = elim (cases_eq (i / 32) (cell / 32)) [
    | inl same ↦ bit-in_word i apart same
    | inr other ↦ ap (λ (word : Word). bit_of word.bits (i % 32)) (word-other (i / 32) other) ∙ ap (λ (n : ℕ). bit_of n (i % 32)) (bits-longer (i / 32))
  ]

  -- no cell from the new one on was listed
  bit-later : (i : ℕ) → cell ≤ i → has_bit words i ≡ false
  bit-later i h = elim (cases_Bool (has_bit words i)) [
    | inl e ↦ elim (cases_lt i (32 * length words)) [
      | inl within ↦ absurd (let low : i < cell = kept-all (λ other. other < cell) (has_bit words) 0 (32 * length words) i above (omega arith) (omega arith) e in omega arith)
      | inr past ↦ bit-past words i past
    ]
    | inr e ↦ e
  ]

  -- up to the new cell all is as it was
  below-same : (n : ℕ) → n ≤ cell → cells_below after n ≡ cells_below words n
  below-same n h = same_kept (has_bit after) (has_bit words) 0 n (λ i l u. bit-other i (λ e. omega arith))

  below-all : (n : ℕ) → 32 * length words ≤ n → cells_below words n ≡ cells_in words
  below-all n h = kept-longer (has_bit words) (32 * length words) n h (bit-past words)

  cells-cell : cells_below words cell ≡ cells_in words
  cells-cell = kept-either (has_bit words) cell (32 * length words) bit-later (bit-past words)

  from-cell : (n : ℕ) → kept (has_bit after) cell (suc n) ≡ cell ∷ []
  from-cell n = rw bit-there (ap (λ (xs : List ℕ). cell ∷ xs) (none_kept (has_bit after) (cell + 1) n (λ i h. bit-other i (λ e. omega arith) ∙ bit-later i (omega arith))))

  pub cells-after : cells_in after ≡ cells_in words ++ cell ∷ []
  cells-after =
      let rest : ℕ = 31 - cell % 32 in
      let whole : cell + suc rest ≡ 32 * length after = omega (arith, length-after) in
      let start : 0 + cell ≡ cell = omega arith in
      kept-split (has_bit after) 0 cell (suc rest) (32 * length after) whole
      ∙ (λ p. below-same cell (omega arith) p ++ kept (has_bit after) (start p) (suc rest))
      ∙ (λ p. cells-cell p ++ from-cell rest p)

  pub counted-after : AreCounted after (count + 1)
  counted-after = record {
    before = before;
    all = whole;
    last = last;
  }
    where
      before : (index : ℕ) → index < length after → (word_in after index).before ≡ length (cells_below after (32 * index))
      before index h =
          let low : 32 * index ≤ cell = omega (arith, length-after) in
          before-after index ∙ elim (cases_lt index (length words)) [
            | inl old ↦ ap (λ (word : Word). word.before) (word-old index old) ∙ counted.before index old ∙ sym (ap length (below-same (32 * index) low))
            | inr new ↦ ap (λ (word : Word). word.before) (word-fresh index new (omega (arith, length-after))) ∙ counted.all ∙ sym (ap length (below-same (32 * index) low ∙ below-all (32 * index) (omega arith)))
          ]

      whole : count + 1 ≡ length (cells_in after)
      whole = omega (arith, counted.all, ap length cells-after, length-append (cells_in words) (cell ∷ []))

      last : (bound : ℕ) → All (λ other. other < bound) (cells_in after) → 32 * length after < bound + 32
      last bound all =
          let one : cell < bound = kept-all (λ other. other < bound) (has_bit after) 0 (32 * length after) cell all (omega arith) (omega (arith, length-after)) bit-there in
          omega (arith, length-after)

few_words : (words : List Word) (count cell : ℕ) → AreCounted words count → All (λ other. other < cell) (cells_in words) → length words ≤ cell / 32 + 1
few_words words count cell counted above = let h : 32 * length words < cell + 32 = counted.last cell above in omega arith

-- fewer cells are listed than stand below the new one
pub few_cells : (words : List Word) (count cell : ℕ) → AreCounted words count → All (λ other. other < cell) (cells_in words) → count ≤ cell
few_cells words count cell counted above =
    let few : length words ≤ cell / 32 + 1 = few_words words count cell counted above in
    let same : cells_below words cell ≡ cells_in words = cells-cell words count cell (cell / 32 + 1 - length words) counted above (omega arith) in
    omega (arith, counted.all, ap length same, kept-few (has_bit words) 0 cell)

pub record Pushed (words after : List Word) (count cell : ℕ) : Type 0 where
  pub cells : cells_in after ≡ cells_in words ++ cell ∷ []
  pub counted : AreCounted after (count + 1)

pub pushed : (words resized after : List Word) (count cell size : ℕ) → AreCounted words count → All (λ other. other < cell) (cells_in words) → size ≡ length words
    → resized ≡ take (cell / 32 + 1) words ++ replicate (cell / 32 + 1 - size) (record { bits = 0; before = count })
    → after ≡ set resized (cell / 32) (with_bit (cell % 32) (word_in resized (cell / 32))) → Pushed words after count cell
pushed words resized after count cell size counted above whole e f =
    let few : length words ≤ cell / 32 + 1 = few_words words count cell counted above in
    let grown : length words + (cell / 32 + 1 - length words) ≡ cell / 32 + 1 = omega arith in
    let is : resized ≡ words ++ replicate (cell / 32 + 1 - length words) (record { bits = 0; before = count }) =
    e ∙ (λ p. take_all (cell / 32 + 1) words few p ++ replicate (cell / 32 + 1 - whole p) (record { bits = 0; before = count })) in
    let now : after ≡ set (words ++ replicate (cell / 32 + 1 - length words) (record { bits = 0; before = count })) (cell / 32) (with_bit (cell % 32) (word_in (words ++ replicate (cell / 32 + 1 - length words) (record { bits = 0; before = count })) (cell / 32))) =
    f ∙ ap (λ (ws : List Word). set ws (cell / 32) (with_bit (cell % 32) (word_in ws (cell / 32)))) is in
    subst (λ (ws : List Word). Pushed words ws count cell) (sym now) (record {
      cells = cells-after words count cell (cell / 32 + 1 - length words) counted above grown;
      counted = counted-after words count cell (cell / 32 + 1 - length words) counted above grown;
    })
