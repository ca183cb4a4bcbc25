-- How far the blanks and the word bytes at a place of a line reach, and how `words` begin.
use Rattle.std.proofs.Common.{◌≡◌, ℕ, ◌+◌, ◌-◌, ◌<◌, ◌≤◌, Bool, true, false, not, ltb, zero, suc, ⊎_elim, inl, inr, List, [], ◌∷◌, length, take, drop, get_or, refl, ap, sym, ◌∙◌, arith, subst, length-drop}
use Rattle.std.specs.List.{slice_split, prefix_len, filter}
use Rattle.std.proofs.lemmas.Bool.{both_ways, cases_order, not_from_false, cases_lt, lt-ltb, cond-true, not-true, not-false}
use Rattle.std.proofs.lemmas.List.{drop_more, get_or-drop, take_all, drop_all, drop-drop}
use Rattle.std.proofs.lemmas.List.Folds.{length-prefix_len}
use Rattle.std.proofs.lemmas.List.Splits.{slice_split-cons_yes, slice_split_first, slice_split_none}
use Rattle.std.proofs.lemmas.List.Sums.{prefix_len-drop_yes, prefix_len_passes, prefix_len_stops, prefix_len-le-length}
use Rattle.rp_text.specs.Spans.{bytes_of}
use Rattle.rp_text.specs.Words.{is_blank, words, IsWord, IsFirstWord, IsBetweenWords}

-- a byte of a word
abbrev pub is_word_byte : ℕ → Bool
is_word_byte b = not (is_blank b)

-- a blank at the beginning adds no word
words-blank : (x : ℕ) (xs : List ℕ) → is_blank x ≡ true → words (x ∷ xs) ≡ words xs
words-blank x xs blank = ap (filter (λ piece. ltb 0 (length piece))) (slice_split-cons_yes is_blank x xs blank)

-- every byte of the n that pass from `from` on passes
pub passes_within : (p : ℕ → Bool) (line : List ℕ) (from n k : ℕ) → n ≡ prefix_len p (drop from line) → from ≤ k → k < from + n → p (get_or line k 0) ≡ true
passes_within p line from n k run low high =
    let at : from + (k - from) ≡ k = omega arith in
    let e : get_or (drop from line) (k - from) 0 ≡ get_or line k 0 = get_or-drop from line (k - from) 0 ∙ ap (λ i. get_or line i 0) at in
    let within : k - from < prefix_len p (drop from line) = omega arith in
    sym (ap p e) ∙ prefix_len_passes p (drop from line) (k - from) 0 within

-- the byte after them doesn't
pub fails_after : (p : ℕ → Bool) (line : List ℕ) (from n : ℕ) → n ≡ prefix_len p (drop from line) → from + n < length line → p (get_or line (from + n) 0) ≡ false
fails_after p line from n run within =
    let short : prefix_len p (drop from line) < length (drop from line) = omega (arith, length-drop from line) in
    ap (λ m. p (get_or line (from + m) 0)) run ∙ sym (ap p (get_or-drop from line (prefix_len p (drop from line)) 0)) ∙ prefix_len_stops p (drop from line) 0 short

-- they stay in the line
pub run_within : (p : ℕ → Bool) (line : List ℕ) (from n : ℕ) → n ≡ prefix_len p (drop from line) → from ≤ length line → from + n ≤ length line
run_within p line from n run within = omega (arith, length-drop from line, prefix_len-le-length p (drop from line))

-- blanks at the beginning add no word
pub words-drop_blanks : (xs : List ℕ) (n : ℕ) → n ≤ prefix_len is_blank xs → words xs ≡ words (drop n xs)
words-drop_blanks xs zero blanks = refl
words-drop_blanks [] (suc n) blanks = refl
words-drop_blanks (x ∷ xs) (suc n) blanks =
    let some : 0 < prefix_len is_blank (x ∷ xs) = omega arith in
    let blank : is_blank x ≡ true = prefix_len_passes is_blank (x ∷ xs) 0 0 some in
    let count : prefix_len is_blank (x ∷ xs) ≡ 1 + prefix_len is_blank xs = prefix_len-drop_yes is_blank (x ∷ xs) 0 0 (omega arith) blank in
    words-blank x xs blank ∙ words-drop_blanks xs n (omega arith)

-- a line that begins with a word has it as its first
pub words-first : (xs : List ℕ) → 0 < prefix_len is_word_byte xs → words xs ≡ take (prefix_len is_word_byte xs) xs ∷ words (drop (prefix_len is_word_byte xs) xs)
words-first xs some =
    let long : ltb 0 (length (take (prefix_len is_word_byte xs) xs)) ≡ true = lt-ltb _ _ (omega (arith, length-prefix_len is_word_byte xs)) in
    ⊎_elim
    (λ within.
    let blank : is_blank (get_or xs (prefix_len is_word_byte xs) 0) ≡ true = not-false _ (prefix_len_stops is_word_byte xs 0 within) in
    ap (filter (λ piece. ltb 0 (length piece))) (slice_split_first is_blank xs 0 within) ∙ cond-true _ _ _ long
    ∙ ap (λ ws. take (prefix_len is_word_byte xs) xs ∷ ws) (sym (ap words (drop_more xs (prefix_len is_word_byte xs) 0 within) ∙ words-blank (get_or xs (prefix_len is_word_byte xs) 0) (drop (prefix_len is_word_byte xs + 1) xs) blank)))
    (λ past.
    let one : slice_split is_blank xs ≡ xs ∷ [] = slice_split_none is_blank xs (λ k d h. not-true _ (prefix_len_passes is_word_byte xs k d (omega arith))) in
    let all : take (prefix_len is_word_byte xs) xs ≡ xs = take_all _ xs past in
    let none : drop (prefix_len is_word_byte xs) xs ≡ [] = drop_all _ xs past in
    ap (filter (λ piece. ltb 0 (length piece))) one ∙ cond-true _ _ _ (ap (λ w. ltb 0 (length w)) (sym all) ∙ long)
    ∙ ap (λ w. w ∷ []) (sym all) ∙ ap (λ ws. take (prefix_len is_word_byte xs) xs ∷ words ws) (sym none))
    (cases_lt (prefix_len is_word_byte xs) (length xs))

-- the end of a run of word bytes is between words
pub IsBetweenWords-run_end : (line : List ℕ) (from bytes : ℕ) → from ≤ length line → bytes ≡ prefix_len is_word_byte (drop from line) → IsBetweenWords line (from + bytes)
IsBetweenWords-run_end line from bytes within run =
    let high : from + bytes ≤ length line = run_within is_word_byte line from bytes run within in
    ⊎_elim
    (λ inside. inr (inr (inr (not-false _ (fails_after is_word_byte line from bytes run inside)))))
    (λ past. inr (inl (omega arith)))
    (cases_lt (from + bytes) (length line))

-- no word begins in a run of word bytes that began earlier
pub run_end-le-word : (line : List ℕ) (from bytes start to : ℕ) → 0 < from → is_blank (get_or line (from - 1) 0) ≡ false →
    bytes ≡ prefix_len is_word_byte (drop from line) → IsWord line start to → from ≤ start → from + bytes ≤ start
run_end-le-word line from bytes start to some inside run word low = ⊎_elim
    (λ begins_within. absurd (both_ways (is_blank (get_or line (start - 1) 0))
    (⊎_elim
    (λ same. subst (λ i. is_blank (get_or line (i - 1) 0) ≡ false) same inside)
    (⊎_elim
    (λ later. not-true _ (passes_within is_word_byte line from bytes (start - 1) run (omega arith) (omega arith)))
    (λ earlier. absurd (omega arith)))
    (cases_order from start))
    (word.before (omega arith))))
    (λ past. past)
    (cases_lt start (from + bytes))

-- a word that begins at or after a place begins after the blanks there
pub blanks_end-le-word : (line : List ℕ) (place blanks start to : ℕ) → blanks ≡ prefix_len is_blank (drop place line) → IsWord line start to → place ≤ start → place + blanks ≤ start
blanks_end-le-word line place blanks start to run word low = ⊎_elim
    (λ within. absurd (both_ways (is_blank (get_or line start 0)) (word.bytes start (omega arith) word.some)
    (passes_within is_blank line place blanks start run low within)))
    (λ past. past)
    (cases_lt start (place + blanks))

-- where no blank stands at a place between words, the byte before it is a blank
before_start : (line : List ℕ) (place : ℕ) → IsBetweenWords line place → place < length line → is_blank (get_or line place 0) ≡ false → 0 < place → is_blank (get_or line (place - 1) 0) ≡ true
before_start line place between within letter some = ⊎_elim
    (λ first. absurd (omega arith))
    (⊎_elim
    (λ last. absurd (omega arith))
    (⊎_elim (λ before. before) (λ here. absurd (both_ways _ letter here))))
    between

-- the run of word bytes after the blanks at a place between words is a word
pub IsWord-run : (line : List ℕ) (place blanks bytes : ℕ) → IsBetweenWords line place → blanks ≡ prefix_len is_blank (drop place line) → place + blanks < length line →
    bytes ≡ prefix_len is_word_byte (drop (place + blanks) line) → IsWord line (place + blanks) (place + blanks + bytes)
IsWord-run line place blanks bytes between gap within run =
    let letter : is_blank (get_or line (place + blanks) 0) ≡ false = fails_after is_blank line place blanks gap within in
    let more : prefix_len is_word_byte (drop (place + blanks) line) ≡ 1 + prefix_len is_word_byte (drop (place + blanks + 1) line) =
    prefix_len-drop_yes is_word_byte line (place + blanks) 0 within (not_from_false _ letter) in
    record {
      some = omega arith;
      within = run_within is_word_byte line (place + blanks) bytes run (omega arith);
      bytes = λ k low high. not-true _ (passes_within is_word_byte line (place + blanks) bytes k run low high);
      before = λ some. ⊎_elim
          (λ none. subst (λ n. is_blank (get_or line (n - 1) 0) ≡ true) none
          (before_start line place between (omega arith) (subst (λ n. is_blank (get_or line n 0) ≡ false) (sym none) letter) (omega arith)))
          (⊎_elim
          (λ later. passes_within is_blank line place blanks (place + blanks - 1) gap (omega arith) (omega arith))
          (λ earlier. absurd (omega arith)))
          (cases_order place (place + blanks));
      after = λ inside. not-false _ (fails_after is_word_byte line (place + blanks) bytes run inside);
    }

-- the first word from `from` on, where no word begins between `from` and the place
pub IsFirstWord-run : (line : List ℕ) (from place blanks bytes : ℕ) → from ≤ place → ((start to : ℕ) → IsWord line start to → from ≤ start → place ≤ start) →
    IsWord line (place + blanks) (place + blanks + bytes) → blanks ≡ prefix_len is_blank (drop place line) →
    IsFirstWord line from (record { from = place + blanks; to = place + blanks + bytes })
IsFirstWord-run line from place blanks bytes low passed word gap = record {
  word = word;
  begins = omega arith;
  first = λ start to other after. blanks_end-le-word line place blanks start to gap other (passed start to other after);
}

-- the words from a place on begin with the run of word bytes after the blanks there
pub words-run : (line : List ℕ) (place blanks bytes : ℕ) → blanks ≡ prefix_len is_blank (drop place line) → bytes ≡ prefix_len is_word_byte (drop (place + blanks) line) → 0 < bytes →
    words (drop place line) ≡ bytes_of line (record { from = place + blanks; to = place + blanks + bytes }) ∷ words (drop (place + blanks + bytes) line)
words-run line place blanks bytes gap run some =
    let short : blanks ≤ prefix_len is_blank (drop place line) = omega arith in
    let long : 0 < prefix_len is_word_byte (drop (place + blanks) line) = omega arith in
    let count : prefix_len is_word_byte (drop (place + blanks) line) ≡ place + blanks + bytes - (place + blanks) = omega arith in
    words-drop_blanks (drop place line) blanks short ∙ ap words (drop-drop blanks place line) ∙ words-first (drop (place + blanks) line) long
    ∙ ap (λ n. take n (drop (place + blanks) line) ∷ words (drop (prefix_len is_word_byte (drop (place + blanks) line)) (drop (place + blanks) line))) count
    ∙ ap (λ ws. bytes_of line (record { from = place + blanks; to = place + blanks + bytes }) ∷ words ws)
    (ap (λ n. drop n (drop (place + blanks) line)) (sym run) ∙ drop-drop bytes (place + blanks) line)

-- and are none where only blanks are left
pub words-none : (line : List ℕ) (place blanks : ℕ) → blanks ≡ prefix_len is_blank (drop place line) → length line ≤ place + blanks → words (drop place line) ≡ []
words-none line place blanks gap past =
    let short : blanks ≤ prefix_len is_blank (drop place line) = omega arith in
    words-drop_blanks (drop place line) blanks short ∙ ap words (drop-drop blanks place line ∙ drop_all (place + blanks) line past)
