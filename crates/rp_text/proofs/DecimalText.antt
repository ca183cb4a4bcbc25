-- The text of a number, `decimal n`, and `u32_of` give each other back.
use Rattle.std.proofs.Common.{◌≡◌, ℕ, ◌+◌, ◌-◌, ◌*◌, ◌<◌, ◌^◌, true, false, not, List, [], ◌∷◌, length, get_or, Option, Some, None, Result, Ok, Err, IfSome, MatchResult, ◌≢◌, refl, ap, sym, ◌∙◌, ⊎_elim, ◌⊎◌, inl, inr, subst, eqb, ltb, zero, suc, ◌&&◌, ◌||◌, arith, rules, decimal, fold}
use Rattle.std.specs.Char.{is_ascii_digit}
use Rattle.std.specs.List.{list_all}
use Rattle.std.proofs.lemmas.Bool.{and_parts, and_from, or_cases, or_left, or_right, not-true, not_from_false, eqb-true, eqb-false, le-ltb, cases_lt, and_left, and_right, eq-eqb, ne_eqb, ltb-true, lt-ltb, cond-true, cond-false, cases_eq, cases_Bool}
use Rattle.std.proofs.lemmas.Str.Parse.{IsNumeralModel, numerals_by_fold, not_in_digits, parse_plain}
use Rattle.std.proofs.lemmas.Fmt.{digits_decimal, digits_value-decimal, decimal-digits_value, decimal_nonempty, decimal_digit, first_decimal, IsAscii-from_digits}
use Rattle.std.proofs.lemmas.Str.{IsUtf8-from_ascii}
use Rattle.std.specs.Int.{IsInRange}
use Rattle.std.specs.Result.{result_ok}
use Rattle.std.specs.Str.{IsUtf8}
use Rattle.std.specs.Str.Parse.{ParsesUnsigned}
use Rattle.rp_text.specs.Numbers.{is_plain, number_of, u32_of}

-- `list_all is_ascii_digit` tells the texts of digits, and `number_of` is their value
pub plain_numerals : IsNumeralModel (λ ds. list_all is_ascii_digit ds ≡ true) number_of
plain_numerals = numerals_by_fold _ (search rules) (λ n ds. fold (λ m digit. 10 * m + (digit - 48)) n ds) (search rules)

no_digit : ¬ (IsInRange 48 57 43)
no_digit range = absurd (omega (arith, range))

-- a plain word is of digits, at least one, and begins with 0 only where it is `0`
pub record HasPlainDigits (word : List ℕ) : Type 0 where
  pub digits : list_all is_ascii_digit word ≡ true
  pub some : 0 < length word
  pub alone : get_or word 0 0 ≡ 48 → length word ≡ 1

pub HasPlainDigits-from_plain : (word : List ℕ) → is_plain word ≡ true → HasPlainDigits word
HasPlainDigits-from_plain [] plain = cc
HasPlainDigits-from_plain (first ∷ rest) plain =
    let parts = and_parts (list_all is_ascii_digit (first ∷ rest)) (not (eqb first 48) || eqb (length rest) 0) plain in
    record {
      digits = parts.0;
      some = omega arith;
      alone = λ zero_first. ⊎_elim
          (λ other. absurd (eqb-false first 48 (not-true _ other) zero_first))
          (λ only. let none : length rest ≡ 0 = eqb-true _ _ only in omega arith)
          (or_cases (not (eqb first 48)) (eqb (length rest) 0) parts.1);
    }

pub is_plain-from_digits : (word : List ℕ) → HasPlainDigits word → is_plain word ≡ true
is_plain-from_digits [] plain = absurd (omega arith)
is_plain-from_digits (first ∷ rest) plain = and_from _ _ plain.digits (⊎_elim
    (λ is_zero. let one : suc (length rest) ≡ 1 = plain.alone is_zero in
    let none : length rest ≡ 0 = omega arith in or_right _ _ (eq-eqb _ _ none))
    (λ other. or_left _ _ (not_from_false _ (ne_eqb _ _ other)))
    (cases_eq first 48))

-- the text of a number is plain, and its value is the number
pub HasPlainDigits-decimal : (n : ℕ) → n < 2 ^ 64 → HasPlainDigits (decimal n)
HasPlainDigits-decimal n small = record {
  digits = digits_decimal plain_numerals n small;
  some = decimal_nonempty n small;
  alone = λ zero_first. ⊎_elim
      (λ is_zero. let below : n < 10 = omega arith in ap length (decimal_digit n below))
      (λ above. absurd (omega (arith, first_decimal n above small)))
      (zero_or_more n);
}
  where
    zero_or_more : (n : ℕ) → (n ≡ 0) ⊎ (0 < n)
    zero_or_more zero = inl refl
    zero_or_more (suc n) = inr (omega arith)

-- what `u32_of` reads of a plain word
pub u32_of-plain : (word : List ℕ) → HasPlainDigits word → number_of word < 2 ^ 32 → u32_of word ≡ Some (number_of word)
u32_of-plain word plain small = cond-true _ _ _ (and_from _ _ (is_plain-from_digits word plain) (lt-ltb _ _ small))

-- and that it reads nothing else
pub u32_of-Some : (word : List ℕ) (n : ℕ) → u32_of word ≡ Some n → HasPlainDigits word × (number_of word ≡ n) × (n < 2 ^ 32)
u32_of-Some word n read = ⊎_elim
    (λ yes.
    let both = and_parts _ _ yes in
    let e : u32_of word ≡ Some (number_of word) = cond-true _ _ _ yes in
    let same : number_of word ≡ n = cc in
    let small : number_of word < 2 ^ 32 = ltb-true _ _ both.1 in
    (HasPlainDigits-from_plain word both.0, same, subst (λ m. m < 2 ^ 32) same small))
    (λ no. let e : u32_of word ≡ None = cond-false _ _ _ no in cc)
    (cases_Bool (is_plain word && ltb (number_of word) (2 ^ 32)))

-- the text of a number is read back
pub u32_of-decimal : (n : ℕ) → n < 2 ^ 32 → u32_of (decimal n) ≡ Some n
u32_of-decimal n small =
    let wide : n < 2 ^ 64 = omega arith in
    let value : number_of (decimal n) ≡ n = digits_value-decimal plain_numerals n wide in
    u32_of-plain (decimal n) (HasPlainDigits-decimal n wide) (subst (λ m. m < 2 ^ 32) (sym value) small) ∙ ap (λ m. Some m) value

-- what is read is the text of the number
pub decimal-u32_of : (word : List ℕ) (n : ℕ) → u32_of word ≡ Some n → word ≡ decimal n
decimal-u32_of word n read =
    let told = u32_of-Some word n read in
    let wide : number_of word < 2 ^ 64 = omega (arith, told) in
    sym (decimal-digits_value plain_numerals word told.0.digits told.0.some told.0.alone wide) ∙ ap decimal told.1

-- what `parse` gives of a plain word
pub result_ok-parse : {E : Type 0} (word : List ℕ) (r : Result ℕ E) → is_plain word ≡ true → ParsesUnsigned 32 10 word r → result_ok r ≡ u32_of word
result_ok-parse {E} word (Ok n) plain parsed =
    let has = HasPlainDigits-from_plain word plain in
    let no_sign : get_or word 0 0 ≢ 43 = not_in_digits plain_numerals word 43 has.digits no_digit 0 has.some in
    let told = parse_plain plain_numerals {E = E} 32 word (Ok n) parsed no_sign in
    ap (λ m. Some m) told.1 ∙ sym (u32_of-plain word has told.0.2)
result_ok-parse {E} word (Err e) plain parsed =
    let has = HasPlainDigits-from_plain word plain in
    let no_sign : get_or word 0 0 ≢ 43 = not_in_digits plain_numerals word 43 has.digits no_digit 0 has.some in
    let told = parse_plain plain_numerals {E = E} 32 word (Err e) parsed no_sign in
    ⊎_elim
    (λ small. absurd (told (has.digits, has.some, small)))
    (λ large. sym (cond-false _ _ _ (and_right _ _ (le-ltb _ _ large))))
    (cases_lt (number_of word) (2 ^ 32))

-- a plain word is text
pub IsUtf8-plain : (word : List ℕ) → is_plain word ≡ true → IsUtf8 word
IsUtf8-plain word plain = IsUtf8-from_ascii word (IsAscii-from_digits word (plain_numerals.to word (HasPlainDigits-from_plain word plain).digits))

-- what follows of an answer that is `u32_of` of the word
pub IfSome-u32_of : (word : List ℕ) (r : Option ℕ) → r ≡ u32_of word → IfSome r (λ n. word ≡ decimal n)
IfSome-u32_of word None e = tt
IfSome-u32_of word (Some n) e = decimal-u32_of word n (sym e)

pub Some-u32_of : (word : List ℕ) (r : Option ℕ) → r ≡ u32_of word → (n : ℕ) → n < 2 ^ 32 → word ≡ decimal n → r ≡ Some n
Some-u32_of word r e n small written = e ∙ ap u32_of written ∙ u32_of-decimal n small

-- a fact on the two variants of r, at the variant that `ok` shows
pub at_result_ok-Some : {T E : Type 0} (P : T → Type 0) (Q : E → Type 0) (r : Result T E) (x : T) → result_ok r ≡ Some x → MatchResult r P Q → P x
at_result_ok-Some P Q (Ok y) x shown fact = let same : y ≡ x = cc in subst P same fact
at_result_ok-Some P Q (Err e) x shown fact = cc

pub at_result_ok-None : {T E : Type 0} (P : T → Type 0) (Q : Type 0) (V : E → Type 0) (r : Result T E) → result_ok r ≡ None → MatchResult r P (λ e. Q × V e) → Q
at_result_ok-None P Q V (Ok y) shown fact = cc
at_result_ok-None P Q V (Err e) shown fact = fact.0

-- nothing is read of a word that isn't plain
pub u32_of-not_plain : (word : List ℕ) → is_plain word ≡ false → u32_of word ≡ None
u32_of-not_plain word rough = cond-false _ _ _ (and_left _ _ rough)
