-- A value's last digit put in its place; the ends of values; a head before the values.
use Rattle.std.proofs.Common.{◌≡◌, ℕ, zero, suc, ◌+◌, ◌-◌, ◌/◌, ◌<◌, ◌≤◌, ◌%◌, List, [], ◌∷◌, ◌++◌, ⊎_elim, length, get_or, set, take, drop, refl, sym, ap, ◌∙◌, arith, append_assoc, length-append, codes, decimal}
use Rattle.std.specs.List.{flat_map}
use Rattle.std.proofs.lemmas.List.{append-nil, drop_at, drop-drop, set_at, take-append-drop, length-take-le, length-drop, take_more, take_more_set, take_all}
use Rattle.std.proofs.lemmas.Grind.{flat_map-append}
use Rattle.std.proofs.lemmas.Bool.{cases_lt}
use Rattle.std.proofs.lemmas.Fmt.{decimal_digit, decimal_step}
use Rattle.report.specs.declared.Cause.{Cause}
use Rattle.report.specs.ViewLine.{cause_text, value_text, view_line}
use Rattle.view_text.specs.Parts.{head_part, values_part, ends_from, HasValues}

-- ---- the text of a value

pub text_of_digit : (value : ℕ) → value < 10 → value_text value ≡ 32 ∷ (48 + value) ∷ []
unfolding value_text
text_of_digit value small = ap (λ (bytes : List ℕ). codes " " ++ bytes) (decimal_digit value small)

pub text_of_two : (value : ℕ) → 10 ≤ value → value ≤ 15 → value_text value ≡ 32 ∷ 49 ∷ (48 + value % 10) ∷ []
unfolding value_text
text_of_two value large small =
    let tens : value / 10 ≡ 1 = omega arith in
    let first : decimal (value / 10) ≡ 49 ∷ [] = ap decimal tens ∙ decimal_digit 1 (omega arith) in
    ap (λ (bytes : List ℕ). codes " " ++ bytes) (decimal_step value large (omega arith) ∙ ap (λ (bytes : List ℕ). bytes ++ ((48 + value % 10) ∷ [])) first)

pub some_text : (value : ℕ) → 1 ≤ length (value_text value)
unfolding value_text
some_text value = omega arith

-- ---- where values end

pub length-ends_from : (place : ℕ) (values : List ℕ) → length (ends_from place values) ≡ length values
length-ends_from place [] = refl
length-ends_from place (value ∷ values) = ap suc (length-ends_from (place + length (value_text value)) values)

pub ends_from-push : (place : ℕ) (values : List ℕ) (value : ℕ) →
    ends_from place (values ++ value ∷ []) ≡ ends_from place values ++ ((place + length (flat_map value_text (values ++ value ∷ []))) ∷ [])
ends_from-push place [] value = ap (λ (text : List ℕ). (place + length text) ∷ []) (sym (append-nil (value_text value)))
ends_from-push place (first ∷ values) value =
    let more : place + length (value_text first) + length (flat_map value_text (values ++ value ∷ [])) ≡ place + length (value_text first ++ flat_map value_text (values ++ value ∷ [])) =
    omega (arith, length-append (value_text first) (flat_map value_text (values ++ value ∷ []))) in
    ap (λ (ends : List ℕ). (place + length (value_text first)) ∷ ends)
    (ends_from-push (place + length (value_text first)) values value ∙ ap (λ (n : ℕ). ends_from (place + length (value_text first)) values ++ (n ∷ [])) more)

-- a value of the same length in place of one of them moves no end
pub ends_from-set : (place : ℕ) (values : List ℕ) (i value : ℕ) → length (value_text value) ≡ length (value_text (get_or values i 0)) →
    ends_from place (set values i value) ≡ ends_from place values
ends_from-set place [] i value same = refl
ends_from-set place (first ∷ values) zero value same = ap (λ (n : ℕ). (place + n) ∷ ends_from (place + n) values) same
ends_from-set place (first ∷ values) (suc i) value same = ap (λ (ends : List ℕ). (place + length (value_text first)) ∷ ends) (ends_from-set (place + length (value_text first)) values i value same)

-- each of them ends behind the place and before the line's end
pub inside_of : (place : ℕ) (values : List ℕ) (i : ℕ) → i < length values →
    (place < get_or (ends_from place values) i 0) × (get_or (ends_from place values) i 0 ≤ place + length (flat_map value_text values))
inside_of place [] i inside = absurd (omega arith)
inside_of place (first ∷ values) zero inside =
    let some = some_text first in
    (omega arith, omega (arith, length-append (value_text first) (flat_map value_text values)))
inside_of place (first ∷ values) (suc i) inside =
    let rest = inside_of (place + length (value_text first)) values i (omega arith) in
    (omega (arith, rest.0), omega (arith, rest.1, length-append (value_text first) (flat_map value_text values)))

-- ---- a value in place of another

-- Two texts differ in their last digits alone.
pub record AreAlike (a b : ℕ) : Type 0 where
  pub front : List ℕ
  pub one : value_text a ≡ front ++ ((48 + a % 10) ∷ [])
  pub other : value_text b ≡ front ++ ((48 + b % 10) ∷ [])

pub digit_text : (value : ℕ) → value < 10 → value_text value ≡ (32 ∷ []) ++ ((48 + value % 10) ∷ [])
digit_text value small =
    let same : 48 + value ≡ 48 + value % 10 = omega arith in
    text_of_digit value small ∙ ap (λ (digit : ℕ). 32 ∷ digit ∷ []) same

pub are_alike : (a b : ℕ) → a ≤ 15 → b ≤ 15 → length (value_text b) ≡ length (value_text a) → AreAlike a b
are_alike a b small_a small_b same =
    ⊎_elim
    (λ (below : a < 10). ⊎_elim
    (λ (also : b < 10). record { front = 32 ∷ []; one = digit_text a below; other = digit_text b also })
    (λ (above : 10 ≤ b). absurd (omega (arith, same, ap (λ (text : List ℕ). length text) (text_of_digit a below), ap (λ (text : List ℕ). length text) (text_of_two b above small_b))))
    (cases_lt b 10))
    (λ (above : 10 ≤ a). ⊎_elim
    (λ (below : b < 10). absurd (omega (arith, same, ap (λ (text : List ℕ). length text) (text_of_two a above small_a), ap (λ (text : List ℕ). length text) (text_of_digit b below))))
    (λ (also : 10 ≤ b). record { front = 32 ∷ 49 ∷ []; one = text_of_two a above small_a; other = text_of_two b also small_b })
    (cases_lt b 10))
    (cases_lt a 10)

-- the last digit of a value, behind some bytes and before others
pub digit_put : (front : List ℕ) (a b : ℕ) (rest : List ℕ) (at : ℕ) → AreAlike a b → at + 1 ≡ length front + length (value_text a) →
    set (front ++ (value_text a ++ rest)) at (48 + b % 10) ≡ front ++ (value_text b ++ rest)
digit_put front a b rest at alike place =
    let digit = 48 + a % 10 in
    let other = 48 + b % 10 in
    let long : length (value_text a) ≡ length alike.front + 1 = ap (λ (text : List ℕ). length text) alike.one ∙ length-append alike.front (digit ∷ []) in
    let before : length (front ++ alike.front) ≡ at = omega (arith, long, place, length-append front alike.front) in
    let split : (d : ℕ) → front ++ ((alike.front ++ (d ∷ [])) ++ rest) ≡ (front ++ alike.front) ++ (d ∷ rest) =
    λ d. ap (λ (text : List ℕ). front ++ text) (append_assoc alike.front (d ∷ []) rest) ∙ sym (append_assoc front alike.front (d ∷ rest)) in
    ap (λ (text : List ℕ). set (front ++ (text ++ rest)) at other) alike.one
    ∙ ap (λ (text : List ℕ). set text at other) (split digit)
    ∙ set_at (front ++ alike.front) digit rest other at before
    ∙ sym (split other)
    ∙ ap (λ (text : List ℕ). front ++ (text ++ rest)) (sym alike.other)

-- and of one value of many
pub value_put : (front values : List ℕ) (i value at : ℕ) (last : List ℕ) → i < length values → AreAlike (get_or values i 0) value →
    at + 1 ≡ get_or (ends_from (length front) values) i 0 →
    set (front ++ (flat_map value_text values ++ last)) at (48 + value % 10) ≡ front ++ (flat_map value_text (set values i value) ++ last)
value_put front [] i value at last inside alike place = absurd (omega arith)
value_put front (first ∷ values) zero value at last inside alike place =
    let rest = flat_map value_text values ++ last in
    ap (λ (text : List ℕ). set (front ++ text) at (48 + value % 10)) (append_assoc (value_text first) (flat_map value_text values) last)
    ∙ digit_put front first value rest at alike place
    ∙ ap (λ (text : List ℕ). front ++ text) (sym (append_assoc (value_text value) (flat_map value_text values) last))
value_put front (first ∷ values) (suc i) value at last inside alike place =
    let split : (text : List ℕ) → front ++ ((value_text first ++ text) ++ last) ≡ (front ++ value_text first) ++ (text ++ last) =
    λ text. ap (λ (all : List ℕ). front ++ all) (append_assoc (value_text first) text last) ∙ sym (append_assoc front (value_text first) (text ++ last)) in
    ap (λ (text : List ℕ). set text at (48 + value % 10)) (split (flat_map value_text values))
    ∙ value_put (front ++ value_text first) values i value at last (omega arith) alike
    (place ∙ ap (λ (n : ℕ). get_or (ends_from n values) i 0) (sym (length-append front (value_text first))))
    ∙ sym (split (flat_map value_text (set values i value)))

-- a line whose values are known, and one of them with another digit at the end
pub values_mended : (line ends values : List ℕ) (i value at : ℕ) → HasValues line ends values → 32 ≤ length line → i < length values → AreAlike (get_or values i 0) value →
    length (value_text value) ≡ length (value_text (get_or values i 0)) → at + 1 ≡ get_or ends i 0 →
    HasValues (set line at (48 + value % 10)) ends (set values i value)
unfolding values_part
values_mended line ends values i value at known head inside alike same place =
    let front : length (take 32 line) ≡ 32 = length-take-le 32 line head in
    let whole : line ≡ take 32 line ++ (flat_map value_text values ++ codes "\n") = sym (take-append-drop 32 line) ∙ ap (λ (text : List ℕ). take 32 line ++ text) known.text in
    let there : at + 1 ≡ get_or (ends_from (length (take 32 line)) values) i 0 =
    place ∙ ap (λ (list : List ℕ). get_or list i 0) known.places ∙ ap (λ (n : ℕ). get_or (ends_from n values) i 0) (sym front) in
    record {
      text = ap (λ (text : List ℕ). drop 32 (set text at (48 + value % 10))) whole
          ∙ ap (λ (text : List ℕ). drop 32 text) (value_put (take 32 line) values i value at (codes "\n") inside alike there)
          ∙ drop_at (take 32 line) (flat_map value_text (set values i value) ++ codes "\n") 32 front;
      places = known.places ∙ sym (ends_from-set 32 values i value same);
    }

-- where a value ends in a line whose values are known
pub end_in_line : (line ends values : List ℕ) (i : ℕ) → HasValues line ends values → 32 ≤ length line → i < length values →
    (1 ≤ get_or ends i 0) × (get_or ends i 0 ≤ length line)
unfolding values_part
end_in_line line ends values i known head inside =
    let two = inside_of 32 values i inside in
    let same : get_or ends i 0 ≡ get_or (ends_from 32 values) i 0 = ap (λ (list : List ℕ). get_or list i 0) known.places in
    let long : length line - 32 ≡ length (flat_map value_text values) + 1 =
    sym (length-drop 32 line) ∙ ap (λ (text : List ℕ). length text) known.text ∙ length-append (flat_map value_text values) (codes "\n") in
    (omega (arith, two.0, same), omega (arith, two.1, same, long))

-- ---- all values anew

-- Behind this front the line has the first so many values.
pub record HasFirst (front line ends values : List ℕ) (count : ℕ) : Type 0 where
  pub text : line ≡ front ++ flat_map value_text (take count values)
  pub places : take count ends ≡ ends_from 32 (take count values)

pub one_more : (front line ends values new : List ℕ) (i value place : ℕ) → HasFirst front line ends values i → length front ≡ 32 → i < length values → i < length ends →
    value ≡ get_or values i 0 → new ≡ line ++ value_text value → place ≡ length new → HasFirst front new (set ends i place) values (i + 1)
one_more front line ends values new i value place first long inside room is put there =
    let more : take (i + 1) values ≡ take i values ++ value ∷ [] = take_more values i 0 inside ∙ ap (λ (v : ℕ). take i values ++ v ∷ []) (sym is) in
    let texts : flat_map value_text (take (i + 1) values) ≡ flat_map value_text (take i values) ++ value_text value =
    ap (λ (list : List ℕ). flat_map value_text list) more ∙ flat_map-append value_text (take i values) (value ∷ [])
    ∙ ap (λ (text : List ℕ). flat_map value_text (take i values) ++ text) (append-nil (value_text value)) in
    let text : new ≡ front ++ flat_map value_text (take (i + 1) values) =
    put ∙ ap (λ (text : List ℕ). text ++ value_text value) first.text ∙ append_assoc front (flat_map value_text (take i values)) (value_text value)
    ∙ ap (λ (text : List ℕ). front ++ text) (sym texts) in
    let end : place ≡ 32 + length (flat_map value_text (take i values ++ value ∷ [])) =
    there ∙ ap (λ (text : List ℕ). length text) text ∙ length-append front (flat_map value_text (take (i + 1) values))
    ∙ ap (λ (n : ℕ). n + length (flat_map value_text (take (i + 1) values))) long ∙ ap (λ (list : List ℕ). 32 + length (flat_map value_text list)) more in
    record {
      text = text;
      places = take_more_set ends i place room
          ∙ ap (λ (list : List ℕ). list ++ place ∷ []) first.places
          ∙ ap (λ (n : ℕ). ends_from 32 (take i values) ++ n ∷ []) end
          ∙ sym (ends_from-push 32 (take i values) value)
          ∙ ap (λ (list : List ℕ). ends_from 32 list) (sym more);
    }

pub all_of_them : (front line ends values new : List ℕ) (count : ℕ) → HasFirst front line ends values count → length front ≡ 32 → length values ≤ count → length ends ≡ length values →
    new ≡ line ++ codes "\n" → HasValues new ends values
unfolding values_part
all_of_them front line ends values new count first long whole as_many put =
    let all : take count values ≡ values = take_all count values whole in
    let ends_all : take count ends ≡ ends = take_all count ends (omega arith) in
    record {
      text = ap (λ (text : List ℕ). drop 32 text) (put ∙ ap (λ (text : List ℕ). text ++ codes "\n") first.text ∙ append_assoc front (flat_map value_text (take count values)) (codes "\n"))
          ∙ drop_at front (flat_map value_text (take count values) ++ codes "\n") 32 long
          ∙ ap (λ (list : List ℕ). flat_map value_text list ++ codes "\n") all;
      places = sym ends_all ∙ first.places ∙ ap (λ (list : List ℕ). ends_from 32 list) all;
    }

-- ---- a head before the values

-- what lies behind what was put in stays
pub behind_stays : (old new head : List ℕ) (begin end : ℕ) → drop begin new ≡ head ++ drop end old → begin + length head ≡ end → drop end new ≡ drop end old
behind_stays old new head begin end put place =
    ap (λ (n : ℕ). drop n new) (sym place) ∙ sym (drop-drop (length head) begin new) ∙ ap (λ (text : List ℕ). drop (length head) text) put ∙ drop_at head (drop end old) (length head) refl

pub head_and_values : (time : ℕ) (cause : Cause) (values : List ℕ) → head_part time cause ++ values_part values ≡ view_line time cause values
unfolding values_part view_line
head_and_values time cause values =
    let texts = flat_map value_text values in
    sym (append_assoc (head_part time cause) texts (codes "\n")) ∙ ap (λ (text : List ℕ). text ++ texts ++ codes "\n") (sym (append_assoc (decimal time) (codes " ") (cause_text cause)))

pub line_is : (time : ℕ) (cause : Cause) (slice line ends values shown : List ℕ) → slice ≡ line → HasValues line ends values → values ≡ shown →
    head_part time cause ++ drop 32 slice ≡ view_line time cause shown
line_is time cause slice line ends values shown same known is =
    ap (λ (text : List ℕ). head_part time cause ++ drop 32 text) same ∙ ap (λ (text : List ℕ). head_part time cause ++ text) known.text
    ∙ head_and_values time cause values ∙ ap (λ (list : List ℕ). view_line time cause list) is
