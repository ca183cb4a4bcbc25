-- How std's `lines` of a text begin.
use Rattle.std.proofs.Common.{◌≡◌, ℕ, ◌+◌, ◌-◌, ◌<◌, ◌≤◌, Bool, false, Some, None, List, [], ◌∷◌, length, take, drop, get_or, eqb, refl, ap, sym, ◌∙◌, ⊎_elim, subst, arith, rules, length-take, length-drop}
use Rattle.std.specs.List.{slice_split, position, position_or_len}
use Rattle.std.specs.Str.Lines.{lines, lines_of_parts, strip_carriage_return}
use Rattle.std.proofs.lemmas.Bool.{cases_lt, lt-ltb, le-ltb, cond-true, cond-false, cond_both, ne_eqb}
use Rattle.std.proofs.lemmas.List.{take_all, take-take, take_rest, drop_all, drop-drop}
use Rattle.std.proofs.lemmas.List.Splits.{slice_split_first, slice_split_none, length-slice_split}
use Rattle.std.proofs.lemmas.List.Sums.{fails_before_first}
use Rattle.rp_text.specs.Lines.{line_from, line_up_to}
use Rattle.rp_text.specs.Spans.{bytes_of}

-- a byte that ends a line
abbrev is_line_feed : ℕ → Bool
is_line_feed b = eqb b 10

-- what `position` says, as facts on the first place that passes
pub position-Some : (p : ℕ → Bool) (xs : List ℕ) (i : ℕ) → position p xs ≡ Some i → (position_or_len p xs ≡ i) × (i < length xs)
position-Some p xs i found = ⊎_elim
    (λ below. let e : position p xs ≡ Some (position_or_len p xs) = cond-true _ _ _ (lt-ltb _ _ below) in
    let same : position_or_len p xs ≡ i = cc in (same, omega arith))
    (λ past. let e : position p xs ≡ None = cond-false _ _ _ (le-ltb _ _ past) in cc)
    (cases_lt (position_or_len p xs) (length xs))

pub position-None : (p : ℕ → Bool) (xs : List ℕ) → position p xs ≡ None → length xs ≤ position_or_len p xs
position-None p xs none = ⊎_elim
    (λ below. let e : position p xs ≡ Some (position_or_len p xs) = cond-true _ _ _ (lt-ltb _ _ below) in cc)
    (λ past. past)
    (cases_lt (position_or_len p xs) (length xs))

-- a part before another ends a line
lines_of_parts-cons : (x : List ℕ) (parts : List (List ℕ)) → 0 < length parts → lines_of_parts (x ∷ parts) ≡ strip_carriage_return x ∷ lines_of_parts parts
lines_of_parts-cons x [] some = absurd (omega arith)
lines_of_parts-cons x (y ∷ more) some = refl

-- a text with an LF begins with the line before it
pub lines-first : (text : List ℕ) (bytes : ℕ) → position is_line_feed text ≡ Some bytes → lines text ≡ strip_carriage_return (take bytes text) ∷ lines (drop (bytes + 1) text)
lines-first text bytes found =
    let at = position-Some is_line_feed text bytes found in
    let within : position_or_len is_line_feed text < length text = omega (arith, at) in
    let some : 0 < length (slice_split is_line_feed (drop (position_or_len is_line_feed text + 1) text)) = omega (arith, length-slice_split is_line_feed (drop (position_or_len is_line_feed text + 1) text)) in
    let whole : lines text ≡ strip_carriage_return (take (position_or_len is_line_feed text) text) ∷ lines (drop (position_or_len is_line_feed text + 1) text) =
    ap lines_of_parts (slice_split_first is_line_feed text 0 within) ∙ lines_of_parts-cons _ _ some in
    subst (λ n. lines text ≡ strip_carriage_return (take n text) ∷ lines (drop (n + 1) text)) at.0 whole

-- a text without an LF is one line, unless it is empty
pub lines-last : (text : List ℕ) → position is_line_feed text ≡ None → 0 < length text → lines text ≡ text ∷ []
lines-last text none some =
    let past : length text ≤ position_or_len is_line_feed text = position-None is_line_feed text none in
    let one : slice_split is_line_feed text ≡ text ∷ [] = slice_split_none is_line_feed text (λ k d h. fails_before_first is_line_feed text k d (omega arith)) in
    let nonempty : eqb (length text) 0 ≡ false = ne_eqb _ _ (λ e. omega arith) in
    ap lines_of_parts one ∙ cond-false _ _ _ nonempty

-- a line without its CR is the beginning of the line
pub strip_carriage_return-take : (line : List ℕ) → strip_carriage_return line ≡ take (length (strip_carriage_return line)) line
strip_carriage_return-take line = cond_both (eqb (get_or line (length line - 1) 0) 13) (take (length line - 1) line) line
    (λ x. x ≡ take (length x) line)
    (λ _. ap (λ n. take n line) (search (rules, length-take)))
    (λ _. sym (take_all (length line) line (omega arith)))

pub length-strip_carriage_return-le : (line : List ℕ) → length (strip_carriage_return line) ≤ length line
length-strip_carriage_return-le line = cond_both (eqb (get_or line (length line - 1) 0) 13) (take (length line - 1) line) line
    (λ x. length x ≤ length line)
    (λ _. omega (arith, length-take (length line - 1) line))
    (λ _. omega arith)

-- the line that begins at `from`, up to the first LF there
pub line_from-line_feed : (text : List ℕ) (from bytes : ℕ) (kept : List ℕ) → position is_line_feed (drop from text) ≡ Some bytes →
    kept ≡ strip_carriage_return (take bytes (drop from text)) → line_from text from ≡ (record { from = from; to = from + length kept }, from + bytes + 1)
unfolding line_from
line_from-line_feed text from bytes kept found stripped =
    ap (line_up_to text from) found ∙ ap (λ line. (record { from = from; to = from + length line }, from + bytes + 1)) (sym stripped)

-- and where there is none
pub line_from-last : (text : List ℕ) (from : ℕ) → position is_line_feed (drop from text) ≡ None → line_from text from ≡ (record { from = from; to = length text }, length text)
unfolding line_from
line_from-last text from none = ap (line_up_to text from) none

-- the line up to the first LF and the lines after it
pub lines-line_feed : (text : List ℕ) (from bytes : ℕ) (kept : List ℕ) → position is_line_feed (drop from text) ≡ Some bytes →
    kept ≡ strip_carriage_return (take bytes (drop from text)) →
    lines (drop from text) ≡ bytes_of text (record { from = from; to = from + length kept }) ∷ lines (drop (from + bytes + 1) text)
lines-line_feed text from bytes kept found stripped =
    let short : length kept ≤ bytes =
    omega (arith, ap length stripped, length-strip_carriage_return-le (take bytes (drop from text)), length-take bytes (drop from text)) in
    let count : length kept ≡ from + length kept - from = omega arith in
    let front : kept ≡ take (length kept) (take bytes (drop from text)) =
    stripped ∙ strip_carriage_return-take (take bytes (drop from text)) ∙ ap (λ line. take (length line) (take bytes (drop from text))) (sym stripped) in
    let first : strip_carriage_return (take bytes (drop from text)) ≡ bytes_of text (record { from = from; to = from + length kept }) =
    sym stripped ∙ front ∙ take-take (length kept) bytes (drop from text) short ∙ ap (λ n. take n (drop from text)) count in
    let sum : from + (bytes + 1) ≡ from + bytes + 1 = omega arith in
    let rest : drop (bytes + 1) (drop from text) ≡ drop (from + bytes + 1) text = drop-drop (bytes + 1) from text ∙ ap (λ n. drop n text) sum in
    lines-first (drop from text) bytes found ∙ ap (λ x. x ∷ lines (drop (bytes + 1) (drop from text))) first
    ∙ ap (λ xs. bytes_of text (record { from = from; to = from + length kept }) ∷ lines xs) rest

-- the last line, and none after it
pub lines-at_last : (text : List ℕ) (from : ℕ) → from < length text → position is_line_feed (drop from text) ≡ None →
    lines (drop from text) ≡ bytes_of text (record { from = from; to = length text }) ∷ lines (drop (length text) text)
lines-at_last text from within none =
    let some : 0 < length (drop from text) = omega (arith, length-drop from text) in
    lines-last (drop from text) none some ∙ ap (λ x. x ∷ []) (sym (take_rest text from))
    ∙ ap (λ xs. bytes_of text (record { from = from; to = length text }) ∷ lines xs) (sym (drop_all (length text) text (omega arith)))
