use Rattle.std.proofs.Common.{◌≡◌, ℕ, ◌+◌, ◌-◌, ◌≤◌, List, [], ◌∷◌, ◌++◌, map, length, take, drop, refl, ap, ◌∙◌, arith}
use Rattle.std.specs.Prelude.{All, slice_range}
use Rattle.std.proofs.lemmas.List.{take-append-le, drop-append-le, map-append, length-drop, take_all}
use Rattle.std.proofs.lemmas.List.Elements.{All-head, All-tail}
use Rattle.std.proofs.Math.Seq.{drop-append_seam}
use Rattle.number_rows.specs.declared.rows.Part.{Part}
use Rattle.number_rows.proofs.rows.Rows.push.Goals as goal

abbrev row_of : List ℕ → Part → List ℕ
row_of xs part = slice_range xs part.start part.end

-- a row stays where more stands behind it
kept : (xs ys : List ℕ) (part : Part) → (part.start ≤ part.end) × (part.end ≤ length xs) → row_of (xs ++ ys) part ≡ row_of xs part
kept xs ys part h =
    ap (take (part.end - part.start)) (drop-append-le part.start xs ys (omega (arith, h.0, h.1)))
    ∙ take-append-le (part.end - part.start) (drop part.start xs) ys (omega (arith, h.0, h.1, length-drop part.start xs))

all_kept : (xs ys : List ℕ) (parts : List Part) → All (λ (part : Part). (part.start ≤ part.end) × (part.end ≤ length xs)) parts → map (row_of (xs ++ ys)) parts ≡ map (row_of xs) parts
all_kept xs ys [] h = refl
all_kept xs ys (part ∷ parts) h = λ j.
    kept xs ys part (All-head (λ (part : Part). (part.start ≤ part.end) × (part.end ≤ length xs)) part parts h) j
    ∷ all_kept xs ys parts (All-tail (λ (part : Part). (part.start ≤ part.end) × (part.end ≤ length xs)) part parts h) j

last_row : (xs ys : List ℕ) (start end : ℕ) → start ≡ length xs → end ≡ length xs + length ys → slice_range (xs ++ ys) start end ≡ ys
last_row xs ys start end e f =
    (λ j. take (f j - e j) (drop (e j) (xs ++ ys))) ∙ ap (take (length xs + length ys - length xs)) (drop-append_seam xs ys) ∙ take_all (length xs + length ys - length xs) ys (omega arith)

one_more : (old now row : List ℕ) (parts next : List Part) (start end : ℕ) → All (λ (part : Part). (part.start ≤ part.end) × (part.end ≤ length old)) parts → now ≡ old ++ row → start ≡ length old → end ≡ length old + length row
    → next ≡ parts ++ record { start = start; end = end } ∷ [] → map (row_of now) next ≡ map (row_of old) parts ++ row ∷ []
one_more old now row parts next start end h e f g i =
    (λ j. map (row_of (e j)) (i j)) ∙ map-append (row_of (old ++ row)) parts (record { start = start; end = end } ∷ [])
    ∙ (λ j. all_kept old row parts h j ++ last_row old row start end f g j ∷ [])

pub returns : goal.returns
returns c =
    let first : c.in_ok-start.start ≡ length c.self.inside.numbers.items = omega (arith, c.in_ok-start.ensures.same) in
    let last : c.in_ok-end.end ≡ length c.self.inside.numbers.items + length c.args.row.now = omega (arith, c.in_ok-end.ensures.same, c.in_ok-extend_from_slice.ensures.len) in
    one_more c.self.inside.numbers.items c.extend_from_slice.new.self.items c.args.row.now c.self.inside.parts.items c.push.new.self.items c.in_ok-start.start c.in_ok-end.end c.self.invariant
    c.in_ok-extend_from_slice.ensures.items first last c.in_ok-push.ensures.items
    ∙ ap (λ (rows : List (List ℕ)). rows ++ c.args.row.now ∷ []) c.self.view_is
