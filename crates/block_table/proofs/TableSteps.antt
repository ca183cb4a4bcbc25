-- Rows as the program keeps them, and the names of the table.
use Rattle.std.proofs.Common.{◌≡◌, ℕ, zero, suc, ◌<◌, ◌≤◌, get_or, arith, Some, List, [], ◌∷◌, map, length, Bor, refl, ap, Bool, not}
use Rattle.std.specs.Prelude.{position}
use Rattle.std.specs.Str.{bytes_eq}
use Rattle.std.specs.List.{prefix_len}
use Rattle.std.proofs.lemmas.List.{length-map}
use Rattle.block_table.specs.declared.names.Kind.{Kind}
use Rattle.block_table.specs.Table.{Row, place_named, kind_in, name_in, rows_of}
use Rattle.block_table.specs.WrittenText.{text_in}

prefix_of_map : {A B : Type 0} (p : B → Bool) (f : A → B) (xs : List A) → prefix_len (λ x. p (f x)) xs ≡ prefix_len p (map f xs)
prefix_of_map p f [] = refl
prefix_of_map p f (x ∷ xs) = rw (prefix_of_map p f xs) refl

row_of : Bor (List ℕ) × Kind → Row
row_of row = record { name = row.0.now; kind = row.1 }

pub place-of_rows : (name : List ℕ) (rows : List (Bor (List ℕ) × Kind)) → position (λ row. bytes_eq row.0.now name) rows ≡ place_named name (rows_of rows)
unfolding row_of
place-of_rows name rows = rw (← prefix_of_map (λ row. not (bytes_eq row.name name)) row_of rows, length-map rows row_of) refl

pub kind-in_row : (rows : List (Bor (List ℕ) × Kind)) (place : ℕ) (row : Bor (List ℕ) × Kind) → place < length rows → row ≡ get_or rows place row → Some row.1 ≡ kind_in place (rows_of rows)
kind-in_row [] place row h e = absurd (omega arith)
kind-in_row (first ∷ rows) zero row h e = ap (λ (r : Bor (List ℕ) × Kind). Some r.1) e
kind-in_row (first ∷ rows) (suc place) row h e = kind-in_row rows place row (omega arith) e

pub name-in_row : (rows : List (Bor (List ℕ) × Kind)) (place : ℕ) (row : Bor (List ℕ) × Kind) → place < length rows → row ≡ get_or rows place row → row.0.now ≡ name_in place (rows_of rows)
name-in_row [] place row h e = absurd (omega arith)
name-in_row (first ∷ rows) zero row h e = ap (λ (r : Bor (List ℕ) × Kind). r.0.now) e
name-in_row (first ∷ rows) (suc place) row h e = name-in_row rows place row (omega arith) e

pub name-past_rows : (rows : List (Bor (List ℕ) × Kind)) (place : ℕ) → length rows ≤ place → [] ≡ name_in place (rows_of rows)
name-past_rows [] place h = refl
name-past_rows (first ∷ rows) zero h = absurd (omega arith)
name-past_rows (first ∷ rows) (suc place) h = name-past_rows rows place (omega arith)

pub text-in_texts : (texts : List (Bor (List ℕ))) (place : ℕ) (text : Bor (List ℕ)) → place < length texts → text ≡ get_or texts place text → text.now ≡ text_in place (map (λ t. t.now) texts)
text-in_texts [] place text h e = absurd (omega arith)
text-in_texts (first ∷ texts) zero text h e = ap (λ (t : Bor (List ℕ)). t.now) e
text-in_texts (first ∷ texts) (suc place) text h e = text-in_texts texts place text (omega arith) e

pub text-past_texts : (texts : List (Bor (List ℕ))) (place : ℕ) → length texts ≤ place → [] ≡ text_in place (map (λ t. t.now) texts)
text-past_texts [] place h = refl
text-past_texts (first ∷ texts) zero h = absurd (omega arith)
text-past_texts (first ∷ texts) (suc place) h = text-past_texts texts place (omega arith)
