-- The first of several causes.
use Rattle.std.proofs.Common.{◌≡◌, ◌<◌, ℕ, ℤ, pos, true, false, List, [], ◌∷◌, ◌++◌, map, length, All, Option, Some, None, Result, Ok, Err, IfErr, refl, sym, ap, ◌∙◌, subst}
use Rattle.std.specs.Prelude.{IsTrue, find}
use Rattle.std.specs.Result.{IsErrAnd}
use Rattle.std.proofs.Math.ListN.{get_or}
use Rattle.std.proofs.lemmas.List.Elements.{All-map}
use Rattle.std.specs.Option.{option_map}
use Rattle.nbt.specs.Plain.{PlainField, PlainFields}
use Rattle.block_table.specs.declared.Block.{Block}
use Rattle.block_table.specs.BlockText.{block_of}
use Rattle.block_table.specs.WrittenText.{is_listed}
use Rattle.block_table.proofs.ListedSteps.{block_of-listed}
use Rattle.circuit.specs.declared.Pos.{Pos}
use Rattle.schematic.specs.declared.FieldName.{FieldName}
use Rattle.schematic.specs.Fields.{has_right_version, is_too_large, volume_of, cells_in, pending_in}
use Rattle.schematic.specs.Presence.{missing, wrong_kind}
use Rattle.schematic.specs.Palette.{clash, unknown_text, has_number, block_or_air, block_numbered}
use Rattle.schematic.specs.Cells.{varints, value_of, cells_fault, blocks_of}
use Rattle.schematic.specs.Entities.{counting, signal_fault}
use Rattle.schematic.specs.PendingTicks.{pending_fault}
use Rattle.schematic.specs.File.{Refusal, wrong_field, wrong_version, too_large, palette_clash, wrong_cells, unknown_block, wrong_signal, wrong_pending, entries_in, bare, of_fields, of_cells, of_state, only, first_some, IsCause}

pub some_front : (xs ys : List (Option Refusal)) (r : Refusal) → first_some xs ≡ Some r → first_some (xs ++ ys) ≡ Some r
some_front [] ys r h = absurd (cc)
some_front (Some q ∷ xs) ys r h = h
some_front (None ∷ xs) ys r h = some_front xs ys r h

pub none_front : (xs ys : List (Option Refusal)) → first_some xs ≡ None → first_some (xs ++ ys) ≡ first_some ys
none_front [] ys h = refl
none_front (Some q ∷ xs) ys h = absurd (cc)
none_front (None ∷ xs) ys h = none_front xs ys h

-- a cause among the first ones
pub cause_front : (told : Option Refusal) (xs ys : List (Option Refusal)) → IsCause told (first_some xs) → IsCause told (first_some (xs ++ ys))
cause_front None xs ys h = tt
cause_front (Some r) xs ys h = some_front xs ys r h

-- a cause behind those that don't hold
pub cause_behind : (told : Option Refusal) (xs ys : List (Option Refusal)) → first_some xs ≡ None → IsCause told (first_some ys) → IsCause told (first_some (xs ++ ys))
cause_behind told xs ys h k = subst (λ (o : Option Refusal). IsCause told o) (sym (none_front xs ys h)) k

-- the cause stands behind one that doesn't hold
pub cause_second : (told first : Option Refusal) (rest : List (Option Refusal)) → first ≡ None → IsCause told (first_some rest) → IsCause told (first_some (first ∷ rest))
cause_second told first rest h k = subst (λ (o : Option Refusal). IsCause told (first_some (o ∷ rest))) (sym h) k

-- the cause is the first of them
pub cause_first : (told first : Option Refusal) (rest : List (Option Refusal)) → IsCause told first → IsCause told (first_some (first ∷ rest))
cause_first None first rest h = tt
cause_first (Some r) first rest h = subst (λ (o : Option Refusal). first_some (o ∷ rest) ≡ Some r) (sym h) refl

-- ---- the causes of the fields

pub fields_second : (R : PlainFields) (name : FieldName) → None ≡ missing R → Some name ≡ wrong_kind R → first_some (of_fields R) ≡ Some (wrong_field name)
fields_second R name h k = rw (sym h, sym k) refl

pub fields_third : (R : PlainFields) → None ≡ missing R → None ≡ wrong_kind R → has_right_version R ≡ false → first_some (of_fields R) ≡ Some wrong_version
fields_third R h k e = rw (sym h, sym k, e) refl

pub fields_fourth : (R : PlainFields) → None ≡ missing R → None ≡ wrong_kind R → has_right_version R ≡ true → is_too_large R ≡ true → first_some (of_fields R) ≡ Some too_large
fields_fourth R h k e l = rw (sym h, sym k, e, l) refl

pub fields_none : (R : PlainFields) → None ≡ missing R → None ≡ wrong_kind R → has_right_version R ≡ true → is_too_large R ≡ false → first_some (of_fields R) ≡ None
fields_none R h k e l = rw (sym h, sym k, e, l) refl

-- ---- the causes of the cells

pub cells_first : (R : PlainFields) → clash (entries_in R) ≡ true → first_some (of_cells R) ≡ Some palette_clash
cells_first R h = rw h refl

pub cells_third : (R : PlainFields) (text : List ℕ) → clash (entries_in R) ≡ false → cells_fault (block_numbered (entries_in R)) (volume_of R) (cells_in R) ≡ None → unknown_text (entries_in R) ≡ Some text → first_some (of_cells R) ≡ Some (unknown_block text)
cells_third R text h k e = rw (h, k, e) refl

pub cells_none : (R : PlainFields) → clash (entries_in R) ≡ false → cells_fault (block_numbered (entries_in R)) (volume_of R) (cells_in R) ≡ None → unknown_text (entries_in R) ≡ None → first_some (of_cells R) ≡ None
cells_none R h k e = rw (h, k, e) refl

pub cells_second : (R : PlainFields) (told : Option Refusal) → clash (entries_in R) ≡ false → IsCause told (option_map wrong_cells (cells_fault (block_numbered (entries_in R)) (volume_of R) (cells_in R))) → IsCause told (first_some (of_cells R))
cells_second R told h k = cause_second told (only (clash (entries_in R)) palette_clash) _ (rw h refl) (cause_first told _ _ k)

-- ---- the causes of the state

pub state_first : (R : PlainFields) (p : Pos) → signal_fault (bare R) (counting R) ≡ Some p → first_some (of_state R) ≡ Some (wrong_signal p)
state_first R p h = rw h refl

pub state_second : (R : PlainFields) (told : Option Refusal) → signal_fault (bare R) (counting R) ≡ None → IsCause told (option_map wrong_pending (pending_fault (bare R) (pending_in R))) → IsCause told (first_some (of_state R))
state_second R told h k = cause_second told (option_map wrong_signal (signal_fault (bare R) (counting R))) _ (rw h refl) (cause_first told _ _ k)

pub state_none : (R : PlainFields) → signal_fault (bare R) (counting R) ≡ None → pending_fault (bare R) (pending_in R) ≡ None → first_some (of_state R) ≡ None
state_none R h k = rw (h, k) refl

-- an answer that is this error
pub err_is : {T E : Type 0} (r : Result T E) (x : E) (P : E → Type 0) → IsErrAnd r (λ e. e ≡ x) → P x → IfErr r P
err_is (Ok y) x P h p = tt
err_is (Err e) x P h p = subst P (sym h) p

-- ---- the cells by a palette that the code holds

pub fault_same : (f g : ℤ → Option Block) (v w : ℕ) (cs ds : List ℕ) → f ≡ g → v ≡ w → cs ≡ ds → cells_fault f v cs ≡ cells_fault g w ds
fault_same f g v w cs ds e k m = ap (λ (x : ℤ → Option Block). cells_fault x v cs) e ∙ ap (λ (x : ℕ). cells_fault g x cs) k ∙ ap (cells_fault g w) m

pub blocks_same : (f g : ℤ → Option Block) (cs ds : List ℕ) → f ≡ g → cs ≡ ds → blocks_of f cs ≡ blocks_of g ds
blocks_same f g cs ds e m = ap (λ (x : ℤ → Option Block). blocks_of x cs) e ∙ ap (blocks_of g) m

pub by_numbers : (f : ℤ → Option Block) (es fs : List PlainField) → ((n : ℤ) → f n ≡ block_numbered es n) → es ≡ fs → f ≡ block_numbered fs
by_numbers f es fs h e = (λ i. λ n. h n i) ∙ ap block_numbered e

listed_text : (text : List ℕ) (o : Option Block) → block_of text ≡ o → is_listed (block_or_air o) ≡ true
listed_text text None h = refl
listed_text text (Some b) h = block_of-listed text b h

listed_number : (es : List PlainField) (n : ℤ) (o : Option PlainField) → is_listed (block_or_air (option_map (λ (e : PlainField). block_or_air (block_of e.0)) o)) ≡ true
listed_number es n None = refl
listed_number es n (Some e) = listed_text e.0 (block_of e.0) refl

-- every block of the cells is one of the table
pub all_listed : (es : List PlainField) (cs : List ℕ) (blocks : List Block) → blocks ≡ blocks_of (block_numbered es) cs → (k : ℕ) (d : Block) → k < length blocks → IsTrue (is_listed (get_or blocks k d))
unfolding blocks_of
all_listed es cs blocks h k d l =
    let g : List ℕ → Block = λ v. block_or_air (block_numbered es (pos (value_of v))) in
    let P : Block → Type 0 = λ b. IsTrue (is_listed b) in
    let one : (v : List ℕ) → P (g v) = λ v. listed_number es (pos (value_of v)) (find (has_number (pos (value_of v))) es) in
    let all : All P (map g (varints cs)) = All-map P g (varints cs) (λ i v m. one (get_or (varints cs) i v)) in
    subst (All P) (sym h) all k d l
