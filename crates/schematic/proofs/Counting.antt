-- Entries of lists: block entities and items.
use Rattle.std.proofs.Common.{◌≡◌, ◌<◌, ◌≤◌, ◌+◌, ◌-◌, ℕ, suc, ℤ, List, [], ◌∷◌, ◌++◌, map, length, drop, reverse, Option, Some, None, Bool, true, false, refl, sym, ap, ◌∙◌, arith, inl, inr}
use Rattle.std.specs.Prelude.{not, ◌||◌, slice_index_or}
use Rattle.std.specs.Bool.{MatchBool}
use Rattle.std.specs.List.{list_any, filter_map}
use Rattle.std.specs.List.Sorted.{IsPermutation}
use Rattle.std.specs.Ordering.{int_eq}
use Rattle.std.proofs.Math.Seq.{drop-cons}
use Rattle.std.proofs.Math.ListN.{get_or}
use Rattle.std.proofs.lemmas.Bool.{cases_Bool}
use Rattle.std.proofs.lemmas.Bool.Decides.{Decides-int_eq}
use Rattle.std.proofs.lemmas.List.{append_assoc, append-nil, map-append, reverse-append, drop_all}
use Rattle.std.proofs.lemmas.List.Sorted.{list_any-IsPermutation}
use Rattle.indexmap.proofs.ReorderLemmas.{map-reverse}
use Rattle.nbt.specs.Plain.{PlainTree, trees_of}
use Rattle.item_table.specs.Stacks.{stack_size_of, is_among, without_namespace, stacked_by_sixteen, unstacked}
use Rattle.item_table.specs.Strength.{IsSized}
use Rattle.circuit.specs.declared.Pos.{Pos}
use Rattle.build.specs.Place.{same_place, same_int}
use Rattle.build.specs.SamePlace.{int_itself, int_one, place_one}
use Rattle.schematic.specs.declared.entities.Entity.{Entity as CodeEntity}
use Rattle.schematic.specs.Palette.{last_ones}
use Rattle.schematic.specs.Entities.{Entity, same_entity_place, trees_in}
use Rattle.schematic.specs.Code.{plain_entity, plain_entities}
use Rattle.build.specs.Marks.{is_marked}

-- a stack holds 64, 16 or 1
pub sized : (name : List ℕ) (count : ℕ) → IsSized (record { count = count; size = stack_size_of name })
unfolding stack_size_of
sized name count = elim (cases_Bool (is_among (without_namespace name) stacked_by_sixteen)) [
  | inl h ↦ inr (inl (rw h refl))
  | inr h ↦ elim (cases_Bool (is_among (without_namespace name) unstacked)) [
    | inl k ↦ inr (inr (rw (h, k) refl))
    | inr k ↦ inl (rw (h, k) refl)
  ]
]

-- ---- those that count

pub from_index : (es : List CodeEntity) (i : ℕ) (e : CodeEntity) → ◌<◌ 0 i → i ≤ length es → e ≡ slice_index_or es (i - 1) e → plain_entities (drop (i - 1) es) ≡ plain_entity e ∷ plain_entities (drop i es)
from_index es i e h l is =
    let next : suc (i - 1) ≡ i = omega arith in
    ap plain_entities (drop-cons es (i - 1) e (omega arith)) ∙ ap (λ (k : ℕ). plain_entity (get_or es (i - 1) e) ∷ plain_entities (drop k es)) next ∙ ap (λ (g : CodeEntity). plain_entity g ∷ plain_entities (drop i es)) (sym is)

abbrev pub is_at : Pos → Entity → Bool
is_at p e = same_place p e.pos

pub counts : (e : Entity) (rest : List Entity) (places : List Pos) → is_marked places e.pos ≡ list_any (is_at e.pos) rest → true ≡ not (is_marked places e.pos) → last_ones same_entity_place (e ∷ rest) ≡ e ∷ last_ones same_entity_place rest
counts e rest places h new =
    let none : list_any (is_at e.pos) rest ≡ false = sym h ∙ opposite_of (is_marked places e.pos) new in
    rw none refl
  where
    opposite_of : (b : Bool) → true ≡ not b → b ≡ false
    opposite_of false e = refl
    opposite_of true e = absurd (cc)

pub counts_not : (e : Entity) (rest : List Entity) (places : List Pos) → is_marked places e.pos ≡ list_any (is_at e.pos) rest → false ≡ not (is_marked places e.pos) → last_ones same_entity_place (e ∷ rest) ≡ last_ones same_entity_place rest
counts_not e rest places h old =
    let some : list_any (is_at e.pos) rest ≡ true = sym h ∙ double (is_marked places e.pos) old in
    rw some refl
  where
    double : (b : Bool) → false ≡ not b → b ≡ true
    double true e = refl
    double false e = absurd (cc)

pub known_more : (e : Entity) (rest : List Entity) (places more : List Pos) → ((q : Pos) → is_marked places q ≡ list_any (is_at q) rest) → ((q : Pos) → is_marked more q ≡ (same_place q e.pos || is_marked places q)) →
    (q : Pos) → is_marked more q ≡ list_any (is_at q) (e ∷ rest)
known_more e rest places more h k q = k q ∙ ap (λ (b : Bool). same_place q e.pos || b) (h q)

pub one_more : (e : CodeEntity) (es : List CodeEntity) (counted : List Entity) → reverse (plain_entities es) ≡ counted → reverse (plain_entities (es ++ e ∷ [])) ≡ plain_entity e ∷ counted
one_more e es counted h = ap reverse (map-append plain_entity es (e ∷ [])) ∙ reverse-append (plain_entities es) (plain_entity e ∷ []) ∙ ap (λ (xs : List Entity). plain_entity e ∷ xs) h

pub turned : (es : List CodeEntity) → plain_entities (reverse es) ≡ reverse (plain_entities es)
turned es = map-reverse plain_entity es

-- ---- lists of compounds

pub trees_back : (ts : List PlainTree) → trees_in (trees_of ts) ≡ ts
trees_back [] = refl
trees_back (t ∷ ts) = ap (λ (us : List PlainTree). t ∷ us) (trees_back ts)

-- what is kept of one more, in front of the rest
pub kept_some : {A B : Type 0} (f : A → Option B) (done : List B) (x : A) (xs : List A) (y : B) → f x ≡ Some y → (done ++ y ∷ []) ++ filter_map f xs ≡ done ++ filter_map f (x ∷ xs)
kept_some f done x xs y h = append_assoc done (y ∷ []) (filter_map f xs) ∙ ap (λ ys. done ++ ys) (sym (here f x xs y h))
  where
    here : {A B : Type 0} (f : A → Option B) (x : A) (xs : List A) (y : B) → f x ≡ Some y → filter_map f (x ∷ xs) ≡ y ∷ filter_map f xs
    here f x xs y h = rw h refl

pub kept_none : {A B : Type 0} (f : A → Option B) (x : A) (xs : List A) → f x ≡ None → filter_map f xs ≡ filter_map f (x ∷ xs)
kept_none f x xs h = rw h refl

pub map_from : {A B : Type 0} (g : A → B) (xs : List A) (i : ℕ) (x : A) → i < length xs → x ≡ slice_index_or xs i x → map g (drop i xs) ≡ g x ∷ map g (drop (i + 1) xs)
map_from g xs i x h e =
    let next : suc i ≡ i + 1 = omega arith in
    ap (map g) (drop-cons xs i x h) ∙ ap (λ y. g y ∷ map g (drop (suc i) xs)) (sym e) ∙ ap (λ (k : ℕ). g x ∷ map g (drop k xs)) next

-- nothing is left
pub all_kept : {A B C : Type 0} (g : A → B) (f : B → Option C) (done whole : List C) (xs : List A) (i : ℕ) → length xs ≤ i → done ++ filter_map f (map g (drop i xs)) ≡ whole → done ≡ whole
all_kept g f done whole xs i h e = sym (append-nil done) ∙ ap (λ ys. done ++ filter_map f (map g ys)) (sym (drop_all i xs h)) ∙ e
