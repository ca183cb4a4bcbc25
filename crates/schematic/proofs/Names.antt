-- Names that are known, and the fields that count.
use Rattle.std.proofs.Common.{◌≡◌, ℕ, suc, ◌-◌, ◌<◌, ◌≤◌, List, [], ◌∷◌, ◌++◌, map, length, drop, reverse, Bool, true, false, refl, sym, ap, ◌∙◌, arith, inl, inr, Bor}
use Rattle.std.specs.Prelude.{not, ◌||◌, slice_index_or}
use Rattle.std.specs.List.{list_any}
use Rattle.std.specs.Str.{bytes_eq}
use Rattle.std.specs.Cmp.Lexicographic.{same_text, slice_cmp}
use Rattle.std.specs.declared.cmp.Ordering.{Ordering}
use Rattle.std.specs.declared.cmp.Ordering.TheVariants.{Less, Equal, Greater}
use Rattle.std.specs.Ordering.{nat_cmp, is_eq}
use Rattle.std.specs.BTreeMap.{is_at}
use Rattle.std.specs.BTreeSet.{insert_key}
use Rattle.std.proofs.lemmas.Map.Text.{is_eq-slice_cmp}
use Rattle.std.proofs.lemmas.Bool.{cases_Bool}
use Rattle.std.proofs.Math.Seq.{drop-cons}
use Rattle.std.proofs.Math.ListN.{get_or}
use Rattle.std.proofs.lemmas.List.{reverse-append, map-append}
use Rattle.indexmap.proofs.ReorderLemmas.{map-reverse}
use Rattle.nbt.specs.declared.trees.Field.{Field}
use Rattle.nbt.specs.Plain.{PlainField, plain_field, fields_of}
use Rattle.schematic.specs.Palette.{last_ones, same_name, pairs_of}
use Rattle.schematic.specs.Code.{plain_entries, has_name}

-- how names are compared
abbrev pub name_cmp : Bor (List ℕ) → Bor (List ℕ) → Ordering
name_cmp x y = slice_cmp nat_cmp x.now y.now

-- a name is one of the keys where some key compares equal
pub name_there : (keys : List (Bor (List ℕ))) (k : Bor (List ℕ)) → list_any (is_at (name_cmp k)) keys ≡ has_name keys k.now
name_there [] k = refl
name_there (x ∷ keys) k = rw (is_eq-slice_cmp k.now x.now, name_there keys k) refl

-- a name put among others, or known already
pub put_name : (keys : List (Bor (List ℕ))) (k : Bor (List ℕ)) (q : List ℕ) → has_name (insert_key name_cmp keys k) q ≡ (bytes_eq q k.now || has_name keys q)
put_name [] k q = refl
put_name (x ∷ keys) k q = by_order (put_name keys k q) (name_cmp k x) refl
  where
    twice : (b c : Bool) → (b || c) ≡ (b || (b || c))
    twice true c = refl
    twice false c = refl

    exchange : (a b c : Bool) → (a || (b || c)) ≡ (b || (a || c))
    exchange true true c = refl
    exchange true false c = refl
    exchange false b c = refl

    by_order : has_name (insert_key name_cmp keys k) q ≡ (bytes_eq q k.now || has_name keys q) → (order : Ordering) → name_cmp k x ≡ order → has_name (insert_key name_cmp (x ∷ keys) k) q ≡ (bytes_eq q k.now || has_name (x ∷ keys) q)
    by_order rest Less e = rw e refl
    by_order rest Equal e =
        let one : k.now ≡ x.now = same_text k.now x.now (sym (sym (is_eq-slice_cmp k.now x.now) ∙ ap is_eq e)) in
        rw (e, one) (twice (bytes_eq q x.now) (has_name keys q))
    by_order rest Greater e = rw (e, rest) (exchange (bytes_eq q x.now) (bytes_eq q k.now) (has_name keys q))

pub pairs-fields : (ps : List PlainField) → pairs_of (fields_of ps) ≡ ps
pairs-fields [] = refl
pairs-fields (p ∷ ps) = ap (λ (qs : List PlainField). p ∷ qs) (pairs-fields ps)

-- the fields from an index on, in plain form
pub from_index : (fs : List Field) (i : ℕ) (f : Field) → ◌<◌ 0 i → i ≤ length fs → f ≡ slice_index_or fs (i - 1) f → map plain_field (drop (i - 1) fs) ≡ plain_field f ∷ map plain_field (drop i fs)
from_index fs i f h l e =
    let next : suc (i - 1) ≡ i = omega arith in
    ap (map plain_field) (drop-cons fs (i - 1) f (omega arith)) ∙ ap (λ (k : ℕ). plain_field (get_or fs (i - 1) f) ∷ map plain_field (drop k fs)) next ∙ ap (λ (g : Field). plain_field g ∷ map plain_field (drop i fs)) (sym e)

-- the field counts, since none behind it has its name
pub counts : (f : PlainField) (rest : List PlainField) (known : List (Bor (List ℕ))) (name : List ℕ) → f.0 ≡ name → has_name known name ≡ list_any (λ (g : PlainField). bytes_eq name g.0) rest →
    true ≡ not (has_name known name) → last_ones same_name (f ∷ rest) ≡ f ∷ last_ones same_name rest
counts f rest known name e h new =
    let none : list_any (same_name f) rest ≡ false = ap (λ (n : List ℕ). list_any (λ (g : PlainField). bytes_eq n g.0) rest) e ∙ sym h ∙ opposite_of (has_name known name) new in
    rw none refl
  where
    opposite_of : (b : Bool) → true ≡ not b → b ≡ false
    opposite_of false e = refl
    opposite_of true e = absurd (cc)

pub counts_not : (f : PlainField) (rest : List PlainField) (known : List (Bor (List ℕ))) (name : List ℕ) → f.0 ≡ name → has_name known name ≡ list_any (λ (g : PlainField). bytes_eq name g.0) rest →
    false ≡ not (has_name known name) → last_ones same_name (f ∷ rest) ≡ last_ones same_name rest
counts_not f rest known name e h old =
    let some : list_any (same_name f) rest ≡ true = ap (λ (n : List ℕ). list_any (λ (g : PlainField). bytes_eq n g.0) rest) e ∙ sym h ∙ double (has_name known name) old in
    rw some refl
  where
    double : (b : Bool) → false ≡ not b → b ≡ true
    double true e = refl
    double false e = absurd (cc)

-- one more name is known, and one more field stands behind
pub known_more : (f : PlainField) (rest : List PlainField) (known more : List (Bor (List ℕ))) (name : List ℕ) → f.0 ≡ name →
    ((q : List ℕ) → has_name known q ≡ list_any (λ (g : PlainField). bytes_eq q g.0) rest) → ((q : List ℕ) → has_name more q ≡ (bytes_eq q name || has_name known q)) →
    (q : List ℕ) → has_name more q ≡ list_any (λ (g : PlainField). bytes_eq q g.0) (f ∷ rest)
known_more f rest known more name e h k q = k q ∙ ap (λ (b : Bool). bytes_eq q name || b) (h q) ∙ ap (λ (n : List ℕ). bytes_eq q n || list_any (λ (g : PlainField). bytes_eq q g.0) rest) (sym e)

-- one more entry, where they are kept from the last one on
pub one_more : (f : Bor Field) (es : List (Bor Field)) (counted : List PlainField) → reverse (plain_entries es) ≡ counted → reverse (plain_entries (es ++ f ∷ [])) ≡ plain_field f.now ∷ counted
one_more f es counted h = ap reverse (map-append (λ (g : Bor Field). plain_field g.now) es (f ∷ [])) ∙ reverse-append (plain_entries es) (plain_field f.now ∷ []) ∙ ap (λ (ps : List PlainField). plain_field f.now ∷ ps) h

pub turned : (es : List (Bor Field)) → plain_entries (reverse es) ≡ reverse (plain_entries es)
turned es = map-reverse (λ (g : Bor Field). plain_field g.now) es
