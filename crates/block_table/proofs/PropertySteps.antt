-- The properties of a text, one after another.
use Rattle.std.proofs.Common.{◌≡◌, ℕ, List, [], ◌∷◌, map, length, Option, Some, None, Bool, true, false, not, Bor, refl, arith, inl, inr}
use Rattle.std.specs.Prelude.{◌==◌, position, is_some, option_and_then, unwrap_or}
use Rattle.std.specs.Option.{option_map, option_copied}
use Rattle.std.specs.List.{prefix_len}
use Rattle.std.specs.Str.{bytes_eq}
use Rattle.std.proofs.lemmas.List.{length-map}
use Rattle.std.proofs.lemmas.Bool.{cases_Bool}
use Rattle.std.proofs.lemmas.Bool.Decides.{nat_tests}
use Rattle.block_table.specs.StateText.{Property, parts, parts_after, all_some, property_with, property_of, pieces, properties_of, closed, state_of, values_of, place_in, last_or, chosen, properties_in, IsFormed}
use Rattle.block_table.proofs.PartSteps.{parts-some}

not_empty : (b : ℕ) (bs : List ℕ) → (length (b ∷ bs) == 0) ≡ true → ⊥
not_empty b bs e = grind (arith, nat_tests, e)

with_three : (a b c : List ℕ) (more : List (List ℕ)) → property_with (a ∷ (b ∷ (c ∷ more))) ≡ None
with_three [] b c more = refl
with_three (k ∷ ks) [] c more = refl
with_three (k ∷ ks) (v ∷ vs) c more = refl

property_three : (text key value rest : List ℕ) → parts 61 text ≡ key ∷ (value ∷ parts 61 rest) → property_of text ≡ None
property_three text key value rest h = let more = parts-some 61 rest in rw (h, more.1.1) (with_three key value more.0 more.1.0)

-- nor are three and more
pub property-three : (text key value : List ℕ) (o : Option (Bor (List ℕ))) → is_some o ≡ true → parts 61 text ≡ key ∷ (value ∷ parts_after 61 (option_copied o)) → property_of text ≡ None
property-three text key value None e h = absurd (cc)
property-three text key value (Some rest) e h = property_three text key value rest.now h

-- nothing more
pub none_after : (byte : ℕ) (o : Option (Bor (List ℕ))) → is_some o ≡ false → parts_after byte (option_copied o) ≡ []
none_after byte None e = refl
none_after byte (Some rest) e = absurd (cc)

pub property-keyless : (text key value : List ℕ) → (length key == 0) ≡ true → parts 61 text ≡ key ∷ (value ∷ []) → property_of text ≡ None
property-keyless text [] value e h = rw h refl
property-keyless text (k ∷ ks) value e h = absurd (not_empty k ks e)

pub property-valueless : (text key value : List ℕ) → (length value == 0) ≡ true → parts 61 text ≡ key ∷ (value ∷ []) → property_of text ≡ None
property-valueless text [] [] e h = rw h refl
property-valueless text (k ∷ ks) [] e h = rw h refl
property-valueless text key (v ∷ vs) e h = absurd (not_empty v vs e)

-- the place of the value that counts, where a place counts that stands before these properties
abbrev pub chosen_after : ℕ → List ℕ → List (List ℕ) → List Property → Option ℕ
chosen_after n key listed ps = option_map (last_or n) (all_some (map (place_in listed) (values_of key ps)))

-- the same of the texts of properties
abbrev pub chosen_from : ℕ → List ℕ → List (List ℕ) → List (List ℕ) → Option ℕ
chosen_from n key listed texts = option_and_then (chosen_after n key listed) (all_some (map property_of texts))

unlisted : (n : ℕ) (key : List ℕ) (listed : List (List ℕ)) (p : Property) (o : Option (List Property)) → bytes_eq p.key key ≡ true → place_in listed p.value ≡ None →
    option_and_then (chosen_after n key listed) (option_map (λ ps. p ∷ ps) o) ≡ None
unlisted n key listed p None e f = refl
unlisted n key listed p (Some ps) e f = rw (e, f) refl

pub chosen-unlisted : (n : ℕ) (key : List ℕ) (listed : List (List ℕ)) (text : List ℕ) (texts : List (List ℕ)) (p : Property) → property_of text ≡ Some p → bytes_eq p.key key ≡ true → place_in listed p.value ≡ None →
    chosen_from n key listed (text ∷ texts) ≡ None
chosen-unlisted n key listed text texts p h e f = rw h (unlisted n key listed p (all_some (map property_of texts)) e f)

last_of : (n i : ℕ) (o : Option (List ℕ)) → option_map (last_or n) (option_map (λ ys. i ∷ ys) o) ≡ option_map (last_or i) o
last_of n i None = refl
last_of n i (Some is) = refl

listed_one : (n : ℕ) (key : List ℕ) (listed : List (List ℕ)) (p : Property) (i : ℕ) (o : Option (List Property)) → bytes_eq p.key key ≡ true → place_in listed p.value ≡ Some i →
    option_and_then (chosen_after n key listed) (option_map (λ ps. p ∷ ps) o) ≡ option_and_then (chosen_after i key listed) o
listed_one n key listed p i None e f = refl
listed_one n key listed p i (Some ps) e f = rw (e, f) (last_of n i (all_some (map (place_in listed) (values_of key ps))))

pub chosen-listed : (n : ℕ) (key : List ℕ) (listed : List (List ℕ)) (text : List ℕ) (texts : List (List ℕ)) (p : Property) (i : ℕ) → property_of text ≡ Some p → bytes_eq p.key key ≡ true → place_in listed p.value ≡ Some i →
    chosen_from n key listed (text ∷ texts) ≡ chosen_from i key listed texts
chosen-listed n key listed text texts p i h e f = rw h (listed_one n key listed p i (all_some (map property_of texts)) e f)

-- where the text has the form
pub chosen-formed : (key : List ℕ) (listed : List (List ℕ)) (text : List ℕ) → IsFormed text → chosen_from 0 key listed (pieces text) ≡ chosen key listed (properties_in text)
chosen-formed key listed text h = rw h.is refl

formed_by : (o : Option (List Property)) → is_some o ≡ true → o ≡ Some (unwrap_or o [])
formed_by None h = absurd (cc)
formed_by (Some ps) h = refl

pub formed-is : (text : List ℕ) → is_some (properties_of text) ≡ true → IsFormed text
unfolding properties_in
formed-is text h = record { is = formed_by (properties_of text) h }

prefix_of_map : {A B : Type 0} (p : B → Bool) (f : A → B) (xs : List A) → prefix_len p (map f xs) ≡ prefix_len (λ x. p (f x)) xs
prefix_of_map p f [] = refl
prefix_of_map p f (x ∷ xs) = rw (prefix_of_map p f xs) refl

-- the place of a value, in texts behind references
pub place-of_texts : (listed : List (Bor (List ℕ))) (value : List ℕ) → place_in (map (λ v. v.now) listed) value ≡ position (λ v. bytes_eq v.now value) listed
place-of_texts listed value = rw (prefix_of_map (λ v. not (bytes_eq v value)) (λ v. v.now) listed, length-map listed (λ v. v.now)) refl

pub formed-none : IsFormed []
unfolding properties_in
formed-none = record { is = refl }

pub state-plain : (text name : List ℕ) → parts 91 text ≡ name ∷ [] → Some (record { name = name; properties = properties_in [] }) ≡ state_of text
unfolding properties_in
state-plain text name h = rw h refl

state_twice : (text name bracketed more : List ℕ) → parts 91 text ≡ name ∷ (bracketed ∷ parts 91 more) → None ≡ state_of text
state_twice text name bracketed more h = let m = parts-some 91 more in rw (h, m.1.1) refl

pub state-twice : (text name bracketed : List ℕ) (o : Option (Bor (List ℕ))) → is_some o ≡ true → parts 91 text ≡ name ∷ (bracketed ∷ parts_after 91 (option_copied o)) → None ≡ state_of text
state-twice text name bracketed None e h = absurd (cc)
state-twice text name bracketed (Some rest) e h = state_twice text name bracketed rest.now h

pub state-bracketed : (text name bracketed properties end : List ℕ) → parts 91 text ≡ name ∷ (bracketed ∷ []) → parts 93 bracketed ≡ properties ∷ parts 93 end → (length end == 0) ≡ true → IsFormed properties →
    Some (record { name = name; properties = properties_in properties }) ≡ state_of text
state-bracketed text name bracketed properties [] h k e f = rw (h, k, f.is) refl
state-bracketed text name bracketed properties (b ∷ bs) h k e f = absurd (not_empty b bs e)

none_of : (o : Option (List Property)) → is_some o ≡ false → o ≡ None
none_of None h = refl
none_of (Some ps) h = absurd (cc)

pub state-unformed : (text name bracketed properties end : List ℕ) → parts 91 text ≡ name ∷ (bracketed ∷ []) → parts 93 bracketed ≡ properties ∷ parts 93 end → (length end == 0) ≡ true → is_some (properties_of properties) ≡ false →
    None ≡ state_of text
state-unformed text name bracketed properties [] h k e f = rw (h, k, none_of (properties_of properties) f) refl
state-unformed text name bracketed properties (b ∷ bs) h k e f = absurd (not_empty b bs e)

unended : (properties : List ℕ) (b : ℕ) (bs : List ℕ) → closed (properties ∷ parts 93 (b ∷ bs)) ≡ None
unended properties b bs = elim (cases_Bool (b == 93)) [
  | inl e ↦ (let m = parts-some 93 bs in rw (e, m.1.1) refl)
  | inr e ↦ (let m = parts-some 93 bs in rw (e, m.1.1) refl)
]

pub state-unended : (text name bracketed properties end : List ℕ) → parts 91 text ≡ name ∷ (bracketed ∷ []) → parts 93 bracketed ≡ properties ∷ parts 93 end → (length end == 0) ≡ false → None ≡ state_of text
state-unended text name bracketed properties [] h k e = absurd (cc)
state-unended text name bracketed properties (b ∷ bs) h k e = rw (h, k, unended properties b bs) refl
