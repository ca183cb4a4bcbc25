-- The value that counts is one of those listed.
use Rattle.std.proofs.Common.{◌≡◌, ℕ, ◌<◌, List, [], ◌∷◌, map, length, Bor, Option, Some, None, refl, arith, sym, ◌∙◌, inl, inr}
use Rattle.std.specs.Prelude.{nat_lt}
use Rattle.std.specs.Option.{option_map}
use Rattle.std.specs.List.{position_or_len}
use Rattle.std.specs.Str.{bytes_eq}
use Rattle.std.proofs.lemmas.List.{length-map}
use Rattle.std.proofs.lemmas.Bool.{cases_Bool}
use Rattle.std.proofs.lemmas.Bool.Decides.{nat_tests}
use Rattle.block_table.specs.StateText.{Property, all_some, values_of, place_in, last_or, chosen}

pub place_in-below : (listed : List (List ℕ)) (value : List ℕ) (n : ℕ) → place_in listed value ≡ Some n → n < length listed
place_in-below listed value n h = elim (cases_Bool (nat_lt (position_or_len (λ v. bytes_eq v value) listed) (length listed))) [
  | inl e ↦ (let k : Some (position_or_len (λ v. bytes_eq v value) listed) ≡ Some n = rw e at h in
      let same : position_or_len (λ v. bytes_eq v value) listed ≡ n = cc in
      let below : position_or_len (λ v. bytes_eq v value) listed < length listed = grind (arith, nat_tests, e) in
      rw same at below)
  | inr e ↦ absurd (let k : ◌≡◌ {A = Option ℕ} None (Some n) = rw e at h in cc)
]

first_or : (n m : ℕ) (o : Option (List ℕ)) → option_map (last_or m) (option_map (λ is. n ∷ is) o) ≡ option_map (last_or n) o
first_or n m None = refl
first_or n m (Some is) = refl

value_below : (listed vs : List (List ℕ)) (v : List ℕ) (o : Option ℕ) (m n : ℕ) → place_in listed v ≡ o →
    ((i : ℕ) → i < length listed → option_map (last_or i) (all_some (map (place_in listed) vs)) ≡ Some n → n < length listed) →
    option_map (last_or m) (all_some (o ∷ map (place_in listed) vs)) ≡ Some n → n < length listed
value_below listed vs v None m n e rest h = absurd (let k : ◌≡◌ {A = Option ℕ} None (Some n) = h in cc)
value_below listed vs v (Some i) m n e rest h = rest i (place_in-below listed v i e) (sym (first_or i m (all_some (map (place_in listed) vs))) ∙ h)

all_below : (listed vs : List (List ℕ)) (m n : ℕ) → m < length listed → option_map (last_or m) (all_some (map (place_in listed) vs)) ≡ Some n → n < length listed
all_below listed [] m n small h = let k : Some m ≡ Some n = h in let same : m ≡ n = cc in rw same at small
all_below listed (v ∷ vs) m n small h = value_below listed vs v (place_in listed v) m n refl (λ i below rest. all_below listed vs i n below rest) h

pub chosen-below : (key : List ℕ) (listed : List (List ℕ)) (ps : List Property) (n : ℕ) → 0 < length listed → chosen key listed ps ≡ Some n → n < length listed
chosen-below key listed ps n some h = all_below listed (values_of key ps) 0 n some h

-- where the texts stand behind references
pub chosen-below_texts : (key : List ℕ) (listed : List (Bor (List ℕ))) (ps : List Property) (n : ℕ) → 0 < length listed → chosen key (map (λ v. v.now) listed) ps ≡ Some n → n < length listed
chosen-below_texts key listed ps n some h = rw length-map at (chosen-below key (map (λ v. v.now) listed) ps n (rw length-map some) h)
