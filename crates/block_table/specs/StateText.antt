-- The text of a block's state: a name, and properties in brackets.
use Rattle.std.specs.Prelude.{◌≡◌, ℕ, ◌==◌, if◌then◌else◌, List, [], ◌∷◌, map, filter, position, drop, length, Option, Some, None, unwrap_or, codes}
use Rattle.std.specs.Option.{option_map}
use Rattle.std.specs.List.{slice_split, starts_with}
use Rattle.std.specs.Str.{bytes_eq}

pub record Property : Type 0 where
  pub key : List ℕ
  pub value : List ℕ

pub record StateText : Type 0 where
  pub name : List ℕ
  pub properties : List Property

-- the parts of a text round each byte of this kind
abbrev pub parts : ℕ → List ℕ → List (List ℕ)
parts byte text = slice_split (λ b. b == byte) text

-- the value of each, where all have one
abbrev pub all_some : {A : Type 0} → List (Option A) → Option (List A)
all_some [] = Some []
all_some (None ∷ xs) = None
all_some (Some x ∷ xs) = option_map (λ ys. x ∷ ys) (all_some xs)

-- a key and a value of one or more bytes each
abbrev pub property_with : List (List ℕ) → Option Property
property_with ((k ∷ ks) ∷ ((v ∷ vs) ∷ [])) = Some (record { key = k ∷ ks; value = v ∷ vs })
property_with _ = None

-- `key=value`
abbrev pub property_of : List ℕ → Option Property
property_of text = property_with (parts 61 text)

-- what stands between commas: nothing in an empty text
abbrev pub pieces : List ℕ → List (List ℕ)
pieces [] = []
pieces (b ∷ bs) = parts 44 (b ∷ bs)

abbrev pub properties_of : List ℕ → Option (List Property)
properties_of text = all_some (map property_of (pieces text))

-- properties and a `]` that ends the text
abbrev pub closed : List (List ℕ) → Option (List Property)
closed (text ∷ ([] ∷ [])) = properties_of text
closed _ = None

-- a name, and what follows a `[`
abbrev pub state_with : List (List ℕ) → Option StateText
state_with (name ∷ []) = Some (record { name = name; properties = [] })
state_with (name ∷ (text ∷ [])) = option_map (λ ps. record { name = name; properties = ps }) (closed (parts 93 text))
state_with _ = None

abbrev pub state_of : List ℕ → Option StateText
state_of text = state_with (parts 91 text)

abbrev pub namespace : List ℕ
namespace = codes "minecraft:"

-- `minecraft:` may stand first
abbrev pub without_namespace : List ℕ → List ℕ
without_namespace text = if starts_with (λ a b. a == b) text namespace then drop (length namespace) text else text

-- the values of a key, in the order of the text
abbrev pub values_of : List ℕ → List Property → List (List ℕ)
values_of key ps = map (λ p. p.value) (filter (λ p. bytes_eq p.key key) ps)

abbrev pub place_in : List (List ℕ) → List ℕ → Option ℕ
place_in listed value = position (λ v. bytes_eq v value) listed

abbrev pub last_or : ℕ → List ℕ → ℕ
last_or n [] = n
last_or n (m ∷ ms) = last_or m ms

-- The place, in the list of a key's values, of the value that counts: of the last one in the text, and 0 where the text has none. None where the text has a value that isn't listed.
abbrev pub chosen : List ℕ → List (List ℕ) → List Property → Option ℕ
chosen key listed ps = option_map (last_or 0) (all_some (map (place_in listed) (values_of key ps)))

-- Below stand words of contracts that the form doesn't need.

-- the parts of what follows a byte, where it is there
abbrev pub parts_after : ℕ → Option (List ℕ) → List (List ℕ)
parts_after byte None = []
parts_after byte (Some text) = parts byte text

-- the properties of a text that has the form
unfoldable pub properties_in : List ℕ → List Property
properties_in text = unwrap_or (properties_of text) []

pub record IsFormed (text : List ℕ) : Type 0 where
  pub is : properties_of text ≡ Some (properties_in text)
