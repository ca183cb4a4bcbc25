-- What bytes spell a root, and which roots can be spelled.
use Rattle.std.specs.Prelude.{◌≡◌, ◌<◌, ◌≤◌, ◌*◌, ◌/◌, ◌^◌, ℕ, suc, ℤ, pos, ◌≤ℤ◌, List, [], ◌∷◌, ◌++◌, length, ⊤, FitsSigned, ◌⊎◌, if◌then◌else◌, ◌==◌, ◌||◌}
use Rattle.std.specs.List.{AllByRecursion}
use Rattle.std.specs.Int.{Width, w8, w16, w32, w64, to_be_bytes, cast_unsigned}
use Rattle.nbt.specs.Plain.{PlainTree, byte, short, int, long, float, double, bytes, text, ints, longs, empty_list, numbers, list, compound, PlainTrees, no_trees, tree, PlainFields, no_fields, field, PlainRoot}

-- a number, the highest byte first
unfoldable pub unsigned : Width → ℕ → List ℕ
unsigned w n = to_be_bytes w n

-- a number in two's complement, the highest byte first
unfoldable pub signed : Width → ℤ → List ℕ
signed w z = to_be_bytes w (cast_unsigned w z)

-- a name or a text: two bytes of length, and its bytes
unfoldable pub short_text : List ℕ → List ℕ
short_text bs = unsigned w16 (length bs) ++ bs

-- the numbers of an array, one after the other
abbrev pub all_signed : Width → List ℤ → List ℕ
all_signed w [] = []
all_signed w (z ∷ zs) = signed w z ++ all_signed w zs

-- the byte of a tree's type
abbrev pub type_of : PlainTree → ℕ
type_of (byte z) = 1
type_of (short z) = 2
type_of (int z) = 3
type_of (long z) = 4
type_of (float raw) = 5
type_of (double raw) = 6
type_of (bytes bs) = 7
type_of (text bs) = 8
type_of (empty_list z) = 9
type_of (numbers element raw) = 9
type_of (list element items) = 9
type_of (compound fs) = 10
type_of (ints zs) = 11
type_of (longs zs) = 12

-- how many bytes a payload of the types 1 to 6 has
abbrev pub number_size : ℕ → ℕ
number_size t = if t == 1 then 1 else if t == 2 then 2 else if (t == 4) || (t == 6) then 8 else 4

abbrev pub count : PlainTrees → ℕ
count no_trees = 0
count (tree t ts) = suc (count ts)

abbrev mutual
  pub payload : PlainTree → List ℕ
  payload (byte z) = signed w8 z
  payload (short z) = signed w16 z
  payload (int z) = signed w32 z
  payload (long z) = signed w64 z
  payload (float raw) = raw
  payload (double raw) = raw
  payload (bytes bs) = unsigned w32 (length bs) ++ bs
  payload (text bs) = short_text bs
  payload (ints zs) = unsigned w32 (length zs) ++ all_signed w32 zs
  payload (longs zs) = unsigned w32 (length zs) ++ all_signed w64 zs
  payload (empty_list z) = 0 ∷ signed w32 z
  payload (numbers element raw) = element ∷ (unsigned w32 (length raw / number_size element) ++ raw)
  payload (list element items) = element ∷ (unsigned w32 (count items) ++ item_payloads items)
  payload (compound fs) = field_spellings fs ++ 0 ∷ []

  pub item_payloads : PlainTrees → List ℕ
  item_payloads no_trees = []
  item_payloads (tree t ts) = payload t ++ item_payloads ts

  pub field_spellings : PlainFields → List ℕ
  field_spellings no_fields = []
  field_spellings (field name t fs) = (type_of t ∷ (short_text name ++ payload t)) ++ field_spellings fs

abbrev pub spelling : PlainRoot → List ℕ
spelling r = 10 ∷ (short_text r.name ++ payload (compound r.fields))

-- Every one of these numbers is a byte.
abbrev pub AreBytes : List ℕ → Type 0
AreBytes bs = AllByRecursion (λ b. b < 256) bs

-- a name or a text
abbrev pub IsText : List ℕ → Type 0
IsText bs = (length bs < 2 ^ 16) × AreBytes bs

-- how deep compounds and lists may stand in one another
abbrev pub max_depth : ℕ
max_depth = 512

-- the types of a list and a compound
abbrev pub IsNest : ℕ → Type 0
IsNest t = (t ≡ 9) ⊎ (t ≡ 10)

-- A compound or a list at this depth may hold trees of this type: at the last depth no list and no compound.
abbrev pub MayHold : ℕ → ℕ → Type 0
MayHold depth t = IsNest t → depth < max_depth

abbrev mutual
  -- a tree that a compound or a list at this depth holds
  pub CanStand : ℕ → PlainTree → Type 0
  CanStand depth (byte z) = FitsSigned w8 z
  CanStand depth (short z) = FitsSigned w16 z
  CanStand depth (int z) = FitsSigned w32 z
  CanStand depth (long z) = FitsSigned w64 z
  CanStand depth (float raw) = (length raw ≡ 4) × AreBytes raw
  CanStand depth (double raw) = (length raw ≡ 8) × AreBytes raw
  CanStand depth (bytes bs) = (length bs < 2 ^ 31) × AreBytes bs
  CanStand depth (text bs) = IsText bs
  CanStand depth (ints zs) = (length zs < 2 ^ 31) × AllByRecursion (FitsSigned w32) zs
  CanStand depth (longs zs) = (length zs < 2 ^ 31) × AllByRecursion (FitsSigned w64) zs
  CanStand depth (empty_list z) = (depth < max_depth) × FitsSigned w32 z × (z ≤ℤ pos 0)
  CanStand depth (numbers element raw) = (depth < max_depth) × (1 ≤ element) × (element ≤ 6)
      × (n : ℕ) × (length raw ≡ n * number_size element) × (n < 2 ^ 31) × AreBytes raw
  CanStand depth (list element items) = (depth < max_depth) × (7 ≤ element) × (element ≤ 12) × MayHold (suc depth) element
      × (count items < 2 ^ 31) × ItemsCanStand (suc depth) element items
  CanStand depth (compound fs) = (depth < max_depth) × FieldsCanStand (suc depth) fs

  pub ItemsCanStand : ℕ → ℕ → PlainTrees → Type 0
  ItemsCanStand depth element no_trees = ⊤
  ItemsCanStand depth element (tree t ts) = (type_of t ≡ element) × CanStand depth t × ItemsCanStand depth element ts

  pub FieldsCanStand : ℕ → PlainFields → Type 0
  FieldsCanStand depth no_fields = ⊤
  FieldsCanStand depth (field name t fs) = IsText name × CanStand depth t × FieldsCanStand depth fs

-- The root has depth 1.
abbrev pub CanBeSpelled : PlainRoot → Type 0
CanBeSpelled r = IsText r.name × FieldsCanStand 1 r.fields

-- The bytes spell the root.
abbrev pub Spells : List ℕ → PlainRoot → Type 0
Spells bs r = CanBeSpelled r × (bs ≡ spelling r)
