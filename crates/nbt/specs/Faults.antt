-- The first fault of bytes that spell no root: the bytes before its place begin the spelling of some root, and the item at the place is wrong.
use Rattle.std.specs.Prelude.{◌≡◌, ◌≢◌, ◌<◌, ◌≤◌, ◌+◌, ◌^◌, ℕ, zero, suc, List, [], ◌∷◌, ◌++◌, length, ⊤, ◌⊎◌}
use Rattle.std.specs.Int.{w32}
use Rattle.nbt.specs.Plain.{PlainTree, PlainField, PlainRoot, trees_of, fields_of}
use Rattle.nbt.specs.Spelling.{unsigned, short_text, item_payloads, field_spellings, spelling, max_depth, IsText, IsNest, MayHold, ItemsCanStand, FieldsCanStand, CanBeSpelled}
use Rattle.nbt.specs.declared.refusals.NbtRefusal.{NbtRefusal}
use Rattle.nbt.specs.declared.refusals.NbtRefusal.TheVariants.{At, NoMemory}
use Rattle.nbt.specs.declared.refusals.NbtKind.{NbtKind}
use Rattle.nbt.specs.declared.refusals.NbtKind.TheVariants.{Truncated, BadType, BadLength, TooDeep, Trailing, RootNotCompound}

-- A compound or a list that is begun and not yet closed, with what it holds so far. Its name is empty where a list holds it.
-- A list knows its element type and how many items are still to come.
pub data Begun : Type 0 where
  begun_compound : (name : List ℕ) (held : List PlainField) → Begun
  begun_list : (name : List ℕ) (element left : ℕ) (held : List PlainTree) → Begun

-- What is begun is a list, inmost first: the last one is the root, and its length is the depth of the inmost.

abbrev pub begun_type : Begun → ℕ
begun_type (begun_compound name held) = 10
begun_type (begun_list name element left held) = 9

abbrev pub begun_name : Begun → List ℕ
begun_name (begun_compound name held) = name
begun_name (begun_list name element left held) = name

-- the payload so far
abbrev pub begun_payload : Begun → List ℕ
begun_payload (begun_compound name held) = field_spellings (fields_of held)
begun_payload (begun_list name element left held) = element ∷ (unsigned w32 (length held + left) ++ item_payloads (trees_of held))

-- the type byte and the name before a payload, which an item of a list doesn't have
abbrev pub heading : List Begun → ℕ → List ℕ → List ℕ
heading [] t name = t ∷ short_text name
heading (begun_compound _ _ ∷ outer) t name = t ∷ short_text name
heading (begun_list _ _ _ _ ∷ outer) t name = []

-- the bytes so far
abbrev pub beginning : List Begun → List ℕ
beginning [] = []
beginning (b ∷ outer) = beginning outer ++ (heading outer (begun_type b) (begun_name b) ++ begun_payload b)

-- A tree of this type, under this name, may come next.
abbrev pub MayCome : List Begun → ℕ → List ℕ → Type 0
MayCome [] t name = (t ≡ 10) × IsText name
MayCome (begun_compound _ _ ∷ outer) t name = (1 ≤ t) × (t ≤ 12) × MayHold (suc (length outer)) t × IsText name
MayCome (begun_list _ element left _ ∷ outer) t name = (t ≡ element) × (0 < left) × (name ≡ [])

-- What stands in a compound or a list of this depth so far may stand there.
abbrev pub IsRightSoFar : ℕ → Begun → Type 0
IsRightSoFar depth (begun_compound name held) = FieldsCanStand depth (fields_of held)
IsRightSoFar depth (begun_list name element left held) = (7 ≤ element) × (element ≤ 12) × MayHold depth element
    × (length held + left < 2 ^ 31) × ItemsCanStand depth element (trees_of held)

abbrev pub IsBegun : List Begun → Type 0
IsBegun [] = ⊤
IsBegun (b ∷ outer) = IsBegun outer × (length outer < max_depth) × MayCome outer (begun_type b) (begun_name b) × IsRightSoFar (suc (length outer)) b

-- The items that can be wrong. A type byte belongs to a compound or a list of some depth.
pub data Item : Type 0 where
  field_type : (depth : ℕ) → Item
  element_type : (depth : ℕ) → Item
  array_length : Item
  list_length : (element : ℕ) → Item

abbrev pub IsArray : ℕ → Type 0
IsArray t = (t ≡ 7) ⊎ ((t ≡ 11) ⊎ (t ≡ 12))

-- In a payload of this type, of a tree that something of this depth holds, the item comes behind these bytes.
abbrev pub IsInPayload : ℕ → ℕ → Item → List ℕ → Type 0
IsInPayload depth t (field_type d) before = ⊥
IsInPayload depth t (element_type d) before = (t ≡ 9) × (d ≡ suc depth) × (before ≡ [])
IsInPayload depth t array_length before = IsArray t × (before ≡ [])
IsInPayload depth t (list_length element) before = (t ≡ 9) × (element ≤ 12) × MayHold (suc depth) element × (before ≡ element ∷ [])

abbrev pub IsFieldType : List Begun → Item → Type 0
IsFieldType (begun_compound _ _ ∷ outer) (field_type depth) = depth ≡ suc (length outer)
IsFieldType _ _ = ⊥

-- The item comes behind what is begun and these bytes.
abbrev pub Comes : List Begun → Item → List ℕ → Type 0
Comes begun item before =
    (IsFieldType begun item × (before ≡ []))
    ⊎ ((t : ℕ) × (name : List ℕ) × (within : List ℕ) × MayCome begun t name × IsInPayload (length begun) t item within
    × (before ≡ heading begun t name ++ within))

abbrev pub IsAboveTwelve : Item → ℕ → Type 0
IsAboveTwelve (field_type depth) t = 12 < t
IsAboveTwelve (element_type depth) t = 12 < t
IsAboveTwelve _ t = ⊥

abbrev pub IsTooDeep : Item → ℕ → Type 0
IsTooDeep (field_type depth) t = IsNest t × (max_depth ≤ depth)
IsTooDeep (element_type depth) t = IsNest t × (max_depth ≤ depth)
IsTooDeep _ t = ⊥

-- The number in the four bytes of a length isn't allowed: it is below zero, or above zero in a list of type End.
abbrev pub IsWrongLength : Item → ℕ → Type 0
IsWrongLength array_length n = 2 ^ 31 ≤ n
IsWrongLength (list_length zero) n = (0 < n) × (n < 2 ^ 31)
IsWrongLength (list_length (suc element)) n = 2 ^ 31 ≤ n
IsWrongLength _ n = ⊥

abbrev pub IsLength : Item → Type 0
IsLength array_length = ⊤
IsLength (list_length element) = ⊤
IsLength _ = ⊥

-- The item that these bytes start with is wrong.
abbrev pub IsWrong : NbtKind → Item → List ℕ → Type 0
IsWrong BadType item rest = (t : ℕ) × (more : List ℕ) × (rest ≡ t ∷ more) × IsAboveTwelve item t
IsWrong TooDeep item rest = (t : ℕ) × (more : List ℕ) × (rest ≡ t ∷ more) × IsTooDeep item t
IsWrong BadLength item rest = (n : ℕ) × (more : List ℕ) × (rest ≡ unsigned w32 n ++ more) × (n < 2 ^ 32) × IsWrongLength item n
IsWrong _ item rest = ⊥

-- Some root's spelling begins with these bytes.
abbrev pub Begins : List ℕ → Type 0
Begins bs = (r : PlainRoot) × (more : List ℕ) × CanBeSpelled r × (spelling r ≡ bs ++ more)

-- Some root's spelling begins with these bytes and has more.
abbrev pub IsCut : List ℕ → Type 0
IsCut bs = (r : PlainRoot) × (b : ℕ) × (more : List ℕ) × CanBeSpelled r × (spelling r ≡ bs ++ (b ∷ more))

-- The bytes end in one of the first three bytes of a length, or before them.
abbrev pub IsCutLength : List ℕ → Type 0
IsCutLength bs = (begun : List Begun) × (item : Item) × (before : List ℕ) × (cut : List ℕ) × IsBegun begun × Comes begun item before
    × IsLength item × (length cut < 4) × (bs ≡ beginning begun ++ (before ++ cut))

-- The item at the place is wrong, and what comes before it is not.
abbrev pub IsWrongAt : NbtKind → ℕ → List ℕ → Type 0
IsWrongAt kind place bs = (begun : List Begun) × (item : Item) × (before : List ℕ) × (rest : List ℕ) × IsBegun begun × Comes begun item before
    × IsWrong kind item rest × (place ≡ length (beginning begun ++ before)) × (bs ≡ beginning begun ++ (before ++ rest))

abbrev pub IsFirstFault : List ℕ → ℕ → NbtKind → Type 0
IsFirstFault bs place RootNotCompound = (place ≡ 0) × (b : ℕ) × (more : List ℕ) × (bs ≡ b ∷ more) × (b ≢ 10)
IsFirstFault bs place Trailing = (r : PlainRoot) × (b : ℕ) × (more : List ℕ) × CanBeSpelled r × (bs ≡ spelling r ++ (b ∷ more)) × (place ≡ length (spelling r))
IsFirstFault bs place Truncated = (place ≡ length bs) × (IsCut bs ⊎ IsCutLength bs)
IsFirstFault bs place kind = IsWrongAt kind place bs

-- The refusal names the first fault. Want of memory may come with any bytes.
abbrev pub IsRefusal : List ℕ → NbtRefusal → Type 0
IsRefusal bs (At place kind) = IsFirstFault bs place kind
IsRefusal bs NoMemory = ⊤
