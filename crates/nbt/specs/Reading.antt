-- What the parts of the reader answer, in the words of the spelling and of the faults.
use Rattle.std.specs.Prelude.{◌≡◌, ◌<◌, ◌≤◌, ◌+◌, ◌-◌, ◌*◌, ◌^◌, ℕ, suc, List, [], ◌∷◌, ◌++◌, length, map, reverse, ⊤, ◌⊎◌}
use Rattle.std.specs.Int.{w32}
use Rattle.nbt.specs.Plain.{PlainTree, PlainRoot, list, compound, trees_of, fields_of, plain_tree, plain_field, plain_root}
use Rattle.nbt.specs.Spelling.{unsigned, short_text, type_of, payload, max_depth, IsText, IsNest, CanStand, CanBeSpelled, spelling}
use Rattle.nbt.specs.Faults.{Begun, begun_compound, begun_list, begun_type, begun_name, begun_payload, heading, beginning, IsBegun, IsFirstFault, MayCome, IsRightSoFar, IsArray, Item, IsInPayload, Comes, IsWrong, IsLength}
use Rattle.nbt.specs.declared.refusals.NbtKind.{NbtKind}
use Rattle.nbt.specs.declared.refusals.NbtKind.TheVariants.{Truncated, BadType, BadLength, TooDeep}
use Rattle.nbt.specs.declared.open.Open.{Open}
use Rattle.nbt.specs.declared.open.Open.TheVariants.{Compound, List as ListOf}
use Rattle.nbt.specs.declared.open.Piece.{Piece}
use Rattle.nbt.specs.declared.open.Piece.TheVariants.{Tree, Open as Opened, End}
use Rattle.nbt.specs.declared.open.Step.{Step}
use Rattle.nbt.specs.declared.open.Step.TheVariants.{More, Whole}
use Rattle.nbt.specs.declared.open.Stop.{Stop}
use Rattle.nbt.specs.declared.open.Stop.TheVariants.{At, NoMemory}

-- an open compound or list in plain form
abbrev pub plain_open : Open → Begun
plain_open (Compound name fields) = begun_compound name.items.items (map plain_field fields.items)
plain_open (ListOf name element left items) = begun_list name.items.items element left (map plain_tree items.items)

-- what is open, inmost first
abbrev pub stack_of : Open → List Open → List Begun
stack_of top outer = plain_open top ∷ map plain_open (reverse outer)

-- A text of two bytes of length goes on behind these bytes.
abbrev pub IsCutText : List ℕ → Type 0
IsCutText bs = (t : List ℕ) × (b : ℕ) × (more : List ℕ) × IsText t × (short_text t ≡ bs ++ (b ∷ more))

-- The bytes start with the payload of a tree of this type that may stand in anything.
abbrev pub IsLeaf : ℕ → List ℕ → PlainTree → List ℕ → Type 0
IsLeaf t bs leaf rest = (type_of leaf ≡ t) × ((depth : ℕ) → CanStand depth leaf) × (bs ≡ payload leaf ++ rest)

-- The bytes start with the payload of a tree of this type that may stand in anything above the last depth.
abbrev pub IsPayload : ℕ → List ℕ → PlainTree → List ℕ → Type 0
IsPayload t bs one rest = (type_of one ≡ t) × ((depth : ℕ) → depth < max_depth → CanStand depth one) × (bs ≡ payload one ++ rest)

-- A payload of this type goes on behind these bytes.
abbrev pub IsCutPayload : ℕ → ℕ → List ℕ → Type 0
IsCutPayload depth t bs = (one : PlainTree) × (b : ℕ) × (more : List ℕ) × (type_of one ≡ t) × CanStand depth one × (payload one ≡ bs ++ (b ∷ more))

-- The bytes start with a length that isn't allowed.
abbrev pub HasBadLength : List ℕ → Type 0
HasBadLength bs = (n : ℕ) × (more : List ℕ) × (bs ≡ unsigned w32 n ++ more) × (n < 2 ^ 32) × (2 ^ 31 ≤ n)

-- The bytes start with a length that is cut or not allowed.
abbrev pub StopsAtLength : List ℕ → Stop → Type 0
StopsAtLength bs (At left Truncated) = (left ≡ 0) × (length bs < 4)
StopsAtLength bs (At left BadLength) = (left ≡ length bs) × HasBadLength bs
StopsAtLength bs NoMemory = ⊤
StopsAtLength bs _ = ⊥

-- The bytes start with a length, and end within as many elements of this size.
abbrev pub LacksElements : ℕ → List ℕ → Type 0
LacksElements size bs = (n : ℕ) × (rest : List ℕ) × (bs ≡ unsigned w32 n ++ rest) × (n < 2 ^ 31) × (length rest < n * size)

abbrev pub StopsAtElements : ℕ → List ℕ → Stop → Type 0
StopsAtElements size bs (At left Truncated) = (left ≡ 0) × ((length bs < 4) ⊎ LacksElements size bs)
StopsAtElements size bs (At left BadLength) = (left ≡ length bs) × HasBadLength bs
StopsAtElements size bs NoMemory = ⊤
StopsAtElements size bs _ = ⊥

-- The bytes start with the length of a list of type End that is cut or above zero.
abbrev pub StopsAtEmpty : List ℕ → Stop → Type 0
StopsAtEmpty bs (At left Truncated) = (left ≡ 0) × (length bs < 4)
StopsAtEmpty bs (At left BadLength) = (left ≡ length bs) × (n : ℕ) × (more : List ℕ) × (bs ≡ unsigned w32 n ++ more) × (0 < n) × (n < 2 ^ 31)
StopsAtEmpty bs _ = ⊥

-- The bytes start with a type byte that is missing, above 12, or not allowed in something of this depth.
abbrev pub StopsAtType : ℕ → List ℕ → Stop → Type 0
StopsAtType depth bs (At left Truncated) = (left ≡ 0) × (bs ≡ [])
StopsAtType depth bs (At left BadType) = (left ≡ length bs) × (t : ℕ) × (more : List ℕ) × (bs ≡ t ∷ more) × (12 < t)
StopsAtType depth bs (At left TooDeep) = (left ≡ length bs) × (t : ℕ) × (more : List ℕ) × (bs ≡ t ∷ more) × IsNest t × (max_depth ≤ depth)
StopsAtType depth bs _ = ⊥

-- A leaf's payload of this type goes on behind these bytes.
abbrev pub IsCutLeaf : ℕ → List ℕ → Type 0
IsCutLeaf t bs = (leaf : PlainTree) × (b : ℕ) × (more : List ℕ) × (type_of leaf ≡ t) × ((depth : ℕ) → CanStand depth leaf) × (payload leaf ≡ bs ++ (b ∷ more))

-- The bytes are a leaf's payload of this type up to the fault.
abbrev pub StopsInLeaf : ℕ → List ℕ → Stop → Type 0
StopsInLeaf t bs (At left Truncated) = (left ≡ 0) × (IsCutLeaf t bs ⊎ (IsArray t × (length bs < 4)))
StopsInLeaf t bs (At left BadLength) = (left ≡ length bs) × IsArray t × HasBadLength bs
StopsInLeaf t bs NoMemory = ⊤
StopsInLeaf t bs _ = ⊥

-- The bytes are a payload of this type up to the fault.
abbrev pub IsPayloadFault : ℕ → ℕ → List ℕ → ℕ → NbtKind → Type 0
IsPayloadFault depth t bs left Truncated = (left ≡ 0) × (IsCutPayload depth t bs
    ⊎ ((item : Item) × (before : List ℕ) × (cut : List ℕ) × IsInPayload depth t item before × IsLength item × (length cut < 4) × (bs ≡ before ++ cut)))
IsPayloadFault depth t bs left kind = (item : Item) × (before : List ℕ) × (rest : List ℕ) × IsInPayload depth t item before
    × IsWrong kind item rest × (left ≡ length rest) × (bs ≡ before ++ rest)

abbrev pub StopsInPayload : ℕ → ℕ → List ℕ → Stop → Type 0
StopsInPayload depth t bs (At left kind) = IsPayloadFault depth t bs left kind
StopsInPayload depth t bs NoMemory = ⊤

-- The bytes start with this payload, or with its beginning.
abbrev pub IsPieceOf : ℕ → ℕ → List ℕ → List ℕ → Piece → List ℕ → Type 0
IsPieceOf depth t name bs (Tree called one) rest = (called.items.items ≡ name) × (type_of (plain_tree one) ≡ t) × CanStand depth (plain_tree one)
    × (bs ≡ payload (plain_tree one) ++ rest)
IsPieceOf depth t name bs (Opened one) rest = (begun_name (plain_open one) ≡ name) × (begun_type (plain_open one) ≡ t)
    × IsRightSoFar (suc depth) (plain_open one) × (depth < max_depth) × (bs ≡ begun_payload (plain_open one) ++ rest)
IsPieceOf depth t name bs End rest = ⊥

abbrev pub IsEnd : List Begun → List ℕ → List ℕ → Type 0
IsEnd [] bs rest = ⊥
IsEnd (begun_compound name held ∷ outer) bs rest = bs ≡ 0 ∷ rest
IsEnd (begun_list name element left held ∷ outer) bs rest = (left ≡ 0) × (bs ≡ rest)

-- The bytes start with what comes next in the inmost.
abbrev pub IsNext : List Begun → List ℕ → Piece → List ℕ → Type 0
IsNext begun bs (Tree called one) rest = MayCome begun (type_of (plain_tree one)) called.items.items × CanStand (length begun) (plain_tree one)
    × (bs ≡ heading begun (type_of (plain_tree one)) called.items.items ++ (payload (plain_tree one) ++ rest))
IsNext begun bs (Opened one) rest = MayCome begun (begun_type (plain_open one)) (begun_name (plain_open one))
    × IsRightSoFar (suc (length begun)) (plain_open one) × (length begun < max_depth)
    × (bs ≡ heading begun (begun_type (plain_open one)) (begun_name (plain_open one)) ++ (begun_payload (plain_open one) ++ rest))
IsNext begun bs End rest = IsEnd begun bs rest

-- What comes next goes on behind these bytes.
abbrev pub IsCutNext : List Begun → List ℕ → Type 0
IsCutNext begun bs = (name : List ℕ) × (one : PlainTree) × (b : ℕ) × (more : List ℕ) × MayCome begun (type_of one) name × CanStand (length begun) one
    × (heading begun (type_of one) name ++ payload one ≡ bs ++ (b ∷ more))

abbrev pub IsNextFault : List Begun → List ℕ → ℕ → NbtKind → Type 0
IsNextFault begun bs left Truncated = (left ≡ 0) × (IsCutNext begun bs
    ⊎ ((item : Item) × (before : List ℕ) × (cut : List ℕ) × Comes begun item before × IsLength item × (length cut < 4) × (bs ≡ before ++ cut)))
IsNextFault begun bs left kind = (item : Item) × (before : List ℕ) × (rest : List ℕ) × Comes begun item before
    × IsWrong kind item rest × (left ≡ length rest) × (bs ≡ before ++ rest)

abbrev pub StopsAtNext : List Begun → List ℕ → Stop → Type 0
StopsAtNext begun bs (At left kind) = IsNextFault begun bs left kind
StopsAtNext begun bs NoMemory = ⊤

-- a compound or a list with one more tree
abbrev pub grown : Begun → List ℕ → PlainTree → Begun
grown (begun_compound own held) name one = begun_compound own (held ++ (name, one) ∷ [])
grown (begun_list own element left held) name one = begun_list own element (left - 1) (held ++ one ∷ [])

-- a compound or a list as a tree
abbrev pub closed : Begun → PlainTree
closed (begun_compound own held) = compound (fields_of held)
closed (begun_list own element left held) = list element (trees_of held)

abbrev pub HasRoom : Begun → Type 0
HasRoom (begun_compound own held) = ⊤
HasRoom (begun_list own element left held) = 0 < left

abbrev pub IsRootOf : Begun → PlainRoot → Type 0
IsRootOf (begun_compound own held) root = root ≡ record { name = own; fields = fields_of held }
IsRootOf (begun_list own element left held) root = ⊥

abbrev pub IsCompound : Begun → Type 0
IsCompound (begun_compound own held) = ⊤
IsCompound (begun_list own element left held) = ⊥

-- What is left to do: each step takes a byte or leaves a list.
abbrev pub lists_in : List Begun → ℕ
lists_in [] = 0
lists_in (begun_compound own held ∷ outer) = lists_in outer
lists_in (begun_list own element left held ∷ outer) = suc (lists_in outer)

abbrev pub is_in_list : List Begun → ℕ
is_in_list (begun_list own element left held ∷ outer) = 1
is_in_list _ = 0

unfoldable pub work : List Begun → List ℕ → ℕ
work begun rest = 3 * length rest + (lists_in begun + is_in_list begun)

-- A step from what is begun and the bytes behind it, to what is begun then.
abbrev pub IsStep : List Begun → List ℕ → List Open → Step → Type 0
IsStep begun bs outer (More top rest) = IsBegun (stack_of top outer) × (beginning begun ++ bs ≡ beginning (stack_of top outer) ++ rest.now)
    × (work (stack_of top outer) rest.now < work begun bs)
IsStep begun bs outer (Whole root rest) = CanBeSpelled (plain_root root) × (beginning begun ++ bs ≡ spelling (plain_root root) ++ rest.now)

-- The bytes are wrong, and so many are left from the first fault on.
abbrev pub StopsAt : List ℕ → Stop → Type 0
StopsAt bs (At left kind) = (left ≤ length bs) × IsFirstFault bs (length bs - left) kind
StopsAt bs NoMemory = ⊤
