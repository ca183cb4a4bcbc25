-- A build's file: the build that its bytes mean, or the first cause for which they mean none.
use Rattle.std.specs.Prelude.{◌≡◌, ℕ, Bool, true, false, not, List, [], ◌∷◌, ◌++◌, Option, Some, None, ⊤}
use Rattle.std.specs.Option.{option_map}
use Rattle.nbt.specs.Plain.{PlainField, PlainFields, PlainRoot}
use Rattle.nbt.specs.Spelling.{Spells}
use Rattle.nbt.specs.Faults.{IsFirstFault}
use Rattle.nbt.specs.declared.refusals.NbtKind.{NbtKind}
use Rattle.circuit.specs.declared.Pos.{Pos}
use Rattle.build.specs.Plan.{Plan}
use Rattle.build.specs.Edits.{fresh}
use Rattle.schematic.specs.declared.FieldName.{FieldName}
use Rattle.schematic.specs.declared.BuildRefusal.{BuildRefusal}
use Rattle.schematic.specs.Fields.{width_of, height_of, depth_of, data_version_of, has_right_version, is_too_large, volume_of, palette_of, cells_in, pending_in}
use Rattle.schematic.specs.Presence.{missing, wrong_kind}
use Rattle.schematic.specs.Palette.{entries_of, clash, unknown_text, block_numbered}
use Rattle.schematic.specs.Cells.{cells_fault, blocks_of}
use Rattle.schematic.specs.Entities.{counting, signal_fault, with_all}
use Rattle.schematic.specs.PendingTicks.{pending_fault, ticks_of, with_ticks}

-- why bytes mean no build
pub data Refusal : Type 0 where
  compressed : Refusal
  nbt : (place : ℕ) (kind : NbtKind) → Refusal
  missing_field : (field : FieldName) → Refusal
  wrong_field : (field : FieldName) → Refusal
  wrong_version : Refusal
  too_large : Refusal
  palette_clash : Refusal
  wrong_cells : (place : ℕ) → Refusal
  unknown_block : (name : List ℕ) → Refusal
  wrong_signal : (place : Pos) → Refusal
  wrong_pending : (group : ℕ) → Refusal

abbrev pub only : Bool → Refusal → Option Refusal
only true r = Some r
only false r = None

abbrev pub entries_in : PlainFields → List PlainField
entries_in root = entries_of (palette_of root)

-- the box with its blocks alone
unfoldable pub bare : PlainFields → Plan
bare root = fresh (width_of root) (height_of root) (depth_of root) (data_version_of root) (blocks_of (block_numbered (entries_in root)) (cells_in root))

-- the build that the fields of a root mean
unfoldable pub build_of : PlainFields → Plan
build_of root = with_ticks (with_all (bare root) (counting root)) (ticks_of (pending_in root))

abbrev pub first_some : List (Option Refusal) → Option Refusal
first_some [] = None
first_some (Some r ∷ rs) = Some r
first_some (None ∷ rs) = first_some rs

-- The causes for which the fields of a root mean no build, in their order, each where it holds.

abbrev pub of_fields : PlainFields → List (Option Refusal)
of_fields root =
    option_map missing_field (missing root)
    ∷ option_map wrong_field (wrong_kind root)
    ∷ only (not (has_right_version root)) wrong_version
    ∷ only (is_too_large root) too_large
    ∷ []

abbrev pub of_cells : PlainFields → List (Option Refusal)
of_cells root =
    only (clash (entries_in root)) palette_clash
    ∷ option_map wrong_cells (cells_fault (block_numbered (entries_in root)) (volume_of root) (cells_in root))
    ∷ option_map unknown_block (unknown_text (entries_in root))
    ∷ []

abbrev pub of_state : PlainFields → List (Option Refusal)
of_state root =
    option_map wrong_signal (signal_fault (bare root) (counting root))
    ∷ option_map wrong_pending (pending_fault (bare root) (pending_in root))
    ∷ []

-- the first of them
unfoldable pub refusal_in : PlainFields → Option Refusal
refusal_in root = first_some (of_fields root ++ (of_cells root ++ of_state root))

-- The bytes spell a root that means the build.
pub record file (bytes : List ℕ) (build : Plan) : Type 0 where
  pub root : PlainRoot
  pub spells : Spells bytes root
  pub accepted : refusal_in root.fields ≡ None
  pub means : build ≡ build_of root.fields

-- The bytes start with those of gzip.
abbrev pub IsCompressed : List ℕ → Type 0
IsCompressed bytes = (rest : List ℕ) × (bytes ≡ 31 ∷ (139 ∷ rest))

-- It is the first cause for which the bytes mean no build.
abbrev pub IsFirstRefusal : List ℕ → Refusal → Type 0
IsFirstRefusal bytes compressed = IsCompressed bytes
IsFirstRefusal bytes (nbt place kind) = (IsCompressed bytes → ⊥) × IsFirstFault bytes place kind
IsFirstRefusal bytes r = (root : PlainRoot) × Spells bytes root × (refusal_in root.fields ≡ Some r)

-- the causes that the fields of a root may have, and no other bytes
abbrev pub is_own : Refusal → Bool
is_own compressed = false
is_own (nbt place kind) = false
is_own _ = true

-- a refusal as plain data; want of memory is none
abbrev pub plain_refusal : BuildRefusal → Option Refusal
plain_refusal BuildRefusal.Compressed = Some compressed
plain_refusal (BuildRefusal.Nbt place kind) = Some (nbt place kind)
plain_refusal (BuildRefusal.Missing name) = Some (missing_field name)
plain_refusal (BuildRefusal.WrongKind name) = Some (wrong_field name)
plain_refusal BuildRefusal.Version = Some wrong_version
plain_refusal BuildRefusal.Volume = Some too_large
plain_refusal BuildRefusal.PaletteClash = Some palette_clash
plain_refusal (BuildRefusal.Data place) = Some (wrong_cells place)
plain_refusal (BuildRefusal.Block name) = Some (unknown_block name.items.items)
plain_refusal (BuildRefusal.Signal place) = Some (wrong_signal place)
plain_refusal (BuildRefusal.Pending group) = Some (wrong_pending group)
plain_refusal BuildRefusal.NoMemory = None

-- Want of memory may come with any bytes; every other refusal is the first cause.
abbrev pub Refuses : List ℕ → Option Refusal → Type 0
Refuses bytes None = ⊤
Refuses bytes (Some r) = IsFirstRefusal bytes r

-- What a part of the reader refuses is this cause; want of memory may come at any time.
abbrev pub IsCause : Option Refusal → Option Refusal → Type 0
IsCause None cause = ⊤
IsCause (Some r) cause = cause ≡ Some r
