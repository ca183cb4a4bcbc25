-- The least weights of links, by source and group.
use Rattle.std.specs.Prelude.{◌≡◌, ℕ, ◌+◌, ◌*◌, ◌<◌, ◌≤◌, min, List, Option, Some, None, get_or, length, slice_get}
use Rattle.graph.specs.declared.Group.{Group}
use Rattle.graph.specs.declared.Group.TheVariants.{Back, Side}
use Rattle.graph.specs.declared.Link.{Link}

abbrev pub group_number : Group → ℕ
group_number Back = 0
group_number Side = 1

-- the slot of the links from this source in this group
abbrev pub slot_of : Link → ℕ
slot_of link = 2 * link.from + group_number link.group

-- the weight in a slot, None where there is none
abbrev pub weight_in : List (Option ℕ) → ℕ → Option ℕ
weight_in slots slot = get_or slots slot None

abbrev pub lesser : Option ℕ → ℕ → Option ℕ
lesser None weight = Some weight
lesser (Some least) weight = Some (min least weight)

abbrev pub IsEmpty : List (Option ℕ) → Type 0
IsEmpty slots = (slot : ℕ) → weight_in slots slot ≡ None

-- there is a slot for each link from these nodes
abbrev pub HasSlots : List (Option ℕ) → List ℕ → Type 0
HasSlots slots keys = (index : ℕ) → index < length keys → 2 * get_or keys index 0 + 1 < length slots

-- and for each of these links
abbrev pub HasSlotsFor : List (Option ℕ) → List Link → Type 0
HasSlotsFor slots links = (index : ℕ) (link : Link) → slice_get links index ≡ Some link → slot_of link < length slots

-- Each slot holds the least weight of its links, and nothing where it has none.
pub record HoldsLeast (links : List Link) (slots : List (Option ℕ)) : Type 0 where
  pub least : (index : ℕ) (link : Link) → slice_get links index ≡ Some link → (weight : ℕ) × (weight_in slots (slot_of link) ≡ Some weight) × (weight ≤ link.weight)
  pub found : (slot weight : ℕ) → weight_in slots slot ≡ Some weight → (index : ℕ) × (link : Link) × (slice_get links index ≡ Some link) × (slot_of link ≡ slot) × (link.weight ≡ weight)
