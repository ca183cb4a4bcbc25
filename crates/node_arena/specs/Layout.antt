-- How an arena lies in its slab. No public clause cites this module.
use Rattle.std.specs.Prelude.{◌≡◌, ℕ, ◌+◌, ◌<◌, ◌≤◌, ◌^◌, List, Option, Some, None, length, map, IsSome, slice_index_or, count_by, is_some}
use Rattle.slab.specs.Slab.{Slab, get, slab_len, HasRoomFor}
use Rattle.node_arena.specs.Items.{Items}

abbrev pub entry_at : {T : Type 0} → Slab T → Option ℕ → Option T
entry_at slots None = None
entry_at slots (Some place) = get slots place

abbrev pub items_of : {T : Type 0} → Slab T → List (Option ℕ) → ℕ → Items T
items_of slots places spare = record { entries = map (entry_at slots) places; spare = spare }

-- Each place that stands for a key holds an item, no two keys have one place, and the slab holds nothing else.
-- There is room for `spare` more.
pub record IsLaidOut {T : Type 0} (slots : Slab T) (places : List (Option ℕ)) (room spare : ℕ) : Type 0 where
  pub holds : (key place : ℕ) → slice_index_or places key None ≡ Some place → IsSome (get slots place)
  pub apart : (a b place : ℕ) → slice_index_or places a None ≡ Some place → slice_index_or places b None ≡ Some place → a ≡ b
  pub counted : slab_len slots ≡ count_by is_some places
  pub few : length places < 2 ^ 32
  pub slots_room : HasRoomFor slots spare
  pub places_room : length places + spare ≤ room
