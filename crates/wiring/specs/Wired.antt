-- What taps what in a build, by the numbers of its things.
use Rattle.std.specs.Prelude.{◌≡◌, ℕ, ◌<◌, ◌≤◌, ◌⊎◌, if◌then◌else◌, List, [], ◌∷◌, length, map, slice_index, None}
use Rattle.circuit.specs.declared.Pos.{Pos}
use Rattle.wire_net.specs.Net.{Cell, greatest}
use Rattle.wire_net.specs.Listed.{list_at}
use Rattle.wire_net.specs.WaveSteps.{Has, AreBelow}
use Rattle.wire_shape.specs.Shape.{wire_at}
use Rattle.wire_shape.specs.Feeders.{feeders}
use Rattle.power_rules.specs.RightWires.{source_power}
use Rattle.wiring.specs.Reads.{back_places, side_places, direct_places}
pub use Rattle.wiring.specs.declared.fill.Kind.{Kind}
pub use Rattle.wiring.specs.declared.fill.Kind.TheVariants.{Back, Side, Direct, Feeders}
use Rattle.wiring.specs.Parts.{Part, part_at}
use Rattle.wiring.specs.Things.{Numbered, number_at, number_of}

-- ---- the rows of one thing

abbrev pub numbers_of : Numbered → List Pos → List ℕ
numbers_of m ps = map (number_of m) ps

-- The taps of its back. A wire shows what it has, and needs none.
abbrev pub back_row : Numbered → Pos → List ℕ
back_row m p = if wire_at m.plan p then [] else numbers_of m (back_places m.plan p)

-- the taps of its sides
abbrev pub side_row : Numbered → Pos → List ℕ
side_row m p = numbers_of m (side_places m.plan p)

-- of a wire: what gives it power without dust
abbrev pub direct_row : Numbered → Pos → List ℕ
direct_row m p = if wire_at m.plan p then numbers_of m (direct_places m.plan p) else []

-- of a wire: its feeders
abbrev pub feeder_row : Numbered → Pos → List ℕ
feeder_row m p = if wire_at m.plan p then numbers_of m (feeders m.plan p) else []

abbrev pub row_of : Numbered → Kind → Pos → List ℕ
row_of m Back p = back_row m p
row_of m Side p = side_row m p
row_of m Direct p = direct_row m p
row_of m Feeders p = feeder_row m p

-- ---- the rows of all

-- For each thing what it is, its taps and its feeders. Turned round: the readers that tap it, and behind itself the wires that it gives power to without dust.
pub record Wired : Type 0 where
  pub parts : List Part
  pub back : List (List ℕ)
  pub side : List (List ℕ)
  pub direct : List (List ℕ)
  pub feeders : List (List ℕ)
  pub readers : List (List ℕ)
  pub driven : List (List ℕ)

-- a thing taps another
abbrev pub Taps : Wired → ℕ → ℕ → Type 0
Taps w reader tap = Has (list_at w.back reader) tap ⊎ Has (list_at w.side reader) tap

pub record IsWired (m : Numbered) (w : Wired) : Type 0 where
  pub parts : w.parts ≡ map (part_at m.plan m.marks) m.spots
  pub back : w.back ≡ map (back_row m) m.spots
  pub side : w.side ≡ map (side_row m) m.spots
  pub direct : w.direct ≡ map (direct_row m) m.spots
  pub feeders : w.feeders ≡ map (feeder_row m) m.spots
  pub readers : (reader tap : ℕ) → Taps w reader tap → Has (list_at w.readers tap) reader
  pub readers_below : (tap : ℕ) → AreBelow (length m.spots) (list_at w.readers tap)
  pub driven : (wire tap : ℕ) → Has (list_at w.direct wire) tap → Has (list_at w.driven tap) wire
  pub itself : (tap : ℕ) → tap < length m.spots → Has (list_at w.driven tap) tap
  pub driven_below : (tap : ℕ) → AreBelow (length m.spots) (list_at w.driven tap)

-- ---- the levels of the things

-- What a thing has without feeders: a wire its power without dust, anything else what it gives.
abbrev pub base_for : Numbered → (Pos → ℕ) → Pos → ℕ
base_for m given p = if wire_at m.plan p then source_power m.plan given p else given p

abbrev pub bases_of : Numbered → (Pos → ℕ) → List ℕ
bases_of m given = map (base_for m given) m.spots

-- cells with these base powers and feeders
abbrev pub cells_with : List ℕ → List (List ℕ) → List Cell
cells_with (base ∷ bases) (row ∷ rows) = record { base = base; feeders = row } ∷ cells_with bases rows
cells_with _ _ = []

-- The things as a net, whose right powers are their levels: of a wire its power, of anything else what it gives.
abbrev pub level_cell : Numbered → (Pos → ℕ) → Pos → Cell
level_cell m given p = record { base = base_for m given p; feeders = feeder_row m p }

abbrev pub level_cells : Numbered → (Pos → ℕ) → List Cell
level_cells m given = map (level_cell m given) m.spots

-- what is given is 15 at most, and nothing where no thing stands
pub record IsGiven (m : Numbered) (given : Pos → ℕ) : Type 0 where
  pub small : (p : Pos) → given p ≤ 15
  pub none : (p : Pos) → number_at m p ≡ None → given p ≡ 0

-- ---- rows that are turned round

-- all that is listed is below this
abbrev pub AllBelow : ℕ → List (List ℕ) → Type 0
AllBelow n lists = (number : ℕ) → AreBelow n (list_at lists number)

-- The lists have what they had, and the list of a tap has each reader that was told of it.
pub record Turns (old new : List (List ℕ)) (Told : ℕ → ℕ → Type 0) : Type 0 where
  pub size : length new ≡ length old
  pub kept : (number x : ℕ) → Has (list_at old number) x → Has (list_at new number) x
  pub told : (reader tap : ℕ) → Told reader tap → Has (list_at new tap) reader
  pub below : AllBelow (length old) old → AllBelow (length old) new

-- the reader was told of the first i of its taps
abbrev pub ToldOf : ℕ → List ℕ → ℕ → ℕ → ℕ → Type 0
ToldOf reader row i r tap = (r ≡ reader) × ((k : ℕ) × (k < i) × (k < length row) × (slice_index row k ≡ tap))

-- the first i readers were told of their taps
abbrev pub ToldBelow : List (List ℕ) → ℕ → ℕ → ℕ → Type 0
ToldBelow rows i reader tap = (reader < i) × Has (list_at rows reader) tap

-- the greatest level of a row
abbrev pub row_level : List ℕ → List ℕ → ℕ
row_level levels row = greatest (map (λ (n : ℕ). slice_index levels n) row)
