-- What is read by taps: the greatest level at their places.
use Rattle.std.specs.Prelude.{◌≡◌, ℕ, Bool, true, false, List, [], ◌∷◌, map}
use Rattle.std.specs.List.{flat_map}
use Rattle.wire_net.specs.Net.{greatest}
use Rattle.block_table.specs.declared.Block.{Block}
use Rattle.block_table.specs.declared.Block.TheVariants.{Air, Inert, Slab, Wire, Torch, WallTorch, Repeater, Comparator, Lever, Button, Plate, RedstoneBlock, Lamp, Trapdoor, Container, Composter, Cauldron, Cake, Weighted, Note}
use Rattle.circuit.specs.declared.Pos.{Pos}
use Rattle.circuit.specs.declared.Readings.{Readings}
use Rattle.circuit.specs.Circuit.{Among}
use Rattle.build.specs.Place.{sides}
use Rattle.build.specs.Plan.{Plan, block_at}
use Rattle.build.specs.Roles.{direct_at, far_at}
use Rattle.wire_shape.specs.Shape.{wire_at}
use Rattle.power_rules.specs.Power.{full, or_direct, or_far}
use Rattle.wiring.specs.Taps.{Tap, Direct, Wired, back_taps}
use Rattle.wiring.specs.Readers.{reader_taps, reader_side_taps}

-- ---- what a tap gives

-- what a component gives at its level
abbrev pub given_of : Block → ℕ → ℕ
given_of (Torch lit) level = full level
given_of (WallTorch facing lit) level = full level
given_of RedstoneBlock level = 15
given_of (Lever face facing powered) level = full level
given_of (Button name face facing powered) level = full level
given_of (Plate name powered) level = full level
given_of (Weighted name power) level = level
given_of (Repeater delay facing powered) level = full level
given_of (Comparator facing subtract) level = level
given_of Air level = 0
given_of (Inert name) level = 0
given_of (Slab name half) level = 0
given_of (Wire north east south west power) level = 0
given_of (Lamp lit) level = 0
given_of (Trapdoor facing top powered) level = 0
given_of (Container name) level = 0
given_of (Composter filled) level = 0
given_of (Cauldron water filled) level = 0
given_of (Cake bites) level = 0
given_of (Note powered) level = 0

-- what a tap gives at these levels: a component its output, a wire its whole power
abbrev pub tap_value : Plan → (Pos → ℕ) → Tap → ℕ
tap_value b level (Direct p) = given_of (block_at b p) (level p)
tap_value b level (Wired p) = level p

-- a block of this kind can give power
abbrev pub is_source : Block → Bool
is_source (Torch lit) = true
is_source (WallTorch facing lit) = true
is_source RedstoneBlock = true
is_source (Plate name powered) = true
is_source (Weighted name power) = true
is_source (Lever face facing powered) = true
is_source (Button name face facing powered) = true
is_source (Repeater delay facing powered) = true
is_source (Comparator facing subtract) = true
is_source Air = false
is_source (Inert name) = false
is_source (Slab name half) = false
is_source (Wire north east south west power) = false
is_source (Lamp lit) = false
is_source (Trapdoor facing top powered) = false
is_source (Container name) = false
is_source (Composter filled) = false
is_source (Cauldron water filled) = false
is_source (Cake bites) = false
is_source (Note powered) = false

-- a direct tap is at a block that can give power, and a wire tap at a wire
abbrev pub IsTap : Plan → Tap → Type 0
IsTap b (Direct p) = is_source (block_at b p) ≡ true
IsTap b (Wired p) = wire_at b p ≡ true

-- What can give power gives its level as it is: none is on with less than 15, and a block of redstone has 15.
pub record IsPlain (b : Plan) (level : Pos → ℕ) : Type 0 where
  pub each : (p : Pos) → is_source (block_at b p) ≡ true → given_of (block_at b p) (level p) ≡ level p

-- ---- the places of taps

abbrev pub tap_place : Tap → Pos
tap_place (Direct p) = p
tap_place (Wired p) = p

abbrev pub direct_of : Tap → List Pos
direct_of (Direct p) = p ∷ []
direct_of (Wired p) = []

-- of what stands at a place: the taps of its back
abbrev pub back_places : Plan → Pos → List Pos
back_places b p = map tap_place (reader_taps b p (block_at b p))

-- and those of its sides
abbrev pub side_places : Plan → Pos → List Pos
side_places b p = map tap_place (reader_side_taps b p (block_at b p))

-- the places of the components that give power to a wire without dust: the direct taps of its six neighbours
abbrev pub direct_places : Plan → Pos → List Pos
direct_places b p = flat_map direct_of (flat_map (back_taps b false p) sides)

-- ---- readings

abbrev pub highest : (Pos → ℕ) → List Pos → ℕ
highest level ps = greatest (map level ps)

-- what a back reads where its taps give so much: a comparator has strengths of its own
abbrev pub back_with : Plan → Pos → Block → ℕ → ℕ
back_with b p (Comparator facing subtract) power = or_direct (direct_at b p facing) (or_far (far_at b p facing) power)
back_with b p Air power = power
back_with b p (Inert name) power = power
back_with b p (Slab name half) power = power
back_with b p (Wire north east south west stored) power = power
back_with b p (Torch lit) power = power
back_with b p (WallTorch facing lit) power = power
back_with b p (Repeater delay facing powered) power = power
back_with b p (Lever face facing powered) power = power
back_with b p (Button name face facing powered) power = power
back_with b p (Plate name powered) power = power
back_with b p RedstoneBlock power = power
back_with b p (Lamp lit) power = power
back_with b p (Trapdoor facing top powered) power = power
back_with b p (Container name) power = power
back_with b p (Composter filled) power = power
back_with b p (Cauldron water filled) power = power
back_with b p (Cake bites) power = power
back_with b p (Weighted name stored) power = power
back_with b p (Note powered) power = power

abbrev pub readings_with : Plan → Pos → ℕ → ℕ → Readings
readings_with b p back side = record { back = back_with b p (block_at b p) back; side = side }

-- two levels agree at each of these places
abbrev pub Agree : (Pos → ℕ) → (Pos → ℕ) → List Pos → Type 0
Agree f g ps = (q : Pos) → Among ps q → f q ≡ g q
