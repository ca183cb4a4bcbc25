-- What one line of a script says, or what is wrong with it. `takes` tells which clicks are taken at a place, and `wire` whether a wire stands there.
use Rattle.std.specs.Prelude.{ℕ, Bool, nat_eq, nat_le, ◌&&◌, if◌then◌else◌, pos, List, [], ◌∷◌, Option, Some, None, Result, Ok, Err, codes}
use Rattle.std.specs.List.{starts_with}
use Rattle.std.specs.Str.{bytes_eq}
use Rattle.circuit.specs.declared.Act.TheVariants.{Click as ClickAct, Ticks as TicksAct}
use Rattle.circuit.specs.declared.Click.{Click}
use Rattle.circuit.specs.declared.Click.TheVariants.{Use as UseIt, Press as PressIt, Leave as LeaveIt, Weigh as WeighIt}
use Rattle.circuit.specs.declared.Pos.{Pos}
use Rattle.rp_text.specs.Numbers.{u32_of}
use Rattle.script.specs.declared.ScriptKind.{ScriptKind}
use Rattle.script.specs.declared.ScriptKind.TheVariants.{Word, Number as NumberKind, NotClickable, NotWire}
use Rattle.script.specs.declared.lines.Said.{Said}
use Rattle.script.specs.declared.lines.Said.TheVariants.{Nothing, Mark as Marked, Act}
use Rattle.script.specs.declared.lines.Verb.{Verb}
use Rattle.script.specs.declared.lines.Verb.TheVariants.{Mark, Use, Press, Leave, Tick}
use Rattle.script.specs.declared.lines.Coordinates.{Coordinates}
use Rattle.script.specs.declared.lines.Arguments.{Arguments}
use Rattle.script.specs.declared.lines.Arguments.TheVariants.{Number, Place, PlaceAndNumber, Other}
use Rattle.script.specs.Acts.{is_weight}

unfoldable pub verb_of : List ℕ → Option Verb
verb_of word =
    if bytes_eq word (codes "mark") then Some Mark
    else (if bytes_eq word (codes "use") then Some Use
    else (if bytes_eq word (codes "press") then Some Press
    else (if bytes_eq word (codes "leave") then Some Leave
    else (if bytes_eq word (codes "tick") then Some Tick else None))))

abbrev pub coordinates_by : Option ℕ → Option ℕ → Option ℕ → Option Coordinates
coordinates_by (Some x) (Some y) (Some z) = Some (record { x = x; y = y; z = z })
coordinates_by _ _ _ = None

-- three words as numbers: None where one isn't a number
abbrev pub coordinates_of : List ℕ → List ℕ → List ℕ → Option Coordinates
coordinates_of x y z = coordinates_by (u32_of x) (u32_of y) (u32_of z)

-- the words after the first
abbrev pub arguments_of : List (List ℕ) → Arguments
arguments_of (n ∷ []) = Number (u32_of n)
arguments_of (x ∷ y ∷ z ∷ []) = Place (coordinates_of x y z)
arguments_of (x ∷ y ∷ z ∷ n ∷ []) = PlaceAndNumber (coordinates_of x y z) (u32_of n)
arguments_of _ = Other

abbrev pub is_coordinate : ℕ → Bool
is_coordinate n = nat_le n 2147483647

-- a number above 2,147,483,647 is no place
abbrev pub place_of : Coordinates → Option Pos
place_of at = if is_coordinate at.x && is_coordinate at.y && is_coordinate at.z then Some (record { x = pos at.x; y = pos at.y; z = pos at.z }) else None

abbrev pub marked : (Pos → Bool) → Option Pos → Result Said ScriptKind
marked wire None = Err NotWire
marked wire (Some place) = if wire place then Ok (Marked place) else Err NotWire

abbrev pub mark_said : (Pos → Bool) → Option Coordinates → Result Said ScriptKind
mark_said wire None = Err NumberKind
mark_said wire (Some at) = marked wire (place_of at)

abbrev pub clicked : (Pos → Click → Bool) → Click → Option Pos → Result Said ScriptKind
clicked takes click None = Err NotClickable
clicked takes click (Some place) = if takes place click then Ok (Act (ClickAct place click)) else Err NotClickable

abbrev pub click_said : (Pos → Click → Bool) → Click → Option Coordinates → Result Said ScriptKind
click_said takes click None = Err NumberKind
click_said takes click (Some at) = clicked takes click (place_of at)

abbrev pub weigh_said : (Pos → Click → Bool) → Option Coordinates → Option ℕ → Result Said ScriptKind
weigh_said takes (Some at) (Some weight) = if is_weight weight then clicked takes (WeighIt weight) (place_of at) else Err NumberKind
weigh_said takes _ _ = Err NumberKind

abbrev pub ticks_said : Option ℕ → Result Said ScriptKind
ticks_said None = Err NumberKind
ticks_said (Some n) = Ok (Act (TicksAct n))

-- the forms of lines
abbrev pub act_said : (Pos → Click → Bool) → (Pos → Bool) → Verb → Arguments → Result Said ScriptKind
act_said takes wire Mark (Place at) = mark_said wire at
act_said takes wire Use (Place at) = click_said takes UseIt at
act_said takes wire Press (Place at) = click_said takes PressIt at
act_said takes wire Press (PlaceAndNumber at weight) = weigh_said takes at weight
act_said takes wire Leave (Place at) = click_said takes LeaveIt at
act_said takes wire Tick (Number n) = ticks_said n
act_said takes wire _ _ = Err Word

abbrev pub verb_said : (Pos → Click → Bool) → (Pos → Bool) → Option Verb → Arguments → Result Said ScriptKind
verb_said takes wire None arguments = Err Word
verb_said takes wire (Some verb) arguments = act_said takes wire verb arguments

-- what the words of a line say: without words, or with a first word that begins with `#`, nothing
unfoldable pub line_said : (Pos → Click → Bool) → (Pos → Bool) → List (List ℕ) → Result Said ScriptKind
line_said takes wire [] = Ok Nothing
line_said takes wire (first ∷ others) = if starts_with nat_eq first (codes "#") then Ok Nothing else verb_said takes wire (verb_of first) (arguments_of others)
