-- What a line says can be played: its click is taken, its weight is 1 to 15, and its mark is a wire.
use Rattle.std.proofs.Common.{◌≡◌, ℕ, Bool, true, List, [], ◌∷◌, ◌++◌, Option, Some, None, refl, inl, inr}
use Rattle.std.specs.Prelude.{nat_eq, codes, Result, Ok, Err}
use Rattle.std.specs.List.{starts_with, list_all}
use Rattle.std.proofs.lemmas.Bool.{cases_Bool, and_parts, and_from}
use Rattle.circuit.specs.declared.Act.{Act}
use Rattle.circuit.specs.declared.Act.TheVariants.{Click as ClickAct, Ticks as TicksAct}
use Rattle.circuit.specs.declared.Click.{Click}
use Rattle.circuit.specs.declared.Click.TheVariants.{Use as UseIt, Press as PressIt, Leave as LeaveIt, Weigh as WeighIt}
use Rattle.circuit.specs.declared.Pos.{Pos}
use Rattle.build.specs.Place.{same_place, is_before}
use Rattle.build.specs.Marks.{with_mark}
use Rattle.script.specs.declared.ScriptKind.{ScriptKind}
use Rattle.script.specs.declared.lines.Said.{Said}
use Rattle.script.specs.declared.lines.Said.TheVariants.{Nothing, Mark as Marked, Act as Acts}
use Rattle.script.specs.declared.lines.Verb.{Verb}
use Rattle.script.specs.declared.lines.Verb.TheVariants.{Mark, Use, Press, Leave, Tick}
use Rattle.script.specs.declared.lines.Coordinates.{Coordinates}
use Rattle.script.specs.declared.lines.Arguments.{Arguments}
use Rattle.script.specs.declared.lines.Arguments.TheVariants.{Number, Place, PlaceAndNumber}
use Rattle.script.specs.Acts.{is_weight, weight_fits}
use Rattle.script.specs.Fit.{EachClickTaken}
use Rattle.script.specs.LineSaid.{place_of, marked, mark_said, clicked, click_said, weigh_said, ticks_said, act_said, verb_of, verb_said, arguments_of, line_said}

abbrev pub ActFits : (Pos → Click → Bool) → Act → Type 0
ActFits takes (ClickAct place click) = (takes place click ≡ true) × (weight_fits (ClickAct place click) ≡ true)
ActFits takes (TicksAct n) = Unit {0}

abbrev pub SaidFits : (Pos → Click → Bool) → (Pos → Bool) → Result Said ScriptKind → Type 0
SaidFits takes wire (Err kind) = Unit {0}
SaidFits takes wire (Ok Nothing) = Unit {0}
SaidFits takes wire (Ok (Marked place)) = wire place ≡ true
SaidFits takes wire (Ok (Acts act)) = ActFits takes act

marked-fits : (takes : Pos → Click → Bool) (wire : Pos → Bool) (place : Option Pos) → SaidFits takes wire (marked wire place)
marked-fits takes wire None = tt
marked-fits takes wire (Some place) = elim (cases_Bool (wire place)) [ inl h ↦ rw h h | inr h ↦ rw h tt ]

mark-fits : (takes : Pos → Click → Bool) (wire : Pos → Bool) (at : Option Coordinates) → SaidFits takes wire (mark_said wire at)
mark-fits takes wire None = tt
mark-fits takes wire (Some at) = marked-fits takes wire (place_of at)

-- the click's weight, if it has one, is right wherever it is put
abbrev ClickFits : Click → Type 0
ClickFits click = (place : Pos) → weight_fits (ClickAct place click) ≡ true

clicked-fits : (takes : Pos → Click → Bool) (wire : Pos → Bool) (click : Click) (place : Option Pos) → ClickFits click → SaidFits takes wire (clicked takes click place)
clicked-fits takes wire click None w = tt
clicked-fits takes wire click (Some place) w = elim (cases_Bool (takes place click)) [ inl h ↦ rw h (h, w place) | inr h ↦ rw h tt ]

click-fits : (takes : Pos → Click → Bool) (wire : Pos → Bool) (click : Click) (at : Option Coordinates) → ClickFits click → SaidFits takes wire (click_said takes click at)
click-fits takes wire click None w = tt
click-fits takes wire click (Some at) w = clicked-fits takes wire click (place_of at) w

weigh-fits : (takes : Pos → Click → Bool) (wire : Pos → Bool) (at : Option Coordinates) (weight : Option ℕ) → SaidFits takes wire (weigh_said takes at weight)
weigh-fits takes wire (Some at) (Some weight) = elim (cases_Bool (is_weight weight)) [
  | inl h ↦ rw h (clicked-fits takes wire (WeighIt weight) (place_of at) (λ place. h))
  | inr h ↦ rw h tt
]
weigh-fits takes wire (Some at) None = tt
weigh-fits takes wire None (Some weight) = tt
weigh-fits takes wire None None = tt

ticks-fits : (takes : Pos → Click → Bool) (wire : Pos → Bool) (n : Option ℕ) → SaidFits takes wire (ticks_said n)
ticks-fits takes wire None = tt
ticks-fits takes wire (Some n) = tt

act-fits : (takes : Pos → Click → Bool) (wire : Pos → Bool) (verb : Verb) (arguments : Arguments) → SaidFits takes wire (act_said takes wire verb arguments)
act-fits takes wire Mark (Place at) = mark-fits takes wire at
act-fits takes wire Use (Place at) = click-fits takes wire UseIt at (λ place. refl)
act-fits takes wire Press (Place at) = click-fits takes wire PressIt at (λ place. refl)
act-fits takes wire Press (PlaceAndNumber at weight) = weigh-fits takes wire at weight
act-fits takes wire Leave (Place at) = click-fits takes wire LeaveIt at (λ place. refl)
act-fits takes wire Tick (Number n) = ticks-fits takes wire n
act-fits takes wire _ _ = tt

verb-fits : (takes : Pos → Click → Bool) (wire : Pos → Bool) (verb : Option Verb) (arguments : Arguments) → SaidFits takes wire (verb_said takes wire verb arguments)
verb-fits takes wire None arguments = tt
verb-fits takes wire (Some verb) arguments = act-fits takes wire verb arguments

pub line-fits : (takes : Pos → Click → Bool) (wire : Pos → Bool) (line : List (List ℕ)) → SaidFits takes wire (line_said takes wire line)
unfolding line_said
line-fits takes wire [] = tt
line-fits takes wire (first ∷ others) = elim (cases_Bool (starts_with nat_eq first (codes "#"))) [
  | inl h ↦ rw h tt
  | inr h ↦ rw h (verb-fits takes wire (verb_of first) (arguments_of others))
]

-- one act more
pub EachClickTaken-more : (takes : Pos → Click → Bool) (acts : List Act) (act : Act) → EachClickTaken takes acts → ActFits takes act → EachClickTaken takes (acts ++ act ∷ [])
EachClickTaken-more takes [] (ClickAct place click) h w = (w.0, tt)
EachClickTaken-more takes [] (TicksAct n) h w = tt
EachClickTaken-more takes (ClickAct place click ∷ acts) act h w = (h.0, EachClickTaken-more takes acts act h.1 w)
EachClickTaken-more takes (TicksAct n ∷ acts) act h w = EachClickTaken-more takes acts act h w

-- one mark more
pub all_wires-with_mark : (wire : Pos → Bool) (place : Pos) (marks : List Pos) → wire place ≡ true → list_all wire marks ≡ true → list_all wire (with_mark place marks) ≡ true
all_wires-with_mark wire place [] w h = rw w refl
all_wires-with_mark wire place (mark ∷ marks) w h =
    let parts = and_parts (wire mark) (list_all wire marks) h in
    elim (cases_Bool (is_before mark place)) [
      | inl b ↦ rw b (and_from (wire mark) (list_all wire (with_mark place marks)) parts.0 (all_wires-with_mark wire place marks w parts.1))
      | inr b ↦ elim (cases_Bool (same_place place mark)) [
        | inl s ↦ rw (b, s) h
        | inr s ↦ rw (b, s) (and_from (wire place) (list_all wire (mark ∷ marks)) w h)
      ]
    ]

pub weight_fits-act : (takes : Pos → Click → Bool) (act : Act) → ActFits takes act → weight_fits act ≡ true
weight_fits-act takes (ClickAct place click) w = w.1
weight_fits-act takes (TicksAct n) w = refl
