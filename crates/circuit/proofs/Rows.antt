-- A worked example, computed: a lamp goes on with its lever at once, and off two ticks after it.
use Rattle.std.proofs.Common.{◌≡◌, ℕ, zero, suc, false, List, [], ◌∷◌, Option, Some, None, refl, inl, arith}
use Rattle.std.specs.Prelude.{pos, ◌==◌}
use Rattle.circuit.specs.declared.Component.{Component}
use Rattle.circuit.specs.declared.Component.TheVariants.{Lever, Lamp}
use Rattle.circuit.specs.declared.Cell.{Cell}
use Rattle.circuit.specs.declared.Click.TheVariants.{Use}
use Rattle.circuit.specs.declared.Act.{Act}
use Rattle.circuit.specs.declared.Act.TheVariants.{Click as ClickAct, Ticks as TicksAct}
use Rattle.circuit.specs.declared.Pos.{Pos}
use Rattle.circuit.specs.Circuit.{Circuit, State, set_value, fire_all, later, IsDue, Among, IsFiringList, start}
use Rattle.circuit.specs.declared.Step.TheVariants.{Click as ClickAt, Tick as OneTick}
use Rattle.circuit.specs.Shows.{Ended, Clicked, Ticked, Plays, Shows}
use Rattle.circuit.specs.Replay.{Failure, Replays}
use Rattle.circuit.specs.Joining.{remaining, GoesOn}

abbrev at : ℕ → Pos
at x = record { x = pos x; y = pos 0; z = pos 0 }

-- the lever is 0, and the lamp 1
abbrev component_of : ℕ → Option Component
component_of zero = Some Lever
component_of (suc zero) = Some Lamp
component_of _ = None

abbrev place_of : ℕ → Pos
place_of zero = at 0
place_of _ = at 2

-- the lamp reads the lever
abbrev read_of : (ℕ → ℕ) → ℕ → ℕ
read_of given (suc zero) = given 0
read_of given _ = 0

abbrev lever_and_lamp : Circuit ℕ
lever_and_lamp = record {
  same = λ a b. a == b;
  role = component_of;
  first = λ k. false;
  base = λ k. 0;
  begin = λ k. record { value = 0; due = 0; priority = 0 };
  place = place_of;
  readings = λ given k. record { back = read_of given k; side = 0 };
  shown = 1 ∷ [];
}

abbrev acts : List Act
acts = ClickAct (at 0) Use ∷ TicksAct 1 ∷ ClickAct (at 0) Use ∷ TicksAct 2 ∷ []

abbrev used : State ℕ
used = set_value lever_and_lamp (start lever_and_lamp) 0 1

abbrev used_again : State ℕ
used_again = set_value lever_and_lamp (later used) 0 0

abbrev off : State ℕ
off = fire_all lever_and_lamp (later (later used_again)) (1 ∷ [])

-- nothing is due in a state whose lever and lamp aren't
none_due : (s : State ℕ) → (IsDue lever_and_lamp s 0 → ⊥) → (IsDue lever_and_lamp s 1 → ⊥) → IsFiringList lever_and_lamp s []
none_due s lever lamp = record { due = tt; all = each; once = tt; rising = tt }
  where
    each : (key : ℕ) → IsDue lever_and_lamp s key → Among [] key
    each zero d = lever d
    each (suc zero) d = lamp d
    each (suc (suc key)) d = absurd (let no : None ≡ Some d.component = d.there in cc)

first_tick : IsFiringList lever_and_lamp (later used) []
first_tick = none_due (later used) (λ d. d.waits refl) (λ d. d.waits refl)

second_tick : IsFiringList lever_and_lamp (later used_again) []
second_tick = none_due (later used_again) (λ d. d.waits refl) (λ d. absurd (let no : 3 ≡ 2 = d.now in omega arith))

lamp_is_due : IsDue lever_and_lamp (later (later used_again)) 1
lamp_is_due = record { component = Lamp; there = refl; waits = λ h. absurd (let no : 3 ≡ 0 = h in omega arith); now = refl }

third_tick : IsFiringList lever_and_lamp (later (later used_again)) (1 ∷ [])
third_tick = record { due = (lamp_is_due, tt); all = each; once = (tt, tt); rising = (tt, tt) }
  where
    each : (key : ℕ) → IsDue lever_and_lamp (later (later used_again)) key → Among (1 ∷ []) key
    each zero d = absurd (d.waits refl)
    each (suc zero) d = inl refl
    each (suc (suc key)) d = absurd (let no : None ≡ Some d.component = d.there in cc)

-- It shows 0 at the start, 1 after each of the first four steps, and 0 at the end, in three events: two clicks, and the lamp's firing.
lever_and_lamp_shows : Shows lever_and_lamp acts ((0 ∷ []) ∷ (1 ∷ []) ∷ (1 ∷ []) ∷ (1 ∷ []) ∷ (1 ∷ []) ∷ (0 ∷ []) ∷ []) 3
lever_and_lamp_shows = record {
  order = [] ∷ [] ∷ (1 ∷ []) ∷ [];
  last = off;
  plays = record {
    rest = (1 ∷ []) ∷ (1 ∷ []) ∷ (1 ∷ []) ∷ (1 ∷ []) ∷ (0 ∷ []) ∷ [];
    at_start = refl;
    run = Clicked {next = used} (record { key = 0; component = Lever; value = 1; there = refl; place = refl; takes = refl; after = refl })
        (Ticked {next = later used} (record { order = first_tick; after = refl })
        (Clicked {next = used_again} (record { key = 0; component = Lever; value = 0; there = refl; place = refl; takes = refl; after = refl })
        (Ticked {next = later used_again} (record { order = second_tick; after = refl })
        (Ticked {next = off} (record { order = third_tick; after = refl }) Ended))));
  };
  count = refl;
}

-- An order by which the lamp never fires fails at the third tick.
lamp_left_out : Replays lever_and_lamp acts ([] ∷ [] ∷ [] ∷ []) (Failure 2)
lamp_left_out = record {
  done = ClickAt (at 0) Use ∷ OneTick ∷ ClickAt (at 0) Use ∷ OneTick ∷ [];
  left = [];
  steps = refl;
  good = [] ∷ [] ∷ [];
  rest = [] ∷ [];
  lists = refl;
  count = refl;
  views = (1 ∷ []) ∷ (1 ∷ []) ∷ (1 ∷ []) ∷ (1 ∷ []) ∷ [];
  last = later used_again;
  run = Clicked {next = used} (record { key = 0; component = Lever; value = 1; there = refl; place = refl; takes = refl; after = refl })
      (Ticked {next = later used} (record { order = first_tick; after = refl })
      (Clicked {next = used_again} (record { key = 0; component = Lever; value = 0; there = refl; place = refl; takes = refl; after = refl })
      (Ticked {next = later used_again} (record { order = second_tick; after = refl }) Ended)));
  wrong = λ f. f.all 1 lamp_is_due;
}

-- The same run, cut in two after the second click, when the lamp's tick has two ticks of time to go.
first_half : Plays lever_and_lamp (ClickAct (at 0) Use ∷ TicksAct 1 ∷ ClickAct (at 0) Use ∷ []) ([] ∷ []) ((0 ∷ []) ∷ (1 ∷ []) ∷ (1 ∷ []) ∷ (1 ∷ []) ∷ []) used_again
first_half = record {
  rest = (1 ∷ []) ∷ (1 ∷ []) ∷ (1 ∷ []) ∷ [];
  at_start = refl;
  run = Clicked {next = used} (record { key = 0; component = Lever; value = 1; there = refl; place = refl; takes = refl; after = refl })
      (Ticked {next = later used} (record { order = first_tick; after = refl })
      (Clicked {next = used_again} (record { key = 0; component = Lever; value = 0; there = refl; place = refl; takes = refl; after = refl }) Ended));
}

abbrev held_then : ℕ → Cell
held_then (suc zero) = record { value = 1; due = 2; priority = 3 }
held_then _ = record { value = 0; due = 0; priority = 0 }

abbrev goes_off : Circuit ℕ
goes_off = record lever_and_lamp { begin = held_then }

goes_on_there : GoesOn lever_and_lamp used_again goes_off
goes_on_there = record {
  same = λ a b. refl;
  role = λ k. refl;
  first = λ k. refl;
  base = λ k. refl;
  place = λ k. refl;
  readings = λ given k. refl;
  shown = refl;
  begin = held;
}
  where
    held : (k : ℕ) (component : Component) → component_of k ≡ Some component → held_then k ≡ remaining 1 (used_again.cells k)
    held zero component there = refl
    held (suc zero) component there = refl
    held (suc (suc k)) component there = absurd (let no : None ≡ Some component = there in cc)
