-- What a script asks for: acts in order, and places that are marked.
use Rattle.std.specs.Prelude.{◌≡◌, ◌≤◌, ℕ, Bool, true, ◌&&◌, nat_le, List, [], ◌∷◌, ◌++◌, length, sum_by}
use Rattle.std.specs.List.{list_all}
use Rattle.circuit.specs.declared.Act.{Act as PlainAct}
use Rattle.circuit.specs.declared.Act.TheVariants.{Click, Ticks}
use Rattle.circuit.specs.declared.Click.TheVariants.{Use as UseIt, Press as PressIt, Leave as LeaveIt, Weigh as WeighIt}
use Rattle.circuit.specs.declared.Pos.{Pos}
use Rattle.build.specs.Marks.{with_mark}
use Rattle.script.specs.declared.Act.{Act}
use Rattle.script.specs.declared.Act.TheVariants.{Use, Press, Leave, Weigh, Ticks as Wait}

-- the act as circuits know it
abbrev pub plain_act : Act → PlainAct
plain_act (Use place) = Click place UseIt
plain_act (Press place) = Click place PressIt
plain_act (Leave place) = Click place LeaveIt
plain_act (Weigh place weight) = Click place (WeighIt weight)
plain_act (Wait count) = Ticks count

-- the marks are in order of places, each once
pub record Meaning : Type 0 where
  pub marks : List Pos
  pub acts : List PlainAct

abbrev pub no_script : Meaning
no_script = record { marks = []; acts = [] }

-- one act more, at the end
abbrev pub with_act : Meaning → PlainAct → Meaning
with_act script act = record script { acts = script.acts ++ act ∷ [] }

-- one mark more
abbrev pub with_marked : Meaning → Pos → Meaning
with_marked script place = record script { marks = with_mark place script.marks }

abbrev pub ticks_of : PlainAct → ℕ
ticks_of (Click place click) = 0
ticks_of (Ticks n) = n

abbrev pub ticks_in : List PlainAct → ℕ
ticks_in acts = sum_by ticks_of acts

-- a weight is 1 to 15
abbrev pub is_weight : ℕ → Bool
is_weight n = nat_le 1 n && nat_le n 15

abbrev pub weight_fits : PlainAct → Bool
weight_fits (Click place (WeighIt weight)) = is_weight weight
weight_fits _ = true

-- few enough acts and ticks for all counters, and weights that plates take
pub record IsShort (acts : List PlainAct) : Type 0 where
  pub few_acts : length acts ≤ 1048576
  pub few_ticks : ticks_in acts ≤ 100000
  pub weights : list_all weight_fits acts ≡ true
