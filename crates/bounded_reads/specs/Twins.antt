-- Two lamps that read one torch, which reads a lever, and what is done to them.
use Rattle.std.specs.Prelude.{ℕ, pos, false, List, [], ◌∷◌, Some}
use Rattle.circuit.specs.declared.Act.{Act}
use Rattle.circuit.specs.declared.Act.TheVariants.{Click as ClickAct, Ticks as TicksAct}
use Rattle.circuit.specs.declared.Click.TheVariants.{Use}
use Rattle.circuit.specs.declared.Pos.{Pos}
use Rattle.graph.specs.declared.Kind.{Kind}
use Rattle.graph.specs.declared.Kind.TheVariants.{Lamp, Torch, Lever}
use Rattle.graph.specs.declared.Group.TheVariants.{Back}
use Rattle.graph.specs.declared.Link.{Link}
use Rattle.graph.specs.Graph.{Node, Nodes}

abbrev pub place : ℕ → Pos
place x = record { x = pos x; y = pos 0; z = pos 0 }

abbrev pub back_from : ℕ → List Link
back_from key = record { from = key; group = Back; weight = 0 } ∷ []

abbrev pub node : Kind → (x state : ℕ) → List Link → Node
node kind x state links = record {
  pos = place x;
  kind = kind;
  state = state;
  first = false;
  due = 0;
  priority = 0;
  links = links;
  also = [];
}

abbrev pub twins : Nodes
twins = Some (node Lamp 0 1 (back_from 2)) ∷ Some (node Lamp 1 1 (back_from 2)) ∷ Some (node Torch 2 1 (back_from 3)) ∷ Some (node Lever 3 0 []) ∷ []

-- the lever is used, and three ticks pass
abbrev pub acts : List Act
acts = ClickAct (place 3) Use ∷ TicksAct 3 ∷ []
