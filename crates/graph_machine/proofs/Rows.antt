-- How many links the events of a small graph may read: a lever, a torch that two lamps read, and the lamps.
use Rattle.std.proofs.Common.{◌≡◌, ℕ, ◌+◌, false, List, [], ◌∷◌, Some, None, refl}
use Rattle.std.specs.Prelude.{pos}
use Rattle.graph.specs.declared.Kind.{Kind}
use Rattle.graph.specs.declared.Kind.TheVariants.{Lamp, Torch, Lever}
use Rattle.graph.specs.declared.Group.TheVariants.{Back}
use Rattle.graph.specs.declared.Link.{Link}
use Rattle.graph.specs.Graph.{Node, Nodes}
use Rattle.graph_machine.specs.Outgoing.{reads_of}

abbrev back_from : ℕ → List Link
back_from key = record { from = key; group = Back; weight = 0 } ∷ []

abbrev node : Kind → ℕ → List Link → Node
node kind x links = record {
  pos = record { x = pos x; y = pos 0; z = pos 0 };
  kind = kind;
  state = 0;
  first = false;
  due = 0;
  priority = 0;
  links = links;
  also = [];
}

-- the torch of key 3 was merged into that of key 2
abbrev twins : Nodes
twins = Some (node Lamp 0 (back_from 2)) ∷ Some (node Lamp 1 (back_from 2)) ∷ Some (node Torch 2 (back_from 4)) ∷ None ∷ Some (node Lever 4 []) ∷ []

lever_reads : reads_of twins 4 ≡ 3
lever_reads = refl

torch_reads : reads_of twins 2 ≡ 5
torch_reads = refl

lamps_read : reads_of twins 0 + reads_of twins 1 ≡ 2
lamps_read = refl
