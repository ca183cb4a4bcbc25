use Rattle.std.proofs.Common.{◌≡◌, ◌<◌, ◌≤◌, length, ◌+◌, ◌-◌, is_some}
use Rattle.rp_io.specs.Reads.{AsksAlone, IsFront}
use Rattle.rp_io.specs.Causes.{StaysCount}
use Rattle.rp_io.proofs.whole.read_whole.Given as goal

abbrev pub invariant-pieces : goal.invariant-pieces
invariant-pieces g l = record {
  files : g.I.Inputs.file l.inputs ≡ g.I.Inputs.file l.initial.inputs;
  asked : AsksAlone (g.I.Inputs.asked l.initial.inputs) (g.I.Inputs.asked l.inputs) l.name;
  told : is_some (g.I.Inputs.asked l.inputs l.name) ≡ is_some (g.I.Inputs.asked l.initial.inputs l.name);
  later : g.I.Inputs.faults l.initial.inputs ≤ g.I.Inputs.faults l.inputs;
  stays : StaysCount (g.I.Inputs.faults l.initial.inputs) (g.I.Inputs.faults l.inputs);
  room : 0 < length l.chunk;
  within : length l.bytes.items ≤ l.limit;
  front : IsFront (g.I.Inputs.file l.initial.inputs l.name) l.bytes.items;
}

abbrev pub decreases-pieces : goal.decreases-pieces
decreases-pieces g l = l.limit + 1 - length l.bytes.items
