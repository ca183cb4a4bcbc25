use Rattle.std.proofs.Common.{◌+◌, ◌*◌, ◌≤◌, length, take, vec_capacity}
use Rattle.view_text.proofs.Mending.{HasFirst}
use Rattle.view_text.proofs.values.make_anew.Given as goal

abbrev pub invariant-loop-index : goal.invariant-loop-index
invariant-loop-index l = record {
  first : HasFirst (take 32 l.fn.line.items) l.line.items l.ends l.values l.index;
  short : length l.line.items ≤ 32 + 3 * l.index;
  room : vec_capacity l.fn.line ≤ vec_capacity l.line;
}
