use Rattle.std.proofs.Common.{◌≡◌, take, length}
use Rattle.view_text.proofs.last_view.LastView.set_part.Given as goal

abbrev pub invariant-loop-index : goal.invariant-loop-index
invariant-loop-index l = record {
  before : take l.index l.self ≡ take l.index l.values;
  whole : length l.self ≡ length l.values;
}
