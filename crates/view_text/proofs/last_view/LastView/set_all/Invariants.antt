use Rattle.std.proofs.Common.{◌≡◌, ◌*◌, min, take, length}
use Rattle.view_text.proofs.last_view.LastView.set_all.Given as goal

abbrev pub invariant-loop-part : goal.invariant-loop-part
invariant-loop-part l = record {
  before : take (min (length l.values) (l.part * 64)) l.self ≡ take (min (length l.values) (l.part * 64)) l.values;
  whole : length l.self ≡ length l.values;
}
