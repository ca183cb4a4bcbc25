use Rattle.std.proofs.Common.{◌≡◌, ◌++◌, drop}
use Rattle.node_arena.specs.Items.{keys_from, keys_of}
use Rattle.node_arena.proofs.keys_in_use.Given as goal

abbrev pub invariant-loop-number : goal.invariant-loop-number
invariant-loop-number g l = l.keys.items ++ keys_from l.number (drop l.number l.places) ≡ keys_of l.places
