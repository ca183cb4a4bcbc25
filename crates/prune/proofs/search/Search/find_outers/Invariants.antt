use Rattle.std.proofs.Common.{◌≡◌, drop}
use Rattle.prune.specs.Found.{plain_search, found_outers}
use Rattle.prune.proofs.search.Search.find_outers.Given as goal

abbrev pub invariant-loop-key : goal.invariant-loop-key
invariant-loop-key l = found_outers l.graph.nodes (plain_search l.self) (drop l.key-index l.keys) ≡ found_outers l.graph.nodes (plain_search l.initial.self) l.keys
