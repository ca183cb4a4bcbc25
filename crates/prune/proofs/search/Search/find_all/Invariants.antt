use Rattle.std.proofs.Common.{◌≡◌, drop}
use Rattle.prune.specs.Found.{plain_search, found_all}
use Rattle.prune.proofs.search.Search.find_all.Given as goal

abbrev pub invariant-loop-link : goal.invariant-loop-link
invariant-loop-link l = found_all (plain_search l.self) (drop l.link-index l.links) ≡ found_all (plain_search l.initial.self) l.links
