-- Links in a walk, of which some are kept.
use Rattle.std.specs.Prelude.{◌≡◌, ℕ, ◌≤◌, ◌^◌, List, ◌++◌, take, drop, length}
use Rattle.graph.specs.declared.Link.{Link}
use Rattle.graph.specs.declared.sieve.Sieve.TheInside.{Inside}
use Rattle.graph.specs.Graph.{Node}
use Rattle.graph.specs.Links.{in_groups}

-- The links that were kept, as many as the index says, and behind them those that are still to be judged.
pub record Sieve : Type 0 where
  pub items : List Link
  pub index : ℕ

-- all links of the node are to be judged
abbrev pub begun : Node → Sieve
begun node = record { items = node.links; index = 0 }

-- the first so many links, and those from a later one on
abbrev pub without_gap : List Link → ℕ → ℕ → List Link
without_gap links kept judged = take kept links ++ drop judged links

abbrev pub sieve_of : Inside → Sieve
sieve_of a = record { items = without_gap a.links.items a.kept a.judged; index = a.kept }

-- what is kept was judged, and all of it may be the links of a node
pub record IsStoredSieve (a : Inside) : Type 0 where
  pub kept : a.kept ≤ a.judged
  pub judged : a.judged ≤ length a.links.items
  pub groups : in_groups (without_gap a.links.items a.kept a.judged) ≡ without_gap a.links.items a.kept a.judged
  pub few : length a.links.items ≤ 2 ^ 32
