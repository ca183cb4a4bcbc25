use Rattle.std.proofs.Common.{◌≡◌, ◌<◌, ℕ, Some}
use Rattle.std.specs.Prelude.{slice_get}
use Rattle.circuit.specs.Circuit.{Among}
use Rattle.graph.specs.declared.Link.{Link}
use Rattle.coalesce.specs.FanOuts.{targets_of, Keeps}
use Rattle.coalesce.proofs.fan_outs.FanOuts.add_links.Given as goal

abbrev pub invariant-loop-link : goal.invariant-loop-link
invariant-loop-link l = record {
  keeps : Keeps l.initial.self.lists.items l.self.lists.items;
  all : (index : ℕ) (link : Link) → index < l.link-index → slice_get l.links index ≡ Some link → Among (targets_of l.self.lists.items link.from) l.key;
}
