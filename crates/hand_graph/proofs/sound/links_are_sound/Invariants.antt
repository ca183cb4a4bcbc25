use Rattle.std.proofs.Common.{◌≡◌, ℕ, ◌<◌, ◌≤◌, Some}
use Rattle.std.specs.Prelude.{slice_get}
use Rattle.graph.specs.declared.Link.{Link}
use Rattle.graph.specs.Graph.{Lives}
use Rattle.hand_graph.proofs.sound.links_are_sound.Given as goal

abbrev pub invariant-loop-link : goal.invariant-loop-link
invariant-loop-link l = (index : ℕ) (link : Link) → index < l.link-index → slice_get l.links index ≡ Some link → (link.weight ≤ 15) × Lives l.graph.nodes link.from
