-- When Clamp has nothing more to do.
use Rattle.std.proofs.Common.{◌≡◌, ℕ, ◌<◌, false, Some, None, sym, ◌∙◌, subst, arith, inl, inr}
use Rattle.std.specs.List.{list_any}
use Rattle.std.proofs.lemmas.Bool.{cases_lt, false≢true, le-leb}
use Rattle.graph.specs.Graph.{Node, Nodes, node_at}
use Rattle.graph.specs.Steps.{Clamps}
use Rattle.pass_frame.specs.Frame.{IsDone}
use Rattle.clamp_dedup.specs.Clamped.{is_heavy, IsClamped}
use Rattle.clamp_dedup.proofs.NonePasses.{none_passes}

pub clamps_done : (g : Nodes) → ((key : ℕ) (node : Node) → node_at g key ≡ Some node → IsClamped (Some node)) → IsDone Clamps g
clamps_done g h new step =
    let light : step.link.weight < 15 = h step.key step.linked.node step.linked.there step.index step.link step.linked.at_index in
    let heavy = step.heavy in
    absurd (omega (arith, light, heavy))

-- where no link is heavy
pub clamped_by : (g : Nodes) (key : ℕ) (node : Node) → Some node ≡ node_at g key → list_any is_heavy node.links ≡ false → IsClamped (node_at g key)
clamped_by g key node there none = subst IsClamped there (λ index link at. elim (cases_lt link.weight 15) [
  | inl light ↦ light
  | inr heavy ↦ absurd (false≢true (sym (none_passes is_heavy node.links index link none at) ∙ le-leb 15 link.weight heavy))
])

pub clamped_none : (g : Nodes) (key : ℕ) → None ≡ node_at g key → IsClamped (node_at g key)
clamped_none g key there = subst IsClamped there (λ index link at. absurd (cc))
