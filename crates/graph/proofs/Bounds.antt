-- No drop of a link that weighs as much as its source's bound changes a bound.
use Rattle.std.proofs.Common.{◌≡◌, ℕ, ◌-◌, ◌≤◌, max, true, false, Option, Some, None, refl, sym, ap, ◌∙◌, arith}
use Rattle.std.proofs.Math.Path.{fun_ext}
use Rattle.std.specs.Prelude.{remove}
use Rattle.graph.specs.declared.Kind.{Kind}
use Rattle.graph.specs.declared.Kind.TheVariants.{Comparator, Constant}
use Rattle.graph.specs.declared.Group.TheVariants.{Side}
use Rattle.graph.specs.declared.Link.{Link}
use Rattle.graph.specs.Graph.{Node, Nodes, node_at, HasLink}
use Rattle.graph.specs.Edits.{without_link, drop_link}
use Rattle.graph.specs.Readings.{reading}
use Rattle.graph.specs.Steps.{fixed_out, fixed_at, fixed, bound_of, bound_at}
use Rattle.graph.proofs.Shares.{reading-without_heavy}
use Rattle.graph.proofs.LinkDrops.{dropped, entry_after_set}

pub fixed_le-bound : (g : Nodes) (key : ℕ) → fixed g key ≤ bound_at g (node_at g key)
fixed_le-bound g key = by_entry (node_at g key)
  where
    by_kind : (node : Node) (kind : Kind) → fixed_out kind node.state ≤ bound_of (fixed g) node kind
    by_kind node Constant = omega arith
    by_kind node _ = omega arith

    by_entry : (entry : Option Node) → fixed_at entry ≤ bound_at g entry
    by_entry None = omega arith
    by_entry (Some node) = by_kind node node.kind

fixed-dropped : (g : Nodes) (key index : ℕ) → fixed (drop_link g key index) ≡ fixed g
fixed-dropped g key index = fun_ext (entry_after_set (λ a b. fixed_at b ≡ fixed_at a) (λ a. refl) g key (dropped index (node_at g key)) (one (node_at g key)))
  where
    one : (a : Option Node) → fixed_at (dropped index a) ≡ fixed_at a
    one None = refl
    one (Some n) = refl

pub bound_at-dropped : (g : Nodes) (key index : ℕ) (link : Link) → HasLink g key index link → bound_at g (node_at g link.from) ≤ link.weight →
    (k : ℕ) → bound_at (drop_link g key index) (node_at (drop_link g key index) k) ≡ bound_at g (node_at g k)
bound_at-dropped g key index link linked heavy k =
    by_entry (node_at (drop_link g key index) k) ∙ entry_after_set (λ a b. bound_at g b ≡ bound_at g a) (λ a. refl) g key (dropped index (node_at g key)) here k
  where
    by_entry : (entry : Option Node) → bound_at (drop_link g key index) entry ≡ bound_at g entry
    by_entry None = refl
    by_entry (Some node) = ap (λ (given : ℕ → ℕ). bound_of given node node.kind) (fixed-dropped g key index)

    side : reading (fixed g) Side (remove linked.node.links index) ≡ reading (fixed g) Side linked.node.links
    side = reading-without_heavy (fixed g) Side linked.node.links index link linked.at_index (omega (arith, fixed_le-bound g link.from, heavy))

    by_kind : (kind : Kind) → bound_of (fixed g) (without_link index linked.node) kind ≡ bound_of (fixed g) linked.node kind
    by_kind (Comparator true direct far) = ap (λ n. max linked.node.state (15 - n)) side
    by_kind (Comparator false direct far) = refl
    by_kind Constant = refl
    by_kind _ = refl

    here : bound_at g (dropped index (node_at g key)) ≡ bound_at g (node_at g key)
    here = ap (λ (entry : Option Node). bound_at g (dropped index entry)) linked.there ∙ by_kind linked.node.kind ∙ ap (bound_at g) (sym linked.there)
