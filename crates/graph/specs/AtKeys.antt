-- What stands under each key after an edit of one entry, or of all.
use Rattle.std.proofs.Common.{◌≡◌, ◌≢◌, ℕ, zero, suc, [], ◌∷◌, Option, None, refl, sym, ap, map, set}
use Rattle.std.specs.Prelude.{option_map}
use Rattle.graph.specs.Graph.{Node, Nodes, node_at}
use Rattle.graph.specs.Edits.{change}

pub at_other : (g : Nodes) (key : ℕ) (entry : Option Node) (other : ℕ) → other ≢ key → node_at (set g key entry) other ≡ node_at g other
at_other [] key entry other n = refl
at_other (e ∷ g) zero entry zero n = absurd (n refl)
at_other (e ∷ g) zero entry (suc other) n = refl
at_other (e ∷ g) (suc key) entry zero n = refl
at_other (e ∷ g) (suc key) entry (suc other) n = at_other g key entry other (λ e. n (ap (λ k. suc k) e))

pub at_dropped : (g : Nodes) (key : ℕ) → node_at (set g key None) key ≡ None
at_dropped [] key = refl
at_dropped (e ∷ g) zero = refl
at_dropped (e ∷ g) (suc key) = at_dropped g key

pub at_changed : (f : Node → Node) (g : Nodes) (key : ℕ) → node_at (change f g key) key ≡ option_map f (node_at g key)
at_changed f [] key = refl
at_changed f (entry ∷ g) zero = refl
at_changed f (entry ∷ g) (suc key) = at_changed f g key

pub at_mapped : (f : Option Node → Option Node) → f None ≡ None → (g : Nodes) (key : ℕ) → node_at (map f g) key ≡ f (node_at g key)
at_mapped f none [] key = sym none
at_mapped f none (e ∷ g) zero = refl
at_mapped f none (e ∷ g) (suc key) = at_mapped f none g key
