-- The laws of two kinds of steps are those of either.
use Rattle.std.specs.Prelude.{◌<◌, ◌⊎◌}
use Rattle.std.proofs.Common.{inl, inr}
use Rattle.graph.specs.Graph.{Nodes}
use Rattle.graph.specs.Sound.{IsSound}
use Rattle.graph.specs.Refines.{Refines}
use Rattle.graph.specs.Measure.{measure}

pub either_sound : (P Q : Nodes → Nodes → Type 0) → ((old new : Nodes) → IsSound old → P old new → IsSound new) → ((old new : Nodes) → IsSound old → Q old new → IsSound new) →
    (old new : Nodes) → IsSound old → P old new ⊎ Q old new → IsSound new
either_sound P Q p q old new s h = elim h [ inl x ↦ p old new s x | inr x ↦ q old new s x ]

pub either_refines : (P Q : Nodes → Nodes → Type 0) → ((old new : Nodes) → IsSound old → P old new → Refines old new) → ((old new : Nodes) → IsSound old → Q old new → Refines old new) →
    (old new : Nodes) → IsSound old → P old new ⊎ Q old new → Refines old new
either_refines P Q p q old new s h = elim h [ inl x ↦ p old new s x | inr x ↦ q old new s x ]

pub either_falls : (P Q : Nodes → Nodes → Type 0) → ((old new : Nodes) → IsSound old → P old new → measure new < measure old) → ((old new : Nodes) → IsSound old → Q old new → measure new < measure old) →
    (old new : Nodes) → IsSound old → P old new ⊎ Q old new → measure new < measure old
either_falls P Q p q old new s h = elim h [ inl x ↦ p old new s x | inr x ↦ q old new s x ]
