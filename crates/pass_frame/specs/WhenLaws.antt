-- The laws of steps that are taken only where a flag is on.
use Rattle.std.specs.Prelude.{◌≡◌, ◌<◌, Bool, true}
use Rattle.graph.specs.Graph.{Nodes}
use Rattle.graph.specs.Sound.{IsSound}
use Rattle.graph.specs.Refines.{Refines}
use Rattle.graph.specs.Measure.{measure}

pub when_sound : (on : Bool) (P : Nodes → Nodes → Type 0) → ((old new : Nodes) → IsSound old → P old new → IsSound new) →
    (old new : Nodes) → IsSound old → (on ≡ true) × P old new → IsSound new
when_sound on P p old new s h = p old new s h.1

pub when_refines : (on : Bool) (P : Nodes → Nodes → Type 0) → ((old new : Nodes) → IsSound old → P old new → Refines old new) →
    (old new : Nodes) → IsSound old → (on ≡ true) × P old new → Refines old new
when_refines on P p old new s h = p old new s h.1

pub when_falls : (on : Bool) (P : Nodes → Nodes → Type 0) → ((old new : Nodes) → IsSound old → P old new → measure new < measure old) →
    (old new : Nodes) → IsSound old → (on ≡ true) × P old new → measure new < measure old
when_falls on P p old new s h = p old new s h.1
