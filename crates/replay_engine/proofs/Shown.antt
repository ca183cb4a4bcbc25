-- What the outputs show is the view.
use Rattle.std.proofs.Common.{◌≡◌, ℕ, List, map, sym, ap, ◌∙◌}
use Rattle.std.proofs.lemmas.Simd.{map-map}
use Rattle.circuit.specs.declared.Pos.{Pos}
use Rattle.circuit.specs.declared.Cell.{Cell}
use Rattle.circuit.specs.Circuit.{State, seen, view}
use Rattle.build.specs.declared.OutPlace.{OutPlace}
use Rattle.build.specs.Outputs.{outputs}
use Rattle.replay_engine.specs.Things.{Numbered, state_by}
use Rattle.replay_engine.specs.Running.{circuit_of, seen_as, state_in, shown_of}
use Rattle.replay_engine.proofs.Held.{state-seen}

pub view-shown : (m : Numbered) (time : ℕ) (cells : List Cell) (latest : List ℕ) → map (shown_of m cells) (outputs m.plan m.marks) ≡ view (circuit_of m) (state_in (seen_as m time cells latest))
view-shown m time cells latest =
    sym (map-map (seen (circuit_of m) (state_by m 0 cells)) (λ (o : OutPlace). o.pos) (outputs m.plan m.marks))
    ∙ ap (λ (s : State Pos). view (circuit_of m) s) (sym (state-seen m time cells latest))
