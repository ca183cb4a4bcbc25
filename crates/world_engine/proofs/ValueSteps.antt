-- The values of what things hold stay when a tick is taken.
use Rattle.std.proofs.Common.{◌≡◌, ℕ, map, Option, Some, None, refl, sym, ap, ◌∙◌}
use Rattle.std.proofs.Math.Seq.{map-set_same}
use Rattle.cell_queue.specs.Held.{Holding, TakesFirst, cell_of, nothing, rested}
use Rattle.world_engine.specs.Running.{value_of}

pub values_taken : (old new : Holding) (taken : Option ℕ) → TakesFirst old taken new → map value_of old.cells ≡ map value_of new.cells
values_taken old new None t = ap (λ (h : Holding). map value_of h.cells) (sym t.0)
values_taken old new (Some key) t =
    sym (map-set_same value_of old.cells key (rested (cell_of old.cells key)) nothing refl)
    ∙ sym (ap (λ (h : Holding). map value_of h.cells) t.1)
