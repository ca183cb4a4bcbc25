use Rattle.circuit.specs.declared.Pos.{Pos}
use Rattle.build.specs.Plan.{block_at}
use Rattle.build.specs.Outputs.{is_component}
use Rattle.build.proofs.FoundPlaces.{KeptBelow}
use Rattle.build.proofs.build.Build.components.Given as goal

abbrev pub invariant-loop-cell : goal.invariant-loop-cell
invariant-loop-cell l = KeptBelow (λ (p : Pos). is_component (block_at l.fn.self p)) l.fn.self l.places.items l.cell
