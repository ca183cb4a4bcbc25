use Rattle.clamp_dedup.specs.ClampLaws.{clamp_same_runs, clamp_same_events}
use Rattle.clamp_dedup.proofs.laws.clamp_keeps_the_order.Goals as goal

pub returns : goal.returns
returns c = record { runs = clamp_same_runs; events = clamp_same_events }
