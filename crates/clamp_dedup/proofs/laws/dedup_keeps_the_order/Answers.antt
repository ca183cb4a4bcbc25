use Rattle.clamp_dedup.specs.DedupLaws.{dedup_same_runs, dedup_same_events}
use Rattle.clamp_dedup.proofs.laws.dedup_keeps_the_order.Goals as goal

pub returns : goal.returns
returns c = record { runs = dedup_same_runs; events = dedup_same_events }
