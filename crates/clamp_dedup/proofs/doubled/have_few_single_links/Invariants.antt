use Rattle.pass_frame.proofs.Sweeps.{DoneBefore}
use Rattle.clamp_dedup.specs.Single.{IsSingle}
use Rattle.clamp_dedup.proofs.doubled.have_few_single_links.Given as goal

abbrev pub invariant-loop-key : goal.invariant-loop-key
invariant-loop-key l = DoneBefore IsSingle l.graph.nodes l.keys l.key-index
