use Rattle.std.proofs.Common.{length, ◌≤◌, arith}
use Rattle.wiring.proofs.Numbering.{few_numbered}
use Rattle.wiring.proofs.things.Things.count.Goals as goal

pub returns-clause-few : goal.returns-clause-few
returns-clause-few c = let few : length c.self.inside.spots.items ≤ 16777216 = few_numbered _ c.self.invariant in omega (arith, c.len.ensures, c.self.inside.spots.ok.0)
