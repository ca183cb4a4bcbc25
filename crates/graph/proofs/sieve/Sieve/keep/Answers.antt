-- The link goes before the gap.
use Rattle.std.proofs.Common.{◌<◌, ◌≤◌, ◌^◌, arith, length}
use Rattle.graph.proofs.GapSteps.{one_left, was_kept, stored_kept}
use Rattle.graph.proofs.sieve.Sieve.keep.Goals as goal

pub invariant_of-self : goal.invariant_of-self
invariant_of-self c =
    let h = c.self.invariant in
    let inside : c.self.inside.judged < length c.self.inside.links.items = one_left c.args.self.now c.self.inside.links.items c.self.inside.kept c.self.inside.judged c.self.view_is h.kept h.judged c.requires in
    let after = stored_kept c.self.inside.links.items c.copy.new.self.items c.self.inside.kept c.self.inside.judged c.copy.ensures h.kept inside h.groups in
    let few : length c.self.inside.links.items ≤ 2 ^ 32 = h.few in record {
      kept = omega (arith, h.kept);
      judged = omega (arith, inside, after.1);
      groups = after.0;
      few = omega (arith, few, after.1);
    }

pub returns : goal.returns
returns c =
    let h = c.self.invariant in
    was_kept c.args.self.now c.self.inside.links.items c.copy.new.self.items c.self.inside.kept c.self.inside.judged c.self.view_is c.copy.ensures h.kept
    (one_left c.args.self.now c.self.inside.links.items c.self.inside.kept c.self.inside.judged c.self.view_is h.kept h.judged c.requires)
