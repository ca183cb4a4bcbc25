-- The gap is longer by the link.
use Rattle.std.proofs.Common.{◌<◌, arith, length}
use Rattle.graph.proofs.GapSteps.{one_left, discarded, stored_discarded}
use Rattle.graph.proofs.sieve.Sieve.discard.Goals as goal

pub invariant_of-self : goal.invariant_of-self
invariant_of-self c =
    let h = c.self.invariant in
    let inside : c.self.inside.judged < length c.self.inside.links.items = one_left c.args.self.now c.self.inside.links.items c.self.inside.kept c.self.inside.judged c.self.view_is h.kept h.judged c.requires in record {
      kept = omega (arith, h.kept);
      judged = omega (arith, inside);
      groups = stored_discarded c.self.inside.links.items c.self.inside.kept c.self.inside.judged h.groups h.kept inside;
      few = h.few;
    }

pub returns : goal.returns
returns c =
    let h = c.self.invariant in
    discarded c.args.self.now c.self.inside.links.items c.self.inside.kept c.self.inside.judged c.self.view_is h.kept
    (one_left c.args.self.now c.self.inside.links.items c.self.inside.kept c.self.inside.judged c.self.view_is h.kept h.judged c.requires)
