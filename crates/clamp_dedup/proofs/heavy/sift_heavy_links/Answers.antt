-- Each drop is a step, and what stays before the index is light.
use Rattle.std.proofs.Common.{sym, ap, ◌∙◌, subst}
use Rattle.std.proofs.lemmas.Bool.{leb-true, leb-false}
use Rattle.graph.specs.Graph.{Nodes, node_at}
use Rattle.graph.specs.Edits.{set_links}
use Rattle.graph.specs.Sieving.{Sieve}
use Rattle.graph.specs.Steps.{Clamps}
use Rattle.graph.proofs.LinkSteps.{LinksBelow, within_links, beyond_links, below_none, below_next, below_dropped, below_all}
use Rattle.graph.proofs.SieveSteps.{sieved_same, sieved_link, sieved_each, sieved_discard, sieved_end, taken_of, fewer_kept, fewer_dropped}
use Rattle.pass_frame.specs.Took.{Took}
use Rattle.pass_frame.proofs.Sweeps.{took_step}
use Rattle.clamp_dedup.specs.Clamped.{IsLight, IsClamped}
use Rattle.clamp_dedup.proofs.heavy.sift_heavy_links.Goals as goal

pub loop-link-init : goal.loop-link-init
loop-link-init c =
    let taken = taken_of c.args.graph.now.nodes c.args.key c.in-Some.links (sym c.in-Some.is ∙ c.take_links.ensures.links) in record {
      took = ap (set_links c.args.graph.now.nodes c.args.key) taken.1 ∙ sieved_same c.args.graph.now.nodes c.args.key;
      light = subst (LinksBelow IsLight c.in-Some.links.items) (sym taken.2) (below_none IsLight c.in-Some.links.items);
    }

pub discard-requires : goal.discard-requires
discard-requires c = within_links c.loop-link.links.items c.loop-link.links.index c.in-Some-link.link (sym c.link.ensures ∙ c.in-Some-link.is)

pub loop-link-smaller-then-is_heavy : goal.loop-link-smaller-then-is_heavy
loop-link-smaller-then-is_heavy c = fewer_dropped c.loop-link.links c.discard.new.self c.in-Some-link.link (sym c.link.ensures ∙ c.in-Some-link.is) c.discard.ensures

pub loop-link-preserved-then-is_heavy : goal.loop-link-preserved-then-is_heavy
loop-link-preserved-then-is_heavy c =
    let taken = taken_of c.args.graph.now.nodes c.args.key c.in-Some.links (sym c.in-Some.is ∙ c.take_links.ensures.links) in record {
      took = took_step Clamps c.args.graph.now.nodes (set_links c.args.graph.now.nodes c.args.key c.loop-link.links.items) (set_links c.args.graph.now.nodes c.args.key c.discard.new.self.items) c.loop-link.took
          c.loop-link.invariant.took (record {
            key = c.args.key;
            index = c.loop-link.links.index;
            link = c.in-Some-link.link;
            linked = sieved_link c.args.graph.now.nodes c.args.key c.loop-link.links.items c.loop-link.links.index c.in-Some-link.link taken.0 (sym c.link.ensures ∙ c.in-Some-link.is);
            heavy = leb-true 15 c.in-Some-link.link.weight (sym c.is_heavy.ensures ∙ c.if-is_heavy.true);
            after = sieved_discard c.args.graph.now.nodes c.args.key c.loop-link.links c.discard.new.self c.discard.ensures;
          });
      light = subst (λ (one : Sieve). LinksBelow IsLight one.items one.index) (sym c.discard.ensures) (below_dropped IsLight c.loop-link.links.items c.loop-link.links.index c.loop-link.invariant.light);
    }

pub keep-requires : goal.keep-requires
keep-requires c = within_links c.loop-link.links.items c.loop-link.links.index c.in-Some-link.link (sym c.link.ensures ∙ c.in-Some-link.is)

pub loop-link-smaller : goal.loop-link-smaller
loop-link-smaller c = fewer_kept c.loop-link.links c.keep.new.self c.in-Some-link.link (sym c.link.ensures ∙ c.in-Some-link.is) c.keep.ensures

pub loop-link-preserved : goal.loop-link-preserved
loop-link-preserved c = record {
  took = subst (λ (one : Sieve). Took Clamps c.args.graph.now.nodes c.loop-link.took (set_links c.args.graph.now.nodes c.args.key one.items)) (sym c.keep.ensures) c.loop-link.invariant.took;
  light = subst (λ (one : Sieve). LinksBelow IsLight one.items one.index) (sym c.keep.ensures)
      (below_next IsLight c.loop-link.links.items c.loop-link.links.index c.in-Some-link.link c.loop-link.invariant.light (sym c.link.ensures ∙ c.in-Some-link.is)
      (leb-false 15 c.in-Some-link.link.weight (sym c.is_heavy.ensures ∙ c.if-is_heavy.false)));
}

pub put_links-requires : goal.put_links-requires
put_links-requires c = beyond_links c.loop-link.links.items c.loop-link.links.index (sym c.link.ensures ∙ c.in_default-link.is)

pub returns-clause-took : goal.returns-clause-took
returns-clause-took c = subst (Took Clamps c.args.graph.now.nodes c.loop-link.took)
    (sym (sieved_end c.args.graph.now.nodes c.take_links.new.self.nodes c.put_links.new.self.nodes c.args.key c.loop-link.links.items c.take_links.ensures.nodes c.put_links.ensures)) c.loop-link.invariant.took

pub returns-clause-light : goal.returns-clause-light
returns-clause-light c =
    let taken = taken_of c.args.graph.now.nodes c.args.key c.in-Some.links (sym c.in-Some.is ∙ c.take_links.ensures.links) in
    subst (λ (g : Nodes). IsClamped (node_at g c.args.key))
    (sym (sieved_end c.args.graph.now.nodes c.take_links.new.self.nodes c.put_links.new.self.nodes c.args.key c.loop-link.links.items c.take_links.ensures.nodes c.put_links.ensures))
    (sieved_each IsLight c.args.graph.now.nodes c.args.key c.loop-link.links.items taken.0
    (below_all IsLight c.loop-link.links.items c.loop-link.links.index c.loop-link.invariant.light (sym c.link.ensures ∙ c.in_default-link.is)))
