-- Each drop is a step that changes no bound, and what stays before the index reaches.
use Rattle.std.proofs.Common.{◌≡◌, ◌≤◌, Some, List, get_or, refl, sym, ap, ◌∙◌, subst}
use Rattle.std.specs.Prelude.{slice_get}
use Rattle.std.proofs.lemmas.Bool.{leb-true, leb-false}
use Rattle.graph.specs.declared.Link.{Link}
use Rattle.graph.specs.Graph.{Nodes, node_at, HasLink}
use Rattle.graph.specs.Edits.{set_links, drop_link}
use Rattle.graph.specs.Sieving.{Sieve}
use Rattle.graph.specs.Steps.{Unreaches}
use Rattle.graph.proofs.LinkSteps.{LinksBelow, within_links, beyond_links, below_none, below_next, below_dropped, below_all}
use Rattle.graph.proofs.SieveSteps.{sieved_same, sieved_link, sieved_each, sieved_discard, sieved_end, taken_of, fewer_kept, fewer_dropped}
use Rattle.pass_frame.specs.Took.{Took}
use Rattle.pass_frame.proofs.Sweeps.{took_step}
use Rattle.unreach.specs.Reached.{HasBound, IsReaching, IsReached, SameBounds}
use Rattle.unreach.proofs.UnreachSteps.{HasBounds, unreach_step, same_bounds_after, same_bounds_then, bounded_after}
use Rattle.unreach.proofs.sift_spent_links.Goals as goal

pub loop-link-init : goal.loop-link-init
loop-link-init c =
    let taken = taken_of c.args.graph.now.nodes c.args.key c.in-Some.links (sym c.in-Some.is ∙ c.take_links.ensures.links) in
    let same : set_links c.args.graph.now.nodes c.args.key c.in-Some.links.items ≡ c.args.graph.now.nodes = ap (set_links c.args.graph.now.nodes c.args.key) taken.1 ∙ sieved_same c.args.graph.now.nodes c.args.key in record {
      took = same;
      reaching = subst (LinksBelow (IsReaching c.args.bounds.now.list.items) c.in-Some.links.items) (sym taken.2) (below_none (IsReaching c.args.bounds.now.list.items) c.in-Some.links.items);
      same = subst (SameBounds c.args.graph.now.nodes) (sym same) (λ key. refl);
      bounded = λ i link e. subst (λ (g : Nodes). HasBound g c.args.bounds.now.list.items link.from) (sym same)
          (c.requires i link (ap (λ (ls : List Link). slice_get ls i) (sym taken.1) ∙ e));
    }

pub discard-requires : goal.discard-requires
discard-requires c = within_links c.loop-link.links.items c.loop-link.links.index c.in-Some-link.link (sym c.link.ensures ∙ c.in-Some-link.is)

pub loop-link-smaller-then-is_spent : goal.loop-link-smaller-then-is_spent
loop-link-smaller-then-is_spent c = fewer_dropped c.loop-link.links c.discard.new.self c.in-Some-link.link (sym c.link.ensures ∙ c.in-Some-link.is) c.discard.ensures

pub loop-link-preserved-then-is_spent : goal.loop-link-preserved-then-is_spent
loop-link-preserved-then-is_spent c =
    let taken = taken_of c.args.graph.now.nodes c.args.key c.in-Some.links (sym c.in-Some.is ∙ c.take_links.ensures.links) in
    let here : slice_get c.loop-link.links.items c.loop-link.links.index ≡ Some c.in-Some-link.link = sym c.link.ensures ∙ c.in-Some-link.is in
    let linked : HasLink (set_links c.args.graph.now.nodes c.args.key c.loop-link.links.items) c.args.key c.loop-link.links.index c.in-Some-link.link =
    sieved_link c.args.graph.now.nodes c.args.key c.loop-link.links.items c.loop-link.links.index c.in-Some-link.link taken.0 here in
    let after : set_links c.args.graph.now.nodes c.args.key c.discard.new.self.items ≡ drop_link (set_links c.args.graph.now.nodes c.args.key c.loop-link.links.items) c.args.key c.loop-link.links.index =
    sieved_discard c.args.graph.now.nodes c.args.key c.loop-link.links c.discard.new.self c.discard.ensures in
    let bound : HasBound (set_links c.args.graph.now.nodes c.args.key c.loop-link.links.items) c.args.bounds.now.list.items c.in-Some-link.link.from =
    c.loop-link.invariant.bounded c.loop-link.links.index c.in-Some-link.link here in
    let heavy : get_or c.args.bounds.now.list.items c.in-Some-link.link.from 0 ≤ c.in-Some-link.link.weight =
    leb-true (get_or c.args.bounds.now.list.items c.in-Some-link.link.from 0) c.in-Some-link.link.weight (sym c.is_spent.ensures ∙ c.if-is_spent.true) in
    let same : SameBounds (set_links c.args.graph.now.nodes c.args.key c.loop-link.links.items) (set_links c.args.graph.now.nodes c.args.key c.discard.new.self.items) =
    same_bounds_after (set_links c.args.graph.now.nodes c.args.key c.loop-link.links.items) (set_links c.args.graph.now.nodes c.args.key c.discard.new.self.items) c.args.key c.loop-link.links.index c.in-Some-link.link
    c.args.bounds.now.list.items linked bound heavy after in record {
      took = took_step Unreaches c.args.graph.now.nodes (set_links c.args.graph.now.nodes c.args.key c.loop-link.links.items) (set_links c.args.graph.now.nodes c.args.key c.discard.new.self.items) c.loop-link.took
          c.loop-link.invariant.took
          (unreach_step (set_links c.args.graph.now.nodes c.args.key c.loop-link.links.items) (set_links c.args.graph.now.nodes c.args.key c.discard.new.self.items) c.args.key c.loop-link.links.index c.in-Some-link.link
          c.args.bounds.now.list.items linked bound heavy after);
      reaching = subst (λ (one : Sieve). LinksBelow (IsReaching c.args.bounds.now.list.items) one.items one.index) (sym c.discard.ensures)
          (below_dropped (IsReaching c.args.bounds.now.list.items) c.loop-link.links.items c.loop-link.links.index c.loop-link.invariant.reaching);
      same = same_bounds_then c.args.graph.now.nodes (set_links c.args.graph.now.nodes c.args.key c.loop-link.links.items) (set_links c.args.graph.now.nodes c.args.key c.discard.new.self.items)
          c.loop-link.invariant.same same;
      bounded = subst (λ (one : Sieve). HasBounds (set_links c.args.graph.now.nodes c.args.key c.discard.new.self.items) c.args.bounds.now.list.items one.items) (sym c.discard.ensures)
          (bounded_after (set_links c.args.graph.now.nodes c.args.key c.loop-link.links.items) (set_links c.args.graph.now.nodes c.args.key c.discard.new.self.items) c.args.bounds.now.list.items c.loop-link.links.items
          c.loop-link.links.index same c.loop-link.invariant.bounded);
    }

pub keep-requires : goal.keep-requires
keep-requires c = within_links c.loop-link.links.items c.loop-link.links.index c.in-Some-link.link (sym c.link.ensures ∙ c.in-Some-link.is)

pub loop-link-smaller : goal.loop-link-smaller
loop-link-smaller c = fewer_kept c.loop-link.links c.keep.new.self c.in-Some-link.link (sym c.link.ensures ∙ c.in-Some-link.is) c.keep.ensures

pub loop-link-preserved : goal.loop-link-preserved
loop-link-preserved c = record {
  took = subst (λ (one : Sieve). Took Unreaches c.args.graph.now.nodes c.loop-link.took (set_links c.args.graph.now.nodes c.args.key one.items)) (sym c.keep.ensures) c.loop-link.invariant.took;
  reaching = subst (λ (one : Sieve). LinksBelow (IsReaching c.args.bounds.now.list.items) one.items one.index) (sym c.keep.ensures)
      (below_next (IsReaching c.args.bounds.now.list.items) c.loop-link.links.items c.loop-link.links.index c.in-Some-link.link c.loop-link.invariant.reaching (sym c.link.ensures ∙ c.in-Some-link.is)
      (leb-false (get_or c.args.bounds.now.list.items c.in-Some-link.link.from 0) c.in-Some-link.link.weight (sym c.is_spent.ensures ∙ c.if-is_spent.false)));
  same = subst (λ (one : Sieve). SameBounds c.args.graph.now.nodes (set_links c.args.graph.now.nodes c.args.key one.items)) (sym c.keep.ensures) c.loop-link.invariant.same;
  bounded = subst (λ (one : Sieve). HasBounds (set_links c.args.graph.now.nodes c.args.key one.items) c.args.bounds.now.list.items one.items) (sym c.keep.ensures) c.loop-link.invariant.bounded;
}

pub put_links-requires : goal.put_links-requires
put_links-requires c = beyond_links c.loop-link.links.items c.loop-link.links.index (sym c.link.ensures ∙ c.in_default-link.is)

pub returns-clause-took : goal.returns-clause-took
returns-clause-took c = subst (Took Unreaches c.args.graph.now.nodes c.loop-link.took)
    (sym (sieved_end c.args.graph.now.nodes c.take_links.new.self.nodes c.put_links.new.self.nodes c.args.key c.loop-link.links.items c.take_links.ensures.nodes c.put_links.ensures)) c.loop-link.invariant.took

pub returns-clause-reached : goal.returns-clause-reached
returns-clause-reached c =
    let taken = taken_of c.args.graph.now.nodes c.args.key c.in-Some.links (sym c.in-Some.is ∙ c.take_links.ensures.links) in
    subst (λ (g : Nodes). IsReached c.args.bounds.now.list.items (node_at g c.args.key))
    (sym (sieved_end c.args.graph.now.nodes c.take_links.new.self.nodes c.put_links.new.self.nodes c.args.key c.loop-link.links.items c.take_links.ensures.nodes c.put_links.ensures))
    (sieved_each (IsReaching c.args.bounds.now.list.items) c.args.graph.now.nodes c.args.key c.loop-link.links.items taken.0
    (below_all (IsReaching c.args.bounds.now.list.items) c.loop-link.links.items c.loop-link.links.index c.loop-link.invariant.reaching (sym c.link.ensures ∙ c.in_default-link.is)))

pub returns-clause-bounds : goal.returns-clause-bounds
returns-clause-bounds c = subst (SameBounds c.args.graph.now.nodes)
    (sym (sieved_end c.args.graph.now.nodes c.take_links.new.self.nodes c.put_links.new.self.nodes c.args.key c.loop-link.links.items c.take_links.ensures.nodes c.put_links.ensures)) c.loop-link.invariant.same
