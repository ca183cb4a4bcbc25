-- A link stays where its slot holds its weight, and else goes by a step.
use Rattle.std.proofs.Common.{◌≡◌, ◌≢◌, ◌<◌, ℕ, Some, None, List, Option, refl, sym, ap, ◌∙◌, subst, length, ◌+◌}
use Rattle.std.specs.Prelude.{slice_get}
use Rattle.std.proofs.lemmas.Bool.{false≢true}
use Rattle.std.proofs.lemmas.List.{length-set}
use Rattle.graph.specs.declared.Link.{Link}
use Rattle.graph.specs.Graph.{Nodes, node_at}
use Rattle.graph.specs.Edits.{set_links}
use Rattle.graph.specs.LinkAt.{links_of}
use Rattle.graph.specs.Sieving.{Sieve}
use Rattle.graph.specs.Steps.{Dedups}
use Rattle.graph.proofs.LinkSteps.{within_links, beyond_links}
use Rattle.graph.proofs.SieveSteps.{sieved_same, sieved_links, sieved_link, sieved_discard, sieved_end, taken_of, fewer_kept, fewer_dropped}
use Rattle.pass_frame.specs.Took.{Took}
use Rattle.pass_frame.proofs.Sweeps.{took_step}
use Rattle.clamp_dedup.specs.Single.{IsSingle}
use Rattle.clamp_dedup.specs.Weights.{slot_of, weight_in}
use Rattle.clamp_dedup.proofs.DedupSteps.{Rest, rest_begins, rest_keeps, rest_drops, rest_empty, rest_single, dedup_step}
use Rattle.clamp_dedup.proofs.doubled.sift_doubled_links.Goals as goal

pub loop-link-init : goal.loop-link-init
loop-link-init c =
    let taken = taken_of c.args.graph.now.nodes c.args.key c.in-Some.links (sym c.in-Some.is ∙ c.take_links.ensures.links) in
    let begins = rest_begins (links_of (node_at c.args.graph.now.nodes c.args.key)) c.note_links_into.new.weights.slots.items c.note_links_into.ensures.least
    (λ i link here. subst (λ n. slot_of link < n) (sym c.note_links_into.ensures.size) (c.requires.room i link here)) in record {
      took = ap (set_links c.args.graph.now.nodes c.args.key) taken.1 ∙ sieved_same c.args.graph.now.nodes c.args.key;
      rest = subst (λ (items : List Link). Rest items c.in-Some.links.index c.note_links_into.new.weights.slots.items) (sym taken.1)
          (subst (λ (n : ℕ). Rest (links_of (node_at c.args.graph.now.nodes c.args.key)) n c.note_links_into.new.weights.slots.items) (sym taken.2) begins);
      size = refl;
    }

pub keep-requires : goal.keep-requires
keep-requires c = within_links c.loop-link.links.items c.loop-link.links.index c.in-Some-link.link (sym c.link.ensures ∙ c.in-Some-link.is)

pub loop-link-smaller-then-is_least : goal.loop-link-smaller-then-is_least
loop-link-smaller-then-is_least c = fewer_kept c.loop-link.links c.keep.new.self c.in-Some-link.link (sym c.link.ensures ∙ c.in-Some-link.is) c.keep.ensures

pub loop-link-preserved-then-is_least : goal.loop-link-preserved-then-is_least
loop-link-preserved-then-is_least c = record {
  took = subst (λ (one : Sieve). Took Dedups c.args.graph.now.nodes c.loop-link.took (set_links c.args.graph.now.nodes c.args.key one.items)) (sym c.keep.ensures) c.loop-link.invariant.took;
  rest = subst (λ (one : Sieve). Rest one.items one.index c.clear.new.self.slots.items) (sym c.keep.ensures)
      (subst (Rest c.loop-link.links.items (c.loop-link.links.index + 1)) (sym c.clear.ensures)
      (rest_keeps c.loop-link.links.items c.loop-link.links.index c.loop-link.weights.slots.items c.in-Some-link.link c.loop-link.invariant.rest (sym c.link.ensures ∙ c.in-Some-link.is)
      (c.is_least.ensures.0 c.if-is_least.true)));
  size = ap (λ (slots : List (Option ℕ)). length slots) c.clear.ensures ∙ length-set c.loop-link.weights.slots.items (slot_of c.in-Some-link.link) None ∙ c.loop-link.invariant.size;
}

pub discard-requires : goal.discard-requires
discard-requires c = within_links c.loop-link.links.items c.loop-link.links.index c.in-Some-link.link (sym c.link.ensures ∙ c.in-Some-link.is)

pub loop-link-smaller : goal.loop-link-smaller
loop-link-smaller c = fewer_dropped c.loop-link.links c.discard.new.self c.in-Some-link.link (sym c.link.ensures ∙ c.in-Some-link.is) c.discard.ensures

pub loop-link-preserved : goal.loop-link-preserved
loop-link-preserved c =
    let taken = taken_of c.args.graph.now.nodes c.args.key c.in-Some.links (sym c.in-Some.is ∙ c.take_links.ensures.links) in
    let here : slice_get c.loop-link.links.items c.loop-link.links.index ≡ Some c.in-Some-link.link = sym c.link.ensures ∙ c.in-Some-link.is in
    let not_least : weight_in c.loop-link.weights.slots.items (slot_of c.in-Some-link.link) ≢ Some c.in-Some-link.link.weight = λ e. false≢true (sym c.if-is_least.false ∙ c.is_least.ensures.1 e) in record {
      took = took_step Dedups c.args.graph.now.nodes (set_links c.args.graph.now.nodes c.args.key c.loop-link.links.items) (set_links c.args.graph.now.nodes c.args.key c.discard.new.self.items) c.loop-link.took
          c.loop-link.invariant.took
          (dedup_step (set_links c.args.graph.now.nodes c.args.key c.loop-link.links.items) (set_links c.args.graph.now.nodes c.args.key c.discard.new.self.items) c.args.key c.loop-link.links.index c.loop-link.links.items
          c.loop-link.weights.slots.items c.in-Some-link.link (λ i one e. sieved_link c.args.graph.now.nodes c.args.key c.loop-link.links.items i one taken.0 e) c.loop-link.invariant.rest here not_least
          (sieved_discard c.args.graph.now.nodes c.args.key c.loop-link.links c.discard.new.self c.discard.ensures));
      rest = subst (λ (one : Sieve). Rest one.items one.index c.loop-link.weights.slots.items) (sym c.discard.ensures)
          (rest_drops c.loop-link.links.items c.loop-link.links.index c.loop-link.weights.slots.items c.in-Some-link.link c.loop-link.invariant.rest here not_least);
      size = c.loop-link.invariant.size;
    }

pub put_links-requires : goal.put_links-requires
put_links-requires c = beyond_links c.loop-link.links.items c.loop-link.links.index (sym c.link.ensures ∙ c.in_default-link.is)

pub returns-clause-took : goal.returns-clause-took
returns-clause-took c = subst (Took Dedups c.args.graph.now.nodes c.loop-link.took)
    (sym (sieved_end c.args.graph.now.nodes c.take_links.new.self.nodes c.put_links.new.self.nodes c.args.key c.loop-link.links.items c.take_links.ensures.nodes c.put_links.ensures)) c.loop-link.invariant.took

pub returns-clause-single : goal.returns-clause-single
returns-clause-single c =
    let taken = taken_of c.args.graph.now.nodes c.args.key c.in-Some.links (sym c.in-Some.is ∙ c.take_links.ensures.links) in
    subst (λ (g : Nodes). IsSingle (node_at g c.args.key))
    (sym (sieved_end c.args.graph.now.nodes c.take_links.new.self.nodes c.put_links.new.self.nodes c.args.key c.loop-link.links.items c.take_links.ensures.nodes c.put_links.ensures))
    (λ i j a b e f. let links = sieved_links c.args.graph.now.nodes c.args.key c.loop-link.links.items taken.0 in
    rest_single c.loop-link.links.items c.loop-link.links.index c.loop-link.weights.slots.items c.loop-link.invariant.rest (sym c.link.ensures ∙ c.in_default-link.is) i j a b
    (ap (λ (ls : List Link). slice_get ls i) (sym links) ∙ e) (ap (λ (ls : List Link). slice_get ls j) (sym links) ∙ f))

pub returns-clause-empty : goal.returns-clause-empty
returns-clause-empty c = rest_empty c.loop-link.links.items c.loop-link.links.index c.loop-link.weights.slots.items c.loop-link.invariant.rest (sym c.link.ensures ∙ c.in_default-link.is)
