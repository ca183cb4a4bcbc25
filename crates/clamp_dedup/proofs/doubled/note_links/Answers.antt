-- One link more is noted.
use Rattle.std.proofs.Common.{◌≡◌, ◌+◌, ◌<◌, Some, List, Option, ℕ, subst, sym, ap, ◌∙◌, length}
use Rattle.std.specs.Prelude.{slice_get}
use Rattle.std.proofs.lemmas.List.{length-set}
use Rattle.clamp_dedup.specs.Weights.{slot_of, weight_in, lesser, HasSlotsFor}
use Rattle.clamp_dedup.proofs.DedupSteps.{Noted, one_noted, all_noted, link_read}
use Rattle.clamp_dedup.proofs.doubled.note_links.Goals as goal

pub loop-link-preserved : goal.loop-link-preserved
loop-link-preserved c =
    let here : slice_get c.args.links.now c.loop-link.link-index ≡ Some c.link-item.result = link_read c.args.links.now c.loop-link.link-index c.link-item.result c.loop-link-test.true c.link-item.is in
    let room : HasSlotsFor c.loop-link.weights.slots.items c.args.links.now =
    λ index link e. subst (λ n. slot_of link < n) (sym c.loop-link.invariant.size) (c.requires.room index link e) in record {
      noted = subst (Noted c.args.links.now (c.loop-link.link-index + 1)) (sym c.note.ensures)
          (one_noted c.args.links.now c.loop-link.link-index c.loop-link.weights.slots.items c.link-item.result c.loop-link.invariant.noted here (room c.loop-link.link-index c.link-item.result here));
      size = ap (λ (slots : List (Option ℕ)). length slots) c.note.ensures
          ∙ length-set c.loop-link.weights.slots.items (slot_of c.link-item.result) (lesser (weight_in c.loop-link.weights.slots.items (slot_of c.link-item.result)) c.link-item.result.weight)
          ∙ c.loop-link.invariant.size;
    }

pub returns-clause-least : goal.returns-clause-least
returns-clause-least c = all_noted c.args.links.now c.loop-link.link-index c.loop-link.weights.slots.items c.loop-link.invariant.noted c.loop-link-test.false
