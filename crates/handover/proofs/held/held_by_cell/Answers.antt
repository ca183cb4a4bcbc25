use Rattle.std.specs.Vec.{with_items}
use Rattle.std.proofs.Common.{rules, ◌≡◌, ◌++◌, ◌∷◌, [], List, Option, length, replicate, sym, ap, ◌∙◌, subst}
use Rattle.std.proofs.lemmas.List.{with_items_is, length-replicate}
use Rattle.graph.specs.Graph.{node_at}
use Rattle.graph_machine.specs.Playing.{state_in}
use Rattle.handover.specs.declared.held.Held.{Held}
use Rattle.handover.specs.GivenBack.{keeps, held_under}
use Rattle.handover.specs.HeldByCell.{Notes, AreTimely}
use Rattle.handover.proofs.Popped.{nothing_held, AreNoted, popped, none_popped, none_noted, none_timely, still_popped, noted_next, all_noted}
use Rattle.handover.proofs.held.held_by_cell.Goals as goal

pub loop-key-init : goal.loop-key-init
loop-key-init c =
    let empty : c.in_ok-held.held.items ≡ replicate c.cells.result nothing_held = c.in_ok-held.ensures.items_if_clones_equal (λ y h. search rules) in
    record {
      whole = ap (λ (held : List (Option Held)). length held) empty ∙ length-replicate c.cells.result nothing_held ∙ c.cells.ensures.count;
      split = none_popped c.args.graph.now.nodes c.in_ok-keys.keys.items c.in_ok-keys.ensures;
      noted = none_noted c.args.build.now c.args.graph.now.nodes (state_in c.args.machine.now) c.in_ok-keys.keys.items c.in_ok-held.held.items c.cells.result c.in_ok-keys.ensures empty;
      timely = none_timely c.in_ok-held.held.items c.cells.result empty;
    }

pub note_key-requires-clause-whole : goal.note_key-requires-clause-whole
note_key-requires-clause-whole c = ap (λ (held : List (Option Held)). length held) c.deref_mut.ensures.value ∙ c.loop-key.invariant.whole

pub note_key-requires-clause-timely : goal.note_key-requires-clause-timely
note_key-requires-clause-timely c = subst AreTimely (sym c.deref_mut.ensures.value) c.loop-key.invariant.timely

pub loop-key-preserved : goal.loop-key-preserved
loop-key-preserved c =
    let nodes = c.args.graph.now.nodes in
    let size : length c.note_key.new.held ≡ c.loop-key.held.len = c.note_key.auto.held ∙ ap (λ (held : List (Option Held)). length held) c.deref_mut.ensures.value ∙ sym c.loop-key.held.ok.0 in
    let is : (with_items c.loop-key.held c.note_key.new.held).items ≡ c.note_key.new.held = with_items_is c.loop-key.held c.note_key.new.held size in
    let front : c.loop-key.keys.items ≡ c.pop.new.self.items ++ c.in-Some.key ∷ [] = c.in-Some.ensures.items in
    record {
      whole = ap (λ (held : List (Option Held)). length held) is ∙ size ∙ c.loop-key.held.ok.0 ∙ c.loop-key.invariant.whole;
      split = still_popped nodes c.loop-key.keys.items c.pop.new.self.items c.in-Some.key c.loop-key.invariant.split front;
      noted = subst (AreNoted c.args.build.now nodes (state_in c.args.machine.now) (popped nodes c.pop.new.self.items)) (sym is)
          (noted_next c.args.build.now nodes (state_in c.args.machine.now) c.loop-key.keys.items c.pop.new.self.items c.in-Some.key c.loop-key.held.items c.note_key.new.held c.loop-key.invariant.split front
          c.loop-key.invariant.noted (subst (λ (old : List (Option Held)). Notes c.args.build.now (λ pos. keeps pos (node_at nodes c.in-Some.key)) (held_under (state_in c.args.machine.now) c.in-Some.key) old c.note_key.new.held) c.deref_mut.ensures.value c.note_key.ensures.notes));
      timely = subst AreTimely (sym is) c.note_key.ensures.timely;
    }

pub returns-clause-held : goal.returns-clause-held
returns-clause-held c = all_noted c.args.build.now c.args.graph.now.nodes (state_in c.args.machine.now) c.loop-key.keys.items c.loop-key.held.items (search rules) c.loop-key.invariant.whole c.loop-key.invariant.noted

pub returns-clause-timely : goal.returns-clause-timely
returns-clause-timely c = c.loop-key.invariant.timely
