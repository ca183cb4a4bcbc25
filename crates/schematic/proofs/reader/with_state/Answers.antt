use Rattle.std.proofs.Common.{◌≡◌, ℕ, List, Option, None, sym, ap, ◌∙◌, subst}
use Rattle.std.specs.Prelude.{replicate, option_map}
use Rattle.nbt.specs.Plain.{PlainFields, plain_fields}
use Rattle.build.specs.Plan.{Plan, volume}
use Rattle.schematic.specs.Fields.{pending_in}
use Rattle.schematic.specs.Entities.{Entity, counting, signal_fault}
use Rattle.schematic.specs.PendingTicks.{pending_fault}
use Rattle.schematic.specs.File.{bare, wrong_pending, IsCause, plain_refusal}
use Rattle.schematic.specs.Code.{plain_entities}
use Rattle.schematic.proofs.Firsts.{state_second, state_none}
use Rattle.schematic.proofs.States.{ok_then, err_then, bare-levels, bare-pending, pending-levels}
use Rattle.schematic.proofs.reader.with_state.Goals as goal

pub with_levels-requires : goal.with_levels-requires
with_levels-requires c =
    record { none = subst (λ (b : Plan). b.levels ≡ replicate (volume b) 0) (sym c.requires.bare) (bare-levels (plain_fields c.args.root.now.items)) }

pub with_all_pending-requires-clause-none : goal.with_all_pending-requires-clause-none
with_all_pending-requires-clause-none c =
    ap (λ (b : Plan). b.pending) c.in_ok-build.ensures ∙ ap (λ (b : Plan). b.pending) c.requires.bare ∙ bare-pending (plain_fields c.args.root.now.items)

pub returns-clause-sound : goal.returns-clause-sound
returns-clause-sound c =
    let R : PlainFields = plain_fields c.args.root.now.items in
    let b = c.args.build in
    let es : List Entity = plain_entities c.in_ok-entities.entities.items in
    let found : signal_fault (bare R) (counting R) ≡ None =
    ap (λ (d : Plan). signal_fault d (counting R)) (sym c.requires.bare) ∙ ap (signal_fault b) (sym c.in_ok-entities.ensures) ∙ ap (λ xs. signal_fault b (plain_entities xs)) (sym c.deref.ensures.value) ∙ sym c.in_default.ensures in
    let ticks : pending_fault c.in_ok-build.build c.pending_in.result.now ≡ pending_fault (bare R) (pending_in R) =
    ap (λ (d : Plan). pending_fault d c.pending_in.result.now) c.in_ok-build.ensures ∙ pending-levels b _ c.pending_in.result.now ∙ ap (pending_fault b) c.pending_in.ensures ∙ ap (λ (d : Plan). pending_fault d (pending_in R)) c.requires.bare in
    ok_then c.with_all_pending.result _ _ (λ made h. state_none R found (sym ticks ∙ h)) c.with_all_pending.ensures.sound

pub returns-clause-err : goal.returns-clause-err
returns-clause-err c =
    let R : PlainFields = plain_fields c.args.root.now.items in
    let b = c.args.build in
    let found : signal_fault (bare R) (counting R) ≡ None =
    ap (λ (d : Plan). signal_fault d (counting R)) (sym c.requires.bare) ∙ ap (signal_fault b) (sym c.in_ok-entities.ensures) ∙ ap (λ xs. signal_fault b (plain_entities xs)) (sym c.deref.ensures.value) ∙ sym c.in_default.ensures in
    let ticks : pending_fault c.in_ok-build.build c.pending_in.result.now ≡ pending_fault (bare R) (pending_in R) =
    ap (λ (d : Plan). pending_fault d c.pending_in.result.now) c.in_ok-build.ensures ∙ pending-levels b _ c.pending_in.result.now ∙ ap (pending_fault b) c.pending_in.ensures ∙ ap (λ (d : Plan). pending_fault d (pending_in R)) c.requires.bare in
    err_then c.with_all_pending.result _ _ (λ e h. state_second R (plain_refusal e) found (subst (λ (o : Option ℕ). IsCause (plain_refusal e) (option_map wrong_pending o)) ticks h)) c.with_all_pending.ensures.err
