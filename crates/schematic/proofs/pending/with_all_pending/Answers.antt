use Rattle.std.proofs.Common.{◌≡◌, ◌++◌, ◌+◌, ℤ, List, Some, true, false, sym, ap, ◌∙◌, arith}
use Rattle.std.specs.Prelude.{option_map, ◌&&◌, not}
use Rattle.std.specs.List.{filter_map}
use Rattle.build.specs.declared.Pending.{Pending}
use Rattle.build.specs.Plan.{is_ticking, is_pending, block_at}
use Rattle.schematic.specs.PendingTicks.{fives, tick_of, fault_after, pending_fault}
use Rattle.schematic.specs.File.{wrong_pending}
use Rattle.schematic.proofs.Causes.{cause_is}
use Rattle.schematic.proofs.Fives.{fault_wrong, fault_right, ticks_more, told_of, made_more}
use Rattle.schematic.proofs.pending.with_all_pending.Goals as goal

pub returns-then-not-branch-clause-err : goal.returns-then-not-branch-clause-err
unfolding pending_fault
returns-then-not-branch-clause-err c =
    let b = c.args.build in
    let now = c.loop-rest.build in
    let rest = c.loop-rest.rest.now in
    let behind = c.first_group.result.1.now in
    let tick = c.in-Some.tick in
    let wrong : (is_ticking (block_at b tick.pos) && not (is_pending now.pending tick.pos)) ≡ false =
    sym (told_of b now tick.pos c.loop-rest.invariant.made) ∙ sym c.in_ok-add.ensures.added ∙ c.if-not-branch.true in
    cause_is _ _ (wrong_pending c.loop-rest.group) c.wrong_pending-then-not-branch.ensures
    (ap (option_map wrong_pending) (sym c.loop-rest.invariant.sound ∙ ap (fault_after b c.loop-rest.group now.pending) c.first_group.ensures.groups
    ∙ fault_wrong b c.loop-rest.group now.pending c.first_group.result.0.now (fives behind) tick (sym c.in-Some.ensures.value) wrong))

pub loop-rest-preserved : goal.loop-rest-preserved
loop-rest-preserved c =
    let b = c.args.build in
    let now = c.loop-rest.build in
    let new = c.add.new.build in
    let first = c.first_group.result.0.now in
    let behind = c.first_group.result.1.now in
    let tick = c.in-Some.tick in
    let taken : c.in_ok-add.field-0 ≡ true = c.if-not-branch.false in
    let right : (is_ticking (block_at b tick.pos) && not (is_pending now.pending tick.pos)) ≡ true =
    sym (told_of b now tick.pos c.loop-rest.invariant.made) ∙ sym c.in_ok-add.ensures.added ∙ taken in
    let edited = rw taken at c.in_ok-add.ensures.build in
    let made = made_more b now new tick c.loop-rest.invariant.made edited in
    let value : tick_of first ≡ Some tick = sym c.in-Some.ensures.value in
    let shorter = c.first_group.ensures.shorter in
    let few = c.loop-rest.invariant.few in
    record {
      made = made.0;
      sound = ap (λ (ts : List Pending). fault_after b (c.loop-rest.group + 1) ts (fives behind)) made.1 ∙ sym (fault_right b c.loop-rest.group now.pending first (fives behind) tick value right)
          ∙ sym (ap (fault_after b c.loop-rest.group now.pending) c.first_group.ensures.groups) ∙ c.loop-rest.invariant.sound;
      ticks = ap (λ (ts : List Pending). ts ++ filter_map tick_of (fives behind)) made.1 ∙ ticks_more now.pending first (fives behind) tick value
          ∙ sym (ap (λ (gs : List (List ℤ)). now.pending ++ filter_map tick_of gs) c.first_group.ensures.groups) ∙ c.loop-rest.invariant.ticks;
      few = omega arith;
    }
