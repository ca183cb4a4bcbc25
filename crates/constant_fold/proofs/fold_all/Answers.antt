-- Each fold is a step, and in the end no node is left to be looked at.
use Rattle.std.proofs.Common.{◌<◌, ℕ, List, []}
use Rattle.std.specs.Prelude.{Vec}
use Rattle.std.specs.declared.alloc.Global.{Global}
use Rattle.graph.specs.Graph.{Nodes}
use Rattle.graph.specs.Measure.{measure}
use Rattle.graph.specs.Sound.{IsSound}
use Rattle.graph.specs.Steps.{Folds}
use Rattle.pass_frame.specs.Frame.{Stays, Goes}
use Rattle.pass_frame.proofs.FrameSteps.{reaches_append, reaches_sound}
use Rattle.constant_fold.specs.FoldLaws.{fold_keeps_sound, fold_falls}
use Rattle.constant_fold.specs.declared.waits.Wait.{Wait}
use Rattle.constant_fold.specs.Foldable.{IsFoldable}
use Rattle.constant_fold.specs.Tended.{OthersTended, AllTended}
use Rattle.constant_fold.proofs.TendSteps.{tended_fresh, tended_folded, fold_step, foldable_low, folds_done}
use Rattle.constant_fold.proofs.fold_all.Goals as goal

-- the node can be folded, and all others are tended
abbrev Ready : Nodes → ℕ → ℕ → List Wait → List (Vec Wait Global) → Type 0
Ready g key value work lists = IsFoldable g key value × OthersTended g key work lists

pub loop-waits-init : goal.loop-waits-init
loop-waits-init c = record {
  reaches = Stays;
  tended = tended_fresh c.args.graph.now.nodes c.args.keys.now c.in_ok-waits.waits.work.items c.in_ok-waits.waits.lists.items c.requires.listed c.in_ok-waits.ensures;
}

pub returns-in_err-waits-clause-reaches : goal.returns-in_err-waits-clause-reaches
returns-in_err-waits-clause-reaches c = Stays

pub next_ready-requires-clause-sound : goal.next_ready-requires-clause-sound
next_ready-requires-clause-sound c = reaches_sound Folds fold_keeps_sound c.requires.sound c.loop-waits.invariant.reaches

pub fold_to-requires-clause-range : goal.fold_to-requires-clause-range
fold_to-requires-clause-range c =
    let sound : IsSound c.loop-waits.graph.nodes = reaches_sound Folds fold_keeps_sound c.requires.sound c.loop-waits.invariant.reaches in
    let ready : Ready c.loop-waits.graph.nodes c.in-Some.ready.key c.in-Some.ready.value c.next_ready.new.waits.work.items c.next_ready.new.waits.lists.items = rw c.in-Some.is at c.in_ok-ready.ensures in
    foldable_low c.loop-waits.graph.nodes c.in-Some.ready.key c.in-Some.ready.value sound ready.0

pub loop-waits-smaller : goal.loop-waits-smaller
loop-waits-smaller c =
    let sound : IsSound c.loop-waits.graph.nodes = reaches_sound Folds fold_keeps_sound c.requires.sound c.loop-waits.invariant.reaches in
    let ready : Ready c.loop-waits.graph.nodes c.in-Some.ready.key c.in-Some.ready.value c.next_ready.new.waits.work.items c.next_ready.new.waits.lists.items = rw c.in-Some.is at c.in_ok-ready.ensures in
    let less : measure c.fold_to.new.self.nodes < measure c.loop-waits.graph.nodes =
    fold_falls c.loop-waits.graph.nodes c.fold_to.new.self.nodes sound (fold_step c.loop-waits.graph.nodes c.fold_to.new.self.nodes c.in-Some.ready.key c.in-Some.ready.value ready.0 c.fold_to.ensures) in
    less

pub loop-waits-preserved : goal.loop-waits-preserved
loop-waits-preserved c =
    let ready : Ready c.loop-waits.graph.nodes c.in-Some.ready.key c.in-Some.ready.value c.next_ready.new.waits.work.items c.next_ready.new.waits.lists.items = rw c.in-Some.is at c.in_ok-ready.ensures in record {
      reaches = reaches_append Folds c.loop-waits.invariant.reaches
          (Goes (fold_step c.loop-waits.graph.nodes c.fold_to.new.self.nodes c.in-Some.ready.key c.in-Some.ready.value ready.0 c.fold_to.ensures) Stays);
      tended = tended_folded c.loop-waits.graph.nodes c.fold_to.new.self.nodes c.in-Some.ready.key c.in-Some.ready.value c.next_ready.new.waits.work.items c.wake.new.self.work.items c.next_ready.new.waits.lists.items
          c.wake.new.self.lists.items ready.1 ready.0 c.fold_to.ensures c.in_ok-wake.ensures.work c.in_ok-wake.ensures.emptied;
    }

pub returns-in_err-wake-clause-reaches : goal.returns-in_err-wake-clause-reaches
returns-in_err-wake-clause-reaches c =
    let ready : Ready c.loop-waits.graph.nodes c.in-Some.ready.key c.in-Some.ready.value c.next_ready.new.waits.work.items c.next_ready.new.waits.lists.items = rw c.in-Some.is at c.in_ok-ready.ensures in
    reaches_append Folds c.loop-waits.invariant.reaches
    (Goes (fold_step c.loop-waits.graph.nodes c.fold_to.new.self.nodes c.in-Some.ready.key c.in-Some.ready.value ready.0 c.fold_to.ensures) Stays)

pub returns-clause-done : goal.returns-clause-done
returns-clause-done c =
    let tended : AllTended c.loop-waits.graph.nodes [] c.next_ready.new.waits.lists.items = rw c.in_default.is at c.in_ok-ready.ensures in
    folds_done c.loop-waits.graph.nodes c.next_ready.new.waits.lists.items tended
