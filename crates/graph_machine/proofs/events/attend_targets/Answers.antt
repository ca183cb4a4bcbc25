use Rattle.std.proofs.Common.{◌≡◌, ◌+◌, ◌<◌, length, ap, ◌∙◌, arith, set}
use Rattle.cell_queue.specs.Held.{Holding, cell_of}
use Rattle.graph_machine.specs.Wired.{targets_in, IsTarget}
use Rattle.graph_machine.specs.Playing.{attended_in, IsEarly}
use Rattle.graph_machine.proofs.PlaySteps.{attends_more, attends_as, early_split}
use Rattle.graph_machine.proofs.ScreenSteps.{refaced_then, refaced_fewer}
use Rattle.graph_machine.proofs.events.attend_targets.Goals as goal

pub loop-index-preserved : goal.loop-index-preserved
loop-index-preserved g c =
    let net = c.args.net.now in
    let now = c.loop-index.cells.cells in
    let target = c.target-target.result in
    let targets = targets_in net.targets c.args.key in
    let time = c.args.cells.now.time in
    let next : c.attend_shown.new.cells.cells ≡ set now target (attended_in net time target (cell_of now target)) =
    ap (λ (h : Holding). h.cells) c.attend_shown.ensures.held ∙ ap (λ t. set now target (attended_in net t target (cell_of now target))) c.loop-index.invariant.time in
    let inside : target < length c.args.cells.now.cells = omega (arith, c.target-target.ensures.inside, c.requires.whole) in
    record {
      time = ap (λ (h : Holding). h.time) c.attend_shown.ensures.held ∙ c.loop-index.invariant.time;
      all = attends_more net time (IsEarly targets c.loop-index.index) (IsEarly targets (c.loop-index.index + 1)) c.args.cells.now.cells now c.attend_shown.new.cells.cells target inside c.loop-index.invariant.all next
          (early_split targets c.loop-index.index target c.target-target.ensures.value);
      refaced = refaced_then net c.args.cells.now.cells now c.attend_shown.new.cells.cells c.args.screen.now c.loop-index.screen c.attend_shown.new.screen (IsEarly targets c.loop-index.index) (λ k. k ≡ target) (IsEarly targets (c.loop-index.index + 1))
          (early_split targets c.loop-index.index target c.target-target.ensures.value) c.loop-index.invariant.refaced c.attend_shown.ensures.refaced;
      read = omega (arith, c.target-target.ensures.read, c.loop-index.invariant.read);
    }

pub returns-clause-all : goal.returns-clause-all
returns-clause-all g c =
    let targets = targets_in c.args.net.now.targets c.args.key in
    attends_as c.args.net.now c.args.cells.now.time (IsEarly targets c.loop-index.index) (IsTarget targets) c.args.cells.now.cells c.loop-index.cells.cells
    (λ key target. record { target = target; early = omega (arith, target.inside, c.requires.count, c.loop-index-test.false) }) c.loop-index.invariant.all

pub returns-clause-refaced : goal.returns-clause-refaced
returns-clause-refaced g c =
    let targets = targets_in c.args.net.now.targets c.args.key in
    refaced_fewer c.args.net.now c.args.cells.now.cells c.loop-index.cells.cells c.args.screen.now c.loop-index.screen (IsEarly targets c.loop-index.index) (IsTarget targets)
    (λ key target. record { target = target; early = omega (arith, target.inside, c.requires.count, c.loop-index-test.false) }) c.loop-index.invariant.refaced
