use Rattle.std.proofs.Common.{◌≡◌, ◌⊎◌, ℕ, List, ◌∙◌, ap, set, sym, subst}
use Rattle.cell_queue.specs.Held.{Holding}
use Rattle.graph_machine.specs.Wired.{IsTarget, targets_in}
use Rattle.graph_machine.specs.Screens.{Refaced}
use Rattle.graph_machine.proofs.PlaySteps.{leads, leads_alone}
use Rattle.graph_machine.proofs.ScreenSteps.{refaced_then, faced_all, stays_alone, stays_changed}
use Rattle.graph_machine.proofs.events.change.Goals as goal

pub returns-then-out-clause-state : goal.returns-then-out-clause-state
returns-then-out-clause-state g c =
    (leads_alone c.args.net.now c.args.cells.now c.args.key c.args.component c.args.cell c.requires.playing c.requires.still c.requires.there c.requires.bounded
    (sym c.out.ensures ∙ c.if-out.true ∙ c.out-out.ensures) c.hold.new.self c.attend_shown.new.cells c.hold.ensures c.attend_shown.ensures.held).state

pub returns-clause-state : goal.returns-clause-state
returns-clause-state g c =
    (leads c.args.net.now c.args.cells.now c.args.key c.args.component c.args.cell c.requires.playing c.requires.still c.requires.there c.requires.bounded c.change-count.ensures.all
    c.change-count.new.self c.hold.new.self c.attend_shown-2.new.cells c.attend_targets.new.cells c.change-count.ensures.nodes
    (c.change-count.ensures.outs ∙ ap (set c.args.net.now.outs c.args.key) c.out-out.ensures) c.change-count.ensures.targets c.hold.ensures c.attend_shown-2.ensures.held c.attend_targets.ensures.time c.attend_targets.ensures.all).state

pub returns-then-out-clause-playing : goal.returns-then-out-clause-playing
returns-then-out-clause-playing g c =
    (leads_alone c.args.net.now c.args.cells.now c.args.key c.args.component c.args.cell c.requires.playing c.requires.still c.requires.there c.requires.bounded
    (sym c.out.ensures ∙ c.if-out.true ∙ c.out-out.ensures) c.hold.new.self c.attend_shown.new.cells c.hold.ensures c.attend_shown.ensures.held).playing

pub returns-clause-playing : goal.returns-clause-playing
returns-clause-playing g c =
    (leads c.args.net.now c.args.cells.now c.args.key c.args.component c.args.cell c.requires.playing c.requires.still c.requires.there c.requires.bounded c.change-count.ensures.all
    c.change-count.new.self c.hold.new.self c.attend_shown-2.new.cells c.attend_targets.new.cells c.change-count.ensures.nodes
    (c.change-count.ensures.outs ∙ ap (set c.args.net.now.outs c.args.key) c.out-out.ensures) c.change-count.ensures.targets c.hold.ensures c.attend_shown-2.ensures.held c.attend_targets.ensures.time c.attend_targets.ensures.all).playing

pub returns-then-out-clause-still : goal.returns-then-out-clause-still
returns-then-out-clause-still g c =
    (leads_alone c.args.net.now c.args.cells.now c.args.key c.args.component c.args.cell c.requires.playing c.requires.still c.requires.there c.requires.bounded
    (sym c.out.ensures ∙ c.if-out.true ∙ c.out-out.ensures) c.hold.new.self c.attend_shown.new.cells c.hold.ensures c.attend_shown.ensures.held).still

pub returns-clause-still : goal.returns-clause-still
returns-clause-still g c =
    (leads c.args.net.now c.args.cells.now c.args.key c.args.component c.args.cell c.requires.playing c.requires.still c.requires.there c.requires.bounded c.change-count.ensures.all
    c.change-count.new.self c.hold.new.self c.attend_shown-2.new.cells c.attend_targets.new.cells c.change-count.ensures.nodes
    (c.change-count.ensures.outs ∙ ap (set c.args.net.now.outs c.args.key) c.out-out.ensures) c.change-count.ensures.targets c.hold.ensures c.attend_shown-2.ensures.held c.attend_targets.ensures.time c.attend_targets.ensures.all).still

pub returns-then-out-clause-faced : goal.returns-then-out-clause-faced
returns-then-out-clause-faced g c =
    faced_all c.args.net.now c.args.net.now c.args.cells.now.cells c.hold.new.self.cells c.attend_shown.new.cells.cells c.args.screen.now c.attend_shown.new.screen (λ k. k ≡ c.args.key)
    (stays_alone c.args.net.now c.args.cells.now.cells c.hold.new.self.cells c.args.key c.args.cell (ap (λ (h : Holding). h.cells) c.hold.ensures)) c.requires.faced c.attend_shown.ensures.refaced

pub returns-clause-faced : goal.returns-clause-faced
returns-clause-faced g c =
    let targets = targets_in c.args.net.now.targets c.args.key in
    let w = c.change-count.new.self in
    faced_all c.args.net.now w c.args.cells.now.cells c.hold.new.self.cells c.attend_targets.new.cells.cells c.args.screen.now c.attend_targets.new.screen (λ k. (k ≡ c.args.key) ⊎ IsTarget targets k)
    (stays_changed c.args.net.now w c.args.cells.now.cells c.hold.new.self.cells c.args.key c.out-out.result c.args.cell targets c.change-count.ensures.nodes c.change-count.ensures.outs (ap (λ (h : Holding). h.cells) c.hold.ensures) c.change-count.ensures.all)
    c.requires.faced
    (refaced_then w c.hold.new.self.cells c.attend_shown-2.new.cells.cells c.attend_targets.new.cells.cells c.args.screen.now c.attend_shown-2.new.screen c.attend_targets.new.screen (λ k. k ≡ c.args.key) (IsTarget targets) (λ k. (k ≡ c.args.key) ⊎ IsTarget targets k) (λ k h. h)
    c.attend_shown-2.ensures.refaced
    (subst (λ (t : List (List ℕ)). Refaced w c.attend_shown-2.new.cells.cells c.attend_targets.new.cells.cells c.attend_shown-2.new.screen c.attend_targets.new.screen (IsTarget (targets_in t c.args.key))) c.change-count.ensures.targets c.attend_targets.ensures.refaced))
