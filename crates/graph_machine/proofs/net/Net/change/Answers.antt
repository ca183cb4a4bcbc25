use Rattle.std.proofs.Common.{◌≡◌, ◌<◌, length, ap, ◌∙◌, arith, subst}
use Rattle.graph_machine.specs.Wired.{Wired, given, AreTargets, targets_in}
use Rattle.cell_queue.proofs.HeldSteps.{same_default}
use Rattle.graph_machine.proofs.WiredSteps.{enough, wired_after, all_targets}
use Rattle.graph_machine.proofs.net.Net.change.Goals as goal

pub spread-count-requires-clause-enough : goal.spread-count-requires-clause-enough
spread-count-requires-clause-enough g c = λ key group strength small.
    let net = c.self.inside in
    let inside : c.args.key < length net.outs.items = omega (arith, c.requires.key, ap (λ (w : Wired). length w.outs) c.self.view_is) in
    let old : c.index.result.now ≡ given net.outs.items c.args.key = c.index.ensures ∙ same_default net.outs.items c.args.key c.index.result.now 0 inside in
    enough net.graph.value.nodes net.parts.items net.briefs.items net.outs.items net.tables net.links c.self.invariant c.args.key key group strength c.index.result.now small old

pub invariant_of-self : goal.invariant_of-self
invariant_of-self g c =
    let net = c.self.inside in
    let inside : c.args.key < length net.outs.items = omega (arith, c.requires.key, ap (λ (w : Wired). length w.outs) c.self.view_is) in
    let old : c.index.result.now ≡ given net.outs.items c.args.key = c.index.ensures ∙ same_default net.outs.items c.args.key c.index.result.now 0 inside in
    wired_after net.graph.value.nodes net.parts.items net.briefs.items net.outs.items net.tables net.links c.self.invariant c.args.key c.args.out c.index.result.now c.spread-count.new.tables inside c.requires.out old c.spread-count.ensures.whole c.spread-count.ensures.moved

pub returns-clause-all : goal.returns-clause-all
returns-clause-all g c = subst (λ (w : Wired). AreTargets w.nodes (targets_in w.targets c.args.key) c.args.key) c.self.view_is (all_targets c.self.inside.graph.value.nodes c.self.inside.links c.self.invariant.turned c.args.key)
