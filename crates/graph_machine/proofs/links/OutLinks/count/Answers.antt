use Rattle.std.proofs.Common.{◌≡◌, ℕ, List, length, ap, ◌∙◌, arith, get_or, refl}
use Rattle.cell_queue.proofs.HeldSteps.{same_default}
use Rattle.graph_machine.specs.Packed.{start_at}
use Rattle.graph_machine.proofs.PackSteps.{inside_ends, count_is}
use Rattle.graph_machine.proofs.links.OutLinks.count.Goals as goal

pub index-requires : goal.index-requires
index-requires g c =
    let l = c.self.inside in
    let inside = inside_ends l.ends.items l.links.items c.args.self.now c.args.from _ c.self.invariant c.self.view_is c.requires refl in
    omega (arith, inside, l.ends.ok.0)

pub start_at-requires : goal.start_at-requires
start_at-requires g c =
    let l = c.self.inside in
    let inside = inside_ends l.ends.items l.links.items c.args.self.now c.args.from _ c.self.invariant c.self.view_is c.requires refl in
    omega (arith, inside, ap (λ (l : List ℕ). length l) c.deref.ensures.value)

pub overflow_sub-result : goal.overflow_sub-result
overflow_sub-result g c =
    let l = c.self.inside in
    let starts : c.start_at.result ≡ start_at 0 l.ends.items c.args.from = c.start_at.ensures ∙ ap (λ (l : List ℕ). start_at 0 l c.args.from) c.deref.ensures.value in
    let inside = inside_ends l.ends.items l.links.items c.args.self.now c.args.from c.start_at.result c.self.invariant c.self.view_is c.requires starts in
    let end : c.index.result.now ≡ get_or l.ends.items c.args.from 0 = c.index.ensures ∙ same_default l.ends.items c.args.from c.index.result.now 0 inside in
    (count_is l.ends.items l.links.items c.args.self.now c.args.from c.start_at.result c.self.invariant c.self.view_is c.requires starts c.index.result.now end).0

pub returns-clause-count : goal.returns-clause-count
returns-clause-count g c =
    let l = c.self.inside in
    let starts : c.start_at.result ≡ start_at 0 l.ends.items c.args.from = c.start_at.ensures ∙ ap (λ (l : List ℕ). start_at 0 l c.args.from) c.deref.ensures.value in
    let inside = inside_ends l.ends.items l.links.items c.args.self.now c.args.from c.start_at.result c.self.invariant c.self.view_is c.requires starts in
    let end : c.index.result.now ≡ get_or l.ends.items c.args.from 0 = c.index.ensures ∙ same_default l.ends.items c.args.from c.index.result.now 0 inside in
    (count_is l.ends.items l.links.items c.args.self.now c.args.from c.start_at.result c.self.invariant c.self.view_is c.requires starts c.index.result.now end).2

pub returns-clause-few : goal.returns-clause-few
returns-clause-few g c =
    let l = c.self.inside in
    let starts : c.start_at.result ≡ start_at 0 l.ends.items c.args.from = c.start_at.ensures ∙ ap (λ (l : List ℕ). start_at 0 l c.args.from) c.deref.ensures.value in
    let inside = inside_ends l.ends.items l.links.items c.args.self.now c.args.from c.start_at.result c.self.invariant c.self.view_is c.requires starts in
    let end : c.index.result.now ≡ get_or l.ends.items c.args.from 0 = c.index.ensures ∙ same_default l.ends.items c.args.from c.index.result.now 0 inside in
    let few = (count_is l.ends.items l.links.items c.args.self.now c.args.from c.start_at.result c.self.invariant c.self.view_is c.requires starts c.index.result.now end).1 in
    omega (arith, few)
