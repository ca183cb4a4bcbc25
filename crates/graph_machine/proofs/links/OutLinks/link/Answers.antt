use Rattle.std.proofs.Common.{◌≡◌, ℕ, List, length, ap, ◌∙◌, arith, refl}
use Rattle.graph_machine.specs.Packed.{start_at}
use Rattle.graph_machine.proofs.PackSteps.{inside_ends, place_inside, link_there}
use Rattle.graph_machine.proofs.links.OutLinks.link.Goals as goal

pub start_at-requires : goal.start_at-requires
start_at-requires g c =
    let l = c.self.inside in
    let inside = inside_ends l.ends.items l.links.items c.args.self.now c.args.from _ c.self.invariant c.self.view_is c.requires.from refl in
    omega (arith, inside, ap (λ (l : List ℕ). length l) c.deref.ensures.value)

pub overflow_add-start_at : goal.overflow_add-start_at
overflow_add-start_at g c =
    let l = c.self.inside in
    let starts : c.start_at.result ≡ start_at 0 l.ends.items c.args.from = c.start_at.ensures ∙ ap (λ (l : List ℕ). start_at 0 l c.args.from) c.deref.ensures.value in
    let place = place_inside l.ends.items l.links.items c.args.self.now c.args.from c.start_at.result c.self.invariant c.self.view_is c.requires.from starts c.args.index c.requires.index in
    omega (arith, place.0, place.1)

pub index-requires : goal.index-requires
index-requires g c =
    let l = c.self.inside in
    let starts : c.start_at.result ≡ start_at 0 l.ends.items c.args.from = c.start_at.ensures ∙ ap (λ (l : List ℕ). start_at 0 l c.args.from) c.deref.ensures.value in
    let place = place_inside l.ends.items l.links.items c.args.self.now c.args.from c.start_at.result c.self.invariant c.self.view_is c.requires.from starts c.args.index c.requires.index in
    omega (arith, place.0, l.links.ok.0)

pub returns-clause-link : goal.returns-clause-link
returns-clause-link g c =
    let l = c.self.inside in
    let starts : c.start_at.result ≡ start_at 0 l.ends.items c.args.from = c.start_at.ensures ∙ ap (λ (l : List ℕ). start_at 0 l c.args.from) c.deref.ensures.value in
    c.index.ensures ∙ link_there l.ends.items l.links.items c.args.self.now c.args.from c.start_at.result c.self.invariant c.self.view_is c.requires.from starts c.args.index c.requires.index c.index.result.now
