use Rattle.std.proofs.Common.{◌<◌, ℕ, length, ap, subst, ◌∙◌}
use Rattle.std.specs.Prelude.{IfSome}
use Rattle.wiring.specs.Things.{Numbered, number_at}
use Rattle.wiring.specs.Numbers.{number-some, number-none, number_below}
use Rattle.wiring.proofs.things.Things.number.Goals as goal

pub returns-in-Some-clause-found : goal.returns-in-Some-clause-found
returns-in-Some-clause-found c =
    let m : Numbered = record { plan = c.self.inside.build; marks = c.self.inside.marks; spots = c.self.inside.spots.items; cells = c.self.inside.numbers } in
    c.get.ensures.number ∙ number-some m c.args.pos c.in-Some.cell c.in-Some.ensures.found ∙ ap (λ (n : Numbered). number_at n c.args.pos) c.self.view_is

pub returns-in-Some-clause-below : goal.returns-in-Some-clause-below
returns-in-Some-clause-below c =
    let m : Numbered = record { plan = c.self.inside.build; marks = c.self.inside.marks; spots = c.self.inside.spots.items; cells = c.self.inside.numbers } in
    subst (λ (n : Numbered). IfSome c.get.result (λ (k : ℕ). k < length n.spots)) c.self.view_is
    (number_below m c.self.invariant c.args.pos c.get.result (c.get.ensures.number ∙ number-some m c.args.pos c.in-Some.cell c.in-Some.ensures.found))

pub returns-in-None-clause-found : goal.returns-in-None-clause-found
returns-in-None-clause-found c =
    let m : Numbered = record { plan = c.self.inside.build; marks = c.self.inside.marks; spots = c.self.inside.spots.items; cells = c.self.inside.numbers } in
    number-none m c.args.pos c.in-None.ensures.found ∙ ap (λ (n : Numbered). number_at n c.args.pos) c.self.view_is
