use Rattle.std.proofs.Common.{◌<◌, ℕ, List, length, ap, subst, ◌∙◌, slice_index}
use Rattle.std.specs.Prelude.{IfSome}
use Rattle.replay_engine.specs.Things.{Numbered, number_at, less_one}
use Rattle.replay_engine.specs.Numbers.{number-some, number-none, number_below}
use Rattle.replay_engine.proofs.things.Things.number.Goals as goal

pub returns-in-Some-clause-found : goal.returns-in-Some-clause-found
returns-in-Some-clause-found c =
    let m : Numbered = record { plan = c.self.inside.build; marks = c.self.inside.marks; spots = c.self.inside.spots.items; numbers = c.self.inside.numbers.items } in
    c.number_in.ensures ∙ ap (λ (xs : List ℕ). less_one (slice_index xs c.in-Some.cell)) c.deref.ensures.value
    ∙ number-some m c.args.pos c.in-Some.cell c.in-Some.ensures.found ∙ ap (λ (n : Numbered). number_at n c.args.pos) c.self.view_is

pub returns-in-Some-clause-below : goal.returns-in-Some-clause-below
returns-in-Some-clause-below c =
    let m : Numbered = record { plan = c.self.inside.build; marks = c.self.inside.marks; spots = c.self.inside.spots.items; numbers = c.self.inside.numbers.items } in
    subst (λ (n : Numbered). IfSome c.number_in.result (λ (k : ℕ). k < length n.spots)) c.self.view_is
    (number_below m c.self.invariant c.args.pos c.number_in.result
    (c.number_in.ensures ∙ ap (λ (xs : List ℕ). less_one (slice_index xs c.in-Some.cell)) c.deref.ensures.value ∙ number-some m c.args.pos c.in-Some.cell c.in-Some.ensures.found))

pub returns-in-None-clause-found : goal.returns-in-None-clause-found
returns-in-None-clause-found c =
    let m : Numbered = record { plan = c.self.inside.build; marks = c.self.inside.marks; spots = c.self.inside.spots.items; numbers = c.self.inside.numbers.items } in
    number-none m c.args.pos c.in-None.ensures.found ∙ ap (λ (n : Numbered). number_at n c.args.pos) c.self.view_is
