use Rattle.std.proofs.Common.{ℕ, sym, ap, ◌∙◌, ◌≡◌, ◌*◌, List, get_or, subst, ◌≤◌}
use Rattle.build.specs.Plan.{Plan, entry, block_at, found_cell}
use Rattle.build.specs.contracts.build.Build.{the_view}
use Rattle.build.specs.Places.{entry-some, entry-none}
use Rattle.build.proofs.StoredLevels.{get_or-levels_of}
use Rattle.build.proofs.LevelSteps.{fits-small}
use Rattle.build.proofs.build.Build.level.Goals as goal

pub returns-in-Some-clause-value : goal.returns-in-Some-clause-value
returns-in-Some-clause-value c =
    let b : Plan = the_view c.self.inside in
    c.stored_level.ensures ∙ ap (λ (xs : List ℕ). get_or xs c.in-Some.cell 0) c.deref.ensures.value
    ∙ sym (get_or-levels_of (c.self.inside.width * (c.self.inside.length * c.self.inside.height)) c.in-Some.cell c.self.inside.levels.items)
    ∙ entry-some b b.levels 0 c.args.pos c.in-Some.cell (c.in-Some.ensures.found ∙ ap (λ (d : Plan). found_cell d c.args.pos) (sym c.self.view_is))
    ∙ ap (λ (d : Plan). entry d d.levels 0 c.args.pos) c.self.view_is

pub returns-in-Some-clause-small : goal.returns-in-Some-clause-small
returns-in-Some-clause-small c =
    let b : Plan = the_view c.self.inside in
    let same : c.stored_level.result ≡ entry b b.levels 0 c.args.pos = returns-in-Some-clause-value c ∙ sym (ap (λ (d : Plan). entry d d.levels 0 c.args.pos) c.self.view_is) in
    subst (λ (level : ℕ). level ≤ 15) (sym same) (fits-small (block_at b c.args.pos) (entry b b.levels 0 c.args.pos) (c.self.invariant.fitting c.args.pos))

pub returns-in-None-clause-value : goal.returns-in-None-clause-value
returns-in-None-clause-value c = entry-none c.args.self.now c.args.self.now.levels 0 c.args.pos c.in-None.ensures.found
