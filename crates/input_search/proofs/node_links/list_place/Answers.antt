use Rattle.std.proofs.Common.{ℕ, ◌<◌, is_some, All, [], ◌∷◌, ◌++◌, sym, subst, ap, ◌∙◌}
use Rattle.std.proofs.lemmas.Bool.{false≢true}
use Rattle.build.specs.Places.{found-cell_of, found-is_some}
use Rattle.input_search.proofs.node_links.list_place.Goals as goal

pub push-requires-clause-rising : goal.push-requires-clause-rising
push-requires-clause-rising c =
    subst (λ (cell : ℕ). All (λ other. other < cell) c.args.numbers.now) (sym (found-cell_of c.args.build.now c.args.pos c.in-Some.cell c.in-Some.ensures.found)) c.requires.rising

pub unreachable-requires : goal.unreachable-requires
unreachable-requires c = false≢true (ap is_some c.in-None.ensures.found ∙ found-is_some c.args.build.now c.args.pos ∙ c.requires.inside)

pub returns : goal.returns
returns c = c.in_ok-push-in-Some.ensures.ok ∙ ap (λ (cell : ℕ). c.args.numbers.now ++ cell ∷ []) (found-cell_of c.args.build.now c.args.pos c.in-Some.cell c.in-Some.ensures.found)
