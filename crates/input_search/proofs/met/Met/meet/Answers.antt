use Rattle.std.proofs.Common.{◌≡◌, ℕ, Bool, true, List, map, set, ap, ◌∙◌, refl, eq-eqb}
use Rattle.std.specs.Prelude.{◌==◌}
use Rattle.std.proofs.lemmas.List.{map-set}
use Rattle.input_search.proofs.met.Met.meet.Goals as goal

marked : (turns next : List ℕ) (turn number : ℕ) → next ≡ set turns number turn → map (λ t. t == turn) next ≡ set (map (λ t. t == turn) turns) number true
marked turns next turn number e =
    ap (map (λ t. t == turn)) e ∙ map-set (λ t. t == turn) turns number turn
    ∙ ap (λ (b : Bool). set (map (λ t. t == turn) turns) number b) (eq-eqb turn turn refl)

pub returns-clause-met : goal.returns-clause-met
returns-clause-met c =
    marked c.self.inside.turns.items c.write.new.turns.items c.self.inside.turn c.args.number c.write.ensures
    ∙ ap (λ (met : List Bool). set met c.args.number true) c.self.view_is
