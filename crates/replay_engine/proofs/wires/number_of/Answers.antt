use Rattle.std.proofs.Common.{Option, ℕ, ap, ◌∙◌, sym}
use Rattle.std.specs.Option.{option_map_or}
use Rattle.replay_engine.proofs.wires.number_of.Goals as goal

pub returns-in-Some : goal.returns-in-Some
returns-in-Some c = ap (λ (o : Option ℕ). option_map_or (λ (n : ℕ). n) o 0) (sym c.in-Some.is ∙ c.number.ensures.found)

pub returns-in-None : goal.returns-in-None
returns-in-None c = ap (λ (o : Option ℕ). option_map_or (λ (n : ℕ). n) o 0) (sym c.in-None.is ∙ c.number.ensures.found)
