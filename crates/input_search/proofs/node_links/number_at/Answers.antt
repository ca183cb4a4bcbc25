use Rattle.std.proofs.Common.{◌≡◌, ℕ, true, false, is_some, sym, ap, ◌∙◌, refl}
use Rattle.std.specs.Option.{option_map_or}
use Rattle.build.specs.Plan.{in_box}
use Rattle.build.specs.Places.{found-cell_of, found-is_some}
use Rattle.cell_numbers.specs.Numbers.{number_in}
use Rattle.input_search.proofs.node_links.number_at.Goals as goal

pub returns-in-Some : goal.returns-in-Some
returns-in-Some c =
    let within : in_box c.args.build.now c.args.pos ≡ true = sym (found-is_some c.args.build.now c.args.pos) ∙ ap is_some (sym c.in-Some.ensures.found) in
    c.number_in.ensures ∙ ap (λ (cell : ℕ). option_map_or (λ (n : ℕ). n) (number_in c.args.numbers.now cell) 0) (found-cell_of c.args.build.now c.args.pos c.in-Some.cell c.in-Some.ensures.found) ∙ rw within refl

pub returns-in-None : goal.returns-in-None
returns-in-None c =
    let without : in_box c.args.build.now c.args.pos ≡ false = sym (found-is_some c.args.build.now c.args.pos) ∙ ap is_some (sym c.in-None.ensures.found) in
    rw without refl
