use Rattle.std.proofs.Common.{◌≡◌, List, ℕ, [], ◌∷◌, Bool, false, length, refl, sym, subst, ap, ◌∙◌}
use Rattle.std.specs.Prelude.{replicate}
use Rattle.std.proofs.lemmas.Result.{on_ok_weaker}
use Rattle.circuit.specs.declared.Pos.{Pos}
use Rattle.build.specs.Plan.{Plan}
use Rattle.input_search.specs.Rows.{Gathers}
use Rattle.input_search.specs.Wiring.{wire_cells, source_cells, wire_place, IsAt}
use Rattle.input_search.proofs.WireNumbers.{number-wire}
use Rattle.input_search.proofs.Waves.{none_linked, no_links, at_start}
use Rattle.input_search.proofs.search.begin.Goals as goal

pub returns-clause-at : goal.returns-clause-at
returns-clause-at c =
    let b : Plan = c.args.build.now in
    let first : ℕ = c.args.number in
    let w : Pos = wire_place b (wire_cells b) first in
    let begun : c.start.new.self ≡ replicate (length (wire_cells b)) false = c.in_ok-start.ensures ∙ ap (λ (n : ℕ). replicate n false) (c.len.ensures ∙ ap length c.requires.wiring.cells) in
    let unlinked : c.start-2.new.self ≡ replicate (length (source_cells b)) false = c.in_ok-start-2.ensures ∙ ap (λ (n : ℕ). replicate n false) (c.len-2.ensures ∙ ap length c.requires.wiring.sources) in
    let found : List ℕ = c.gather_one.new.found.items in
    let met : List Bool = c.gather_one.new.met in
    on_ok_weaker c.gather_one.result
    (λ gathers. record {
      start = c.requires.number;
      links = c.clear.ensures.items ∙ sym (no_links b w);
      linked = none_linked b c.clear.new.self.items c.start-2.new.self c.clear.ensures.items unlinked;
      at = subst (IsAt b w (wire_cells b) 0 found met) (sym c.clear.ensures.items)
          (at_start b w (number-wire b (wire_cells b) refl first c.requires.number) first found met c.requires.number refl
          (subst (λ (xs : List ℕ). Gathers (first ∷ []) (replicate (length (wire_cells b)) false) met xs found) c.clear-2.ensures.items
          (subst (λ (bs : List Bool). Gathers (first ∷ []) bs met c.clear-2.new.self.items found) begun gathers)));
    })
    c.gather_one.ensures
