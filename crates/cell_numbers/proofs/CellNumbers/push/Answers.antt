use Rattle.std.proofs.Common.{◌++◌, [], ◌∷◌, List, ℕ, All, ◌<◌, sym, subst, ap, ◌∙◌, arith}
use Rattle.cell_numbers.specs.Words.{cells_in}
use Rattle.cell_numbers.proofs.Pushed.{few_cells, pushed}
use Rattle.cell_numbers.proofs.CellNumbers.push.Goals as goal

pub overflow_cast-before : goal.overflow_cast-before
overflow_cast-before c =
    let above : All (λ other. other < c.args.cell) (cells_in c.self.inside.words.items) = subst (All (λ other. other < c.args.cell)) (sym c.self.view_is) c.requires.rising in
    omega (arith, few_cells c.self.inside.words.items c.self.inside.count c.args.cell c.self.invariant above, c.requires.few)

pub overflow_add-self : goal.overflow_add-self
overflow_add-self c =
    let above : All (λ other. other < c.args.cell) (cells_in c.self.inside.words.items) = subst (All (λ other. other < c.args.cell)) (sym c.self.view_is) c.requires.rising in
    omega (arith, few_cells c.self.inside.words.items c.self.inside.count c.args.cell c.self.invariant above, c.requires.few)

pub invariant_of-self-2 : goal.invariant_of-self-2
invariant_of-self-2 c =
    let above : All (λ other. other < c.args.cell) (cells_in c.self.inside.words.items) = subst (All (λ other. other < c.args.cell)) (sym c.self.view_is) c.requires.rising in
    let now = pushed c.self.inside.words.items c.resize.new.self.items c.set_bit.new.words.items c.self.inside.count c.args.cell _ c.self.invariant above c.self.inside.words.ok.0 c.in_ok-resize.ensures.items c.set_bit.ensures in
    now.counted

pub returns-clause-ok : goal.returns-clause-ok
returns-clause-ok c =
    let above : All (λ other. other < c.args.cell) (cells_in c.self.inside.words.items) = subst (All (λ other. other < c.args.cell)) (sym c.self.view_is) c.requires.rising in
    let now = pushed c.self.inside.words.items c.resize.new.self.items c.set_bit.new.words.items c.self.inside.count c.args.cell _ c.self.invariant above c.self.inside.words.ok.0 c.in_ok-resize.ensures.items c.set_bit.ensures in
    now.cells ∙ ap (λ (cells : List ℕ). cells ++ c.args.cell ∷ []) c.self.view_is
