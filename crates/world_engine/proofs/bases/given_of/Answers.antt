use Rattle.std.proofs.Common.{sym, ap, ◌∙◌}
use Rattle.circuit.specs.declared.Cell.{Cell}
use Rattle.circuit.specs.Component.{out}
use Rattle.world_engine.proofs.BaseSteps.{gives_value, gives_base, within_value}
use Rattle.world_engine.proofs.bases.given_of.Goals as goal

pub out-requires : goal.out-requires
out-requires c =
    within_value c.args.things.now c.count.ensures.numbered c.args.cells.now.cells c.args.number c.requires.inside c.in-Some.component (c.requires.within) (sym c.role_of.ensures ∙ c.in-Some.is) c.cell.result c.cell.ensures

pub returns-in-Some : goal.returns-in-Some
returns-in-Some c =
    c.out.ensures
    ∙ ap (λ (x : Cell). out c.in-Some.component x.value) c.cell.ensures
    ∙ gives_value c.args.things.now c.count.ensures.numbered c.args.cells.now.cells c.args.number c.requires.inside c.in-Some.component (sym c.role_of.ensures ∙ c.in-Some.is)

pub returns-in-None : goal.returns-in-None
returns-in-None c = c.base_of_block.ensures ∙ gives_base c.args.things.now c.args.cells.now.cells c.args.number (sym c.role_of.ensures ∙ c.in-None.is)
