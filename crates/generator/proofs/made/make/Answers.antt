use Rattle.std.proofs.Common.{sym, subst}
use Rattle.build.specs.Plan.{Plan}
use Rattle.script.specs.Acts.{Meaning}
use Rattle.script.specs.Clickable.{takes_click, is_wire_at}
use Rattle.script.specs.Fit.{IsFit}
use Rattle.generator.specs.Made.{made_build}
use Rattle.generator.proofs.Fit.{script_fit}
use Rattle.generator.proofs.made.make.Goals as goal

pub returns-clause-fit : goal.returns-clause-fit
returns-clause-fit c =
    subst (λ (b : Plan). IsFit (takes_click b) (is_wire_at b) c.in_ok-script.script) (sym c.in_ok-build.ensures)
    (subst (λ (script : Meaning). IsFit (takes_click (made_build c.args.n)) (is_wire_at (made_build c.args.n)) script) (sym c.in_ok-script.ensures) (script_fit c.args.n))
