use Rattle.std.proofs.Common.{◌++◌, List, ℕ, ap, sym, ◌∙◌}
use Rattle.block_table.specs.WrittenText.{state_text}
use Rattle.schem_write.specs.BlockEntities.{id_of}
use Rattle.schem_write.proofs.StackSteps.{container-text}
use Rattle.schem_write.proofs.entities.id_of.Goals as goal

pub returns-in_ok-push_state-in-Container : goal.returns-in_ok-push_state-in-Container
returns-in_ok-push_state-in-Container c =
    c.in_ok-push_state-in-Container.ensures.ok ∙ ap (λ (t : List ℕ). t ++ state_text c.args.block) c.new-items.ensures.items
    ∙ ap state_text c.in-Container.is ∙ container-text c.in-Container.name ∙ ap id_of (sym c.in-Container.is)
