use Rattle.world_engine.proofs.ScreenSteps.{refaced_held}
use Rattle.world_engine.proofs.told.attend_shown.Goals as goal

pub returns-clause-refaced : goal.returns-clause-refaced
returns-clause-refaced c =
    refaced_held c.args.levels.now c.args.cells.now.cells c.attend_thing.new.cells.cells c.args.screen.now c.refresh.new.self c.args.number c.attend_thing.ensures.others c.refresh.ensures
