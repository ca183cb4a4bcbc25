use Rattle.wire_net.specs.Listed.{list_at}
use Rattle.wire_net.specs.WaveSteps.{Has}
use Rattle.wiring.proofs.Turning.{turns_both}
use Rattle.wiring.proofs.turn.readers_of.Goals as goal

pub returns : goal.returns
returns c =
    turns_both c.args.count c.in_ok-lists.lists c.turn_rows.new.lists c.turn_rows-2.new.lists c.in_ok-rows.rows (λ reader tap. Has (list_at c.args.back.now reader) tap) (λ reader tap. Has (list_at c.args.side.now reader) tap)
    c.in_ok-lists.ensures c.in_ok-rows.ensures c.in_ok-turn_rows.ensures c.in_ok-turn_rows-2.ensures
