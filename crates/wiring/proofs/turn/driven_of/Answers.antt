use Rattle.std.proofs.Common.{◌≡◌, ◌<◌, ℕ, List, length, subst}
use Rattle.wire_net.specs.Listed.{list_at}
use Rattle.wire_net.specs.WaveSteps.{Has}
use Rattle.wiring.specs.Wired.{Turns}
use Rattle.wiring.proofs.Turning.{turns_both}
use Rattle.wiring.proofs.turn.driven_of.Goals as goal

pub returns : goal.returns
returns c =
    let itself : Turns c.in_ok-lists.lists c.push_itself.new.lists (λ r tap. (r < length c.in_ok-lists.lists) × (tap ≡ r)) = c.in_ok-push_itself.ensures in
    let first = subst (λ (xs : List (List ℕ)). Turns c.in_ok-lists.lists c.push_itself.new.lists (λ r tap. (r < length xs) × (tap ≡ r))) c.in_ok-lists.ensures itself in
    turns_both c.args.count c.in_ok-lists.lists c.push_itself.new.lists c.turn_rows.new.lists c.in_ok-rows.rows _ (λ reader tap. Has (list_at c.args.direct.now reader) tap)
    c.in_ok-lists.ensures c.in_ok-rows.ensures first c.in_ok-turn_rows.ensures
