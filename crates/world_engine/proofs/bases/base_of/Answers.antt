use Rattle.std.proofs.Common.{ℕ, List, [], length, ap, sym, ◌∙◌}
use Rattle.std.proofs.lemmas.List.{get_or-map}
use Rattle.wire_net.specs.Listed.{list_at}
use Rattle.wiring.specs.Things.{spot, origin}
use Rattle.wiring.specs.Wired.{direct_row, row_level}
use Rattle.wiring.proofs.LevelLaws.{direct_below, below_as}
use Rattle.world_engine.specs.Running.{given_by}
use Rattle.world_engine.proofs.LevelSteps.{given_plain}
use Rattle.world_engine.proofs.BaseSteps.{base-row}
use Rattle.world_engine.proofs.bases.base_of.Goals as goal

pub row_level-requires : goal.row_level-requires
row_level-requires c =
    let m = c.args.things.now in
    below_as (length m.spots) (length c.args.bases.now) c.args.wiring.now.direct c.args.number c.direct.result.now (direct_below m c.count.ensures.numbered c.args.wiring.now c.requires.wired) c.direct.ensures c.requires.whole

pub returns-then-is_wire_of : goal.returns-then-is_wire_of
returns-then-is_wire_of c =
    let m = c.args.things.now in
    c.row_level.ensures
    ∙ ap (row_level c.args.bases.now) (c.direct.ensures ∙ ap (λ (rows : List (List ℕ)). list_at rows c.args.number) c.requires.wired.direct ∙ get_or-map (direct_row m) m.spots c.args.number origin [] c.requires.inside)
    ∙ base-row m c.count.ensures.numbered (given_by m c.args.cells.now.cells) (given_plain m c.args.cells.now.cells c.requires.within) c.args.bases.now c.requires.sure (spot m c.args.number)
    (sym c.is_wire_of.ensures ∙ c.if-is_wire_of.true)
