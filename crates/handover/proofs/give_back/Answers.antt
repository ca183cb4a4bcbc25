use Rattle.std.proofs.Common.{List, Option, sym, ap, ◌∙◌, subst}
use Rattle.graph_machine.specs.Playing.{state_in}
use Rattle.handover.specs.declared.held.Held.{Held}
use Rattle.handover.specs.HeldByCell.{AreSmall, AreTicking, with_ticks_by}
use Rattle.handover.proofs.Ready.{small_cells, ticking_cells}
use Rattle.handover.proofs.Whole.{given_whole}
use Rattle.handover.proofs.give_back.Goals as goal

pub with_blocks-requires : goal.with_blocks-requires
with_blocks-requires c =
    subst AreSmall (sym c.deref.ensures.value)
    (small_cells c.args.build.now c.args.graph.now.nodes c.requires.sound (state_in c.args.machine.now) c.requires.played c.in_ok-held.held.items c.in_ok-held.ensures.held)

pub give_levels-requires-clause-small : goal.give_levels-requires-clause-small
give_levels-requires-clause-small c =
    subst AreSmall (sym c.deref-2.ensures.value)
    (small_cells c.args.build.now c.args.graph.now.nodes c.requires.sound (state_in c.args.machine.now) c.requires.played c.in_ok-held.held.items c.in_ok-held.ensures.held)

pub give_ticks-requires-clause-ticking : goal.give_ticks-requires-clause-ticking
give_ticks-requires-clause-ticking c =
    subst (AreTicking c.args.build.now) (sym c.deref-3.ensures.value)
    (ticking_cells c.args.build.now c.args.graph.now.nodes c.requires.sound c.requires.blocks (state_in c.args.machine.now) c.requires.played c.in_ok-held.held.items c.in_ok-held.ensures.held c.in_ok-held.ensures.timely)

pub returns : goal.returns
returns c =
    c.in_ok-give_ticks.ensures
    ∙ ap (λ (held : List (Option Held)). with_ticks_by c.args.build.now held) c.deref-3.ensures.value
    ∙ given_whole c.args.build.now c.args.graph.now.nodes (state_in c.args.machine.now) c.in_ok-held.held.items c.in_ok-held.ensures.held
