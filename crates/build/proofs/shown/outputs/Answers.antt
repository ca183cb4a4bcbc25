use Rattle.std.proofs.Common.{◌<◌, ◌+◌, List, Vec, Global, sym, subst, ap, ◌∙◌, arith}
use Rattle.build.specs.declared.OutPlace.{OutPlace}
use Rattle.build.specs.Plan.{Plan, volume}
use Rattle.build.specs.Outputs.{shown_at, outputs}
use Rattle.build.proofs.FoundPlaces.{FoundBelow, found_no_more, found_one_more, found_all}
use Rattle.build.proofs.shown.outputs.Goals as goal
use Rattle.build.proofs.shown.outputs.Goals.{in-Some+in_ok-push, in_default}

pub loop-cell-preserved : goal.loop-cell-preserved
loop-cell-preserved c =
    let b : Plan = c.args.build.now in
    let shown = shown_at b c.args.marks.now in
    let inside : c.loop-cell.cell < volume b = omega (arith, c.cells-cell-end.ensures.count) in
    let next : List OutPlace → Type 0 = λ found. FoundBelow shown b found (c.loop-cell.cell + 1) in
    elim c.match-shown_in.branch [
      | in-Some+in_ok-push w ↦
          subst next (sym (ap (λ (v : Vec OutPlace Global). v.items) w.places-is ∙ w.in_ok-push.ensures.items))
          (found_one_more shown b c.loop-cell.cell c.loop-cell.places.items w.in-Some.place inside (sym w.in-Some.ensures) c.loop-cell.invariant)
      | in_default w ↦
          subst next (sym (ap (λ (v : Vec OutPlace Global). v.items) w.places-is))
          (found_no_more shown b c.loop-cell.cell c.loop-cell.places.items inside (sym w.in_default.ensures) c.loop-cell.invariant)
    ]

pub returns : goal.returns
unfolding outputs
returns c = found_all (shown_at c.args.build.now c.args.marks.now) c.args.build.now c.loop-cell.cell c.loop-cell.places.items (omega (arith, c.cells-cell-end.ensures.count)) c.loop-cell.invariant
