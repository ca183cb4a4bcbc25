use Rattle.std.proofs.Common.{◌≡◌, ◌<◌, ◌+◌, Bool, List, ◌∷◌, [], ◌++◌, Vec, Global, sym, subst, ap, ◌∙◌, arith}
use Rattle.circuit.specs.declared.Pos.{Pos}
use Rattle.build.specs.Plan.{Plan, volume, block_at, place_of}
use Rattle.build.specs.Outputs.{is_component, components}
use Rattle.build.proofs.FoundPlaces.{KeptBelow, kept_no_more, kept_one_more, kept_all}
use Rattle.build.proofs.build.Build.components.Goals as goal
use Rattle.build.proofs.build.Build.components.Goals.{then-is_component+in_ok-push, else-is_component}

pub loop-cell-preserved : goal.loop-cell-preserved
loop-cell-preserved c =
    let b : Plan = c.args.self.now in
    let test : Pos → Bool = λ p. is_component (block_at b p) in
    let inside : c.loop-cell.cell < volume b = omega (arith, c.cells-cell-end.ensures.count) in
    let next : List Pos → Type 0 = λ kept. KeptBelow test b kept (c.loop-cell.cell + 1) in
    let tested : c.is_component.result ≡ test (place_of b c.loop-cell.cell) = c.is_component.ensures ∙ ap is_component c.block_in.ensures.value in
    elim c.if-is_component.branch [
      | then-is_component+in_ok-push w ↦
          subst next (sym (ap (λ (v : Vec Pos Global). v.items) w.places-is ∙ w.in_ok-push.ensures.items ∙ ap (λ (p : Pos). c.loop-cell.places.items ++ p ∷ []) w.place.ensures))
          (kept_one_more test b c.loop-cell.cell c.loop-cell.places.items inside (sym tested ∙ w.if-is_component.true) c.loop-cell.invariant)
      | else-is_component w ↦
          subst next (sym (ap (λ (v : Vec Pos Global). v.items) w.places-is))
          (kept_no_more test b c.loop-cell.cell c.loop-cell.places.items inside (sym tested ∙ w.if-is_component.false) c.loop-cell.invariant)
    ]

pub returns : goal.returns
unfolding components
returns c = kept_all (λ (p : Pos). is_component (block_at c.args.self.now p)) c.args.self.now c.loop-cell.cell c.loop-cell.places.items (omega (arith, c.cells-cell-end.ensures.count)) c.loop-cell.invariant
