-- Places that are noted for ticks, when a tick is added or taken out.
use Rattle.std.proofs.Common.{◌≡◌, false, List, [], ◌∷◌, ◌++◌, refl, sym, ◌∙◌}
use Rattle.std.proofs.lemmas.Bool.{or_parts, or_from}
use Rattle.std.proofs.lemmas.List.Folds.{list_any-append}
use Rattle.circuit.specs.declared.Pos.{Pos}
use Rattle.build.specs.declared.Pending.{Pending}
use Rattle.build.specs.Place.{same_place}
use Rattle.build.specs.SamePlace.{same_place_either}
use Rattle.build.specs.Plan.{is_pending}
use Rattle.build.specs.Marks.{is_marked, with_mark}
use Rattle.build.specs.MarkLaws.{marked-with_mark}
use Rattle.build.specs.Edits.{pending_elsewhere}
use Rattle.build.specs.Noted.{AreNoted}
use Rattle.build.proofs.WholeEdits.{not_pending_elsewhere}

-- what isn't marked is neither the place that was marked last nor one from before
unmarked : (q p : Pos) (marks : List Pos) → is_marked (with_mark q marks) p ≡ false → (same_place p q ≡ false) × (is_marked marks p ≡ false)
unmarked q p marks h = or_parts (same_place p q) (is_marked marks p) (sym (marked-with_mark q p marks) ∙ h)

pub noted_one_more : (tick : Pending) (ticks : List Pending) (places : List Pos) → AreNoted ticks places → AreNoted (ticks ++ tick ∷ []) (with_mark tick.pos places)
noted_one_more tick ticks places noted p h =
    let parts = unmarked tick.pos p places h in
    list_any-append (λ (t : Pending). same_place t.pos p) ticks (tick ∷ [])
    ∙ or_from (is_pending ticks p) (is_pending (tick ∷ []) p) (noted p parts.1)
    (or_from (same_place tick.pos p) false (same_place_either tick.pos p ∙ parts.0) refl)

-- one place more may be noted
pub noted_more : (q : Pos) (ticks : List Pending) (places : List Pos) → AreNoted ticks places → AreNoted ticks (with_mark q places)
noted_more q ticks places noted p h = noted p (unmarked q p places h).1

pub noted_elsewhere : (q : Pos) (ticks : List Pending) (places : List Pos) → AreNoted ticks places → AreNoted (pending_elsewhere q ticks) places
noted_elsewhere q ticks places noted p h = not_pending_elsewhere q p ticks (noted p h)
