-- No value is above the greatest of its component, and nothing that is shown above 15.
use Rattle.std.proofs.Common.{◌≡◌, ℕ, ◌≤◌, Bool, List, map, cond, refl, sym, ap, ◌∙◌, subst, arith}
use Rattle.std.specs.Prelude.{All, Option, Some, None, slice_index_or}
use Rattle.std.proofs.lemmas.Bool.{cond_both}
use Rattle.std.proofs.lemmas.List.Elements.{All-map}
use Rattle.circuit.specs.declared.Pos.{Pos}
use Rattle.circuit.specs.declared.Component.{Component}
use Rattle.circuit.specs.declared.Component.TheVariants.{Wire, Comparator, Weighted}
use Rattle.circuit.specs.declared.Cell.{Cell}
use Rattle.circuit.specs.declared.Click.{Click}
use Rattle.circuit.specs.declared.Readings.{Readings}
use Rattle.circuit.specs.Component.{top, clicked}
use Rattle.circuit.specs.Circuit.{put, attend, fired_in, with_value, seen_at, seen, outs}
use Rattle.circuit.specs.Bounds.{BoundedAt, Bounded}
use Rattle.circuit.proofs.Bounded.{bounded_is_invariant, outs_le}
use Rattle.circuit.proofs.Matches.{IsInvariant}
use Rattle.build.specs.declared.OutPlace.{OutPlace}
use Rattle.build.specs.Place.{same_place}
use Rattle.build.specs.SamePlace.{place_itself, place_one}
use Rattle.build.specs.Roles.{role_at, stored}
use Rattle.power_rules.specs.Bounded.{world_bounded}
use Rattle.replay_engine.specs.Things.{Numbered, IsNumbered, state_by}
use Rattle.replay_engine.specs.Running.{circuit_of, AreWithin, shown_of}
use Rattle.replay_engine.proofs.Held.{test_of_places}

invariant : (m : Numbered) → IsNumbered m → IsInvariant (circuit_of m) (Bounded (circuit_of m))
invariant m w = bounded_is_invariant (circuit_of m) test_of_places (world_bounded m.plan w.whole m.marks)

bounded_at : (role : Option Component) (cell : Cell) → ((component : Component) → role ≡ Some component → cell.value ≤ top component) → BoundedAt role cell
bounded_at None cell h = tt
bounded_at (Some component) cell h = h component refl

within_at : (role : Option Component) (cell : Cell) → BoundedAt role cell → (component : Component) → role ≡ Some component → cell.value ≤ top component
within_at None cell h component there = absurd (cc)
within_at (Some c) cell h component there = let same : c ≡ component = cc in subst (λ (x : Component). cell.value ≤ top x) same h

pub bounded_of : (m : Numbered) (time : ℕ) (cells : List Cell) → AreWithin m cells → Bounded (circuit_of m) (state_by m time cells)
bounded_of m time cells h = record { each = λ p. bounded_at (role_at m.plan m.marks p) ((state_by m time cells).cells p) (h p) }

within_of : (m : Numbered) (time : ℕ) (cells : List Cell) → Bounded (circuit_of m) (state_by m time cells) → AreWithin m cells
within_of m time cells h p = within_at (role_at m.plan m.marks p) ((state_by m time cells).cells p) (h.each p)

-- as the build stores them
pub within_start : (m : Numbered) → IsNumbered m → (cells : List Cell) → state_by m 0 cells ≡ record { time = 0; cells = stored m.plan m.marks } → AreWithin m cells
within_start m w cells e = within_of m 0 cells (subst (Bounded (circuit_of m)) (sym e) (invariant m w).begins)

-- when all have attended
pub within_attended : (m : Numbered) → IsNumbered m → (time : ℕ) (old new : List Cell) → AreWithin m old → state_by m time new ≡ attend (circuit_of m) (state_by m time old) → AreWithin m new
within_attended m w time old new h e = within_of m time new (subst (Bounded (circuit_of m)) (sym e) ((invariant m w).attends (state_by m time old) (bounded_of m time old h)))

-- when one holds another cell
pub within_put : (m : Numbered) (time : ℕ) (old new : List Cell) (p : Pos) (cell : Cell) → AreWithin m old → BoundedAt (role_at m.plan m.marks p) cell →
    state_by m time new ≡ put (circuit_of m) (state_by m time old) p cell → AreWithin m new
within_put m time old new p cell h bound e = within_of m time new (subst (Bounded (circuit_of m)) (sym e) (record {
  each = λ k. cond_both (same_place k p) cell ((state_by m time old).cells k) (BoundedAt (role_at m.plan m.marks k))
      (λ f. subst (λ (q : Pos). BoundedAt (role_at m.plan m.marks q) cell) (sym (place_one k p f)) bound) (λ f. (bounded_of m time old h).each k);
}))

-- what was put under a place is in its bounds where all is
bounded_put : (m : Numbered) (p : Pos) (cell other : Cell) → BoundedAt (role_at m.plan m.marks p) (cond (same_place p p) cell other) → BoundedAt (role_at m.plan m.marks p) cell
bounded_put m p cell other h = subst (λ (t : Bool). BoundedAt (role_at m.plan m.marks p) (cond t cell other)) (place_itself p) h

-- when one has fired
pub bounded_fired : (m : Numbered) → IsNumbered m → (time : ℕ) (cells : List Cell) (p : Pos) → AreWithin m cells →
    BoundedAt (role_at m.plan m.marks p) (fired_in (circuit_of m) (state_by m time cells) p)
bounded_fired m w time cells p h =
    let s = state_by m time cells in
    bounded_put m p (fired_in (circuit_of m) s p) (s.cells p) (((invariant m w).fires s p (bounded_of m time cells h)).each p)

-- when one has taken a click
pub bounded_clicked : (m : Numbered) → IsNumbered m → (time : ℕ) (cells : List Cell) (p : Pos) (click : Click) (component : Component) (value : ℕ) (cell : Cell) → AreWithin m cells →
    role_at m.plan m.marks p ≡ Some component → cell ≡ (state_by m time cells).cells p → clicked component click cell.value ≡ Some value → BoundedAt (role_at m.plan m.marks p) (with_value cell value)
bounded_clicked m w time cells p click component value cell h there here takes =
    let s = state_by m time cells in
    let mine : clicked component click (s.cells p).value ≡ Some value = ap (λ (c : Cell). clicked component click c.value) (sym here) ∙ takes in
    rw here (bounded_put m p (with_value (s.cells p) value) (s.cells p)
    (((invariant m w).clicks s p component click value (bounded_of m time cells h) there mine).each p))

-- what is seen is at most 15
seen_at-le : (role : Option Component) (reads : Pos → Readings) (p : Pos) (cell : Cell) → (reads p).back ≤ 15 → BoundedAt role cell → seen_at role reads p cell ≤ 15
seen_at-le None reads p cell h b = omega arith
seen_at-le (Some Wire) reads p cell h b = h
seen_at-le (Some (Comparator subtract)) reads p cell h b = b
seen_at-le (Some Weighted) reads p cell h b = b
seen_at-le (Some _) reads p cell h b = omega (arith, b)

seen-le : (m : Numbered) → IsNumbered m → (cells : List Cell) → AreWithin m cells → (p : Pos) → seen (circuit_of m) (state_by m 0 cells) p ≤ 15
seen-le m w cells h p =
    let C = circuit_of m in
    let s = state_by m 0 cells in
    let bounds = world_bounded m.plan w.whole m.marks in
    seen_at-le (role_at m.plan m.marks p) (C.readings (outs C s)) p (s.cells p)
    (bounds.back (outs C s) (outs_le C bounds s (bounded_of m 0 cells h)) p) ((bounded_of m 0 cells h).each p)

pub shown-le : (m : Numbered) → IsNumbered m → (cells : List Cell) → AreWithin m cells → (places : List OutPlace) → All (λ n. n ≤ 15) (map (shown_of m cells) places)
shown-le m w cells h places = All-map (λ n. n ≤ 15) (shown_of m cells) places (λ k d below. seen-le m w cells h (slice_index_or places k d).pos)
