-- What is pending at the end of a run is due within 15 ticks of time.
use Rattle.std.proofs.Common.{◌≡◌, ℕ, ◌+◌, ◌-◌, ◌≤◌, Bool, true, false, not, cond, map, List, Option, Some, None, refl, sym, ap, ◌∙◌, subst, arith, inl, inr}
use Rattle.std.specs.Prelude.{◌==◌, IfSome, option_map}
use Rattle.std.proofs.lemmas.Bool.{cases_lt, cond_both, eqb-false}
use Rattle.std.proofs.lemmas.List.{length-map, get_or-map, get_or_past}
use Rattle.circuit.specs.declared.Cell.{Cell}
use Rattle.circuit.specs.declared.Component.{Component}
use Rattle.circuit.specs.declared.Pos.{Pos}
use Rattle.circuit.specs.declared.Readings.{Readings}
use Rattle.circuit.specs.Circuit.{State, outs, put, attended_at, fired_at, fired_in, with_value}
use Rattle.circuit.specs.Component.{delay_of, gets_tick, fires_again}
use Rattle.circuit.proofs.Joining.{IsCalm, ToCome, attended_attend, calm_run}
use Rattle.circuit.proofs.Kept.{kept_by_plays}
use Rattle.circuit.proofs.Matches.{IsInvariant}
use Rattle.build.specs.Places.{length-places, places-at}
use Rattle.build.specs.Plan.{Plan, volume, place_of, places}
use Rattle.cell_queue.specs.Held.{wait_of}
use Rattle.graph.specs.Graph.{Node, Nodes, node_at}
use Rattle.graph.specs.GraphCircuit.{role_of, begin_of, begin_at, graph_circuit}
use Rattle.graph.specs.Sound.{IsSound, IsSoundNode}
use Rattle.graph.proofs.ListedSteps.{test_of_keys}
use Rattle.graph_machine.proofs.PlaySteps.{delays_small}
use Rattle.handover.specs.declared.held.Held.{Held}
use Rattle.handover.specs.Ended.{IsPlayed}
use Rattle.handover.specs.GivenBack.{keeper, held_under, held_at}
use Rattle.handover.specs.HeldByCell.{IsSoon, IsTimely, AreTimely, AreHeld}
use Rattle.handover.proofs.Keepers.{keeper_so}
use Rattle.handover.proofs.Ready.{playing_part}

-- ---- no tick is due later than so

due_attended : (time : ℕ) (role : Option Component) (first : Bool) (reads : ℕ → Readings) (key : ℕ) (cell : Cell) → IfSome role (λ c. delay_of c ≤ 15) → cell.due ≤ time + 15 →
    (attended_at time role first reads key cell).due ≤ time + 15
due_attended time None first reads key cell small h = h
due_attended time (Some c) first reads key cell small h = by_test (gets_tick c (reads key) cell)
  where
    by_test : (gets : Bool) → cond gets (time + delay_of c) cell.due ≤ time + 15
    by_test true = omega (arith, small)
    by_test false = h

due_fired : (time : ℕ) (role : Option Component) (first : Bool) (reads : ℕ → Readings) (key : ℕ) (cell : Cell) → IfSome role (λ c. delay_of c ≤ 15) → cell.due ≤ time + 15 →
    (fired_at time role first reads key cell).due ≤ time + 15
due_fired time None first reads key cell small h = h
due_fired time (Some c) first reads key cell small h = by_test (fires_again c (reads key) cell.value)
  where
    by_test : (again : Bool) → cond again (time + delay_of c) 0 ≤ time + 15
    by_test true = omega (arith, small)
    by_test false = omega arith

record AllSoon (s : State ℕ) : Type 0 where
  each : (key : ℕ) → (s.cells key).due ≤ s.time + 15

module _ (g : Nodes) (sound : IsSound g) where
  soon_put : (s : State ℕ) (key : ℕ) (cell : Cell) → AllSoon s → cell.due ≤ s.time + 15 → AllSoon (put (graph_circuit g) s key cell)
  soon_put s key cell h new = record { each = λ k. cond_both ((graph_circuit g).same k key) cell (s.cells k) (λ (c : Cell). c.due ≤ s.time + 15) (λ e. new) (λ e. h.each k) }

  begins_soon : (key : ℕ) (entry : Option Node) → node_at g key ≡ entry → (begin_at entry).due ≤ 15
  begins_soon key None there = omega arith
  begins_soon key (Some node) there = by_role (role_of node.kind)
    where
      fit : IsSoundNode g node
      fit = sound.each key node there

      by_role : (role : Option Component) → (begin_of role (record { value = node.state; due = node.due; priority = node.priority })).due ≤ 15
      by_role None = omega arith
      by_role (Some component) = fit.due

  soon_is_invariant : IsInvariant (graph_circuit g) AllSoon
  soon_is_invariant = record {
    begins = record { each = λ key. begins_soon key (node_at g key) refl };
    attends = λ s h. record {
      each = λ key. due_attended s.time ((graph_circuit g).role key) ((graph_circuit g).first key) ((graph_circuit g).readings (outs (graph_circuit g) s)) key (s.cells key) (delays_small g sound key) (h.each key);
    };
    fires = λ s key h. soon_put s key (fired_in (graph_circuit g) s key) h
        (due_fired s.time ((graph_circuit g).role key) ((graph_circuit g).first key) ((graph_circuit g).readings (outs (graph_circuit g) s)) key (s.cells key) (delays_small g sound key) (h.each key));
    clicks = λ s key component click value h there takes. soon_put s key (with_value (s.cells key) value) h (h.each key);
    passes = λ s h. record { each = λ key. (let old : (s.cells key).due ≤ s.time + 15 = h.each key in omega arith) };
  }

  -- ---- and none is due before the next tick of time

  calm_end : (s : State ℕ) → IsPlayed g s → IsCalm (graph_circuit g) s
  calm_end s played = calm_run test_of_keys played.plays.run (record {
    attended = attended_attend (graph_circuit g) (record { time = 0; cells = (graph_circuit g).begin });
    ahead = record { each = λ key component there n. omega (arith, n) };
  })

  soon_wait : (time : ℕ) (cell : Cell) → ToCome time cell.due → cell.due ≤ time + 15 → IsSoon (wait_of time cell)
  soon_wait time cell later most = by_test (cell.due == 0) refl
    where
      by_test : (idle : Bool) → (cell.due == 0) ≡ idle → IsSoon (cond (not idle) (Some (record { left = cell.due - time; priority = cell.priority })) None)
      by_test true z = tt
      by_test false z = (let ahead = later (eqb-false cell.due 0 z) in (omega arith, omega arith))

  timely_at : (s : State ℕ) → IsPlayed g s → (p : Pos) → IsTimely (held_at g s p)
  timely_at s played p = by_keeper (keeper g p) refl
    where
      by_keeper : (found : Option ℕ) → keeper g p ≡ found → IsTimely (option_map (held_under s) found)
      by_keeper None e = tt
      by_keeper (Some key) e =
          let kept = keeper_so g p key e in
          let part = playing_part g g key refl kept.node kept.there kept.state in
          soon_wait s.time (s.cells key) ((calm_end s played).ahead.each key part.component part.there) ((kept_by_plays soon_is_invariant played.plays).each key)

  -- ---- what the places of the build are given, one after another

  module _ (b : Plan) (s : State ℕ) where
    abbrev pub all_held : List (Option Held)
    all_held = map (held_at g s) (places b)

    pub all_are_held : AreHeld b g s all_held
    all_are_held = record {
      whole = length-map (places b) (held_at g s) ∙ length-places b;
      each = λ cell low. get_or-map (held_at g s) (places b) cell (place_of b cell) None (omega (arith, low, length-places b)) ∙ ap (held_at g s) (places-at b cell (place_of b cell) low);
    }

    pub all_are_timely : IsPlayed g s → AreTimely all_held
    all_are_timely played cell = elim (cases_lt cell (volume b)) [
      | inl low ↦ subst IsTimely (sym (all_are_held.each cell low)) (timely_at s played (place_of b cell))
      | inr past ↦ subst IsTimely (sym (get_or_past all_held cell None (omega (arith, past, all_are_held.whole)))) tt
    ]
