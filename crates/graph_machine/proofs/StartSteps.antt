-- The start: all nodes attend to what the graph begins with. And what a click leaves.
use Rattle.std.proofs.Common.{◌≡◌, ◌≢◌, ℕ, ◌+◌, ◌<◌, ◌≤◌, Bool, true, false, cond, List, length, Option, Some, None, refl, sym, ap, ◌∙◌, subst, arith, inl, inr}
use Rattle.std.proofs.Math.Path.{fun_ext}
use Rattle.std.specs.Prelude.{All}
use Rattle.std.proofs.lemmas.Bool.{cases_eq, cases_lt, eq-eqb, ne_eqb}
use Rattle.circuit.specs.declared.Cell.{Cell}
use Rattle.circuit.specs.declared.Component.{Component}
use Rattle.circuit.specs.declared.Readings.{Readings}
use Rattle.circuit.specs.Bounds.{Bounded}
use Rattle.circuit.specs.Circuit.{Circuit, State, outs, put, attend, attended_at, start, with_value}
use Rattle.circuit.specs.Component.{gets_tick, delay_of}
use Rattle.circuit.proofs.Settled.{delay_above, outs-attend}
use Rattle.graph.specs.Graph.{Node, Nodes, node_at}
use Rattle.graph.specs.GraphCircuit.{nothing, role_of, role_at, first_at, begin_of, begin_at, graph_circuit}
use Rattle.graph.specs.Sound.{IsSoundNode, IsSound}
use Rattle.cell_queue.specs.Held.{Holding, cell_of, IsSoon, IsNow, NoneNow}
use Rattle.graph_machine.specs.Wired.{Wired, given}
use Rattle.graph_machine.specs.Playing.{state_of, held_state, reads_in, attended_in, IsPlaying, AllStill, Attends}
use Rattle.cell_queue.proofs.HeldSteps.{same_default, past_cells}
use Rattle.graph_machine.proofs.PlaySteps.{twice_any, invariant}

-- ---- the pending ticks of a sound graph

soon_of : (role : Option Component) (value due priority : ℕ) → due ≤ 15 → priority ≤ 3 → IsSoon 0 (begin_of role (record { value = value; due = due; priority = priority }))
soon_of None value due priority h p = record { later = λ w. absurd (w refl); soon = omega arith; priority = λ w. omega arith }
soon_of (Some c) value due priority h p = record { later = λ w. omega arith; soon = h; priority = λ w. p }

pub begins_soon : (g : Nodes) (cells : List Cell) → IsSound g → ((key : ℕ) → key < length cells → cell_of cells key ≡ begin_at (node_at g key)) → All (IsSoon 0) cells
begins_soon g cells sound begin key d below =
    subst (IsSoon 0) (sym (same_default cells key d nothing below ∙ begin key below)) (by_entry (node_at g key) (sound.each key))
  where
    by_entry : (entry : Option Node) → ((node : Node) → entry ≡ Some node → IsSoundNode g node) → IsSoon 0 (begin_at entry)
    by_entry None h = record { later = λ w. absurd (w refl); soon = omega arith; priority = λ w. omega arith }
    by_entry (Some node) h = soon_of (role_of node.kind) node.state node.due node.priority (h node refl).due (h node refl).priority

-- ---- the start

pub record Begins (w : Wired) (cells : List Cell) : Type 0 where
  pub sound : IsSound w.nodes
  pub whole : length cells ≡ length w.outs
  pub past : (key : ℕ) → length w.outs ≤ key → node_at w.nodes key ≡ None
  pub gives : (key : ℕ) → given w.outs key ≡ outs (graph_circuit w.nodes) (record { time = 0; cells = λ other. begin_at (node_at w.nodes other) }) key
  pub begin : (key : ℕ) → key < length w.outs → cell_of cells key ≡ begin_at (node_at w.nodes key)

module _ (w : Wired) (cells after : List Cell) (b : Begins w cells) (a : Attends w 0 (λ key. key < length w.outs) cells after) where
  abbrev C : Circuit ℕ
  C = graph_circuit w.nodes

  abbrev s0 : State ℕ
  s0 = record { time = 0; cells = C.begin }

  begin_is : (key : ℕ) → cell_of cells key ≡ begin_at (node_at w.nodes key)
  begin_is key = elim (cases_lt key (length w.outs)) [
    | inl below ↦ b.begin key below
    | inr past ↦ past_cells cells key (omega (arith, b.whole, past)) ∙ sym (ap begin_at (b.past key past))
  ]

  attended_none : (key : ℕ) (cell : Cell) → role_at (node_at w.nodes key) ≡ None → attended_in w 0 key cell ≡ cell
  attended_none key cell none = ap (λ (r : Option Component). attended_at 0 r (first_at (node_at w.nodes key)) (reads_in w) key cell) none

  all : (key : ℕ) → cell_of after key ≡ attended_in w 0 key (begin_at (node_at w.nodes key))
  all key = elim (cases_lt key (length w.outs)) [
    | inl below ↦ a.done key below ∙ ap (attended_in w 0 key) (begin_is key)
    | inr past ↦
        (let none : role_at (node_at w.nodes key) ≡ None = ap role_at (b.past key past) in
        elim (a.each key) [
          | inl e ↦ e ∙ ap (attended_in w 0 key) (begin_is key)
          | inr e ↦ e ∙ begin_is key ∙ sym (attended_none key (begin_at (node_at w.nodes key)) none)
        ])
  ]

  reads : reads_in w ≡ C.readings (outs C s0)
  reads = ap C.readings (fun_ext b.gives)

  pub start_state : state_of 0 after ≡ start C
  start_state = λ i. record { time = 0; cells = λ key. cell_is key i }
    where
      cell_is : (key : ℕ) → cell_of after key ≡ (attend C s0).cells key
      cell_is key = all key ∙ ap (λ (r : ℕ → Readings). attended_at 0 (role_at (node_at w.nodes key)) (first_at (node_at w.nodes key)) r key (begin_at (node_at w.nodes key))) reads

  pub start_playing : IsPlaying w (record { time = 0; cells = after })
  start_playing = record {
    sound = b.sound;
    whole = a.whole ∙ b.whole;
    past = b.past;
    gives = λ key. b.gives key ∙ ap (λ (f : ℕ → ℕ). f key) (sym (outs-attend C s0)) ∙ ap (λ (s : State ℕ). outs C s key) (sym start_state);
    bounded = subst (Bounded C) (sym start_state) ((invariant w.nodes b.sound).attends s0 (invariant w.nodes b.sound).begins);
    idle = λ key none. ap (λ (x : Cell). x.due) (all key ∙ attended_none key (begin_at (node_at w.nodes key)) none) ∙ idle_begin (node_at w.nodes key) none;
  }
    where
      idle_of : (role : Option Component) (cell : Cell) → role ≡ None → (begin_of role cell).due ≡ 0
      idle_of None cell none = refl
      idle_of (Some c) cell none = absurd (cc)

      idle_begin : (entry : Option Node) → role_at entry ≡ None → (begin_at entry).due ≡ 0
      idle_begin None none = refl
      idle_begin (Some node) none = idle_of (role_of node.kind) (record { value = node.state; due = node.due; priority = node.priority }) none

  pub start_still : AllStill w (record { time = 0; cells = after })
  start_still time key u = ap (attended_in w time key) (all key)
      ∙ twice_any time 0 (role_at (node_at w.nodes key)) (first_at (node_at w.nodes key)) (reads_in w) key (begin_at (node_at w.nodes key)) ∙ sym (all key)

-- at the time 0 nothing is due
pub none_at_start : (h : Holding) → h.time ≡ 0 → NoneNow h
none_at_start h zero_time key now = now.waits (now.now ∙ zero_time)

-- ---- a click makes nothing due

attended_now : (time : ℕ) (role : Option Component) (first : Bool) (reads : ℕ → Readings) (key : ℕ) (cell : Cell) → IsNow time (attended_at time role first reads key cell) → IsNow time cell
attended_now time None first reads key cell now = now
attended_now time (Some c) first reads key cell now = go (gets_tick c (reads key) cell) now.waits now.now
  where
    go : (gets : Bool) → cond gets (time + delay_of c) cell.due ≢ 0 → cond gets (time + delay_of c) cell.due ≡ time → IsNow time cell
    go true w e = absurd (omega (arith, e, delay_above c))
    go false w e = record { waits = w; now = e }

pub none_after_click : (g : Nodes) (old new : Holding) (key value : ℕ) → NoneNow old → held_state new ≡ attend (graph_circuit g) (put (graph_circuit g) (held_state old) key (with_value (cell_of old.cells key) value)) → NoneNow new
none_after_click g old new key value none after other now = none other kept
  where
    C : Circuit ℕ
    C = graph_circuit g

    s1 : State ℕ
    s1 = put C (held_state old) key (with_value (cell_of old.cells key) value)

    there : IsNow old.time ((attend C s1).cells other)
    there = record {
      waits = λ e. now.waits (ap (λ (s : State ℕ). (s.cells other).due) after ∙ e);
      now = sym (ap (λ (s : State ℕ). (s.cells other).due) after) ∙ now.now ∙ ap (λ (s : State ℕ). s.time) after;
    }

    was : IsNow old.time (s1.cells other)
    was = attended_now old.time (role_at (node_at g other)) (first_at (node_at g other)) (C.readings (outs C s1)) other (s1.cells other) there

    kept : IsNow old.time (cell_of old.cells other)
    kept = elim (cases_eq other key) [
      | inl e ↦
          (let here : s1.cells other ≡ with_value (cell_of old.cells key) value = rw (eq-eqb other key e) refl in
          let mine : IsNow old.time (with_value (cell_of old.cells key) value) = subst (IsNow old.time) here was in
          subst (λ k. IsNow old.time (cell_of old.cells k)) (sym e) (record { waits = mine.waits; now = mine.now }))
      | inr n ↦ (let here : s1.cells other ≡ cell_of old.cells other = rw (ne_eqb other key n) refl in subst (IsNow old.time) here was)
    ]
