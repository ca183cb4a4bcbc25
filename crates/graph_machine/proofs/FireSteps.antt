-- What is due fires: first without its pending tick, then with what it fired to.
use Rattle.std.proofs.Common.{◌≡◌, ℕ, ◌≤◌, Bool, cond, set, Option, Some, None, refl, sym, ap, ◌∙◌, subst, inl, inr}
use Rattle.std.proofs.Math.Path.{fun_ext}
use Rattle.std.specs.Prelude.{◌==◌, IfSome}
use Rattle.std.proofs.lemmas.Bool.{cases_eq, eq-eqb, ne_eqb}
use Rattle.std.proofs.lemmas.List.{get_or-set_same, get_or-set_other}
use Rattle.circuit.specs.declared.Component.{Component}
use Rattle.circuit.specs.declared.Readings.{Readings}
use Rattle.circuit.specs.declared.Cell.{Cell}
use Rattle.circuit.specs.Component.{out, top, delay_of}
use Rattle.circuit.specs.Circuit.{Circuit, State, out_at, put, attend, fired_at, fired_in, IsDue}
use Rattle.circuit.specs.Bounds.{Bounded, BoundedAt}
use Rattle.graph.specs.Graph.{node_at}
use Rattle.graph.specs.GraphCircuit.{role_at, first_at, base_at, graph_circuit}
use Rattle.cell_queue.specs.Held.{Holding, cell_of, CanFollow, rested, NoneNow, IsFirst}
use Rattle.graph_machine.specs.Wired.{Wired}
use Rattle.graph_machine.specs.Playing.{held_state, reads_in, fired_by, IsPlaying, AllStill, OthersStill, FiresOne}
use Rattle.cell_queue.proofs.HeldSteps.{length-set}
use Rattle.graph_machine.proofs.PlaySteps.{delays_small, fired_follows, invariant}

out_by_value : (role : Option Component) (base : ℕ) (one two : Cell) → one.value ≡ two.value → out_at role base one ≡ out_at role base two
out_by_value None base one two same = refl
out_by_value (Some c) base one two same = ap (out c) same

bounded_by_value : (role : Option Component) (one two : Cell) → one.value ≡ two.value → BoundedAt role one → BoundedAt role two
bounded_by_value None one two same h = tt
bounded_by_value (Some c) one two same h = subst (λ v. v ≤ top c) same h

fired_rested : (time : ℕ) (role : Option Component) (first : Bool) (reads : ℕ → Readings) (key : ℕ) (cell : Cell) (component : Component) → role ≡ Some component →
    fired_at time role first reads key (rested cell) ≡ fired_at time role first reads key cell
fired_rested time None first reads key cell component there = absurd (cc)
fired_rested time (Some c) first reads key cell component there = refl

follows_at : (time : ℕ) (role : Option Component) (first : Bool) (reads : ℕ → Readings) (key : ℕ) (cell : Cell) (component : Component) → role ≡ Some component → IfSome role (λ c. delay_of c ≤ 15) →
    CanFollow time (rested cell) (fired_at time role first reads key (rested cell))
follows_at time None first reads key cell component there small = absurd (cc)
follows_at time (Some c) first reads key cell component there small = fired_follows time c first reads key (rested cell) small

module _ (w : Wired) (h : Holding) (key : ℕ) (playing : IsPlaying w h) (first : IsFirst h key) where
  abbrev C : Circuit ℕ
  C = graph_circuit w.nodes

  abbrev s : State ℕ
  s = held_state h

  abbrev pub resting : Holding
  resting = record { time = h.time; cells = set h.cells key (rested (cell_of h.cells key)) }

  same_value : (other : ℕ) → (cell_of h.cells other).value ≡ (cell_of resting.cells other).value
  same_value other = elim (cases_eq other key) [
    | inl e ↦ subst (λ k. (cell_of h.cells k).value ≡ (cell_of resting.cells k).value) (sym e) (sym (ap (λ (x : Cell). x.value) (get_or-set_same h.cells key (rested (cell_of h.cells key)) _ first.inside)))
    | inr n ↦ sym (ap (λ (x : Cell). x.value) (get_or-set_other h.cells key other (rested (cell_of h.cells key)) _ n))
  ]

  pub resting_playing : IsPlaying w resting
  resting_playing = record {
    sound = playing.sound;
    whole = length-set h.cells key (rested (cell_of h.cells key)) ∙ playing.whole;
    past = playing.past;
    gives = λ other. playing.gives other ∙ out_by_value (role_at (node_at w.nodes other)) (base_at (node_at w.nodes other)) (cell_of h.cells other) (cell_of resting.cells other) (same_value other);
    bounded = record { each = λ other. bounded_by_value (role_at (node_at w.nodes other)) (cell_of h.cells other) (cell_of resting.cells other) (same_value other) (playing.bounded.each other) };
    idle = λ other none. elim (cases_eq other key) [
      | inl e ↦ subst (λ k. (cell_of resting.cells k).due ≡ 0) (sym e) (ap (λ (x : Cell). x.due) (get_or-set_same h.cells key (rested (cell_of h.cells key)) _ first.inside))
      | inr n ↦ ap (λ (x : Cell). x.due) (get_or-set_other h.cells key other (rested (cell_of h.cells key)) _ n) ∙ playing.idle other none
    ];
  }

  pub resting_still : AllStill w h → OthersStill key w resting
  resting_still still time other n =
      let same : cell_of resting.cells other ≡ cell_of h.cells other = get_or-set_other h.cells key other (rested (cell_of h.cells key)) _ n in
      rw same (still time other tt)

  put_resting : (cell : Cell) → put C (held_state resting) key cell ≡ put C s key cell
  put_resting cell = λ i. record { time = h.time; cells = λ other. cell_is other i }
    where
      cell_is : (other : ℕ) → cond (other == key) cell (cell_of resting.cells other) ≡ cond (other == key) cell (cell_of h.cells other)
      cell_is other = elim (cases_eq other key) [
        | inl e ↦ rw (eq-eqb other key e) refl
        | inr n ↦ rw (ne_eqb other key n) (get_or-set_other h.cells key other (rested (cell_of h.cells key)) _ n)
      ]

  module _ (component : Component) (there : role_at (node_at w.nodes key) ≡ Some component) (held cell : Cell) (is_held : held ≡ cell_of resting.cells key) (fired : cell ≡ fired_by w h.time key held) where
    is_rested : held ≡ rested (cell_of h.cells key)
    is_rested = is_held ∙ get_or-set_same h.cells key (rested (cell_of h.cells key)) _ first.inside

    fires_to : cell ≡ fired_in C s key
    fires_to = fired ∙ ap (fired_by w h.time key) is_rested
        ∙ fired_rested h.time (role_at (node_at w.nodes key)) (first_at (node_at w.nodes key)) (reads_in w) key (cell_of h.cells key) component there
        ∙ ap (λ (r : ℕ → Readings). fired_at h.time (role_at (node_at w.nodes key)) (first_at (node_at w.nodes key)) r key (cell_of h.cells key)) (ap C.readings (fun_ext playing.gives))

    pub fired_can_follow : CanFollow h.time (cell_of resting.cells key) cell
    fired_can_follow =
        subst (λ c. CanFollow h.time c cell) (sym (get_or-set_same h.cells key (rested (cell_of h.cells key)) _ first.inside))
        (subst (CanFollow h.time (rested (cell_of h.cells key))) (sym (fired ∙ ap (fired_by w h.time key) is_rested))
        (follows_at h.time (role_at (node_at w.nodes key)) (first_at (node_at w.nodes key)) (reads_in w) key (cell_of h.cells key) component there (delays_small w.nodes playing.sound key)))

    pub fired_bounded : Bounded C (put C (held_state resting) key cell)
    fired_bounded = subst (Bounded C) (sym (put_resting cell ∙ ap (put C s key) fires_to)) ((invariant w.nodes playing.sound).fires s key playing.bounded)

    pub fires_one : (new : State ℕ) → new ≡ attend C (put C (held_state resting) key cell) → FiresOne w.nodes s new key
    fires_one new after = record {
      due = record { component = component; there = there; waits = first.due.waits; now = first.due.now };
      least = λ other d. first.least other (record { waits = d.waits; now = d.now });
      after = after ∙ ap (attend C) (put_resting cell ∙ ap (put C s key) fires_to);
    }

  pub no_role : role_at (node_at w.nodes key) ≡ None → ⊥
  no_role none = first.due.waits (playing.idle key none)

-- where no node is due, no cell is
pub none_now_all : (w : Wired) (h : Holding) → IsPlaying w h → ((key : ℕ) → IsDue (graph_circuit w.nodes) (held_state h) key → ⊥) → NoneNow h
none_now_all w h playing none key now = by_role (role_at (node_at w.nodes key)) refl
  where
    by_role : (role : Option Component) → role_at (node_at w.nodes key) ≡ role → ⊥
    by_role None e = now.waits (playing.idle key e)
    by_role (Some c) e = none key (record { component = c; there = e; waits = now.waits; now = now.now })
