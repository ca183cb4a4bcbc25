-- A component changes, and it and its targets attend: so have all.
use Rattle.std.proofs.Common.{◌≡◌, ◌≢◌, ℕ, zero, suc, ◌+◌, ◌<◌, ◌≤◌, Bool, true, false, cond, List, [], ◌∷◌, length, get_or, set, Option, Some, None, refl, sym, ap, ◌∙◌, subst, arith, inl, inr, ◌⊎◌}
use Rattle.std.proofs.Math.Path.{fun_ext}
use Rattle.std.specs.Prelude.{◌==◌, IfSome}
use Rattle.std.proofs.lemmas.Bool.{cases_eq, cases_lt, eq-eqb, ne_eqb}
use Rattle.std.proofs.lemmas.List.{get_or-set_same, get_or-set_other, set-get_or}
use Rattle.circuit.specs.declared.Component.{Component}
use Rattle.circuit.specs.declared.Component.TheVariants.{Repeater as RepeaterPart, Comparator as ComparatorPart}
use Rattle.circuit.specs.declared.Readings.{Readings}
use Rattle.circuit.specs.declared.Cell.{Cell}
use Rattle.circuit.specs.Component.{out, delay_of, priority_of, gets_tick, attended, fires_again}
use Rattle.circuit.specs.Circuit.{Circuit, State, outs, put, attended_at, attend, fired_at}
use Rattle.circuit.specs.Bounds.{Bounded}
use Rattle.circuit.proofs.Bounded.{cond_le, bounded_is_invariant}
use Rattle.circuit.proofs.Matches.{IsInvariant}
use Rattle.circuit.proofs.Settled.{delay_above, attended-settled, settled_attended, outs-attend}
use Rattle.graph.specs.declared.Kind.{Kind}
use Rattle.graph.specs.declared.Kind.TheVariants.{Lever, Button, Plate, Weighted, Torch, Repeater, Comparator, Lamp, Trapdoor, Note, Wire, Constant}
use Rattle.graph.specs.declared.Group.TheVariants.{Back, Side}
use Rattle.graph.specs.Graph.{Node, Nodes, node_at}
use Rattle.graph.specs.Readings.{back_of}
use Rattle.graph.specs.GraphCircuit.{role_of, role_at, first_at, readings_at, graph_circuit}
use Rattle.graph.specs.Sound.{IsKindInRange, IsSoundNode, IsSound}
use Rattle.graph.proofs.ListedSteps.{test_of_keys}
use Rattle.graph.proofs.BoundSteps.{graph_is_bounded}
use Rattle.cell_queue.specs.Held.{Holding, cell_of, IsSoon, CanFollow, rested}
use Rattle.graph_machine.specs.Outgoing.{links_from}
use Rattle.graph_machine.specs.Wired.{Wired, given, IsTarget, AreTargets, targets_in}
use Rattle.graph_machine.specs.Playing.{state_of, held_state, reads_in, attended_in, IsPlaying, AllStill, OthersStill, Attends, IsEarly}
use Rattle.graph_machine.proofs.CountSteps.{reading_stays}
use Rattle.cell_queue.proofs.HeldSteps.{cell-set, length-set}

-- ---- what follows a cell

delay_small : (kind : Kind) → IsKindInRange kind → IfSome (role_of kind) (λ c. delay_of c ≤ 15)
delay_small Lever h = omega arith
delay_small (Button delay) (inl e) = omega arith
delay_small (Button delay) (inr e) = omega arith
delay_small Plate h = omega arith
delay_small Weighted h = omega arith
delay_small Torch h = omega arith
delay_small (Repeater delay) h = omega (arith, h.0, h.1)
delay_small (Comparator subtract direct far) h = omega arith
delay_small Lamp h = omega arith
delay_small Trapdoor h = omega arith
delay_small Note h = omega arith
delay_small Wire h = omega arith
delay_small Constant h = tt

pub delays_small : (g : Nodes) → IsSound g → (key : ℕ) → IfSome (role_at (node_at g key)) (λ c. delay_of c ≤ 15)
delays_small g sound key = by_entry (node_at g key) (sound.each key)
  where
    by_entry : (entry : Option Node) → ((node : Node) → entry ≡ Some node → IsSoundNode g node) → IfSome (role_at entry) (λ c. delay_of c ≤ 15)
    by_entry None h = tt
    by_entry (Some node) h = delay_small node.kind (h node refl).kind

priority_small : (component : Component) (first : Bool) (value : ℕ) → priority_of component first value ≤ 3
priority_small (RepeaterPart delay) first value = cond_le first 0 _ 3 (omega arith) (cond_le (value == 0) 2 1 3 (omega arith) (omega arith))
priority_small (ComparatorPart subtract) first value = cond_le first 2 3 3 (omega arith) (omega arith)
priority_small _ first value = omega arith

soon_if : (gets : Bool) (time value due priority delay rank : ℕ) → due ≡ 0 → 0 < delay → delay ≤ 15 → rank ≤ 3 →
    IsSoon time (record { value = value; due = cond gets (time + delay) due; priority = cond gets rank priority })
soon_if true time value due priority delay rank none above small low = record { later = λ w. omega arith; soon = omega arith; priority = λ w. low }
soon_if false time value due priority delay rank none above small low = record { later = λ w. absurd (w none); soon = omega arith; priority = λ w. absurd (w none) }

pub attended_follows : (time : ℕ) (role : Option Component) (first : Bool) (reads : ℕ → Readings) (key : ℕ) (cell : Cell) → IfSome role (λ c. delay_of c ≤ 15) →
    CanFollow time cell (attended_at time role first reads key cell)
attended_follows time None first reads key cell small = record {
  stays = λ w. (refl, refl);
  soon = λ none. record { later = λ w. absurd (w none); soon = omega arith; priority = λ w. absurd (w none) };
}
attended_follows time (Some c) first reads key cell small = record {
  stays = λ w. rw (ne_eqb cell.due 0 w) (refl, refl);
  soon = λ none. soon_if (gets_tick c (reads key) cell) time _ cell.due cell.priority (delay_of c) (priority_of c first cell.value) none (delay_above c) small (priority_small c first cell.value);
}

pub fired_follows : (time : ℕ) (component : Component) (first : Bool) (reads : ℕ → Readings) (key : ℕ) (cell : Cell) → delay_of component ≤ 15 →
    CanFollow time (rested cell) (fired_at time (Some component) first reads key cell)
fired_follows time c first reads key cell small = record {
  stays = λ w. absurd (w refl);
  soon = λ none. soon_if (fires_again c (reads key) cell.value) time _ 0 0 (delay_of c) (priority_of c first 1) refl (delay_above c) small (priority_small c first 1);
}

-- ---- attending

pub twice_any : (later time : ℕ) (role : Option Component) (first : Bool) (reads : ℕ → Readings) (key : ℕ) (cell : Cell) →
    attended_at later role first reads key (attended_at time role first reads key cell) ≡ attended_at time role first reads key cell
twice_any later time None first reads key cell = refl
twice_any later time (Some c) first reads key cell = attended-settled later c first (reads key) (attended time c first (reads key) cell) (settled_attended time c first (reads key) cell)

attended_same : (time : ℕ) (role : Option Component) (first : Bool) (reads more : ℕ → Readings) (key : ℕ) (cell : Cell) → more key ≡ reads key →
    attended_at time role first more key cell ≡ attended_at time role first reads key cell
attended_same time None first reads more key cell same = refl
attended_same time (Some c) first reads more key cell same = ap (λ r. attended time c first r cell) same

module _ (w : Wired) (time : ℕ) where
  twice : (key : ℕ) (cell : Cell) → attended_in w time key (attended_in w time key cell) ≡ attended_in w time key cell
  twice key cell = twice_any time time (role_at (node_at w.nodes key)) (first_at (node_at w.nodes key)) (reads_in w) key cell

  pub attends_none : (P : ℕ → Type 0) (cells : List Cell) → ((key : ℕ) → P key → ⊥) → Attends w time P cells cells
  attends_none P cells none = record { whole = refl; each = λ key. inr refl; done = λ key p. absurd (none key p) }

  -- one key more attends
  pub attends_more : (P Q : ℕ → Type 0) (old now next : List Cell) (key : ℕ) → key < length old → Attends w time P old now → next ≡ set now key (attended_in w time key (cell_of now key)) →
      ((other : ℕ) → Q other → P other ⊎ (other ≡ key)) → Attends w time Q old next
  attends_more P Q old now next key inside so_far put_in split = record {
    whole = ap (λ l. length l) put_in ∙ length-set now key (attended_in w time key (cell_of now key)) ∙ so_far.whole;
    each = λ other. elim (cases_eq other key) [
      | inl e ↦ inl (subst (λ k. cell_of next k ≡ attended_in w time k (cell_of old k)) (sym e) mine)
      | inr n ↦ elim (so_far.each other) [
        | inl a ↦ inl (others other n ∙ a)
        | inr s ↦ inr (others other n ∙ s)
      ]
    ];
    done = λ other q. elim (cases_eq other key) [
      | inl e ↦ subst (λ k. cell_of next k ≡ attended_in w time k (cell_of old k)) (sym e) mine
      | inr n ↦ elim (split other q) [
        | inl p ↦ others other n ∙ so_far.done other p
        | inr e ↦ absurd (n e)
      ]
    ];
  }
    where
      within : key < length now
      within = omega (arith, so_far.whole, inside)

      put_cell : cell_of next key ≡ attended_in w time key (cell_of now key)
      put_cell = ap (λ l. cell_of l key) put_in ∙ get_or-set_same now key (attended_in w time key (cell_of now key)) _ within

      others : (other : ℕ) → other ≢ key → cell_of next other ≡ cell_of now other
      others other n = ap (λ l. cell_of l other) put_in ∙ get_or-set_other now key other (attended_in w time key (cell_of now key)) _ n

      mine : cell_of next key ≡ attended_in w time key (cell_of old key)
      mine = put_cell ∙ (elim (so_far.each key) [
        | inl a ↦ ap (attended_in w time key) a ∙ twice key (cell_of old key)
        | inr s ↦ ap (attended_in w time key) s
      ])

  pub attends_as : (P Q : ℕ → Type 0) (old now : List Cell) → ((key : ℕ) → Q key → P key) → Attends w time P old now → Attends w time Q old now
  attends_as P Q old now as_well a = record { whole = a.whole; each = a.each; done = λ key q. a.done key (as_well key q) }

-- one target more is early
pub early_split : (targets : List ℕ) (i target : ℕ) → target ≡ get_or targets i 0 → (other : ℕ) → IsEarly targets (i + 1) other → IsEarly targets i other ⊎ (other ≡ target)
early_split targets i target here other e = elim (cases_lt e.target.index i) [
  | inl low ↦ inl (record { target = e.target; early = low })
  | inr high ↦
      (let same : e.target.index ≡ i = omega (arith, e.early, high) in
      inr (sym e.target.here ∙ ap (λ k. get_or targets k 0) same ∙ sym here))
]

pub invariant : (g : Nodes) → IsSound g → IsInvariant (graph_circuit g) (Bounded (graph_circuit g))
invariant g sound = bounded_is_invariant (graph_circuit g) test_of_keys (graph_is_bounded g sound)

-- ---- one component changes

pub readings_stay : (before after : ℕ → ℕ) (key : ℕ) (entry : Option Node) → ((other : ℕ) → other ≢ key → after other ≡ before other) → links_from key entry ≡ 0 → readings_at after entry ≡ readings_at before entry
readings_stay before after key None same none = refl
readings_stay before after key (Some node) same none =
    let back = ap (back_of node.kind) (reading_stays before after key Back node.links same none) in
    let side = reading_stays before after key Side node.links same none in
    λ i. record { back = back i; side = side i }

pub inside_of : (w : Wired) (h : Holding) (key : ℕ) (component : Component) → IsPlaying w h → role_at (node_at w.nodes key) ≡ Some component → key < length w.outs
inside_of w h key component playing there = elim (cases_lt key (length w.outs)) [
  | inl below ↦ below
  | inr past ↦ (let none : None ≡ Some component = sym (ap role_at (playing.past key past)) ∙ there in absurd (cc))
]

module _ (w : Wired) (h : Holding) (key : ℕ) (component : Component) (cell : Cell) (playing : IsPlaying w h) (still : OthersStill key w h) (there : role_at (node_at w.nodes key) ≡ Some component)
    (bounded : Bounded (graph_circuit w.nodes) (put (graph_circuit w.nodes) (held_state h) key cell)) where
  abbrev C : Circuit ℕ
  C = graph_circuit w.nodes

  abbrev s1 : State ℕ
  s1 = put C (held_state h) key cell

  abbrev pub changed : Wired
  changed = record { nodes = w.nodes; outs = set w.outs key (out component cell.value); targets = w.targets }

  abbrev cells1 : List Cell
  cells1 = set h.cells key cell

  inside : key < length w.outs
  inside = inside_of w h key component playing there

  inside_cells : key < length h.cells
  inside_cells = omega (arith, inside, playing.whole)

  gives : (other : ℕ) → given changed.outs other ≡ outs C s1 other
  gives other = elim (cases_eq other key) [
    | inl e ↦ subst (λ k. given changed.outs k ≡ outs C s1 k) (sym e) (rw (eq-eqb key key refl, there) (get_or-set_same w.outs key (out component cell.value) 0 inside))
    | inr n ↦ rw (ne_eqb other key n) (get_or-set_other w.outs key other (out component cell.value) 0 n ∙ playing.gives other)
  ]

  reads : reads_in changed ≡ C.readings (outs C s1)
  reads = ap C.readings (fun_ext gives)

  stays : (other : ℕ) → other ≢ key → links_from key (node_at w.nodes other) ≡ 0 → attended_in changed h.time other (cell_of h.cells other) ≡ cell_of h.cells other
  stays other n none =
      attended_same h.time (role_at (node_at w.nodes other)) (first_at (node_at w.nodes other)) (reads_in w) (reads_in changed) other (cell_of h.cells other)
      (readings_stay (given w.outs) (given changed.outs) key (node_at w.nodes other) (λ k m. get_or-set_other w.outs key k (out component cell.value) 0 m) none)
      ∙ still h.time other n

  -- attending would change nothing there
  abbrev pub IsCalm : ℕ → Type 0
  IsCalm other = attended_in changed h.time other (cell_of h.cells other) ≡ cell_of h.cells other

  -- who isn't a target is calm
  pub calm_others : (targets : List ℕ) → AreTargets w.nodes targets key → (other : ℕ) → other ≢ key → IsTarget targets other ⊎ IsCalm other
  calm_others targets all other n = elim (all other) [ inl target ↦ inl target | inr none ↦ inr (stays other n none) ]

  pub same_outs : given w.outs key ≡ out component cell.value → w.outs ≡ set w.outs key (out component cell.value)
  same_outs same = sym (ap (set w.outs key) (sym same) ∙ set-get_or w.outs key 0)

  -- where the component gives what it gave, all others are
  pub all_calm : given w.outs key ≡ out component cell.value → (other : ℕ) → other ≢ key → ⊥ ⊎ IsCalm other
  all_calm same other n =
      inr (ap (λ (o : List ℕ). attended_in (record { nodes = w.nodes; outs = o; targets = w.targets }) h.time other (cell_of h.cells other)) (sym (same_outs same)) ∙ still h.time other n)

  -- the component attended first, and then some of the others, so that all that didn't are calm
  module _ (Q : ℕ → Type 0) (covers : (other : ℕ) → other ≢ key → Q other ⊎ IsCalm other) (mid final : List Cell) (first : Attends changed h.time (λ k. k ≡ key) cells1 mid) (rest : Attends changed h.time Q mid final) where
    -- what attended first, and then again or not, has attended
    either : (other : ℕ) → cell_of mid other ≡ attended_in changed h.time other (cell_of cells1 other) → cell_of final other ≡ attended_in changed h.time other (cell_of cells1 other)
    either other e = elim (rest.each other) [
      | inl a ↦ a ∙ ap (attended_in changed h.time other) e ∙ twice changed h.time other (cell_of cells1 other)
      | inr s ↦ s ∙ e
    ]

    attended_all : (other : ℕ) → cell_of final other ≡ attended_in changed h.time other (cell_of cells1 other)
    attended_all other = elim (cases_eq other key) [
      | inl e ↦ either other (first.done other e)
      | inr n ↦ elim (first.each other) [
        | inl a ↦ either other a
        | inr s ↦ elim (covers other n) [
          | inl target ↦ rest.done other target ∙ ap (attended_in changed h.time other) s
          | inr calm ↦
              (let same : cell_of cells1 other ≡ cell_of h.cells other = get_or-set_other h.cells key other cell _ n in
              let quiet : cell_of cells1 other ≡ attended_in changed h.time other (cell_of cells1 other) = same ∙ sym calm ∙ ap (attended_in changed h.time other) (sym same) in
              either other (s ∙ quiet))
        ]
      ]
    ]

    pub changed_state : state_of h.time final ≡ attend C s1
    changed_state = λ i. record { time = h.time; cells = λ other. cell_is other i }
      where
        cell_is : (other : ℕ) → cell_of final other ≡ (attend C s1).cells other
        cell_is other = attended_all other
            ∙ ap (λ (r : ℕ → Readings). attended_at h.time (role_at (node_at w.nodes other)) (first_at (node_at w.nodes other)) r other (cell_of cells1 other)) reads
            ∙ ap (attended_at h.time (role_at (node_at w.nodes other)) (first_at (node_at w.nodes other)) (C.readings (outs C s1)) other) (cell-set h.cells key other cell inside_cells)

    pub changed_playing : IsPlaying changed (record { time = h.time; cells = final })
    changed_playing = record {
      sound = playing.sound;
      whole = rest.whole ∙ first.whole ∙ length-set h.cells key cell ∙ playing.whole ∙ sym (long w.outs key (out component cell.value));
      past = λ other past. playing.past other (omega (arith, past, long w.outs key (out component cell.value)));
      gives = λ other. gives other ∙ ap (λ (f : ℕ → ℕ). f other) (sym (outs-attend C s1)) ∙ ap (λ (s : State ℕ). outs C s other) (sym changed_state);
      bounded = subst (Bounded C) (sym changed_state) ((invariant w.nodes playing.sound).attends s1 bounded);
      idle = λ other none.
          let n : other ≢ key = λ e. let clash : None ≡ Some component = sym none ∙ ap (λ k. role_at (node_at w.nodes k)) e ∙ there in absurd (cc) in
          let quiet : cell_of final other ≡ cell_of cells1 other =
          attended_all other ∙ ap (λ (r : Option Component). attended_at h.time r (first_at (node_at w.nodes other)) (reads_in changed) other (cell_of cells1 other)) none in
          ap (λ (x : Cell). x.due) (quiet ∙ get_or-set_other h.cells key other cell _ n) ∙ playing.idle other none;
    }
      where
        long : (xs : List ℕ) (i x : ℕ) → length (set xs i x) ≡ length xs
        long [] i x = refl
        long (y ∷ xs) zero x = refl
        long (y ∷ xs) (suc i) x = ap suc (long xs i x)

    pub changed_still : AllStill changed (record { time = h.time; cells = final })
    changed_still time other u = ap (attended_in changed time other) (attended_all other)
        ∙ twice_any time h.time (role_at (node_at w.nodes other)) (first_at (node_at w.nodes other)) (reads_in changed) other (cell_of cells1 other) ∙ sym (attended_all other)

-- what a change leads to
pub record LeadsTo (w : Wired) (h : Holding) (key : ℕ) (cell : Cell) (w2 : Wired) (h2 : Holding) : Type 0 where
  pub state : held_state h2 ≡ attend (graph_circuit w.nodes) (put (graph_circuit w.nodes) (held_state h) key cell)
  pub playing : IsPlaying w2 h2
  pub still : AllStill w2 h2

module _ (w : Wired) (h : Holding) (key : ℕ) (component : Component) (cell : Cell) (playing : IsPlaying w h) (still : OthersStill key w h) (there : role_at (node_at w.nodes key) ≡ Some component)
    (bounded : Bounded (graph_circuit w.nodes) (put (graph_circuit w.nodes) (held_state h) key cell)) where
  abbrev after : Wired
  after = changed w h key component cell playing still there bounded

  abbrev Calm : ℕ → Type 0
  Calm other = IsCalm w h key component cell playing still there bounded other

  -- the key attended to what it reads now
  abbrev pub FirstAttended : Wired → Holding → Holding → Type 0
  FirstAttended w2 h1 mid = mid ≡ record { time = h1.time; cells = set h1.cells key (attended_in w2 h1.time key (cell_of h1.cells key)) }

  leads_from : (Q : ℕ → Type 0) → ((other : ℕ) → other ≢ key → Q other ⊎ Calm other) → (mid h2 : Holding) → FirstAttended after (record { time = h.time; cells = set h.cells key cell }) mid → h2.time ≡ mid.time →
      Attends after mid.time Q mid.cells h2.cells → LeadsTo w h key cell after h2
  leads_from Q covers mid h2 is time rest =
      let now : mid.time ≡ h.time = ap (λ (m : Holding). m.time) is in
      let within : key < length (set h.cells key cell) = omega (arith, inside_of w h key component playing there, playing.whole, length-set h.cells key cell) in
      let later : Attends after h.time Q mid.cells h2.cells = subst (λ t. Attends after t Q mid.cells h2.cells) now rest in
      let first : Attends after h.time (λ k. k ≡ key) (set h.cells key cell) mid.cells =
      attends_more after h.time (λ k. ⊥) (λ k. k ≡ key) (set h.cells key cell) (set h.cells key cell) mid.cells key within (attends_none after h.time (λ k. ⊥) (set h.cells key cell) (λ k p. p)) (ap (λ (m : Holding). m.cells) is) (λ other e. inr e) in
      let result : LeadsTo w h key cell after (record { time = h.time; cells = h2.cells }) = record {
        state = changed_state w h key component cell playing still there bounded Q covers mid.cells h2.cells first later;
        playing = changed_playing w h key component cell playing still there bounded Q covers mid.cells h2.cells first later;
        still = changed_still w h key component cell playing still there bounded Q covers mid.cells h2.cells first later;
      } in
      subst (λ t. LeadsTo w h key cell after (record { time = t; cells = h2.cells })) (sym (time ∙ now)) result

  -- its targets attended too
  pub leads : AreTargets w.nodes (targets_in w.targets key) key → (w2 : Wired) (h1 mid h2 : Holding) → w2.nodes ≡ w.nodes → w2.outs ≡ set w.outs key (out component cell.value) → w2.targets ≡ w.targets →
      h1 ≡ record { time = h.time; cells = set h.cells key cell } → FirstAttended w2 h1 mid → h2.time ≡ mid.time → Attends w2 mid.time (IsTarget (targets_in w2.targets key)) mid.cells h2.cells → LeadsTo w h key cell w2 h2
  leads all w2 h1 mid h2 nodes outs targets held first time rest =
      let same : w2 ≡ after = λ i. record { nodes = nodes i; outs = outs i; targets = targets i } in
      let begun : FirstAttended w2 (record { time = h.time; cells = set h.cells key cell }) mid = subst (λ (h1 : Holding). FirstAttended w2 h1 mid) held first in
      let covers = calm_others w h key component cell playing still there bounded (targets_in w.targets key) all in
      let by : FirstAttended w2 (record { time = h.time; cells = set h.cells key cell }) mid → Attends w2 mid.time (IsTarget (targets_in w2.targets key)) mid.cells h2.cells → LeadsTo w h key cell w2 h2 =
      subst (λ (v : Wired). FirstAttended v (record { time = h.time; cells = set h.cells key cell }) mid → Attends v mid.time (IsTarget (targets_in v.targets key)) mid.cells h2.cells → LeadsTo w h key cell v h2)
      (sym same) (λ f r. leads_from (IsTarget (targets_in w.targets key)) covers mid h2 f time r) in
      by begun rest

  -- it gives what it gave, and attended alone
  pub leads_alone : given w.outs key ≡ out component cell.value → (h1 mid : Holding) → h1 ≡ record { time = h.time; cells = set h.cells key cell } → FirstAttended w h1 mid → LeadsTo w h key cell w mid
  leads_alone same h1 mid held first =
      let outs = same_outs w h key component cell playing still there bounded same in
      let is : w ≡ after = λ i. record { nodes = w.nodes; outs = outs i; targets = w.targets } in
      let covers = all_calm w h key component cell playing still there bounded same in
      let begun : FirstAttended w (record { time = h.time; cells = set h.cells key cell }) mid = subst (λ (h1 : Holding). FirstAttended w h1 mid) held first in
      let by : FirstAttended w (record { time = h.time; cells = set h.cells key cell }) mid → LeadsTo w h key cell w mid =
      subst (λ (v : Wired). FirstAttended v (record { time = h.time; cells = set h.cells key cell }) mid → LeadsTo w h key cell v mid)
      (sym is) (λ f. leads_from (λ k. ⊥) covers mid mid f refl (attends_none after mid.time (λ k. ⊥) mid.cells (λ k p. p))) in
      by begun
