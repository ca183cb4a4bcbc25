-- A tick, one firing after another: each leaves fewer to fire, and in the end they are a firing list.
use Rattle.std.proofs.Common.{◌≡◌, ◌≢◌, ℕ, zero, suc, ◌+◌, ◌<◌, ◌≤◌, Bool, true, false, List, [], ◌∷◌, ◌++◌, length, append_assoc, append-nil, Option, Some, None, refl, sym, ap, ◌∙◌, subst, arith, inl, inr}
use Rattle.std.specs.Prelude.{count_by, sum_by, is_some}
use Rattle.std.proofs.lemmas.Bool.{cases_Bool, cases_eq}
use Rattle.std.proofs.lemmas.List.Sums.{sum_by-cons, sum_by-append}
use Rattle.circuit.specs.Circuit.{Circuit, State, IsDue, fire, fire_all}
use Rattle.circuit.specs.Firing.{Fires, NoneDue, FiresNext}
use Rattle.circuit.proofs.FiringLaw.{fire_makes_none_due, fires_is_firing_list}
use Rattle.circuit.proofs.Runs.{due_at-true, due_at_from}
use Rattle.graph.specs.Graph.{Node, Nodes, node_at, node_count}
use Rattle.graph.specs.GraphCircuit.{role_at, graph_circuit}
use Rattle.graph.proofs.ListedSteps.{test_of_keys}
use Rattle.graph.proofs.NodeSteps.{below_length}
use Rattle.link_counts.specs.Counted.{one_if}
use Rattle.graph_machine.specs.Outgoing.{reads_of}
use Rattle.graph_machine.specs.Playing.{FiresOne, FiresNone, FiresDue, due_key, count_from, due_count}
use Rattle.graph_machine.proofs.CountSteps.{count_cons}

-- ---- how many are due

count_le : (p q : ℕ → Bool) (from count : ℕ) → ((k : ℕ) → q k ≡ true → p k ≡ true) → count_from q from count ≤ count_from p from count
count_le p q from zero h = omega arith
count_le p q from (suc count) h =
    let rest = count_le p q (suc from) count h in
    elim (cases_Bool (q from)) [
      | inl e ↦ rw (e, h from e) (omega arith)
      | inr e ↦ rw e (omega arith)
    ]

count_falls : (p q : ℕ → Bool) (from count j : ℕ) → from ≤ j → j < from + count → p j ≡ true → q j ≡ false → ((k : ℕ) → q k ≡ true → p k ≡ true) → count_from q from count < count_from p from count
count_falls p q from zero j low high here gone h = absurd (omega arith)
count_falls p q from (suc count) j low high here gone h = elim (cases_eq from j) [
  | inl e ↦
      (let rest = count_le p q (suc from) count h in
      rw (ap p e ∙ here, ap q e ∙ gone) (omega arith))
  | inr n ↦
      (let rest = count_falls p q (suc from) count j (omega arith) (omega arith) here gone h in
      elim (cases_Bool (q from)) [
        | inl e ↦ rw (e, h from e) (omega arith)
        | inr e ↦ rw e (omega arith)
      ])
]

count_nodes : (p : ℕ → Bool) (from : ℕ) (g : Nodes) → ((j : ℕ) → node_at g j ≡ None → p (from + j) ≡ false) → count_from p from (length g) ≤ count_by is_some g
count_nodes p from [] h = omega arith
count_nodes p from (None ∷ g) h =
    let rest = count_nodes p (suc from) g (λ j e. subst (λ k. p k ≡ false) (omega arith) (h (suc j) e)) in
    let here : p from ≡ false = subst (λ k. p k ≡ false) (omega arith) (h 0 refl) in
    rw here (omega (arith, rest, count_cons is_some None g))
count_nodes p from (Some node ∷ g) h =
    let rest = count_nodes p (suc from) g (λ j e. subst (λ k. p k ≡ false) (omega arith) (h (suc j) e)) in
    let one : one_if (p from) ≤ 1 = elim (p from) as (λ b. one_if b ≤ 1) [ true ↦ omega arith | false ↦ omega arith ] in
    omega (arith, rest, one, count_cons is_some (Some node) g)

nodes_within : (g : Nodes) (count : ℕ) → ((key : ℕ) → count ≤ key → node_at g key ≡ None) → count_by is_some g ≤ count
nodes_within [] count past = omega arith
nodes_within (None ∷ g) zero past = omega (arith, count_cons is_some None g, nodes_within g zero (λ key h. past (suc key) (omega arith)))
nodes_within (Some node ∷ g) zero past = (let clash : Some node ≡ None = past 0 (omega arith) in absurd (cc))
nodes_within (entry ∷ g) (suc count) past =
    let one : one_if (is_some entry) ≤ 1 = elim (is_some entry) as (λ b. one_if b ≤ 1) [ true ↦ omega arith | false ↦ omega arith ] in
    omega (arith, one, count_cons is_some entry g, nodes_within g count (λ key h. past (suc key) (omega arith)))

module _ (g : Nodes) where
  abbrev C : Circuit ℕ
  C = graph_circuit g

  is_due : (s : State ℕ) (key : ℕ) → due_key g s key ≡ true → IsDue C s key
  is_due s key h = let d = due_at-true (role_at (node_at g key)) (s.cells key) s.time h in record { component = d.0; there = d.1; waits = d.2; now = d.3 }

  due_is : (s : State ℕ) (key : ℕ) → IsDue C s key → due_key g s key ≡ true
  due_is s key d = rw d.there (due_at_from d.component (s.cells key) s.time d.waits d.now)

  inside : (s : State ℕ) (key : ℕ) → IsDue C s key → key < length g
  inside s key d = by_entry (node_at g key) refl d.there
    where
      by_entry : (entry : Option Node) → node_at g key ≡ entry → role_at entry ≡ Some d.component → key < length g
      by_entry None e there = absurd (cc)
      by_entry (Some node) e there = below_length g key node e

  -- no more are due than there are nodes
  pub due_le : (s : State ℕ) → due_count g s ≤ node_count g
  due_le s = count_nodes (due_key g s) 0 g (λ j e. let here : j ≡ 0 + j = omega arith in let none : due_key g s j ≡ false = rw e refl in subst (λ k. due_key g s k ≡ false) here none)

  -- and there are no more nodes than keys
  pub due_within : (s : State ℕ) (count : ℕ) → ((key : ℕ) → count ≤ key → node_at g key ≡ None) → due_count g s ≤ count
  due_within s count past = omega (arith, due_le s, nodes_within g count past)

  -- a firing leaves fewer
  pub firing_lowers : (s new : State ℕ) (key : ℕ) → 0 < s.time → FiresOne g s new key → due_count g new < due_count g s
  firing_lowers s new key late f = count_falls (due_key g s) (due_key g new) 0 (length g) key (omega arith) (omega (arith, inside s key f.due)) (due_is s key f.due) gone before
    where
      was : (k : ℕ) → due_key g new k ≡ true → (k ≢ key) × IsDue C s k
      was k h = fire_makes_none_due C test_of_keys s key late k (subst (λ t. IsDue C t k) f.after (is_due new k h))

      before : (k : ℕ) → due_key g new k ≡ true → due_key g s k ≡ true
      before k h = due_is s k (was k h).1

      gone : due_key g new key ≡ false
      gone = elim (cases_Bool (due_key g new key)) [ inl e ↦ absurd ((was key e).0 refl) | inr e ↦ e ]

  -- firings take no time
  pub fire_all_time : (keys : List ℕ) (s : State ℕ) → (fire_all C s keys).time ≡ s.time
  fire_all_time [] s = refl
  fire_all_time (key ∷ keys) s = fire_all_time keys (fire C s key)

  -- What fired so far: whatever fires from here on, fires behind it.
  pub record FiredSoFar (old now : State ℕ) (noted_before noted : List ℕ) (before after : ℕ) : Type 0 where
    pub done : List ℕ
    pub noted_is : noted ≡ noted_before ++ done
    pub reads : after ≤ before + sum_by (reads_of g) done
    pub fires : (keys : List ℕ) → Fires C now keys → Fires C old (done ++ keys)
    pub state : (keys : List ℕ) → fire_all C old (done ++ keys) ≡ fire_all C now keys

  pub fired_none : (s : State ℕ) (noted : List ℕ) (steps : ℕ) → FiredSoFar s s noted noted steps steps
  fired_none s noted steps = record { done = []; noted_is = sym (append-nil noted); reads = omega arith; fires = λ keys f. f; state = λ keys. refl }

  pub fired_more : (old now next : State ℕ) (noted_before noted noted_next : List ℕ) (before steps after key : ℕ) → FiredSoFar old now noted_before noted before steps → FiresOne g now next key →
      noted_next ≡ noted ++ key ∷ [] → after ≤ steps + reads_of g key → FiredSoFar old next noted_before noted_next before after
  fired_more old now next noted_before noted noted_next before steps after key so_far f more read = record {
    done = so_far.done ++ key ∷ [];
    noted_is = more ∙ ap (λ l. l ++ key ∷ []) so_far.noted_is ∙ append_assoc noted_before so_far.done (key ∷ []);
    reads = omega (arith, so_far.reads, read, sum_by-append (reads_of g) so_far.done (key ∷ []), sum_by-cons (reads_of g) key []);
    fires = λ keys fs. subst (Fires C old) (sym (append_assoc so_far.done (key ∷ []) keys)) (so_far.fires (key ∷ keys) (FiresNext key f.due f.least (subst (λ t. Fires C t keys) f.after fs)));
    state = λ keys. ap (fire_all C old) (append_assoc so_far.done (key ∷ []) keys) ∙ so_far.state (key ∷ keys) ∙ ap (λ (t : State ℕ). fire_all C t keys) (sym f.after);
  }

  pub fired_all : (old now new : State ℕ) (noted_before noted : List ℕ) (before steps after : ℕ) → FiredSoFar old now noted_before noted before steps → FiresNone g now new → after ≤ steps + 0 →
      FiresDue g old new noted_before noted before after
  fired_all old now new noted_before noted before steps after so_far none read =
      let whole = append-nil so_far.done in
      record {
        fires = so_far.done;
        noted = so_far.noted_is;
        order = fires_is_firing_list C test_of_keys old so_far.done (subst (Fires C old) whole (so_far.fires [] (NoneDue none.none)));
        state = none.same ∙ sym (ap (fire_all C old) (sym whole) ∙ so_far.state []);
        reads = omega (arith, so_far.reads, read);
      }
