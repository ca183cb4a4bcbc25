-- A graph takes just the clicks that its circuit takes.
use Rattle.std.proofs.Common.{◌≡◌, ℕ, zero, suc, ◌≤◌, Bool, true, false, List, [], ◌∷◌, Option, Some, None, refl, sym, ap, ◌∙◌, arith, inl, inr, IsTrue}
use Rattle.std.specs.Prelude.{nat_le}
use Rattle.std.specs.List.{list_any}
use Rattle.std.proofs.lemmas.Bool.{cases_Bool, and_parts, false≢true}
use Rattle.std.proofs.lemmas.Bool.Decides.{Decides-int_eq, nat_tests}
use Rattle.circuit.specs.declared.Act.{Act}
use Rattle.circuit.specs.declared.Act.TheVariants.{Click as ClickAct, Ticks as TicksAct}
use Rattle.circuit.specs.declared.Click.{Click}
use Rattle.circuit.specs.declared.Click.TheVariants.{Use, Press, Leave, Weigh}
use Rattle.circuit.specs.declared.Pos.{Pos}
use Rattle.circuit.specs.Taken.{Takes, EachActTaken}
use Rattle.graph.specs.Clicks.{is_same_place, answers_at, is_wire_at as is_wire_entry, HasAnswer, HasWire, IsClickInRange}
use Rattle.graph.specs.Graph.{Node, Nodes, node_at}
use Rattle.graph.specs.GraphCircuit.{graph_circuit}
use Rattle.graph.proofs.ClickSteps.{answer_here, wire_here, takes_where_answers}
use Rattle.script.specs.Fit.{EachClickTaken}
use Rattle.graph_file.specs.Targets.{is_weighable, takes_click}

same_place : (p q : Pos) → p ≡ q → is_same_place p q ≡ true
same_place p q e = rw ((Decides-int_eq p.x q.x).1 (ap (λ (r : Pos). r.x) e), (Decides-int_eq p.y q.y).1 (ap (λ (r : Pos). r.y) e), (Decides-int_eq p.z q.z).1 (ap (λ (r : Pos). r.z) e)) refl

-- ---- some entry passes a test

found_any : (test : Option Node → Bool) (g : Nodes) (key : ℕ) (entry : Option Node) → test None ≡ false → node_at g key ≡ entry → test entry ≡ true → list_any test g ≡ true
found_any test [] key entry none e h = absurd (false≢true (sym none ∙ ap test e ∙ h))
found_any test (first ∷ g) zero entry none e h = rw (ap test e ∙ h) refl
found_any test (first ∷ g) (suc key) entry none e h = elim (cases_Bool (test first)) [
  | inl t ↦ rw t refl
  | inr t ↦ rw t (found_any test g key entry none e h)
]

any_found : (test : Option Node → Bool) (g : Nodes) → list_any test g ≡ true → (key : ℕ) × (test (node_at g key) ≡ true)
any_found test [] h = absurd (false≢true h)
any_found test (first ∷ g) h = elim (cases_Bool (test first)) [
  | inl t ↦ (0, t)
  | inr t ↦ (let rest = any_found test g (rw t at h) in (suc rest.0, rest.1))
]

pub any_answer : (g : Nodes) (pos : Pos) (click : Click) → HasAnswer g pos click → list_any (λ entry. answers_at entry pos click) g ≡ true
any_answer g pos click a = found_any (λ entry. answers_at entry pos click) g a.key (Some a.node) refl a.there (rw (same_place a.node.pos pos a.holds.0, a.holds.1) refl)

pub answer_any : (g : Nodes) (pos : Pos) (click : Click) → list_any (λ entry. answers_at entry pos click) g ≡ true → HasAnswer g pos click
answer_any g pos click h = let found = any_found (λ entry. answers_at entry pos click) g h in answer_here g found.0 pos click (node_at g found.0) refl found.1

pub any_wire : (g : Nodes) (pos : Pos) → HasWire g pos → list_any (λ entry. is_wire_entry entry pos) g ≡ true
any_wire g pos a = found_any (λ entry. is_wire_entry entry pos) g a.key (Some a.node) refl a.there (rw (same_place a.node.pos pos a.holds.0, a.holds.1) refl)

pub wire_any : (g : Nodes) (pos : Pos) → list_any (λ entry. is_wire_entry entry pos) g ≡ true → HasWire g pos
wire_any g pos h = let found = any_found (λ entry. is_wire_entry entry pos) g h in wire_here g found.0 pos (node_at g found.0) refl found.1

-- two tests that hold together are one
pub same_test : (a b : Bool) → (IsTrue a → b ≡ true) → (b ≡ true → IsTrue a) → a ≡ b
same_test true b there back = sym (there refl)
same_test false false there back = refl
same_test false true there back = absurd (false≢true (back refl))

-- ---- acts

weighed : (click : Click) → is_weighable click ≡ true → IsClickInRange click
weighed Use h = tt
weighed Press h = tt
weighed Leave h = tt
weighed (Weigh weight) h = let both = and_parts (nat_le 1 weight) (nat_le weight 15) h in (at_most 1 weight both.0, at_most weight 15 both.1)
  where
    at_most : (a b : ℕ) → nat_le a b ≡ true → a ≤ b
    at_most a b h = grind (arith, nat_tests)

taken : (g : Nodes) (pos : Pos) (click : Click) → takes_click g pos click ≡ true → Takes (graph_circuit g) pos click
taken g pos click h =
    let both = and_parts (is_weighable click) (list_any (λ entry. answers_at entry pos click) g) h in
    takes_where_answers g pos click (weighed click both.0) (answer_any g pos click both.1)

pub acts_taken : (g : Nodes) (acts : List Act) → EachClickTaken (takes_click g) acts → EachActTaken (graph_circuit g) acts
acts_taken g [] h = tt
acts_taken g (ClickAct pos click ∷ acts) h = (taken g pos click h.0, acts_taken g acts h.1)
acts_taken g (TicksAct n ∷ acts) h = acts_taken g acts h
