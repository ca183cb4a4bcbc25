-- The outputs of a graph where nodes that aren't shown are dropped.
use Rattle.std.proofs.Common.{◌≡◌, ℕ, suc, ◌+◌, Bool, true, false, List, [], ◌∷◌, Option, Some, None, refl, sym, ap, ◌∙◌, subst, arith, length, map, get_or, inl, inr, cond}
use Rattle.std.proofs.lemmas.Bool.{cases_Bool, false≢true}
use Rattle.circuit.specs.Circuit.{Each}
use Rattle.graph.specs.declared.Kind.{Kind}
use Rattle.graph.specs.declared.Kind.TheVariants.{Lamp, Trapdoor, Note, Wire}
use Rattle.graph.specs.Graph.{Node, Nodes, node_at}
use Rattle.graph.specs.GraphCircuit.{Output, output_of, in_order, outputs_from, is_before, is_output, graph_circuit}
use Rattle.graph.specs.Steps.{can_go}

-- entries that give the same outputs one by one give the same in order
pub outputs_same : (key : ℕ) (new old : Nodes) → length new ≡ length old → ((i n : ℕ) → output_of n (node_at new i) ≡ output_of n (node_at old i)) → outputs_from key new ≡ outputs_from key old
outputs_same key [] [] l h = refl
outputs_same key (b ∷ new) (a ∷ old) l h =
    let first : output_of key b ≡ output_of key a = h 0 key in
    let others : outputs_from (suc key) new ≡ outputs_from (suc key) old = outputs_same (suc key) new old (omega arith) (λ i n. h (suc i) n) in
    λ i. in_order (first i) (others i)
outputs_same key [] (a ∷ old) l h = absurd (omega arith)
outputs_same key (b ∷ new) [] l h = absurd (omega arith)

each_in_order : (P : ℕ → Type 0) (entry : Option Output) (others : List Output) → ((one : Output) → entry ≡ Some one → P one.key) → Each (λ (one : Output). P one.key) others →
    Each (λ (one : Output). P one.key) (in_order entry others)
each_in_order P None others p e = e
each_in_order P (Some one) [] p e = (p one refl, tt)
each_in_order P (Some one) (other ∷ others) p e = elim (cases_Bool (is_before one.place other.place)) [
  | inl h ↦ rw h (p one refl, e)
  | inr h ↦ rw h (e.0, each_in_order P (Some one) others p e.1)
]

each_key : (P : ℕ → Type 0) (outputs : List Output) → Each (λ (one : Output). P one.key) outputs → Each P (map (λ (one : Output). one.key) outputs)
each_key P [] e = tt
each_key P (one ∷ outputs) e = (e.0, each_key P outputs e.1)

each_from : (P : ℕ → Type 0) (key : ℕ) (entries : Nodes) → ((i : ℕ) (one : Output) → output_of (i + key) (get_or entries i None) ≡ Some one → P one.key) →
    Each (λ (one : Output). P one.key) (outputs_from key entries)
each_from P key [] h = tt
each_from P key (entry ∷ entries) h =
    each_in_order P (output_of key entry) (outputs_from (suc key) entries)
    (λ one e. h 0 one (ap (λ (n : ℕ). output_of n entry) (zero_plus key) ∙ e))
    (each_from P (suc key) entries (λ i one e. h (suc i) one (ap (λ (n : ℕ). output_of n (get_or entries i None)) (moved i key) ∙ e)))
  where
    zero_plus : (n : ℕ) → 0 + n ≡ n
    zero_plus n = omega arith

    moved : (i n : ℕ) → suc i + n ≡ i + suc n
    moved i n = omega arith

key_of : (n : ℕ) (entry : Option Node) (one : Output) → output_of n entry ≡ Some one → one.key ≡ n
key_of n None one e = absurd (cc)
key_of n (Some node) one e = go (is_output node.kind) e
  where
    go : (b : Bool) → cond {A = Option Output} b (Some (record { place = node.pos; key = n })) None ≡ Some one → one.key ≡ n
    go true e = let h : ◌≡◌ {A = Output} (record { place = node.pos; key = n }) one = cc in ap (λ (x : Output). x.key) (sym h)
    go false e = absurd (cc)

-- what holds of each key that is an output holds of all that are shown
pub each_shown : (P : ℕ → Type 0) (g : Nodes) → ((k : ℕ) (one : Output) → output_of k (node_at g k) ≡ Some one → P k) → Each P (graph_circuit g).shown
each_shown P g h = each_key P (outputs_from 0 g)
    (each_from P 0 g
    (λ i one e.
    let at : output_of i (node_at g i) ≡ Some one = ap (λ (n : ℕ). output_of n (node_at g i)) (plus_zero i) ∙ e in
    subst P (sym (key_of i (node_at g i) one at)) (h i one at)))
  where
    plus_zero : (n : ℕ) → n ≡ n + 0
    plus_zero n = omega arith

-- what may go is no output
pub output_none : (n : ℕ) (entry : Option Node) → ((node : Node) → entry ≡ Some node → can_go node.kind ≡ true) → output_of n entry ≡ None
output_none n None h = refl
output_none n (Some node) h = go node.kind (h node refl)
  where
    go : (kind : Kind) → can_go kind ≡ true → cond {A = Option Output} (is_output kind) (Some (record { place = node.pos; key = n })) None ≡ None
    go Lamp e = absurd (false≢true e)
    go Trapdoor e = absurd (false≢true e)
    go Note e = absurd (false≢true e)
    go Wire e = absurd (false≢true e)
    go _ e = refl
