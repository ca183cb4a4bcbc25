-- What prune leaves is a circuit of its own, which reads nothing of what is gone.
use Rattle.std.proofs.Common.{◌≡◌, ℕ, suc, Bool, true, false, List, [], ◌∷◌, Option, Some, None, refl, sym, ap, ◌∙◌, map, inl, inr}
use Rattle.std.specs.Prelude.{slice_get, filter, is_none}
use Rattle.std.proofs.lemmas.Bool.{cases_Bool, false≢true}
use Rattle.node_arena.specs.Items.{keys_of}
use Rattle.circuit.specs.Circuit.{Each}
use Rattle.circuit.proofs.Keys.{among_filter, once_filter}
use Rattle.circuit.proofs.LeftLaw.{Left}
use Rattle.graph.specs.declared.Group.{Group}
use Rattle.graph.specs.declared.Group.TheVariants.{Back, Side}
use Rattle.graph.specs.declared.Link.{Link}
use Rattle.graph.specs.Graph.{Node, Nodes, node_at}
use Rattle.graph.specs.Readings.{reading, back_of}
use Rattle.graph.specs.GraphCircuit.{role_at, first_at, base_at, begin_at, place_at, readings_at, Output, output_of, graph_circuit}
use Rattle.graph.proofs.ListedSteps.{graph_is_listed}
use Rattle.prune.specs.Order.{dropped_keys}
use Rattle.prune.specs.OutputSteps.{outputs_same, each_shown, output_none}
use Rattle.prune.specs.Pruned.{IsPruned, same_at, none_at}

reading-same : (given2 given1 : ℕ → ℕ) (group : Group) (links : List Link) → ((i : ℕ) (link : Link) → slice_get links i ≡ Some link → given2 link.from ≡ given1 link.from) →
    reading given2 group links ≡ reading given1 group links
reading-same given2 given1 group [] h = refl
reading-same given2 given1 group (l ∷ links) h =
    let here : given2 l.from ≡ given1 l.from = h 0 l refl in
    let others : reading given2 group links ≡ reading given1 group links = reading-same given2 given1 group links (λ i. h (suc i)) in
    rw (here, others) refl

entry_reads : (given2 given1 : ℕ → ℕ) (entry : Option Node) →
    ((node : Node) → entry ≡ Some node → (i : ℕ) (link : Link) → slice_get node.links i ≡ Some link → given2 link.from ≡ given1 link.from) →
    readings_at given2 entry ≡ readings_at given1 entry
entry_reads given2 given1 None h = refl
entry_reads given2 given1 (Some node) h = λ i. record {
  back = back_of node.kind (reading-same given2 given1 Back node.links (h node refl) i);
  side = reading-same given2 given1 Side node.links (h node refl) i;
}

each_passes : (test : ℕ → Bool) (keys : List ℕ) → Each (λ k. test k ≡ true) (filter test keys)
each_passes test [] = tt
each_passes test (one ∷ keys) = elim (cases_Bool (test one)) [
  | inl h ↦ rw h (h, each_passes test keys)
  | inr h ↦ rw h (each_passes test keys)
]

-- nothing stands under the key any more
abbrev pub is_gone : Nodes → ℕ → Bool
is_gone new key = is_none (node_at new key)

-- what is kept has links from what is kept
source_kept : (old new : Nodes) → IsPruned old new → (k : ℕ) (node : Node) → node_at old k ≡ Some node → is_gone new k ≡ false → (i : ℕ) (link : Link) → slice_get node.links i ≡ Some link → is_gone new link.from ≡ false
source_kept old new p k node there h i link at = elim (cases_Bool (is_gone new link.from)) [
  | inl e ↦
      (let none : node_at new k ≡ None = p.closed k i link (record { node = node; there = there; at_index = at }) (none_at new link.from e) in
      absurd (false≢true (sym h ∙ ap is_none none)))
  | inr e ↦ e
]

no_output : (old new : Nodes) → IsPruned old new → (k n : ℕ) → is_gone new k ≡ true → output_of n (node_at old k) ≡ None
no_output old new p k n h = output_none n (node_at old k) (λ node there. p.unseen k node there (none_at new k h))

output_same : (old new : Nodes) → IsPruned old new → (k n : ℕ) → output_of n (node_at new k) ≡ output_of n (node_at old k)
output_same old new p k n = elim (cases_Bool (is_gone new k)) [
  | inl h ↦ ap (output_of n) (none_at new k h) ∙ sym (no_output old new p k n h)
  | inr h ↦ ap (output_of n) (same_at old new p k h)
]

pub left_of : (old new : Nodes) → IsPruned old new → Left (is_gone new) (graph_circuit old) (graph_circuit new)
left_of old new p = record {
  same = refl;
  role = λ k h. ap role_at (same_at old new p k h);
  dropped = λ k h. ap role_at (none_at new k h);
  first = λ k h. ap first_at (same_at old new p k h);
  base = λ k h. ap base_at (same_at old new p k h);
  begin = λ k h. ap begin_at (same_at old new p k h);
  place = λ k h. ap place_at (same_at old new p k h);
  reads = λ given2 given1 e k h.
      ap (readings_at given2) (same_at old new p k h)
      ∙ entry_reads given2 given1 (node_at old k) (λ node there i link at. e link.from (source_kept old new p k node there h i link at));
  shown = ap (map (λ (one : Output). one.key)) (outputs_same 0 new old p.size (output_same old new p));
  seen = each_shown (λ k. is_gone new k ≡ false) old (λ k one e. elim (cases_Bool (is_gone new k)) [
    | inl h ↦ (let none : ◌≡◌ {A = Option Output} None (Some one) = sym (no_output old new p k k h) ∙ e in absurd (cc))
    | inr h ↦ h
  ]);
  keys = dropped_keys old new;
  each = each_passes (is_gone new) (keys_of old);
  once = once_filter (is_gone new) (keys_of old) (graph_is_listed old).once;
  all = λ k gone component there. among_filter (is_gone new) (keys_of old) k ((graph_is_listed old).all k component there) gone;
}

pub left_of-keys : (old new : Nodes) (p : IsPruned old new) → (left_of old new p).keys ≡ dropped_keys old new
unfolding left_of
left_of-keys old new p = refl
