-- Where no two nodes that may have a twin read one node, there are no twins.
use Rattle.std.proofs.Common.{◌≡◌, ℕ, ◌+◌, ◌<◌, ◌≤◌, Bool, true, List, [], ◌∷◌, Some, sym, ap, ◌∙◌, subst, arith, length, get_or, inl, inr, ◌⊎◌}
use Rattle.std.proofs.lemmas.Bool.{cases_eq, cases_lt}
use Rattle.node_arena.specs.Items.{keys_of}
use Rattle.circuit.specs.Circuit.{Among}
use Rattle.graph.specs.declared.Group.TheVariants.{Back}
use Rattle.graph.specs.declared.Link.{Link}
use Rattle.graph.specs.Graph.{Node, Nodes, node_at}
use Rattle.graph.specs.Steps.{can_fold, AreTwins}
use Rattle.coalesce.specs.Sources.{source_by, source_in, source_at, IsMet}
use Rattle.coalesce.proofs.FanSteps.{among_at, key_listed, item_at}
use Rattle.coalesce.proofs.TriedSteps.{only_one}

-- What the first keys read has its mark, and no two of them read the same.
pub record AreMet (g : Nodes) (keys : List ℕ) (index : ℕ) (marks : List Bool) : Type 0 where
  pub met : (i source : ℕ) → i < index → source_at g (get_or keys i 0) ≡ Some source → IsMet marks source
  pub apart : (i j source : ℕ) → i < j → j < index → source_at g (get_or keys i 0) ≡ Some source → source_at g (get_or keys j 0) ≡ Some source → ⊥

pub met_first : (g : Nodes) (keys : List ℕ) (marks : List Bool) → AreMet g keys 0 marks
met_first g keys marks = record { met = λ i source h. absurd (omega (arith, h)); apart = λ i j source h less. absurd (omega (arith, less)) }

pub met_next : (g : Nodes) (keys : List ℕ) (index key : ℕ) (old new : List Bool) → index < length keys → key ≡ get_or keys index key → ((source : ℕ) → IsMet old source → IsMet new source) →
    ((source : ℕ) → source_at g key ≡ Some source → IsMet old source → ⊥) → ((source : ℕ) → source_at g key ≡ Some source → IsMet new source) → AreMet g keys index old → AreMet g keys (index + 1) new
met_next g keys index key old new inside here keeps fresh now are = record {
  met = λ i source less reads. elim (cases_lt i index) [
    | inl l ↦ keeps source (are.met i source l reads)
    | inr up ↦ now source (subst (λ k. source_at g k ≡ Some source) (last i (omega (arith, less, up))) reads)
  ];
  apart = λ i j source less below reads also. elim (cases_lt j index) [
    | inl l ↦ are.apart i j source less l reads also
    | inr up ↦ fresh source (subst (λ k. source_at g k ≡ Some source) (last j (omega (arith, below, up))) also) (are.met i source (omega (arith, less, below)) reads)
  ];
}
  where
    last : (i : ℕ) → i ≡ index → get_or keys i 0 ≡ key
    last i e = ap (λ n. get_or keys n 0) e ∙ sym (item_at keys index key inside here)

reads_source : (g : Nodes) (key : ℕ) (node : Node) (link : Link) → node_at g key ≡ Some node → can_fold node.kind ≡ true → node.links ≡ link ∷ [] → link.group ≡ Back → link.weight < 15 → source_at g key ≡ Some link.from
reads_source g key node link there can links back light = ap source_in there ∙ rw can (ap source_by (only_one node.links link links back light))

-- so no two nodes are twins
pub none_twins : (g : Nodes) (keys : List ℕ) (index : ℕ) (marks : List Bool) → keys ≡ keys_of g → length keys ≤ index → AreMet g keys index marks → (a b : ℕ) → a < b → AreTwins g a b → ⊥
none_twins g keys index marks all end are a b less w = by_order (cases_lt i.0 j.0)
  where
    i : (n : ℕ) × (n < length keys) × (get_or keys n 0 ≡ a)
    i = among_at keys a (subst (λ (ks : List ℕ). Among ks a) (sym all) (key_listed g a w.a w.there_a))

    j : (n : ℕ) × (n < length keys) × (get_or keys n 0 ≡ b)
    j = among_at keys b (subst (λ (ks : List ℕ). Among ks b) (sym all) (key_listed g b w.b w.there_b))

    reads_a : source_at g (get_or keys i.0 0) ≡ Some w.link_a.from
    reads_a = ap (source_at g) i.2 ∙ reads_source g a w.a w.link_a w.there_a w.can w.links_a w.back_a w.light_a

    reads_b : source_at g (get_or keys j.0 0) ≡ Some w.link_a.from
    reads_b = ap (source_at g) j.2 ∙ reads_source g b w.b w.link_b w.there_b (ap can_fold (sym w.kind) ∙ w.can) w.links_b w.back_b w.light_b ∙ ap Some w.source

    by_order : (i.0 < j.0) ⊎ (j.0 ≤ i.0) → ⊥
    by_order (inl l) = are.apart i.0 j.0 w.link_a.from l (omega (arith, end, j.1)) reads_a reads_b
    by_order (inr up) = elim (cases_eq i.0 j.0) [
      | inl e ↦ omega (arith, less, sym i.2 ∙ ap (λ n. get_or keys n 0) e ∙ j.2)
      | inr n ↦ are.apart j.0 i.0 w.link_a.from (omega (arith, up, n)) (omega (arith, end, i.1)) reads_b reads_a
    ]
