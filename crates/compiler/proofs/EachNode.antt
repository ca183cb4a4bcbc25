-- What holds of each node of a graph, and how the steps of the compiler keep it.
use Rattle.std.proofs.Common.{◌≡◌, ℕ, Bool, List, [], ◌∷◌, Option, Some, None, refl, sym, ap, ◌∙◌, subst, map, set, inl, inr}
use Rattle.std.specs.Prelude.{option_map}
use Rattle.std.proofs.lemmas.Bool.{cases_eq}
use Rattle.graph.specs.AtKeys.{at_other, at_dropped, at_changed, at_mapped}
use Rattle.graph.specs.Done.{Step}
use Rattle.graph.specs.Edits.{change, without_link, drop_link, folded, renamed, standing_for, merge, drop_set}
use Rattle.graph.specs.Graph.{Node, Nodes, node_at}
use Rattle.graph.specs.Steps.{AreTwins}
use Rattle.pass_frame.specs.Frame.{Reaches, Stays, Goes}

-- Each entry is so.
abbrev pub EachEntry : (Option Node → Type 0) → Nodes → Type 0
EachEntry P g = (key : ℕ) → P (node_at g key)

-- What holds of an entry still holds where a link of its node is dropped, where the node is folded, where it takes the part of another
-- one of its kind, and where its links are renamed; and it holds where nothing stands.
pub record IsKept (P : Option Node → Type 0) : Type 0 where
  pub nothing : P None
  pub unlinked : (node : Node) (index : ℕ) → P (Some node) → P (Some (without_link index node))
  pub folds : (node : Node) (value : ℕ) → P (Some node) → P (Some (folded value node))
  pub stands : (node other : Node) → node.kind ≡ other.kind → P (Some node) → P (Some other) → P (Some (standing_for (Some other) node))
  pub renames : (node : Node) (keep gone : ℕ) → P (Some node) → P (Some (renamed keep gone node))

-- ---- edits

changed : (P : Option Node → Type 0) (f : Node → Node) (g : Nodes) (key : ℕ) → ((node : Node) → node_at g key ≡ Some node → P (Some node) → P (Some (f node))) → P None →
    EachEntry P g → EachEntry P (change f g key)
changed P f g key h none each k = elim (cases_eq k key) [
  | inl e ↦ subst (λ j. P (node_at (change f g key) j)) (sym e) (subst P (sym (at_changed f g key)) (by_entry (node_at g key) refl (each key)))
  | inr n ↦ subst P (sym (at_other g key (option_map f (node_at g key)) k n)) (each k)
]
  where
    by_entry : (entry : Option Node) → node_at g key ≡ entry → P entry → P (option_map f entry)
    by_entry None e p = none
    by_entry (Some node) e p = h node e p

emptied : (P : Option Node → Type 0) (g : Nodes) (key : ℕ) → P None → EachEntry P g → EachEntry P (set g key None)
emptied P g key none each k = elim (cases_eq k key) [
  | inl e ↦ subst (λ j. P (node_at (set g key None) j)) (sym e) (subst P (sym (at_dropped g key)) none)
  | inr n ↦ subst P (sym (at_other g key None k n)) (each k)
]

mapped : (P : Option Node → Type 0) (f : Node → Node) (g : Nodes) → ((node : Node) → P (Some node) → P (Some (f node))) → P None → EachEntry P g → EachEntry P (map (option_map f) g)
mapped P f g h none each k = subst P (sym (at_mapped (option_map f) refl g k)) (by_entry (node_at g k) (each k))
  where
    by_entry : (entry : Option Node) → P entry → P (option_map f entry)
    by_entry None p = none
    by_entry (Some node) p = h node p

all_emptied : (P : Option Node → Type 0) (g : Nodes) (keys : List ℕ) → P None → EachEntry P g → EachEntry P (drop_set g keys)
all_emptied P g [] none each = each
all_emptied P g (key ∷ keys) none each = all_emptied P (set g key None) keys none (emptied P g key none each)

one_node : (a b : Node) → Some a ≡ Some b → a ≡ b
one_node a b e = cc

merged : (P : Option Node → Type 0) → IsKept P → (g : Nodes) (keep gone : ℕ) → AreTwins g keep gone → EachEntry P g → EachEntry P (merge g keep gone)
merged P kept g keep gone w each =
    mapped P (renamed keep gone) (set (change (standing_for (node_at g gone)) g keep) gone None) (λ node p. kept.renames node keep gone p) kept.nothing
    (emptied P (change (standing_for (node_at g gone)) g keep) gone kept.nothing
    (changed P (standing_for (node_at g gone)) g keep (λ node e p. stood node (one_node w.a node (sym w.there_a ∙ e)) p) kept.nothing each))
  where
    other : P (Some w.b)
    other = subst P w.there_b (each gone)

    stood : (node : Node) → w.a ≡ node → P (Some node) → P (Some (standing_for (node_at g gone) node))
    stood node e p =
        subst (λ entry. P (Some (standing_for entry node))) (sym w.there_b)
        (kept.stands node w.b (ap (λ (n : Node). n.kind) (sym e) ∙ w.kind) p other)

-- ---- steps

pub step_keeps : (P : Option Node → Type 0) → IsKept P → (pruning : Bool) (old new : Nodes) → Step pruning old new → EachEntry P old → EachEntry P new
step_keeps P kept pruning old new step each = elim step [
  | inl c ↦ by_drop c.key c.index c.after
  | inr s2 ↦ elim s2 [
    | inl d ↦ by_drop d.key d.index d.after
    | inr s3 ↦ elim s3 [
      | inl u ↦ by_drop u.key u.index u.after
      | inr s4 ↦ elim s4 [
        | inl f ↦ subst (EachEntry P) (sym f.after) (changed P (folded _) old f.key (λ node e p. kept.folds node _ p) kept.nothing each)
        | inr s5 ↦ elim s5 [
          | inl t ↦ subst (EachEntry P) (sym t.after) (merged P kept old t.keep t.gone t.twins each)
          | inr p ↦ subst (EachEntry P) (sym p.1.after) (all_emptied P old p.1.keys kept.nothing each)
        ]
      ]
    ]
  ]
]
  where
    by_drop : (key index : ℕ) → new ≡ drop_link old key index → EachEntry P new
    by_drop key index e = subst (EachEntry P) (sym e) (changed P (without_link index) old key (λ node h p. kept.unlinked node index p) kept.nothing each)

pub steps_keep : (P : Option Node → Type 0) → IsKept P → (pruning : Bool) {old new : Nodes} → Reaches (Step pruning) old new → EachEntry P old → EachEntry P new
steps_keep P kept pruning Stays each = each
steps_keep P kept pruning {old} (Goes {mid} step rest) each = steps_keep P kept pruning rest (step_keeps P kept pruning old mid step each)
