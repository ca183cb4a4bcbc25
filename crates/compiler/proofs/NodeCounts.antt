-- A compiled graph has no more nodes than the box of its build has cells.
use Rattle.std.proofs.Common.{◌≡◌, ◌≤◌, ℕ, Bool, List, Some, length, map, set, refl, ap, ◌∙◌, arith, inl, inr}
use Rattle.std.specs.Prelude.{option_map, is_some}
use Rattle.std.proofs.lemmas.List.{length-set, length-map}
use Rattle.std.proofs.lemmas.List.Sums.{length-filter, count_by-le-length}
use Rattle.circuit.specs.declared.Pos.{Pos}
use Rattle.build.specs.Places.{length-places}
use Rattle.build.specs.Plan.{Plan, volume, places}
use Rattle.graph.specs.Done.{Step}
use Rattle.graph.specs.Edits.{change, drop_link, renamed, standing_for, merge}
use Rattle.graph.specs.Graph.{Nodes, node_at, node_count}
use Rattle.graph.specs.RawNodes.{has_node, node_places}
use Rattle.pass_frame.specs.Frame.{Reaches, Stays, Goes}
use Rattle.prune.specs.DropSteps.{length-drop_set}
use Rattle.input_search.specs.Raw.{linked_node, raw}
use Rattle.compiler.specs.declared.Keep.{Keep}
use Rattle.compiler.specs.Compiled.{prunes, Compiled}

-- ---- keys are never taken back

length-merge : (g : Nodes) (keep gone : ℕ) → length (merge g keep gone) ≡ length g
length-merge g keep gone =
    length-map (set (change (standing_for (node_at g gone)) g keep) gone _) (option_map (renamed keep gone))
    ∙ length-set (change (standing_for (node_at g gone)) g keep) gone _
    ∙ length-set g keep _

pub length-step : (pruning : Bool) (old new : Nodes) → Step pruning old new → length new ≡ length old
length-step pruning old new step = elim step [
  | inl c ↦ by_drop c.key c.index c.after
  | inr s2 ↦ elim s2 [
    | inl d ↦ by_drop d.key d.index d.after
    | inr s3 ↦ elim s3 [
      | inl u ↦ by_drop u.key u.index u.after
      | inr s4 ↦ elim s4 [
        | inl f ↦ ap (λ (g : Nodes). length g) f.after ∙ length-set old f.key _
        | inr s5 ↦ elim s5 [
          | inl t ↦ ap (λ (g : Nodes). length g) t.after ∙ length-merge old t.keep t.gone
          | inr p ↦ ap (λ (g : Nodes). length g) p.1.after ∙ length-drop_set old p.1.keys
        ]
      ]
    ]
  ]
]
  where
    by_drop : (key index : ℕ) → new ≡ drop_link old key index → length new ≡ length old
    by_drop key index e = ap (λ (g : Nodes). length g) e ∙ length-set old key _

length-steps : (pruning : Bool) {old new : Nodes} → Reaches (Step pruning) old new → length new ≡ length old
length-steps pruning Stays = refl
length-steps pruning {old} (Goes {mid} step rest) = length-steps pruning rest ∙ length-step pruning old mid step

-- ---- the raw graph has a key for each place with a node

raw_size : (b : Plan) (marks : List Pos) → length (raw b marks) ≤ volume b
unfolding raw node_places
raw_size b marks =
    let nodes : length (map (λ p. Some (linked_node b marks (node_places b marks) p)) (node_places b marks)) ≡ length (node_places b marks) =
    length-map (node_places b marks) (λ p. Some (linked_node b marks (node_places b marks) p)) in
    omega (arith, nodes, length-filter (has_node b marks) (places b), count_by-le-length (has_node b marks) (places b), length-places b)

pub compiled_count : (b : Plan) (marks : List Pos) (keep : Keep) (g : Nodes) → Compiled b marks keep g → node_count g ≤ volume b
compiled_count b marks keep g c = omega (arith, count_by-le-length is_some g, length-steps (prunes keep) c.steps, raw_size b marks)
