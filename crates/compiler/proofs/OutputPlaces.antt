-- A compiled graph has the outputs of its build.
use Rattle.std.proofs.Common.{◌≡◌, ℕ, List, [], ◌∷◌, Bool, true, false, Option, Some, None, refl, sym, ap, ap₂, ◌∙◌, map, inl, inr}
use Rattle.std.specs.List.{filter_map, cons_option}
use Rattle.std.specs.Prelude.{option_map, remove}
use Rattle.std.proofs.lemmas.Bool.{cases_eq, cases_Bool, false≢true}
use Rattle.circuit.specs.declared.Pos.{Pos}
use Rattle.circuit.specs.Bounds.{Bounded}
use Rattle.circuit.specs.Component.{out}
use Rattle.build.specs.declared.OutPlace.{OutPlace}
use Rattle.build.specs.Outputs.{out_place, outputs}
use Rattle.build.specs.Plan.{Plan, IsWhole}
use Rattle.power_rules.specs.World.{world_circuit}
use Rattle.graph.specs.AtKeys.{at_changed, at_other}
use Rattle.graph.specs.declared.Kind.{Kind}
use Rattle.graph.specs.declared.Kind.TheVariants.{Torch, Repeater, Comparator, Lamp, Trapdoor, Note, Wire, Constant}
use Rattle.graph.specs.Done.{Step}
use Rattle.graph.specs.Edits.{drop_link, without_link, folded, fold_to, merge}
use Rattle.graph.specs.Graph.{Node, Nodes, node_at}
use Rattle.graph.specs.GraphCircuit.{Output, role_of, role_at, place_at, is_output, output_of, outputs_from, graph_circuit}
use Rattle.graph.specs.Steps.{can_fold, can_go, AreTwins, Folds, Prunes}
use Rattle.graph.proofs.FoldSteps.{fold_here, fold_others}
use Rattle.graph.proofs.LinkDrops.{outputs_same}
use Rattle.pass_frame.specs.Frame.{Reaches, Stays, Goes}
use Rattle.coalesce.specs.MergedGraph.{IsBlind, blind_at, at_gone}
use Rattle.prune.specs.Among.{is_among, among_of}
use Rattle.prune.specs.DropSteps.{kept_at, gone_at}
use Rattle.input_search.specs.Raw.{raw, stands_at}
use Rattle.input_search.proofs.RawWorld.{IsNode, raw_matches}
use Rattle.compiler.specs.declared.Keep.{Keep}
use Rattle.compiler.specs.Compiled.{prunes, Compiled}
use Rattle.compiler.specs.CircuitOutputs.{out_of_role, output_under, circuit_outputs}
use Rattle.compiler.proofs.NodeCounts.{length-step}
use Rattle.compiler.proofs.SameOutputs.{matching_outputs, world_outputs}

-- It looks at what is shown alone.
pub record IsOfOutputs {A : Type 0} (f : Option Node → A) : Type 0 where
  pub blind : IsBlind f
  pub hidden : (node : Node) → is_output node.kind ≡ false → f (Some node) ≡ f None

folds_hidden : (kind : Kind) → can_fold kind ≡ true → is_output kind ≡ false
folds_hidden Torch c = refl
folds_hidden (Repeater delay) c = refl
folds_hidden (Comparator subtract direct far) c = refl
folds_hidden _ c = absurd (false≢true c)

goes_hidden : (kind : Kind) → can_go kind ≡ true → is_output kind ≡ false
goes_hidden Torch c = refl
goes_hidden (Repeater delay) c = refl
goes_hidden (Comparator subtract direct far) c = refl
goes_hidden Constant c = refl
goes_hidden _ c = absurd (false≢true c)

module _ {A : Type 0} (f : Option Node → A) (of : IsOfOutputs f) where
  by_drop : (old new : Nodes) (key index : ℕ) → new ≡ drop_link old key index → (k : ℕ) → f (node_at new k) ≡ f (node_at old k)
  by_drop old new key index after k = ap (λ (g : Nodes). f (node_at g k)) after ∙ elim (cases_eq k key) [
    | inl e ↦ ap (λ j. f (node_at (drop_link old key index) j)) e ∙ ap f (at_changed (without_link index) old key) ∙ without (node_at old key) ∙ ap (λ j. f (node_at old j)) (sym e)
    | inr n ↦ ap f (at_other old key (option_map (without_link index) (node_at old key)) k n)
  ]
    where
      without : (entry : Option Node) → f (option_map (without_link index) entry) ≡ f entry
      without None = refl
      without (Some node) = of.blind.links node (remove node.links index)

  by_fold : (old new : Nodes) → Folds old new → (k : ℕ) → f (node_at new k) ≡ f (node_at old k)
  by_fold old new s k = ap (λ (g : Nodes). f (node_at g k)) s.after ∙ elim (cases_eq k s.key) [
    | inl e ↦ ap (λ j. f (node_at (fold_to old s.key value) j)) e ∙ ap f (fold_here old s.key value s.node s.there) ∙ of.hidden (folded value s.node) refl
        ∙ sym (of.hidden s.node (folds_hidden s.node.kind s.can)) ∙ sym (ap f s.there) ∙ ap (λ j. f (node_at old j)) (sym e)
    | inr n ↦ ap f (fold_others old s.key value k n)
  ]
    where
      value : ℕ
      value = out s.component s.node.state

  by_merge : (old : Nodes) (keep gone : ℕ) → AreTwins old keep gone → (k : ℕ) → f (node_at (merge old keep gone) k) ≡ f (node_at old k)
  by_merge old keep gone w k = elim (cases_eq k gone) [
    | inl e ↦ ap (λ j. f (node_at (merge old keep gone) j)) e ∙ ap f (at_gone old keep gone)
        ∙ sym (of.hidden w.b (folds_hidden w.b.kind (ap can_fold (sym w.kind) ∙ w.can))) ∙ sym (ap f w.there_b) ∙ ap (λ j. f (node_at old j)) (sym e)
    | inr n ↦ blind_at f of.blind old keep gone k n
  ]

  by_prune : (old new : Nodes) → Prunes old new → (k : ℕ) → f (node_at new k) ≡ f (node_at old k)
  by_prune old new s k = ap (λ (g : Nodes). f (node_at g k)) s.after ∙ elim (cases_Bool (is_among s.keys k)) [
    | inl h ↦ ap f (gone_at old s.keys k h) ∙ by_entry (node_at old k) (λ node e. s.unseen k node (among_of s.keys k h) e)
    | inr h ↦ ap f (kept_at old s.keys k h)
  ]
    where
      by_entry : (entry : Option Node) → ((node : Node) → entry ≡ Some node → can_go node.kind ≡ true) → f None ≡ f entry
      by_entry None h = refl
      by_entry (Some node) h = sym (of.hidden node (goes_hidden node.kind (h node refl)))

  step_shows : (pruning : Bool) (old new : Nodes) → Step pruning old new → (k : ℕ) → f (node_at new k) ≡ f (node_at old k)
  step_shows pruning old new step k = elim step [
    | inl c ↦ by_drop old new c.key c.index c.after k
    | inr s2 ↦ elim s2 [
      | inl d ↦ by_drop old new d.key d.index d.after k
      | inr s3 ↦ elim s3 [
        | inl u ↦ by_drop old new u.key u.index u.after k
        | inr s4 ↦ elim s4 [
          | inl s ↦ by_fold old new s k
          | inr s5 ↦ elim s5 [
            | inl t ↦ ap (λ (g : Nodes). f (node_at g k)) t.after ∙ by_merge old t.keep t.gone t.twins k
            | inr p ↦ by_prune old new p.1 k
          ]
        ]
      ]
    ]
  ]

  pub steps_show : (pruning : Bool) {old new : Nodes} → Reaches (Step pruning) old new → (k : ℕ) → f (node_at new k) ≡ f (node_at old k)
  steps_show pruning Stays k = refl
  steps_show pruning {old} (Goes {mid} step rest) k = steps_show pruning rest k ∙ step_shows pruning old mid step k

-- ---- the outputs in order

output_of_outputs : (key : ℕ) → IsOfOutputs (output_of key)
output_of_outputs key = record {
  blind = record { links = λ node links. refl; also = λ node other. refl };
  hidden = λ node h. rw h refl;
}

step_outputs : (pruning : Bool) (old new : Nodes) → Step pruning old new → outputs_from 0 new ≡ outputs_from 0 old
step_outputs pruning old new step =
    outputs_same 0 new old (length-step pruning old new step) (λ i n. step_shows (output_of n) (output_of_outputs n) pruning old new step i)

pub steps_outputs : (pruning : Bool) {old new : Nodes} → Reaches (Step pruning) old new → outputs_from 0 new ≡ outputs_from 0 old
steps_outputs pruning Stays = refl
steps_outputs pruning {old} (Goes {mid} step rest) = steps_outputs pruning rest ∙ step_outputs pruning old mid step

-- ---- with their places and kinds

abbrev output_in : Option Node → Option OutPlace
output_in entry = out_place (place_at entry) (out_of_role (role_at entry))

part_hidden : (kind : Kind) → is_output kind ≡ false → out_of_role (role_of kind) ≡ None
part_hidden Lamp h = absurd (false≢true (sym h))
part_hidden Trapdoor h = absurd (false≢true (sym h))
part_hidden Note h = absurd (false≢true (sym h))
part_hidden Wire h = absurd (false≢true (sym h))
part_hidden _ h = refl

in_of_outputs : IsOfOutputs output_in
in_of_outputs = record {
  blind = record { links = λ node links. refl; also = λ node other. refl };
  hidden = λ node h. ap (out_place node.pos) (part_hidden node.kind h);
}

same_found : (f h : ℕ → Option OutPlace) → ((k : ℕ) → f k ≡ h k) → (keys : List ℕ) → filter_map f keys ≡ filter_map h keys
same_found f h e [] = refl
same_found f h e (k ∷ keys) = ap₂ cons_option (e k) (same_found f h e keys)

steps_circuit_outputs : (pruning : Bool) {old new : Nodes} → Reaches (Step pruning) old new → circuit_outputs (graph_circuit new) ≡ circuit_outputs (graph_circuit old)
steps_circuit_outputs pruning {old} {new} steps =
    same_found (output_under (graph_circuit new)) (output_under (graph_circuit old)) (λ k. steps_show output_in in_of_outputs pruning steps k) (graph_circuit new).shown
    ∙ ap (λ (outs : List Output). filter_map (output_under (graph_circuit old)) (map (λ (one : Output). one.key) outs)) (steps_outputs pruning steps)

-- those of the build
pub compiled_outputs : (b : Plan) → IsWhole b → (marks : List Pos) (keep : Keep) (g : Nodes) → Compiled b marks keep g → circuit_outputs (graph_circuit g) ≡ outputs b marks
compiled_outputs b whole marks keep g c =
    steps_circuit_outputs (prunes keep) c.steps
    ∙ matching_outputs (stands_at (raw b marks)) (IsNode b marks) (Bounded (world_circuit b marks)) (raw_matches b marks whole)
    ∙ world_outputs b marks
