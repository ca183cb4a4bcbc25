-- The laws of coalescing: what is left of twins shows nothing new, in the order in which the dropped one fires right after the kept one.
use Rattle.std.proofs.Common.{◌≡◌, ◌≢◌, ℕ, suc, ◌+◌, ◌<◌, true, false, List, [], ◌∷◌, Option, Some, None, refl, sym, ap, ap₂, ◌∙◌, subst, arith, map, length, inl, inr}
use Rattle.std.specs.Prelude.{◌==◌}
use Rattle.std.proofs.lemmas.Bool.{cases_Bool, cases_eq, eqb-true, eq-eqb, false≢true}
use Rattle.std.proofs.lemmas.List.{length-map, length-set}
use Rattle.circuit.specs.declared.Click.{Click}
use Rattle.circuit.specs.declared.Component.{Component}
use Rattle.circuit.specs.declared.Component.TheVariants.{Torch as TorchPart, Repeater as RepeaterPart, Comparator as ComparatorPart}
use Rattle.circuit.specs.Component.{clicked}
use Rattle.circuit.specs.Circuit.{Each}
use Rattle.circuit.specs.Keys.{IsTest}
use Rattle.circuit.specs.Shows.{RefinesBy}
use Rattle.circuit.specs.Simulate.{simulates_of, refines_by}
use Rattle.circuit.specs.Between.{Path3, Late}
use Rattle.circuit.specs.Merged.{Moves, Merged, TwinStates, with_twin, merged_simulates, merged_refines}
use Rattle.graph.specs.declared.Kind.{Kind}
use Rattle.graph.specs.declared.Kind.TheVariants.{Lever, Torch, Repeater, Comparator}
use Rattle.graph.specs.Graph.{Node, Nodes, node_at}
use Rattle.graph.specs.GraphCircuit.{role_of, role_at, first_at, base_at, begin_at, place_at, readings_at, is_output, Output, output_of, in_order, is_before, outputs_from, graph_circuit}
use Rattle.graph.specs.Sound.{IsSound}
use Rattle.graph.specs.Measure.{measure}
use Rattle.graph.specs.Refines.{is_outer, Refines}
use Rattle.graph.specs.BoundSteps.{graph_is_bounded}
use Rattle.graph.specs.Steps.{can_fold, AreTwins, Coalesces}
use Rattle.graph.specs.Edits.{merge}
use Rattle.coalesce.specs.MergedGraph.{at_gone, blind_at, readings_kept}
use Rattle.coalesce.specs.MergedSound.{was_there, stands_still, sound_merged, measure_merged}
use Rattle.coalesce.specs.TwinReadings.{twins_read, one_reads_apart, node_path}

test_of_keys : IsTest (λ (a : ℕ) (b : ℕ). a == b)
test_of_keys = record { itself = λ a. eq-eqb a a refl; one = λ a b. eqb-true a b }

-- a torch, a repeater and a comparator are components that take no click, and no view shows them
component_of : (kind : Kind) → can_fold kind ≡ true → (component : Component) × (role_of kind ≡ Some component) × ((click : Click) (value result : ℕ) → clicked component click value ≡ Some result → ⊥)
component_of Torch c = (TorchPart, refl, λ click value result e. cc)
component_of (Repeater delay) c = (RepeaterPart delay, refl, λ click value result e. cc)
component_of (Comparator subtract direct far) c = (ComparatorPart subtract, refl, λ click value result e. cc)
component_of Lever c = absurd (false≢true c)
component_of _ c = absurd (false≢true c)

not_output : (kind : Kind) → can_fold kind ≡ true → is_output kind ≡ false
not_output Torch c = refl
not_output (Repeater delay) c = refl
not_output (Comparator subtract direct far) c = refl
not_output Lever c = absurd (false≢true c)
not_output _ c = absurd (false≢true c)

not_outer : (kind : Kind) → can_fold kind ≡ true → is_outer kind ≡ false
not_outer Torch c = refl
not_outer (Repeater delay) c = refl
not_outer (Comparator subtract direct far) c = refl
not_outer Lever c = absurd (false≢true c)
not_outer _ c = absurd (false≢true c)

-- the outputs of two graphs are the same where they are so entry by entry
outputs_same : (g h : Nodes) → length g ≡ length h → ((key at : ℕ) → output_of at (node_at g key) ≡ output_of at (node_at h key)) → (from : ℕ) → outputs_from from g ≡ outputs_from from h
outputs_same [] [] l e from = refl
outputs_same [] (y ∷ h) l e from = absurd (let no : 0 ≡ suc (length h) = l in cc)
outputs_same (x ∷ g) [] l e from = absurd (let no : suc (length g) ≡ 0 = l in cc)
outputs_same (x ∷ g) (y ∷ h) l e from = ap₂ in_order (e 0 from) (outputs_same g h (let s : suc (length g) ≡ suc (length h) = l in cc) (λ key. e (suc key)) (suc from))

-- and what isn't an output stands nowhere among them
each_in_order : (P : Output → Type 0) (new : Option Output) (others : List Output) → ((one : Output) → new ≡ Some one → P one) → Each P others → Each P (in_order new others)
each_in_order P None others p e = e
each_in_order P (Some one) [] p e = (p one refl, tt)
each_in_order P (Some one) (other ∷ others) p e = elim (cases_Bool (is_before one.place other.place)) [
  | inl h ↦ rw h (p one refl, e)
  | inr h ↦ rw h (e.0, each_in_order P (Some one) others p e.1)
]

output_key : (key : ℕ) (entry : Option Node) (one : Output) → output_of key entry ≡ Some one → one.key ≡ key
output_key key None one e = absurd (cc)
output_key key (Some node) one e = elim (cases_Bool (is_output node.kind)) [
  | inl h ↦ (let here : Some (record { place = node.pos; key = key }) ≡ Some one = rw h at e in let same : record { place = node.pos; key = key } ≡ one = cc in ap (λ (o : Output). o.key) (sym same))
  | inr h ↦ (let none : None ≡ Some one = rw h at e in absurd (cc))
]

outputs_apart : (gone : ℕ) (g : Nodes) (from : ℕ) → ((key : ℕ) → key + from ≡ gone → output_of gone (node_at g key) ≡ None) → Each (λ (one : Output). one.key ≢ gone) (outputs_from from g)
outputs_apart gone [] from h = tt
outputs_apart gone (entry ∷ g) from h =
    each_in_order (λ (one : Output). one.key ≢ gone) (output_of from entry) (outputs_from (suc from) g)
    (λ one e same.
    let at : from ≡ gone = sym (output_key from entry one e) ∙ same in
    let none : output_of from entry ≡ None = subst (λ k. output_of k entry ≡ None) (sym at) (h 0 (omega arith)) in
    let no : Some one ≡ None = sym e ∙ none in
    absurd (cc))
    (outputs_apart gone g (suc from) (λ key e. h (suc key) (omega arith)))

each_key : (gone : ℕ) (outputs : List Output) → Each (λ (one : Output). one.key ≢ gone) outputs → Each (λ k. k ≢ gone) (map (λ (one : Output). one.key) outputs)
each_key gone [] e = tt
each_key gone (one ∷ outputs) e = (e.0, each_key gone outputs e.1)

hidden : (node : Node) → is_output node.kind ≡ false → (at : ℕ) → output_of at (Some node) ≡ None
hidden node h at = rw h refl

begin_alike : (x y : Node) → x.kind ≡ y.kind → x.state ≡ y.state → x.due ≡ y.due → x.priority ≡ y.priority → begin_at (Some y) ≡ begin_at (Some x)
begin_alike x y k s d p = rw (k, s, d, p) refl

-- Twins are the two components of a merged circuit.
pub twins_merged : (g : Nodes) (keep gone : ℕ) → keep < gone → IsSound g → AreTwins g keep gone → Merged keep gone (graph_circuit g) (graph_circuit (merge g keep gone))
twins_merged g keep gone less sound w = record {
  differ = differ;
  same = refl;
  dropped = ap role_at (at_gone g keep gone);
  role = λ k n. blind_at role_at (record { links = λ node links. refl; also = λ node other. refl }) g keep gone k n;
  first = λ k n. blind_at first_at (record { links = λ node links. refl; also = λ node other. refl }) g keep gone k n;
  base = λ k n. blind_at base_at (record { links = λ node links. refl; also = λ node other. refl }) g keep gone k n;
  begin = λ k n. blind_at begin_at (record { links = λ node links. refl; also = λ node other. refl }) g keep gone k n;
  place = λ k n. blind_at place_at (record { links = λ node links. refl; also = λ node other. refl }) g keep gone k n;
  component = one.0;
  there = ap role_at w.there_a ∙ one.1;
  twin_there = ap role_at w.there_b ∙ ap role_of (sym w.kind) ∙ one.1;
  twin_first = ap first_at w.there_b ∙ sym w.first ∙ sym (ap first_at w.there_a);
  twin_begin = ap begin_at w.there_b ∙ begin_alike w.a w.b w.kind w.state w.due w.priority ∙ sym (ap begin_at w.there_a);
  unclicked = one.2;
  reads = λ given2 given1 twin same k n. readings_kept g keep gone given2 given1 differ twin same k n;
  apart = λ x y h. (
    one_reads_apart x y (node_at g keep) w.a w.link_a w.there_a w.links_a w.back_a (h w.link_a.from w.not_a w.not_b),
    one_reads_apart x y (node_at g gone) w.b w.link_b w.there_b w.links_b w.back_b (subst (λ k. x k ≡ y k) (sym w.source) (h w.link_a.from w.not_a w.not_b)),
  );
  alike = λ s bound. rw (w.there_a, w.there_b) (twins_read g keep gone w one.0 one.1 s bound);
  path = λ rest mid last moves k nk ng. path rest mid last moves k (node_at g k) refl;
  shown = ap (map (λ (one : Output). one.key)) (outputs_same (merge g keep gone) g size outputs 0);
  seen = each_key gone (outputs_from 0 g) (outputs_apart gone g 0 (λ key e. (let k : key ≡ gone = omega arith in ap (λ j. output_of gone (node_at g j)) k ∙ none gone)));
}
  where
    differ : keep ≢ gone
    differ e = omega arith

    one : (component : Component) × (role_of w.a.kind ≡ Some component) × ((click : Click) (value result : ℕ) → clicked component click value ≡ Some result → ⊥)
    one = component_of w.a.kind w.can

    none : (at : ℕ) → output_of at (node_at g gone) ≡ None
    none at = ap (output_of at) w.there_b ∙ hidden w.b (ap is_output (sym w.kind) ∙ not_output w.a.kind w.can) at

    size : length (merge g keep gone) ≡ length g
    size = length-map _ _ ∙ length-set _ gone None ∙ length-set g keep _

    outputs : (key at : ℕ) → output_of at (node_at (merge g keep gone) key) ≡ output_of at (node_at g key)
    outputs key at = elim (cases_eq key gone) [
      | inl e ↦ subst (λ k. output_of at (node_at (merge g keep gone) k) ≡ output_of at (node_at g k)) (sym e) (ap (output_of at) (at_gone g keep gone) ∙ sym (none at))
      | inr n ↦ blind_at (output_of at) (record { links = λ node links. refl; also = λ node other. refl }) g keep gone key n
    ]

    path : (rest mid last : ℕ → ℕ) → Moves keep gone rest mid last → (k : ℕ) (entry : Option Node) → node_at g k ≡ entry → Path3 (readings_at rest entry) (readings_at mid entry) (readings_at last entry)
    path rest mid last moves k None there = Late refl
    path rest mid last moves k (Some node) there = node_path g keep gone w sound rest mid last moves k node there

-- So it is with each step.
pub step_in_order : (g : Nodes) (keep gone : ℕ) → keep < gone → IsSound g → AreTwins g keep gone →
    RefinesBy (graph_circuit g) (graph_circuit (merge g keep gone)) (map (with_twin (λ a b. a == b) keep gone)) (TwinStates keep gone)
step_in_order g keep gone less sound w = merged_refines (twins_merged g keep gone less sound w) test_of_keys (graph_is_bounded g sound)

-- the outer nodes stay where they are
outer_apart : (g : Nodes) (keep gone : ℕ) → AreTwins g keep gone → (key : ℕ) (node : Node) → node_at g key ≡ Some node → is_outer node.kind ≡ true → key ≢ gone
outer_apart g keep gone w key node there outer e =
    let both : Some node ≡ Some w.b = sym there ∙ ap (node_at g) e ∙ w.there_b in
    let same : node ≡ w.b = cc in
    false≢true (sym (ap is_outer (ap (λ (n : Node). n.kind) same ∙ sym w.kind) ∙ not_outer w.a.kind w.can) ∙ outer)

step_refines : (g : Nodes) (keep gone : ℕ) → keep < gone → IsSound g → AreTwins g keep gone → Refines g (merge g keep gone)
step_refines g keep gone less sound w = record {
  shows = refines_by (simulates_of (merged_simulates (twins_merged g keep gone less sound w) test_of_keys (graph_is_bounded g sound)));
  kept = λ pos kind outer stands.
      let n = outer_apart g keep gone w stands.key stands.node stands.there (ap is_outer stands.holds.1 ∙ outer) in
      let now = stands_still g keep gone stands.key stands.node n stands.there in
      record { key = stands.key; node = now.0; there = now.1; holds = (now.2 ∙ stands.holds.0, now.3 ∙ stands.holds.1) };
  none_new = λ pos kind outer stands.
      let was = was_there g keep gone stands.key stands.node stands.there in
      record { key = stands.key; node = was.1; there = was.2; holds = (sym was.3.pos ∙ stands.holds.0, sym was.3.kind ∙ stands.holds.1) };
}

-- The laws of the pass.
pub coalesce_sound : (old new : Nodes) → IsSound old → Coalesces old new → IsSound new
coalesce_sound old new sound step = subst IsSound (sym step.after) (sound_merged old step.keep step.gone step.twins.b step.earlier (rw step.twins.there_a refl) step.twins.there_b sound)

pub coalesce_refines : (old new : Nodes) → IsSound old → Coalesces old new → Refines old new
coalesce_refines old new sound step = subst (Refines old) (sym step.after) (step_refines old step.keep step.gone step.earlier sound step.twins)

pub coalesce_falls : (old new : Nodes) → IsSound old → Coalesces old new → measure new < measure old
coalesce_falls old new sound step = subst (λ g. measure g < measure old) (sym step.after) (measure_merged old step.keep step.gone step.twins.b (λ e. absurd (omega (arith, step.earlier))) step.twins.there_b)

-- from a run of the new graph the old graph has one whose firing lists have the dropped node right after the kept one
pub coalesce_in_order : (old new : Nodes) → IsSound old → (step : Coalesces old new) →
    RefinesBy (graph_circuit old) (graph_circuit new) (map (with_twin (λ a b. a == b) step.keep step.gone)) (TwinStates step.keep step.gone)
coalesce_in_order old new sound step =
    subst (λ g. RefinesBy (graph_circuit old) (graph_circuit g) (map (with_twin (λ a b. a == b) step.keep step.gone)) (TwinStates step.keep step.gone)) (sym step.after)
    (step_in_order old step.keep step.gone step.earlier sound step.twins)
