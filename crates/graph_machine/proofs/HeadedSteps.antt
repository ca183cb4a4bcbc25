-- The outputs of a graph: one for each value of a view.
use Rattle.std.proofs.Common.{◌≡◌, ℕ, suc, ◌+◌, true, List, [], ◌∷◌, map, length, Option, Some, None, Result, Ok, Err, refl, sym, ap, ◌∙◌, subst, arith, inl, inr}
use Rattle.std.specs.Prelude.{IfOk}
use Rattle.std.specs.List.{filter_map, cons_option}
use Rattle.std.proofs.lemmas.Bool.{cases_Bool, false≢true}
use Rattle.circuit.specs.Circuit.{Each}
use Rattle.build.specs.declared.OutKind.{OutKind}
use Rattle.build.specs.declared.OutKind.TheVariants.{Lamp as LampOut, Trapdoor as TrapdoorOut, Note as NoteOut, Wire as WireOut}
use Rattle.build.specs.declared.OutPlace.{OutPlace}
use Rattle.build.specs.Outputs.{out_place}
use Rattle.graph.specs.declared.Kind.{Kind}
use Rattle.graph.specs.declared.Kind.TheVariants.{Lever, Button, Plate, Weighted, Torch, Repeater, Comparator, Lamp, Trapdoor, Note, Wire, Constant}
use Rattle.graph.specs.Graph.{Node, Nodes, node_at}
use Rattle.graph.specs.GraphCircuit.{Output, is_output, output_of, outputs_from, graph_circuit}
use Rattle.graph_machine.specs.Headed.{out_kind, node_output, output_at, graph_outputs, part_place}
use Rattle.graph_machine.specs.Wired.{part_at}
use Rattle.graph_machine.proofs.PlaceSteps.{each_in_order}

pub part_place-at : (entry : Option Node) → part_place (part_at entry) ≡ node_output entry
part_place-at None = refl
part_place-at (Some node) = refl

-- ---- a place for each value

abbrev IsThere : Option OutPlace → Type 0
IsThere entry = (place : OutPlace) × (entry ≡ Some place)

kind_there : (kind : Kind) → is_output kind ≡ true → (out : OutKind) × (out_kind kind ≡ Some out)
kind_there Lamp h = (LampOut, refl)
kind_there Trapdoor h = (TrapdoorOut, refl)
kind_there Note h = (NoteOut, refl)
kind_there Wire h = (WireOut, refl)
kind_there Lever h = absurd (false≢true h)
kind_there (Button delay) h = absurd (false≢true h)
kind_there Plate h = absurd (false≢true h)
kind_there Weighted h = absurd (false≢true h)
kind_there Torch h = absurd (false≢true h)
kind_there (Repeater delay) h = absurd (false≢true h)
kind_there (Comparator subtract direct far) h = absurd (false≢true h)
kind_there Constant h = absurd (false≢true h)

-- an output has a place under its key
output_there : (f : ℕ → Option OutPlace) (key : ℕ) (entry : Option Node) → f key ≡ node_output entry → (one : Output) → output_of key entry ≡ Some one → IsThere (f one.key)
output_there f key None here one is = absurd (cc)
output_there f key (Some node) here one is = elim (cases_Bool (is_output node.kind)) [
  | inl h ↦ (let some : Some (record { place = node.pos; key = key }) ≡ Some one = rw h at is in
      let same : record { place = node.pos; key = key } ≡ one = cc in
      let kind = kind_there node.kind h in
      subst (λ (o : Output). IsThere (f o.key)) same (record { pos = node.pos; kind = kind.0 }, here ∙ ap (out_place node.pos) kind.1))
  | inr h ↦ (let none : None ≡ Some one = rw h at is in absurd (cc))
]

each_there : (f : ℕ → Option OutPlace) (from : ℕ) (g : Nodes) → ((i : ℕ) → f (from + i) ≡ node_output (node_at g i)) → Each (λ (one : Output). IsThere (f one.key)) (outputs_from from g)
each_there f from [] here = tt
each_there f from (entry ∷ g) here =
    let first : from + 0 ≡ from = omega arith in
    each_in_order (λ (one : Output). IsThere (f one.key)) (output_of from entry) (outputs_from (suc from) g)
    (output_there f from entry (ap f (sym first) ∙ here 0))
    (each_there f (suc from) g (λ i. let next : suc from + i ≡ from + suc i = omega arith in ap f next ∙ here (suc i)))

length_there : (f : ℕ → Option OutPlace) (ones : List Output) → Each (λ (one : Output). IsThere (f one.key)) ones → length (filter_map f (map (λ (one : Output). one.key) ones)) ≡ length (map (λ (one : Output). one.key) ones)
length_there f [] each = refl
length_there f (one ∷ ones) each =
    ap (λ (o : Option OutPlace). length (cons_option o (filter_map f (map (λ (one : Output). one.key) ones)))) each.0.1 ∙ ap suc (length_there f ones each.1)

as_many : (g : Nodes) → length (graph_outputs g) ≡ length (graph_circuit g).shown
as_many g = length_there (output_at g) (outputs_from 0 g) (each_there (output_at g) 0 g (λ i. let same : 0 + i ≡ i = omega arith in ap (output_at g) same))

-- where a call gives the outputs, they are as many
pub as_long : {V E : Type 0} (items : V → List OutPlace) (r : Result V E) (g : Nodes) → IfOk r (λ places. items places ≡ graph_outputs g) → IfOk r (λ places. length (items places) ≡ length (graph_circuit g).shown)
as_long items (Ok places) g h = ap length h ∙ as_many g
as_long items (Err e) g h = tt
