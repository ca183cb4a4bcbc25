-- What the graph of a file has of the build that it was written of.
use Rattle.std.proofs.Common.{◌≡◌, ℕ, ◌<◌, List, [], ◌∷◌, Option, Some, None, refl, sym, ap, ap₂, ◌∙◌, subst, arith}
use Rattle.std.specs.List.{filter_map, cons_option}
use Rattle.circuit.specs.declared.Act.{Act}
use Rattle.circuit.specs.declared.Act.TheVariants.{Click as ClickAct, Ticks as TicksAct}
use Rattle.circuit.specs.declared.Click.{Click}
use Rattle.circuit.specs.declared.Pos.{Pos}
use Rattle.circuit.specs.Circuit.{Circuit, State, Each}
use Rattle.circuit.specs.KeySteps.{each_as}
use Rattle.circuit.specs.Matches.{Matches}
use Rattle.circuit.specs.Shows.{Shows}
use Rattle.circuit.specs.Taken.{Takes, EachActTaken}
use Rattle.build.specs.declared.OutPlace.{OutPlace}
use Rattle.build.specs.Outputs.{outputs, out_place}
use Rattle.build.specs.Plan.{Plan, IsWhole, IsNear}
use Rattle.graph.specs.declared.Kind.{Kind}
use Rattle.graph.specs.declared.Kind.TheVariants.{Lever, Button, Plate, Weighted, Torch, Repeater, Comparator, Lamp, Trapdoor, Note, Wire, Constant}
use Rattle.graph.specs.Graph.{Node, Nodes, node_at, node_count, link_count}
use Rattle.graph.specs.GraphCircuit.{role_of, role_at, place_at, graph_circuit}
use Rattle.graph_machine.specs.Headed.{out_kind, node_output, output_at, graph_outputs}
use Rattle.graph.specs.Sound.{places_of}
use Rattle.power_rules.specs.World.{world_circuit, shows}
use Rattle.compiler.specs.declared.Keep.{Keep}
use Rattle.compiler.specs.CircuitOutputs.{out_of_role, output_under, circuit_outputs}
use Rattle.compiler.specs.Compiled.{Compiled}
use Rattle.compiler.proofs.BuildPlaces.{compiled_near}
use Rattle.compiler.proofs.CompiledLaws.{compiled_sound, compiled_shows, compiled_takes}
use Rattle.compiler.proofs.LinkGroups.{compiled_grouped}
use Rattle.compiler.proofs.NodeCounts.{compiled_count}
use Rattle.compiler.proofs.OutputPlaces.{compiled_outputs}
use Rattle.compiler.proofs.SameOutputs.{matching_outputs}
use Rattle.graph_file.specs.FitsFile.{IsFilePlace, FitsFile}
use Rattle.graph_file.specs.GraphFile.{IsGraphFile}
use Rattle.graph_file.specs.Json.{packed, json_text}
use Rattle.graph_file.proofs.OneFile.{no_other_file}
use Rattle.graph_file.proofs.PackedLaw.{packed_matches, packed_refines}

-- ---- it fits a file

file_place : (p : Pos) → IsNear 0 p → IsFilePlace p
file_place p n = ((n.x_low, n.x_high), ((n.y_low, n.y_high), (n.z_low, n.z_high)))

file_places : (b : Plan) → IsWhole b → (marks : List Pos) (keep : Keep) (g : Nodes) → Compiled b marks keep g → Each IsFilePlace (places_of g)
file_places b whole marks keep g c = each_as (IsNear 0) IsFilePlace file_place (places_of g) (compiled_near b whole marks keep g c)

few : (b : Plan) → IsWhole b → (marks : List Pos) (keep : Keep) (g : Nodes) → Compiled b marks keep g → node_count g < 4294967295
few b whole marks keep g c = omega (arith, compiled_count b marks keep g c, whole.small)

pub compiled_fits : (b : Plan) → IsWhole b → (marks : List Pos) (keep : Keep) (g : Nodes) → Compiled b marks keep g → link_count g < 4294967295 → FitsFile g
compiled_fits b whole marks keep g c links = record {
  sound = compiled_sound b whole marks keep g c;
  groups = compiled_grouped b marks keep g c;
  few_nodes = few b whole marks keep g c;
  few_links = links;
  places = file_places b whole marks keep g c;
}

pub compiled_file : (b : Plan) → IsWhole b → (marks : List Pos) (keep : Keep) (g : Nodes) → Compiled b marks keep g → (file : Nodes) → IsGraphFile (json_text g) file → file ≡ packed g
compiled_file b whole marks keep g c file h =
    no_other_file g (compiled_sound b whole marks keep g c) (compiled_grouped b marks keep g c) (few b whole marks keep g c) (file_places b whole marks keep g c) file h

-- ---- what it shows

pub file_shows : (b : Plan) → IsWhole b → (marks : List Pos) (keep : Keep) (g : Nodes) → Compiled b marks keep g → (file : Nodes) → IsGraphFile (json_text g) file →
    (acts : List Act) (views : List (List ℕ)) (events : ℕ) → Shows (graph_circuit file) acts views events → shows b marks acts views
file_shows b whole marks keep g c file h acts views events shown =
    let of_packed : Shows (graph_circuit (packed g)) acts views events = subst (λ (n : Nodes). Shows (graph_circuit n) acts views events) (compiled_file b whole marks keep g c file h) shown in
    let of_graph = (packed_refines g (compiled_sound b whole marks keep g c)).shows acts views events of_packed in
    compiled_shows b whole marks keep g c acts views of_graph.0 of_graph.1

-- a header names the outputs of a graph as those of its circuit
same_kind : (kind : Kind) → out_kind kind ≡ out_of_role (role_of kind)
same_kind Lever = refl
same_kind (Button delay) = refl
same_kind Plate = refl
same_kind Weighted = refl
same_kind Torch = refl
same_kind (Repeater delay) = refl
same_kind (Comparator subtract direct far) = refl
same_kind Lamp = refl
same_kind Trapdoor = refl
same_kind Note = refl
same_kind Wire = refl
same_kind Constant = refl

same_output : (entry : Option Node) → node_output entry ≡ out_place (place_at entry) (out_of_role (role_at entry))
same_output None = refl
same_output (Some node) = ap (out_place node.pos) (same_kind node.kind)

same_under : (g : Nodes) (keys : List ℕ) → filter_map (output_at g) keys ≡ filter_map (output_under (graph_circuit g)) keys
same_under g [] = refl
same_under g (key ∷ keys) = ap₂ (λ (o : Option OutPlace) (rest : List OutPlace). cons_option o rest) (same_output (node_at g key)) (same_under g keys)

graph_headed : (g : Nodes) → graph_outputs g ≡ circuit_outputs (graph_circuit g)
graph_headed g = same_under g (graph_circuit g).shown

pub file_outputs : (b : Plan) → IsWhole b → (marks : List Pos) (keep : Keep) (g : Nodes) → Compiled b marks keep g → (file : Nodes) → IsGraphFile (json_text g) file →
    graph_outputs file ≡ outputs b marks
file_outputs b whole marks keep g c file h =
    graph_headed file
    ∙ ap (λ (n : Nodes). circuit_outputs (graph_circuit n)) (compiled_file b whole marks keep g c file h)
    ∙ matching_outputs _ _ _ (packed_matches g (compiled_sound b whole marks keep g c))
    ∙ compiled_outputs b whole marks keep g c

-- ---- the clicks that it takes

matching_takes : {K J : Type 0} {old : Circuit K} {new : Circuit J} (at : J → K) (Live : J → Type 0) (I : State K → Type 0) → Matches old new at Live I → (p : Pos) (click : Click) → Takes old p click → Takes new p click
matching_takes {old} {new} at Live I m p click t =
    let found = m.covers t.key t.component t.there in
    record {
      key = found.0;
      component = t.component;
      there = m.role found.0 found.1 ∙ ap old.role found.2 ∙ t.there;
      place = m.place found.0 found.1 ∙ ap old.place found.2 ∙ t.place;
      taken = t.taken;
    }

acts_taken : {K J : Type 0} {old : Circuit K} {new : Circuit J} (at : J → K) (Live : J → Type 0) (I : State K → Type 0) → Matches old new at Live I → (acts : List Act) → EachActTaken old acts → EachActTaken new acts
acts_taken at Live I m [] taken = tt
acts_taken at Live I m (ClickAct pos click ∷ acts) taken = (matching_takes at Live I m pos click taken.0, acts_taken at Live I m acts taken.1)
acts_taken at Live I m (TicksAct n ∷ acts) taken = acts_taken at Live I m acts taken

pub file_takes : (b : Plan) → IsWhole b → (marks : List Pos) (keep : Keep) (g : Nodes) → Compiled b marks keep g → (file : Nodes) → IsGraphFile (json_text g) file →
    (acts : List Act) → EachActTaken (world_circuit b marks) acts → EachActTaken (graph_circuit file) acts
file_takes b whole marks keep g c file h acts taken =
    subst (λ (n : Nodes). EachActTaken (graph_circuit n) acts) (sym (compiled_file b whole marks keep g c file h))
    (acts_taken _ _ _ (packed_matches g (compiled_sound b whole marks keep g c)) acts (compiled_takes b whole marks keep g c acts taken))
