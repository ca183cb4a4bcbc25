-- Bytes are a file of one graph at most, and the text of a graph is a file of that graph with its nodes renumbered, or of none.
use Rattle.std.proofs.Common.{◌≡◌, ℕ, ◌<◌, Bool, true, false, List, length, Option, Some, None, refl, sym, ap, ◌∙◌, arith, inl, inr}
use Rattle.std.specs.Prelude.{◌&&◌, if◌then◌else◌}
use Rattle.std.proofs.lemmas.Bool.{cases_lt, le-ltb}
use Rattle.serde_json.specs.Data.{Data}
use Rattle.serde_json.specs.View.{items_of}
use Rattle.circuit.specs.Circuit.{Each}
use Rattle.graph.specs.Graph.{Nodes, node_count, link_count}
use Rattle.graph.specs.Links.{IsInGroups}
use Rattle.graph.specs.Sound.{IsSound, places_of}
use Rattle.report.specs.declared.GraphRefusal.{GraphRefusal}
use Rattle.report.specs.declared.GraphRefusal.TheVariants.{Whole}
use Rattle.graph_file.specs.FitsFile.{IsFilePlace, FitsFile}
use Rattle.graph_file.specs.GraphFile.{parts_cause, cause_of, graph_of, IsGraphFile}
use Rattle.graph_file.specs.Json.{number_of, packed, entries_data, links_data, whole_data, json, json_text}
use Rattle.graph_file.specs.Reading.{list_of, parts_of, is_few}
use Rattle.graph_file.proofs.ValueSteps.{listed}
use Rattle.graph_file.proofs.ReadBack.{packed_full, length_links, read_back}
use Rattle.graph_file.proofs.FileBack.{text_is_json}

one_value : (a b : Data) → Some a ≡ Some b → a ≡ b
one_value a b e = cc

pub one_file : (bytes : List ℕ) (a b : Nodes) → IsGraphFile bytes a → IsGraphFile bytes b → a ≡ b
one_file bytes a b h k = h.means ∙ ap graph_of (one_value h.value k.value (sym h.json.value ∙ k.json.value)) ∙ sym k.means

-- ---- what is accepted has few links

refused : (A : Type 0) (x y : Bool) (both : A) → y ≡ false → (if x && y then Some both else None) ≡ None
refused A true y both e = rw e refl
refused A false y both e = refl

few_links : (nodes links : List Data) → cause_of (whole_data links nodes) ≡ None → length links < 4294967295
unfolding cause_of
few_links nodes links accepted = elim (cases_lt (length links) 4294967295) [
  | inl less ↦ less
  | inr more ↦
      (let many : is_few (list_of (items_of links)) ≡ false = ap is_few (listed links) ∙ le-ltb (length links) 4294967295 more in
      let none : parts_of (whole_data links nodes) ≡ None = refused _ (is_few (list_of (items_of nodes))) (is_few (list_of (items_of links))) (list_of (items_of nodes), list_of (items_of links)) many in
      let clash : ◌≡◌ {A = Option GraphRefusal} (Some Whole) None = sym (ap parts_cause none) ∙ accepted in
      absurd (cc))
]

accepted_few : (g : Nodes) → cause_of (json (packed g)) ≡ None → link_count g < 4294967295
accepted_few g accepted =
    let links : length (links_data 0 (packed g)) ≡ link_count g = ap (λ (p : Nodes). length (links_data 0 p)) (packed_full (number_of g) g) ∙ length_links (number_of g) 0 g in
    omega (arith, links, few_links (entries_data (packed g)) (links_data 0 (packed g)) accepted)

-- ---- the text of a graph

pub no_other_file : (g : Nodes) → IsSound g → IsInGroups g → node_count g < 4294967295 → Each IsFilePlace (places_of g) → (file : Nodes) → IsGraphFile (json_text g) file → file ≡ packed g
no_other_file g sound groups few_nodes places file h = h.means ∙ ap graph_of same ∙ (read_back g fits).1
  where
    same : h.value ≡ json (packed g)
    same = one_value h.value (json (packed g)) (sym h.json.value ∙ (text_is_json g sound few_nodes places).value)

    fits : FitsFile g
    fits = record { sound = sound; groups = groups; few_nodes = few_nodes; few_links = accepted_few g (sym (ap cause_of same) ∙ h.accepted); places = places }
