use Rattle.std.proofs.Common.{◌≡◌, ℕ, List, get_or, map, ap, ap₂, ◌∙◌, subst}
use Rattle.std.specs.Prelude.{IfOk}
use Rattle.serde_json.specs.Data.{Data}
use Rattle.serde_json.specs.View.{view}
use Rattle.serde_json.specs.declared.value.Value.{Value}
use Rattle.graph_file.specs.Json.{number_of, packed, whole_data, json}
use Rattle.graph_file.proofs.SendSteps.{links_packed, entries_packed}
use Rattle.graph_file.proofs.writing.to_value.Goals as goal

pub returns : goal.returns
returns c =
    let g = c.args.graph.now.nodes in
    let renumber : ℕ → ℕ = λ (key : ℕ). get_or c.deref.result.now key 0 in
    let read : List ℕ → ℕ → ℕ = λ (xs : List ℕ) (key : ℕ). get_or xs key 0 in
    let numbered : renumber ≡ number_of g = ap read c.deref.ensures.value ∙ c.in_ok-numbers.ensures in
    let same : whole_data (map view c.in_ok-links.links.items) (map view c.in_ok-nodes.nodes.items) ≡ json (packed g) =
    ap₂ whole_data (c.in_ok-links.ensures ∙ links_packed g renumber numbered) (c.in_ok-nodes.ensures ∙ entries_packed g) in
    subst (λ (d : Data). IfOk c.whole.result (λ (value : Value). view value ≡ d)) same c.whole.ensures
