use Rattle.std.proofs.Common.{◌≡◌, ◌∷◌, [], ◌++◌, ℕ, List, ap, ◌∙◌}
use Rattle.serde_json.specs.View.{view}
use Rattle.serde_json.specs.Written.{has_float, compact_text}
use Rattle.graph_file.specs.Json.{packed, json}
use Rattle.graph_file.proofs.SendSteps.{json_no_float}
use Rattle.graph_file.proofs.writing.to_text.Goals as goal

pub returns : goal.returns
returns c =
    let g = c.args.graph.now.nodes in
    let value : view c.in_ok-to_value.field-0 ≡ json (packed g) = c.in_ok-to_value.ensures in
    let written = c.in_ok-text.ensures.text (ap has_float value ∙ json_no_float (packed g)) in
    c.in_ok-push.ensures.items ∙ ap (λ (s : List ℕ). s ++ 10 ∷ []) (written ∙ ap compact_text value)
