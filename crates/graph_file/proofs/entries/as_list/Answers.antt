use Rattle.std.proofs.Common.{Some, map, sym, ap, ◌∙◌}
use Rattle.std.specs.Prelude.{option_map}
use Rattle.serde_json.specs.View.{view}
use Rattle.graph_file.specs.Reading.{list_of}
use Rattle.graph_file.proofs.ValueSteps.{listed}
use Rattle.graph_file.proofs.entries.as_list.Goals as goal

pub returns-in-Some : goal.returns-in-Some
returns-in-Some c = ap (λ xs. Some (map view xs)) c.as_slice.ensures.value ∙ sym (ap Some (listed (map view c.in-Some.list.now.items))) ∙ ap (option_map list_of) c.in-Some.ensures
