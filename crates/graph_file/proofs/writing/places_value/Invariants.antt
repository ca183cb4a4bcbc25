use Rattle.std.proofs.Common.{◌≡◌, map, take}
use Rattle.serde_json.specs.View.{view}
use Rattle.graph_file.specs.Json.{place_data}
use Rattle.graph_file.proofs.writing.places_value.Given as goal

abbrev pub invariant-loop-pos : goal.invariant-loop-pos
invariant-loop-pos l = map view l.list.items ≡ map place_data (take l.pos-index l.places)
