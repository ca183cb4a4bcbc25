use Rattle.std.proofs.Common.{◌≡◌, map, take, drop}
use Rattle.std.specs.List.{filter_map}
use Rattle.serde_json.specs.View.{view}
use Rattle.graph_file.specs.GraphFile.{links_cause, linked}
use Rattle.graph_file.specs.Reading.{link_of}
use Rattle.graph_file.proofs.reading.read_links.Given as goal

abbrev pub invariant-loop-index : goal.invariant-loop-index
invariant-loop-index l = (l.graph.nodes ≡ linked 0 (filter_map link_of (take l.index (map view l.links))) l.initial.graph.nodes)
    × (links_cause l.index l.count (drop l.index (map view l.links)) ≡ links_cause 0 l.count (map view l.links))
