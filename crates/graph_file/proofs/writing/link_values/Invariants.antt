use Rattle.std.proofs.Common.{◌≡◌, ℕ, ◌++◌, map, drop, get_or}
use Rattle.serde_json.specs.View.{view}
use Rattle.graph_file.specs.Sending.{sent_links}
use Rattle.graph_file.proofs.writing.link_values.Given as goal

abbrev pub invariant-loop-key : goal.invariant-loop-key
invariant-loop-key l = map view l.values.items ++ sent_links (λ (key : ℕ). get_or l.numbers key 0) l.key (drop l.key l.graph.nodes) ≡ sent_links (λ (key : ℕ). get_or l.numbers key 0) 0 l.graph.nodes
