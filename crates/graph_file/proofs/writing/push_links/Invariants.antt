use Rattle.std.proofs.Common.{◌≡◌, ℕ, ◌++◌, map, take, get_or}
use Rattle.serde_json.specs.View.{view}
use Rattle.graph_file.specs.Sending.{sent_link}
use Rattle.graph_file.proofs.writing.push_links.Given as goal

abbrev pub invariant-loop-link : goal.invariant-loop-link
invariant-loop-link l = map view l.values.items ≡ map view l.initial.values.items ++ map (sent_link (λ (key : ℕ). get_or l.numbers key 0) l.to) (take l.link-index l.links)
