use Rattle.std.proofs.Common.{◌≡◌, ℕ, [], length, map, None, sym, ap, ◌∙◌, subst, arith}
use Rattle.std.specs.List.{filter_map}
use Rattle.std.proofs.lemmas.List.{length-map}
use Rattle.graph.specs.Graph.{Nodes, Lives}
use Rattle.graph.specs.Sound.{IsSound}
use Rattle.serde_json.specs.View.{view}
use Rattle.graph_file.specs.GraphFile.{nowhere, links_cause, linked}
use Rattle.graph_file.specs.Reading.{link_of}
use Rattle.graph_file.proofs.SoundFile.{nodes_live, file_is_sound}
use Rattle.graph_file.proofs.ValueCauses.{linked_bare}
use Rattle.graph_file.proofs.reading.from_value.Goals as goal

pub read_links-requires-clause-live : goal.read_links-requires-clause-live
read_links-requires-clause-live c key less =
    subst (λ (g : Nodes). Lives g key) (sym c.in-Ok.ensures.nodes) (nodes_live 0 nowhere (map view c.in-Some.nodes.now) c.in-Ok.ensures.ok key (omega (arith, less, length-map c.in-Some.nodes.now view)))

pub read_links-requires-clause-bare : goal.read_links-requires-clause-bare
read_links-requires-clause-bare c = subst (λ (g : Nodes). linked 0 [] g ≡ g) (sym c.in-Ok.ensures.nodes) (linked_bare 0 (map view c.in-Some.nodes.now))

pub returns-clause-sound : goal.returns-clause-sound
returns-clause-sound c =
    let nodes = map view c.in-Some.nodes.now in
    let links = map view c.in-Some.links.now in
    let fine : links_cause 0 (length nodes) links ≡ None = ap (λ (n : ℕ). links_cause 0 n links) (length-map c.in-Some.nodes.now view) ∙ c.in_default-read_links.ensures.ok in
    subst IsSound (sym (c.in_default-read_links.ensures.nodes ∙ ap (λ (g : Nodes). linked 0 (filter_map link_of links) g) c.in-Ok.ensures.nodes)) (file_is_sound nodes links c.in-Ok.ensures.ok fine)
