-- One value more of the nodes, or of the links.
use Rattle.std.proofs.Common.{◌≡◌, ℕ, suc, ◌<◌, Bool, List, [], ◌∷◌, ◌++◌, length, get_or, take, drop, map, Option, None, sym, ap, ◌∙◌}
use Rattle.std.specs.List.{filter_map}
use Rattle.std.proofs.lemmas.List.{map-append}
use Rattle.std.proofs.lemmas.List.Elements.{filter_map-append}
use Rattle.circuit.specs.declared.Pos.{Pos}
use Rattle.graph.specs.Graph.{Nodes}
use Rattle.report.specs.declared.GraphRefusal.{GraphRefusal}
use Rattle.serde_json.specs.declared.value.Value.{Value}
use Rattle.serde_json.specs.View.{view}
use Rattle.graph_file.specs.GraphFile.{node_cause, seen_after, nodes_cause, link_cause, links_cause, linked, Refuses}
use Rattle.graph_file.specs.Reading.{node_of, link_of}
use Rattle.graph_file.specs.Steps.{with_one}
use Rattle.graph_file.proofs.Turns.{drop_mapped, take_mapped}
use Rattle.graph_file.proofs.CauseSteps.{nodes_more, nodes_refused, links_more, links_refused}
use Rattle.graph_file.proofs.LinkingSteps.{one_more}

pub node_round : (nodes : List Value) (index next : ℕ) (value : Value) (old new : Nodes) (seen after : Pos → Bool) (whole : Option GraphRefusal) → next ≡ suc index → index < length nodes → value ≡ get_or nodes index value →
    node_cause index seen (node_of (view value)) ≡ None → new ≡ old ++ node_of (view value) ∷ [] → after ≡ seen_after seen (node_of (view value)) →
    old ≡ map node_of (take index (map view nodes)) → nodes_cause index seen (drop index (map view nodes)) ≡ whole →
    (new ≡ map node_of (take next (map view nodes))) × (nodes_cause next after (drop next (map view nodes)) ≡ whole)
node_round nodes index next value old new seen after whole step less is none added then_seen so_far cause = (
  added ∙ ap (λ g. g ++ node_of (view value) ∷ []) so_far ∙ sym (map-append node_of (take index (map view nodes)) (view value ∷ []))
      ∙ ap (map node_of) (sym (take_mapped view nodes index value less is)) ∙ ap (λ n. map node_of (take n (map view nodes))) (sym step),
  ap (λ n. nodes_cause n after (drop n (map view nodes))) step ∙ nodes_more index seen after (map view nodes) (view value) whole (drop_mapped view nodes index value less is) none then_seen cause,
)

pub node_stop : (nodes : List Value) (index : ℕ) (value : Value) (seen : Pos → Bool) (whole : Option GraphRefusal) (r : GraphRefusal) → index < length nodes → value ≡ get_or nodes index value →
    Refuses (node_cause index seen (node_of (view value))) r → nodes_cause index seen (drop index (map view nodes)) ≡ whole → Refuses whole r
node_stop nodes index value seen whole r less is h cause = nodes_refused index seen (map view nodes) (view value) whole r (drop_mapped view nodes index value less is) h cause

pub link_round : (links : List Value) (index next count : ℕ) (value : Value) (base old new : Nodes) (whole : Option GraphRefusal) → next ≡ suc index → index < length links → value ≡ get_or links index value →
    link_cause index count (link_of (view value)) ≡ None → new ≡ with_one (link_of (view value)) old →
    old ≡ linked 0 (filter_map link_of (take index (map view links))) base → links_cause index count (drop index (map view links)) ≡ whole →
    (new ≡ linked 0 (filter_map link_of (take next (map view links))) base) × (links_cause next count (drop next (map view links)) ≡ whole)
link_round links index next count value base old new whole step less is none added so_far cause = (
  added ∙ ap (with_one (link_of (view value))) so_far
      ∙ one_more (link_of (view value)) (filter_map link_of (take index (map view links))) base (filter_map link_of (take next (map view links)))
      (ap (λ n. filter_map link_of (take n (map view links))) step ∙ ap (filter_map link_of) (take_mapped view links index value less is) ∙ filter_map-append link_of (take index (map view links)) (view value ∷ [])),
  ap (λ n. links_cause n count (drop n (map view links))) step ∙ links_more index count (map view links) (view value) whole (drop_mapped view links index value less is) none cause,
)

pub link_stop : (links : List Value) (index count : ℕ) (value : Value) (whole : Option GraphRefusal) (r : GraphRefusal) → index < length links → value ≡ get_or links index value →
    Refuses (link_cause index count (link_of (view value))) r → links_cause index count (drop index (map view links)) ≡ whole → Refuses whole r
link_stop links index count value whole r less is h cause = links_refused index count (map view links) (view value) whole r (drop_mapped view links index value less is) h cause
