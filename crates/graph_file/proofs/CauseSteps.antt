-- The first cause among those of many values.
use Rattle.std.proofs.Common.{◌≡◌, ℕ, suc, Bool, true, false, List, ◌∷◌, drop, Option, Some, None, sym, ap, ◌∙◌}
use Rattle.std.specs.Prelude.{if◌then◌else◌}
use Rattle.circuit.specs.declared.Pos.{Pos}
use Rattle.graph.specs.Graph.{Node}
use Rattle.report.specs.declared.GraphRefusal.{GraphRefusal}
use Rattle.report.specs.declared.GraphRefusal.TheVariants.{Json, Whole, Node as NodeAt, Link as LinkAt, NoMemory}
use Rattle.serde_json.specs.Data.{Data}
use Rattle.graph_file.specs.GraphFile.{is_node, node_cause, seen_after, nodes_cause, link_cause, links_cause, or_later, Refuses}
use Rattle.graph_file.specs.Reading.{node_of, link_of}
use Rattle.graph_file.specs.Steps.{read_cause}

-- the cause of the first counts
pub refuses_first : (cause later whole : Option GraphRefusal) (r : GraphRefusal) → or_later cause later ≡ whole → Refuses cause r → Refuses whole r
refuses_first cause later whole Json e h = sym e ∙ ap (λ c. or_later c later) h
refuses_first cause later whole Whole e h = sym e ∙ ap (λ c. or_later c later) h
refuses_first cause later whole (NodeAt index kind) e h = sym e ∙ ap (λ c. or_later c later) h
refuses_first cause later whole (LinkAt index kind) e h = sym e ∙ ap (λ c. or_later c later) h
refuses_first cause later whole NoMemory e h = tt

pub refuses_along : (cause whole : Option GraphRefusal) (r : GraphRefusal) → cause ≡ whole → Refuses cause r → Refuses whole r
refuses_along cause whole Json e h = sym e ∙ h
refuses_along cause whole Whole e h = sym e ∙ h
refuses_along cause whole (NodeAt index kind) e h = sym e ∙ h
refuses_along cause whole (LinkAt index kind) e h = sym e ∙ h
refuses_along cause whole NoMemory e h = tt

-- and where the first has none, that of the later ones
pub refuses_later : (cause later : Option GraphRefusal) (r : GraphRefusal) → cause ≡ None → Refuses later r → Refuses (or_later cause later) r
refuses_later cause later r none h = refuses_along later (or_later cause later) r (sym (ap (λ c. or_later c later) none)) h

pub nodes_more : (index : ℕ) (seen after : Pos → Bool) (ds : List Data) (d : Data) (whole : Option GraphRefusal) → drop index ds ≡ d ∷ drop (suc index) ds → node_cause index seen (node_of d) ≡ None →
    after ≡ seen_after seen (node_of d) → nodes_cause index seen (drop index ds) ≡ whole → nodes_cause (suc index) after (drop (suc index) ds) ≡ whole
nodes_more index seen after ds d whole split none then_seen so_far =
    ap (λ s. nodes_cause (suc index) s (drop (suc index) ds)) then_seen
    ∙ sym (ap (λ c. or_later c (nodes_cause (suc index) (seen_after seen (node_of d)) (drop (suc index) ds))) none)
    ∙ sym (ap (nodes_cause index seen) split) ∙ so_far

pub nodes_refused : (index : ℕ) (seen : Pos → Bool) (ds : List Data) (d : Data) (whole : Option GraphRefusal) (r : GraphRefusal) → drop index ds ≡ d ∷ drop (suc index) ds →
    Refuses (node_cause index seen (node_of d)) r → nodes_cause index seen (drop index ds) ≡ whole → Refuses whole r
nodes_refused index seen ds d whole r split h so_far = refuses_first (node_cause index seen (node_of d)) (nodes_cause (suc index) (seen_after seen (node_of d)) (drop (suc index) ds)) whole r (sym (ap (nodes_cause index seen) split) ∙ so_far) h

pub links_more : (index count : ℕ) (ds : List Data) (d : Data) (whole : Option GraphRefusal) → drop index ds ≡ d ∷ drop (suc index) ds → link_cause index count (link_of d) ≡ None →
    links_cause index count (drop index ds) ≡ whole → links_cause (suc index) count (drop (suc index) ds) ≡ whole
links_more index count ds d whole split none so_far =
    sym (ap (λ c. or_later c (links_cause (suc index) count (drop (suc index) ds))) none) ∙ sym (ap (links_cause index count) split) ∙ so_far

pub links_refused : (index count : ℕ) (ds : List Data) (d : Data) (whole : Option GraphRefusal) (r : GraphRefusal) → drop index ds ≡ d ∷ drop (suc index) ds →
    Refuses (link_cause index count (link_of d)) r → links_cause index count (drop index ds) ≡ whole → Refuses whole r
links_refused index count ds d whole r split h so_far = refuses_first (link_cause index count (link_of d)) (links_cause (suc index) count (drop (suc index) ds)) whole r (sym (ap (links_cause index count) split) ∙ so_far) h

-- what a value alone is refused for comes before its place
nothing_refused : (cause : Option GraphRefusal) (r : GraphRefusal) → Refuses None r → Refuses cause r
nothing_refused cause Json h = absurd (cc)
nothing_refused cause Whole h = absurd (cc)
nothing_refused cause (NodeAt index kind) h = absurd (cc)
nothing_refused cause (LinkAt index kind) h = absurd (cc)
nothing_refused cause NoMemory h = tt

by_test : (b : Bool) (inner other : Option GraphRefusal) (r : GraphRefusal) → Refuses (if b then None else other) r → Refuses (if b then inner else other) r
by_test true inner other r h = nothing_refused inner r h
by_test false inner other r h = h

pub refused_before_place : (index : ℕ) (seen : Pos → Bool) (node : Option Node) (r : GraphRefusal) → Refuses (read_cause index node) r → Refuses (node_cause index seen node) r
refused_before_place index seen None r h = h
refused_before_place index seen (Some node) r h = by_test (is_node node) _ _ r h
