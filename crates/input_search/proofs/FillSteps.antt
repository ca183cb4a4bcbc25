-- Lists of links that go into the nodes, one list after another.
use Rattle.std.proofs.Common.{◌≡◌, ℕ, ◌<◌, List, [], length, take, get_or, Option, Some, None, refl, ◌∙◌, ap, arith}
use Rattle.std.specs.Prelude.{option_map}
use Rattle.std.proofs.lemmas.List.{get_or_past, length-take-le}
use Rattle.graph.specs.declared.Link.{Link}
use Rattle.graph.specs.Graph.{Node, Nodes, node_at}
use Rattle.input_search.specs.Added.{links_under, with_links, AreFilled}

no_links_under : (o : Option Node) → links_under (option_map (with_links []) o) ≡ []
no_links_under None = refl
no_links_under (Some n) = refl

-- no link went into the node of the next list yet
pub next_fresh : (lists : List (List Link)) (n : ℕ) (old now : Nodes) → n < length lists → AreFilled (take n lists) old now → links_under (node_at now n) ≡ []
next_fresh lists n old now more was =
    let none : get_or (take n lists) n [] ≡ [] = get_or_past (take n lists) n [] (omega (arith, length-take-le n lists (omega arith))) in
    ap links_under (was.each n) ∙ ap (λ (links : List Link). links_under (option_map (with_links links) (node_at old n))) none ∙ no_links_under (node_at old n)
