-- Each node that is taken out lets its sources be found.
use Rattle.std.proofs.Common.{◌≡◌, ◌-◌, ◌<◌, ◌++◌, take, false, [], replicate, sym, ap, ◌∙◌, subst}
use Rattle.circuit.specs.Circuit.{EachBefore, Among}
use Rattle.graph.specs.Graph.{node_at}
use Rattle.prune.specs.Found.{Search, plain_search, found_all, found_outers, links_at}
use Rattle.prune.proofs.KeySteps.{among_keys, keys_rise}
use Rattle.prune.proofs.SearchSteps.{IsSearching, AreOuterFound, work, searching_from, searching_next, outer_next, work_falls, search_tells}
use Rattle.prune.proofs.search.seen_nodes.Goals as goal

pub room_for-requires : goal.room_for-requires
room_for-requires c = subst (EachBefore (λ a b. a < b)) (sym c.requires.keys) (keys_rise c.args.graph.now.nodes)

pub loop-key-init : goal.loop-key-init
loop-key-init c =
    let here : plain_search c.find_outers.new.self ≡ found_outers c.args.graph.now.nodes (record { marks = replicate c.room_for.result false; found = [] }) c.args.keys.now =
    c.in_ok-find_outers.ensures ∙ ap (λ (s : Search). found_outers c.args.graph.now.nodes s c.args.keys.now) c.in_ok-search.ensures in
    let from = searching_from c.args.graph.now.nodes c.args.keys.now c.room_for.result
    (λ k node there. subst (λ keys. Among keys k) (sym c.requires.keys) (among_keys c.args.graph.now.nodes k node there)) c.room_for.ensures in
    record {
      searching = subst (IsSearching c.args.graph.now.nodes []) (sym here) from.0;
      outers = subst (AreOuterFound c.args.graph.now.nodes) (sym here) from.1;
    }

pub loop-key-smaller : goal.loop-key-smaller
loop-key-smaller c =
    let here : plain_search c.find_sources.new.self ≡ found_all (record { marks = c.loop-key.search.marks.items; found = c.pop.new.self.items }) (links_at (node_at c.args.graph.now.nodes c.in-Some.key)) =
    c.in_ok-find_sources.ensures ∙ ap (λ entry. found_all (record { marks = c.loop-key.search.marks.items; found = c.pop.new.self.items }) (links_at entry)) c.node.ensures.value in
    let less : work (plain_search c.find_sources.new.self) < work (plain_search c.loop-key.search) =
    subst (λ (s : Search). work s < work (plain_search c.loop-key.search)) (sym here)
    (work_falls c.loop-key.search.marks.items c.loop-key.search.found.items c.pop.new.self.items c.in-Some.key (links_at (node_at c.args.graph.now.nodes c.in-Some.key)) c.in-Some.ensures.items) in
    less

pub loop-key-preserved : goal.loop-key-preserved
loop-key-preserved c =
    let here : plain_search c.find_sources.new.self ≡ found_all (record { marks = c.loop-key.search.marks.items; found = c.pop.new.self.items }) (links_at (node_at c.args.graph.now.nodes c.in-Some.key)) =
    c.in_ok-find_sources.ensures ∙ ap (λ entry. found_all (record { marks = c.loop-key.search.marks.items; found = c.pop.new.self.items }) (links_at entry)) c.node.ensures.value in
    record {
      searching = subst (IsSearching c.args.graph.now.nodes []) (sym here)
          (searching_next c.args.graph.now.nodes c.loop-key.search.marks.items c.loop-key.search.found.items c.pop.new.self.items c.in-Some.key c.in-Some.ensures.items c.loop-key.invariant.searching);
      outers = subst (AreOuterFound c.args.graph.now.nodes) (sym here)
          (outer_next c.args.graph.now.nodes c.loop-key.search.marks.items c.loop-key.search.found.items c.pop.new.self.items (links_at (node_at c.args.graph.now.nodes c.in-Some.key)) c.loop-key.invariant.outers);
    }

pub returns : goal.returns
returns c =
    let none : c.loop-key.search.found.items ≡ [] =
    c.in_default.ensures.items ∙ ap (λ xs. xs ++ []) (c.in_default.ensures.rest ∙ ap (λ n. take (n - 1) c.loop-key.search.found.items) c.in_default.ensures.cases.0) in
    search_tells c.args.graph.now.nodes (plain_search c.loop-key.search) none c.loop-key.invariant.searching c.loop-key.invariant.outers
