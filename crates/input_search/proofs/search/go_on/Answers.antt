use Rattle.std.proofs.Common.{◌≡◌, true, refl, List, ℕ, ◌+◌, [], ◌++◌, Vec, Global, map, sym, subst, ap, ◌∙◌}
use Rattle.std.specs.List.{flat_map}
use Rattle.circuit.specs.declared.Pos.{Pos}
use Rattle.build.specs.Plan.{Plan}
use Rattle.input_search.specs.CellLists.{places_of, AreCells}
use Rattle.input_search.specs.Links.{From, at_weight, direct_places}
use Rattle.input_search.specs.Rows.{Gathers, GathersCells}
use Rattle.input_search.specs.Wiring.{wire_cells, source_cells, wire_place, wire_places, fed_row, read_row, IsAt}
use Rattle.wire_shape.specs.Shape.{wire_at}
use Rattle.input_search.proofs.WireNumbers.{number-wire}
use Rattle.input_search.proofs.Waves.{rows-read, distance_found, links_on, same_distance, at_next}
use Rattle.input_search.proofs.search.go_on.Goals as goal

pub push_links-requires : goal.push_links-requires
push_links-requires c =
    let b : Plan = c.args.build.now in
    let wires : List ℕ = c.args.search.now.wires.items in
    let links : List From = c.args.search.now.links.items in
    let numbers : List ℕ = flat_map (read_row b) wires in
    let found : List ℕ = c.look_around.new.cells.items in
    let gathers : GathersCells (source_cells b) (flat_map (read_row b) c.args.search.now.wires.items) c.args.search.now.linked c.look_around.new.linked [] c.look_around.new.cells.items =
    subst (λ (xs : List ℕ). GathersCells (source_cells b) (flat_map (read_row b) xs) c.args.search.now.linked c.look_around.new.linked [] c.look_around.new.cells.items) c.deref.ensures.value
    (subst (λ (xs : List ℕ). GathersCells (source_cells b) (flat_map (read_row b) c.deref.result.now) c.args.search.now.linked c.look_around.new.linked xs c.look_around.new.cells.items) c.clear-2.ensures.items
    c.in_ok-look_around.ensures.read) in
    subst (AreCells b) (sym c.deref-2.ensures.value)
    (distance_found b c.args.distance (flat_map (direct_places b) (wire_places b (wire_cells b) wires)) links links c.args.search.now.linked c.look_around.new.linked numbers found c.put_in_order.new.cells.items
    (rows-read b wires) c.requires.at.linked gathers c.put_in_order.ensures).0

pub returns-clause-at : goal.returns-clause-at
returns-clause-at c =
    let b : Plan = c.args.build.now in
    let w : Pos = wire_place b (wire_cells b) c.args.search.now.start in
    let is_wire : wire_at b w ≡ true = number-wire b (wire_cells b) refl c.args.search.now.start c.requires.at.start in
    let n : ℕ = c.args.distance in
    let wires : List ℕ = c.args.search.now.wires.items in
    let links : List From = c.args.search.now.links.items in
    let more : List From = c.push_links.new.links.items in
    let numbers : List ℕ = flat_map (read_row b) wires in
    let found : List ℕ = c.look_around.new.cells.items in
    let gathers : GathersCells (source_cells b) (flat_map (read_row b) c.args.search.now.wires.items) c.args.search.now.linked c.look_around.new.linked [] c.look_around.new.cells.items =
    subst (λ (xs : List ℕ). GathersCells (source_cells b) (flat_map (read_row b) xs) c.args.search.now.linked c.look_around.new.linked [] c.look_around.new.cells.items) c.deref.ensures.value
    (subst (λ (xs : List ℕ). GathersCells (source_cells b) (flat_map (read_row b) c.deref.result.now) c.args.search.now.linked c.look_around.new.linked xs c.look_around.new.cells.items) c.clear-2.ensures.items
    c.in_ok-look_around.ensures.read) in
    let fed : Gathers (flat_map (fed_row b) c.args.search.now.wires.items) c.args.search.now.met c.look_around.new.met [] c.look_around.new.next.items =
    subst (λ (xs : List ℕ). Gathers (flat_map (fed_row b) xs) c.args.search.now.met c.look_around.new.met [] c.look_around.new.next.items) c.deref.ensures.value
    (subst (λ (xs : List ℕ). Gathers (flat_map (fed_row b) c.deref.result.now) c.args.search.now.met c.look_around.new.met xs c.look_around.new.next.items) c.clear.ensures.items
    c.in_ok-look_around.ensures.fed) in
    let pushed : c.push_links.new.links.items ≡ c.args.search.now.links.items ++ map (at_weight n) (places_of b c.put_in_order.new.cells.items) =
    c.in_ok-push_links.ensures ∙ ap (λ (xs : List ℕ). c.args.search.now.links.items ++ map (at_weight n) (places_of b xs)) c.deref-2.ensures.value in
    let both = (distance_found b n (flat_map (direct_places b) (wire_places b (wire_cells b) wires)) links more c.args.search.now.linked c.look_around.new.linked numbers found c.put_in_order.new.cells.items
    (rows-read b wires) c.requires.at.linked gathers c.put_in_order.ensures).1 pushed in
    record {
      start = c.requires.at.start;
      links = links_on b w n links more c.requires.at.links (both.0 ∙ same_distance b w is_wire n wires c.args.search.now.met links c.requires.at.at);
      linked = both.1;
      at = subst (λ (v : Vec ℕ Global). IsAt b w (wire_cells b) (n + 1) v.items c.look_around.new.met c.push_links.new.links.items) (sym c.swap.ensures.x_after)
          (at_next b w is_wire n wires c.args.search.now.met links c.requires.at.at c.look_around.new.next.items c.look_around.new.met more fed both.0);
    }
