use Rattle.std.proofs.Common.{◌≡◌, ℕ, ◌<◌, List, ◌∷◌, [], ◌++◌, length, get_or, refl, sym, ◌∙◌, ap, subst, arith}
use Rattle.circuit.specs.declared.Pos.{Pos}
use Rattle.build.specs.Plan.{Plan, volume, place_of}
use Rattle.wire_shape.specs.Shape.{wire_at}
use Rattle.input_search.specs.Wiring.{wire_cells, wire_place, feeder_numbers, read_cells, fed_row, read_row, AreRows}
use Rattle.std.proofs.lemmas.List.{get_or_default}
use Rattle.std.proofs.Common.{length-set}
use Rattle.input_search.proofs.WireNumbers.{cell-inside, number-wire}
use Rattle.input_search.proofs.WiringSteps.{rows_found, found_next, one_longer}
use Rattle.input_search.proofs.wires.Wiring.find_rows.Goals as goal

-- the cell that is read is that of the wire
cell_is : (b : Plan) (wires : List ℕ) (number cell : ℕ) → wires ≡ wire_cells b → number < length (wire_cells b) → cell ≡ get_or wires number cell → cell ≡ get_or (wire_cells b) number 0
cell_is b wires number cell e h is = is ∙ ap (λ (xs : List ℕ). get_or xs number cell) e ∙ get_or_default (wire_cells b) number cell 0 h

place_is : (b : Plan) (wires : List ℕ) (number cell : ℕ) (p : Pos) → wires ≡ wire_cells b → number < length (wire_cells b) → cell ≡ get_or wires number cell → p ≡ place_of b cell → p ≡ wire_place b (wire_cells b) number
place_is b wires number cell p e h is there = there ∙ ap (place_of b) (cell_is b wires number cell e h is)

pub place-wire-requires : goal.place-wire-requires
place-wire-requires c =
    let b : Plan = c.args.build.now in
    subst (λ (cell : ℕ). cell < volume b) (sym (cell_is b c.args.self.now.wires.items c.args.number c.index.result.now c.requires.wiring.wires c.requires.number c.index.ensures))
    (cell-inside b (wire_cells b) refl c.args.number c.requires.number)

pub push_feeders-requires-clause-wire : goal.push_feeders-requires-clause-wire
push_feeders-requires-clause-wire c =
    let b : Plan = c.args.build.now in
    ap (wire_at b) (place_is b c.args.self.now.wires.items c.args.number c.index.result.now c.place-wire.result c.requires.wiring.wires c.requires.number c.index.ensures c.place-wire.ensures)
    ∙ number-wire b (wire_cells b) refl c.args.number c.requires.number

pub push_reads-requires : goal.push_reads-requires
push_reads-requires c =
    let b : Plan = c.args.build.now in
    ap (wire_at b) (place_is b c.args.self.now.wires.items c.args.number c.index.result.now c.place-wire.result c.requires.wiring.wires c.requires.number c.index.ensures c.place-wire.ensures)
    ∙ number-wire b (wire_cells b) refl c.args.number c.requires.number

fed_is : (b : Plan) (number : ℕ) (p : Pos) → p ≡ wire_place b (wire_cells b) number → feeder_numbers b p ≡ fed_row b number
unfolding fed_row
fed_is b number p e = ap (feeder_numbers b) e

read_is : (b : Plan) (number : ℕ) (p : Pos) → p ≡ wire_place b (wire_cells b) number → read_cells b p ≡ read_row b number
unfolding read_row
read_is b number p e = ap (read_cells b) e

pub returns-clause-wiring : goal.returns-clause-wiring
returns-clause-wiring c =
    let b : Plan = c.args.build.now in
    let at : c.place-wire.result ≡ wire_place b (wire_cells b) c.args.number =
    place_is b c.args.self.now.wires.items c.args.number c.index.result.now c.place-wire.result c.requires.wiring.wires c.requires.number c.index.ensures c.place-wire.ensures in
    let fed : c.push_feeders.new.rows ≡ c.args.self.now.feeders ++ fed_row b c.args.number ∷ [] =
    c.in_ok-push_feeders.ensures ∙ ap (λ (row : List ℕ). c.args.self.now.feeders ++ row ∷ []) (fed_is b c.args.number c.place-wire.result at) in
    let read : c.push_reads.new.rows ≡ c.args.self.now.reads ++ read_row b c.args.number ∷ [] =
    c.in_ok-push_reads.ensures ∙ ap (λ (row : List ℕ). c.args.self.now.reads ++ row ∷ []) (read_is b c.args.number c.place-wire.result at) in
    record {
      wires = c.requires.wiring.wires;
      cells = c.requires.wiring.cells;
      sources = c.requires.wiring.sources;
      size = ap length c.put.ensures ∙ length-set c.args.self.now.slots.items c.args.number c.in_ok-next.next ∙ c.requires.wiring.size;
      all = c.requires.wiring.all;
      far = c.requires.wiring.far;
      feeders = one_longer c.args.self.now.feeders c.push_feeders.new.rows (fed_row b c.args.number) c.args.self.now.found c.requires.wiring.feeders fed ∙ sym c.in_ok-next.ensures;
      reads = one_longer c.args.self.now.reads c.push_reads.new.rows (read_row b c.args.number) c.args.self.now.found c.requires.wiring.reads read ∙ sym c.in_ok-next.ensures;
      found = found_next b c.args.self.now.feeders c.args.self.now.reads c.push_feeders.new.rows c.push_reads.new.rows c.args.self.now.slots.items c.put.new.slots.items c.args.number c.args.self.now.found c.in_ok-next.next
          c.requires.wiring.feeders c.requires.wiring.reads (omega (arith, c.requires.wiring.size, c.requires.number)) c.requires.wiring.found fed read c.put.ensures c.in_ok-next.ensures;
    }

pub returns-clause-rows : goal.returns-clause-rows
returns-clause-rows c =
    let b : Plan = c.args.build.now in
    let at : c.place-wire.result ≡ wire_place b (wire_cells b) c.args.number =
    place_is b c.args.self.now.wires.items c.args.number c.index.result.now c.place-wire.result c.requires.wiring.wires c.requires.number c.index.ensures c.place-wire.ensures in
    let fed : c.push_feeders.new.rows ≡ c.args.self.now.feeders ++ fed_row b c.args.number ∷ [] =
    c.in_ok-push_feeders.ensures ∙ ap (λ (row : List ℕ). c.args.self.now.feeders ++ row ∷ []) (fed_is b c.args.number c.place-wire.result at) in
    let read : c.push_reads.new.rows ≡ c.args.self.now.reads ++ read_row b c.args.number ∷ [] =
    c.in_ok-push_reads.ensures ∙ ap (λ (row : List ℕ). c.args.self.now.reads ++ row ∷ []) (read_is b c.args.number c.place-wire.result at) in
    subst (λ (rows : List (List ℕ)). AreRows b rows c.push_reads.new.rows c.args.number c.args.self.now.found) (sym fed)
    (subst (λ (rows : List (List ℕ)). AreRows b (c.args.self.now.feeders ++ fed_row b c.args.number ∷ []) rows c.args.number c.args.self.now.found) (sym read)
    (rows_found b c.args.self.now.feeders c.args.self.now.reads c.args.number c.args.self.now.found c.requires.wiring.feeders c.requires.wiring.reads))
