use Rattle.std.proofs.Common.{◌≡◌, ℕ, Bool, false, zero, suc, ◌-◌, ◌++◌, List, [], take, length, refl, sym, ◌∙◌, ap, arith}
use Rattle.std.specs.Prelude.{replicate, slice_index_or, vec_len}
use Rattle.std.proofs.lemmas.List.{length-replicate}
use Rattle.build.specs.Plan.{Plan, volume, place_of, block_at}
use Rattle.wire_shape.specs.Shape.{wire_at}
use Rattle.wiring.specs.Reads.{is_source}
use Rattle.input_search.specs.Wiring.{wires_below, sources_below, wire_cells, source_cells, AreRows, IsFar}
use Rattle.input_search.specs.Rows.{is_met}
use Rattle.input_search.proofs.WiringSteps.{wires_more, listed-below, none_found, none_far}
use Rattle.input_search.proofs.wires.Wiring.new.Goals as goal

pub list_wire-requires-clause-rising : goal.list_wire-requires-clause-rising
list_wire-requires-clause-rising c =
    listed-below (λ i. wire_at c.args.build.now (place_of c.args.build.now i)) c.loop-cell.cell c.loop-cell.cells c.loop-cell.invariant.cells

pub list_source-requires-clause-rising : goal.list_source-requires-clause-rising
list_source-requires-clause-rising c =
    listed-below (λ i. is_source (block_at c.args.build.now (place_of c.args.build.now i))) c.loop-cell.cell c.loop-cell.sources c.loop-cell.invariant.sources

pub loop-cell-preserved : goal.loop-cell-preserved
loop-cell-preserved c =
    let b : Plan = c.args.build.now in
    record {
      wires = wires_more (λ i. wire_at b (place_of b i)) c.loop-cell.cell c.loop-cell.wires.items c.list_wire.new.wires.items c.loop-cell.invariant.wires c.in_ok-list_wire.ensures.wires;
      cells = wires_more (λ i. wire_at b (place_of b i)) c.loop-cell.cell c.loop-cell.cells c.list_wire.new.cells c.loop-cell.invariant.cells c.in_ok-list_wire.ensures.cells;
      sources = wires_more (λ i. is_source (block_at b (place_of b i))) c.loop-cell.cell c.loop-cell.sources c.list_source.new.sources c.loop-cell.invariant.sources c.in_ok-list_source.ensures;
    }

filled : {A : Type 0} (x : A) (n k : ℕ) (before after : List A) → before ≡ [] → k ≡ 0 → after ≡ take n before ++ replicate (n - k) x → after ≡ replicate n x
filled {A} x n k before after e f g = g ∙ (λ j. take n (e j) ++ replicate (n - f j) x) ∙ none n
  where
    none : (n : ℕ) → ◌≡◌ {A = List A} (take n [] ++ replicate (n - 0) x) (replicate n x)
    none zero = refl
    none (suc n) = let e : suc n - 0 ≡ suc n = omega arith in ap (λ (k : ℕ). replicate k x) e

pub returns : goal.returns
unfolding wire_cells source_cells
returns c =
    let b : Plan = c.args.build.now in
    let last : c.loop-cell.cell ≡ volume b = omega (arith, c.cells-cell-end.ensures.count) in
    let count : c.len.result ≡ length c.loop-cell.wires.items = omega arith in
    let slots : c.resize.new.self.items ≡ replicate c.len.result 0 =
    filled {A = ℕ} 0 c.len.result (vec_len c.new-slots.result) c.new-slots.result.items c.resize.new.self.items c.new-slots.ensures.items c.new-slots.ensures.len c.in_ok-resize.ensures.items in
    let also : c.len-2.result ≡ length c.loop-cell.wires.items = omega arith in
    let far : c.resize-2.new.self.items ≡ replicate c.len-2.result false =
    filled {A = Bool} false c.len-2.result (vec_len c.new-far.result) c.new-far.result.items c.resize-2.new.self.items c.new-far.ensures.items c.new-far.ensures.len c.in_ok-resize-2.ensures.items in
    record {
      wires = c.loop-cell.invariant.wires ∙ ap (wires_below b) last;
      cells = c.loop-cell.invariant.cells ∙ ap (wires_below b) last;
      sources = c.loop-cell.invariant.sources ∙ ap (sources_below b) last;
      size = ap length slots ∙ length-replicate c.len.result 0 ∙ count ∙ ap length (c.loop-cell.invariant.wires ∙ ap (wires_below b) last);
      all = ap length far ∙ length-replicate c.len-2.result false ∙ also ∙ ap length (c.loop-cell.invariant.wires ∙ ap (wires_below b) last);
      feeders = ap length c.new-3.ensures;
      reads = ap length c.new-4.ensures;
      found = λ number row h. none_found c.len.result number row (AreRows b c.new-3.result c.new-4.result number row) (ap (λ (xs : List ℕ). slice_index_or xs number 0) (sym slots) ∙ h);
      far = λ number h. none_far c.len-2.result number (IsFar b number) (ap (λ (xs : List Bool). is_met xs number) (sym far) ∙ h);
    }
