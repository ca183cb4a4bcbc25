use Rattle.std.proofs.Common.{arith, ◌≡◌, ◌<◌, ◌∙◌, sym, ap, length, List, ℕ, [], ◌∷◌, ◌++◌, set, take}
use Rattle.std.proofs.lemmas.List.{length-set, get_or-set_same, get_or-set_other, take_more}
use Rattle.wire_net.specs.Net.{cell_at}
use Rattle.wire_net.specs.Listed.{list_at}
use Rattle.wire_net.proofs.Lists.{turned_more, lists_are}
use Rattle.wire_net.proofs.work.Waves.new.Goals as goal

pub loop-index-preserved : goal.loop-index-preserved
loop-index-preserved g c =
    let a : List (List ℕ) = c.loop-index.feeders in
    let b : List (List ℕ) = c.loop-index.fed in
    let in_cell : c.loop-index.index < length (cell_at (g.N.Net.net c.args.net.now) c.loop-cell.cell).feeders = omega arith in
    let feeder : c.feeder-feeder.result < length (g.N.Net.net c.args.net.now) = rw c.feeder-feeder.ensures (g.met.N.Net.closed c.args.net.now c.loop-cell.cell c.loop-index.index in_cell) in
    let grown : c.push.new.self ≡ set a c.loop-cell.cell (list_at a c.loop-cell.cell ++ c.feeder-feeder.result ∷ []) = c.in_ok-push.ensures in
    let turned : c.push-in-loop-index.new.self ≡ set b c.feeder-feeder.result (list_at b c.feeder-feeder.result ++ c.loop-cell.cell ∷ []) = c.in_ok-push-2.ensures in
    let here : c.loop-cell.cell < length a = omega arith in
    rw (grown, turned) (record {
      turned = turned_more a b c.loop-cell.cell c.feeder-feeder.result here (omega (arith, c.loop-index.invariant.turned.long)) c.loop-index.invariant.turned;
      long = length-set a c.loop-cell.cell (list_at a c.loop-cell.cell ++ c.feeder-feeder.result ∷ []) ∙ c.loop-index.invariant.long;
      done = λ i h. get_or-set_other a c.loop-cell.cell i (list_at a c.loop-cell.cell ++ c.feeder-feeder.result ∷ []) [] (omega arith) ∙ c.loop-index.invariant.done i h;
      now = get_or-set_same a c.loop-cell.cell (list_at a c.loop-cell.cell ++ c.feeder-feeder.result ∷ []) [] here
          ∙ ap (λ (xs : List ℕ). xs ++ c.feeder-feeder.result ∷ []) c.loop-index.invariant.now
          ∙ ap (λ (n : ℕ). take c.loop-index.index (cell_at (g.N.Net.net c.args.net.now) c.loop-cell.cell).feeders ++ n ∷ []) c.feeder-feeder.ensures
          ∙ sym (take_more (cell_at (g.N.Net.net c.args.net.now) c.loop-cell.cell).feeders c.loop-index.index 0 in_cell);
      rest = λ i h. get_or-set_other a c.loop-cell.cell i (list_at a c.loop-cell.cell ++ c.feeder-feeder.result ∷ []) [] (omega arith) ∙ c.loop-index.invariant.rest i (omega arith);
    })

pub returns : goal.returns
returns g c = c.in_ok-feeders-2.ensures ∙ lists_are (g.N.Net.net c.args.net.now) c.loop-cell.feeders c.loop-cell.invariant.long (λ i h. c.loop-cell.invariant.done i (omega arith))
