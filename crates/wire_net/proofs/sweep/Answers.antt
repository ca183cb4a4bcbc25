use Rattle.std.proofs.Common.{arith, ◌≡◌, inl, inr, slice_index}
use Rattle.wire_net.specs.Net.{cell_at, power_under}
use Rattle.wire_net.specs.Laws.{nat_same, right_where}
use Rattle.wire_net.specs.Sweeps.{between_step, between_stay, between_next}
use Rattle.wire_net.proofs.sweep.Goals as goal
use Rattle.wire_net.proofs.sweep.Goals.{then-power-powers, else-power-powers}

pub loop-cell-preserved : goal.loop-cell-preserved
loop-cell-preserved g c = elim c.if-power-powers.branch [
  | then-power-powers w ↦
      record {
        round = λ k b. rw (w.powers-is, c.power_of-power.ensures)
            (between_step (g.N.Net.net c.args.net.now) k c.loop-cell.cell c.loop-cell.powers
            (g.met.N.Net.bounded c.args.net.now) (c.loop-cell.invariant.round k b) (omega arith));
        right = λ e. cc w.changes-is;
      }
  | else-power-powers w ↦
      let e : slice_index c.loop-cell.powers c.loop-cell.cell ≡ power_under c.loop-cell.powers (cell_at (g.N.Net.net c.args.net.now) c.loop-cell.cell) = omega arith in
      rw (w.powers-is, w.changes-is) (record {
        round = λ k b. between_stay (g.N.Net.net c.args.net.now) k c.loop-cell.cell c.loop-cell.powers
            (g.met.N.Net.bounded c.args.net.now) (c.loop-cell.invariant.round k b) e;
        right = λ still j h. elim (nat_same j c.loop-cell.cell) [
          | inl s ↦ rw s e
          | inr n ↦ c.loop-cell.invariant.right still j (omega arith)
        ];
      })
]

pub returns-clause-round : goal.returns-clause-round
returns-clause-round g c = λ k b.
    between_next (g.N.Net.net c.args.net.now) k c.loop-cell.cell c.loop-cell.powers (omega arith) (c.loop-cell.invariant.round k b)

pub returns-clause-right : goal.returns-clause-right
returns-clause-right g c = λ still.
    right_where (g.N.Net.net c.args.net.now) c.loop-cell.powers (omega arith)
    (λ j h. c.loop-cell.invariant.right still j (omega arith))
