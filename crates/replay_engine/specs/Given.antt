-- No thing gives more than 15, and no wire has more.
use Rattle.std.proofs.Common.{◌≡◌, ℕ, ◌≤◌, List, Option, Some, None, refl, arith}
use Rattle.std.specs.Prelude.{slice_index_or}
use Rattle.std.specs.Option.{option_map_or}
use Rattle.circuit.specs.declared.Pos.{Pos}
use Rattle.circuit.specs.declared.Component.{Component}
use Rattle.circuit.specs.declared.Component.TheVariants.{Wire, Comparator, Weighted}
use Rattle.circuit.specs.declared.Cell.{Cell}
use Rattle.circuit.specs.Component.{top, out}
use Rattle.circuit.specs.Circuit.{out_at}
use Rattle.block_table.specs.declared.Block.{Block}
use Rattle.block_table.specs.declared.Block.TheVariants.{RedstoneBlock}
use Rattle.build.specs.Plan.{block_at}
use Rattle.build.specs.Roles.{role_at, base_at, base_of}
use Rattle.wire_net.specs.Net.{IsBounded}
use Rattle.wire_net.specs.Laws.{right_bounded}
use Rattle.cell_counts.specs.Held.{Holding}
use Rattle.replay_engine.specs.Things.{Numbered, number_at, held, nothing}
use Rattle.replay_engine.specs.WireThings.{thing_cells, things_bounded}
use Rattle.replay_engine.specs.Running.{given_by, AreSmall, AreWithin, ArePowers, IsHolding}

out-le : (component : Component) (value : ℕ) → value ≤ top component → out component value ≤ 15
out-le Weighted value h = h
out-le (Comparator subtract) value h = h
out-le Wire value h = omega arith
out-le _ value h = omega arith

base-le : (block : Block) → base_of block ≤ 15
base-le RedstoneBlock = omega arith
base-le _ = omega arith

given-le_at : (role : Option Component) (base : ℕ) (cell : Cell) → base ≤ 15 → ((component : Component) → role ≡ Some component → cell.value ≤ top component) → out_at role base cell ≤ 15
given-le_at None base cell h w = h
given-le_at (Some component) base cell h w = out-le component cell.value (w component refl)

pub given-le : (m : Numbered) (cells : List Cell) → AreWithin m cells → (p : Pos) → given_by m cells p ≤ 15
unfolding base_at
given-le m cells w p = given-le_at (role_at m.plan m.marks p) (base_at m.plan p) (held m cells nothing p) (base-le (block_at m.plan p)) (w p)

pub given_bounded : (m : Numbered) (cells : List Cell) → AreWithin m cells → IsBounded (thing_cells m (given_by m cells))
given_bounded m cells w = things_bounded m (given_by m cells) (given-le m cells w)

-- right powers are small
pub powers-le : {m : Numbered} {h : Holding} {powers : List ℕ} → IsHolding m h → ArePowers m h.cells powers → AreSmall powers
powers-le {m} {h} {powers} holding right = right_bounded (thing_cells m (given_by m h.cells)) powers (given_bounded m h.cells holding.within) right

-- small powers are so at each place
pub held-le : (m : Numbered) (powers : List ℕ) → AreSmall powers → (p : Pos) → held m powers 0 p ≤ 15
unfolding held
held-le m powers h p = go (number_at m p)
  where
    go : (number : Option ℕ) → option_map_or (λ (n : ℕ). slice_index_or powers n 0) number 0 ≤ 15
    go (Some n) = h n
    go None = omega arith
