use Rattle.std.proofs.Common.{◌+◌, ◌*◌, refl}
use Rattle.generator.proofs.Units.{block_at-made}
use Rattle.generator.proofs.Whole.{output_at-made}
use Rattle.generator.proofs.laws.units_stand_in_a_row.Goals as goal

pub returns : goal.returns
returns c = record {
  blocks = λ n i x y z hi hx hy hz. block_at-made n i x y z (4 * i + x) refl hi hx hy hz;
  outputs = λ n i x y z hi hx hy hz. output_at-made n i x y z (4 * i + x) refl hi hx hy hz;
}
