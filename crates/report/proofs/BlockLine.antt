-- The line of a block in three parts.
use Rattle.std.proofs.Common.{◌≡◌, ◌++◌, refl}
use Rattle.rp_text.specs.declared.Raw.{Raw}
use Rattle.schematic.specs.declared.BuildRefusal.TheVariants.{Block}
use Rattle.report.specs.declared.Fault.TheVariants.{Build}
use Rattle.report.specs.FaultLine.{fault_line, block_line_begin, newline}

-- its beginning, the name and its end make the whole
pub fault_line-block : (name : Raw) → fault_line (Build (Block name)) ≡ block_line_begin ++ name.items.items ++ newline
unfolding fault_line
fault_line-block name = refl
