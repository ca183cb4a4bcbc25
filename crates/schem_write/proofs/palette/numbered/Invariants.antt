use Rattle.std.proofs.Common.{◌≡◌, ◌++◌, drop}
use Rattle.schem_write.specs.Code.{plain_pairs, texts_of}
use Rattle.schem_write.specs.PaletteTexts.{numbered_from}
use Rattle.schem_write.proofs.palette.numbered.Given as goal

abbrev pub invariant-loop-number : goal.invariant-loop-number
invariant-loop-number l = plain_pairs l.fields.items ++ numbered_from l.number (texts_of (drop l.number l.palette)) ≡ numbered_from 0 (texts_of l.palette)
