use Rattle.std.proofs.Common.{◌≡◌, ℕ, List, Option, Some, None, true, sym, ap, ◌∙◌, subst}
use Rattle.std.specs.Prelude.{IfSome}
use Rattle.std.proofs.Math.ListN.{get_or}
use Rattle.block_table.specs.declared.Block.{Block}
use Rattle.block_table.specs.WrittenText.{is_listed, state_text}
use Rattle.packed_block.specs.Packed.{packed}
use Rattle.packed_block.proofs.RoundTrip.{comes_back}
use Rattle.schem_write.specs.PaletteTexts.{IsNumberOf, IsNumber}
use Rattle.schem_write.proofs.numbers.known_number.Goals as goal

of_code : (palette : List (List ℕ)) (block : Block) (known : Option ℕ) → is_listed block ≡ true →
    IsNumber palette (packed block) known → IfSome known (λ number. IsNumberOf palette (state_text block) number)
of_code palette block None listed is = tt
of_code palette block (Some number) listed is = subst (λ (one : Block). IsNumberOf palette (state_text one) number) (comes_back block listed) is

pub returns : goal.returns
returns c = λ palette all.
    (let code : ℕ = packed c.args.block in
    let at : get_or c.args.numbers.now code None ≡ c.number_at.result = sym (c.number_at.ensures ∙ ap (λ (k : ℕ). get_or c.args.numbers.now k None) c.code_of.ensures) in
    of_code palette c.args.block c.number_at.result c.requires (subst (IsNumber palette code) at (all code)))
