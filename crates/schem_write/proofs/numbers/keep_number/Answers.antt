use Rattle.std.proofs.Common.{rules, ◌≡◌, ◌<◌, ℕ, true, List, Option, Some, None, length, set, sym, ap, ◌∙◌, subst, inl, inr}
use Rattle.std.proofs.Math.ListN.{get_or}
use Rattle.std.proofs.lemmas.Bool.{cases_eq}
use Rattle.std.proofs.lemmas.List.{get_or-set_same, get_or-set_other}
use Rattle.block_table.specs.declared.Block.{Block}
use Rattle.block_table.specs.WrittenText.{is_listed, state_text}
use Rattle.packed_block.specs.Packed.{packed, unpacked}
use Rattle.packed_block.proofs.RoundTrip.{comes_back}
use Rattle.schem_write.specs.PaletteTexts.{IsNumberOf, IsNumber, AreNumbers}
use Rattle.schem_write.proofs.numbers.keep_number.Goals as goal

one_more : (palette : List (List ℕ)) (numbers : List (Option ℕ)) (block : Block) (code number : ℕ) → is_listed block ≡ true → code ≡ packed block → code < length numbers →
    AreNumbers palette numbers → IsNumberOf palette (state_text block) number → AreNumbers palette (set numbers code (Some number))
one_more palette numbers block code number listed is inside all right = λ other.
    (let some : Option ℕ = Some number in
    let own : IsNumber palette code some = subst (λ (one : Block). IsNumberOf palette (state_text one) number) (sym (ap unpacked is ∙ comes_back block listed)) right in
    elim (cases_eq other code) [
      | inl same ↦ subst (λ (k : ℕ). IsNumber palette k (get_or (set numbers code some) k None)) (sym same) (subst (IsNumber palette code) (sym (get_or-set_same numbers code some None inside)) own)
      | inr apart ↦ subst (IsNumber palette other) (sym (get_or-set_other numbers code other some None apart)) (all other)
    ])

pub returns-then-code-len : goal.returns-then-code-len
returns-then-code-len c = λ palette all right. one_more palette c.args.numbers.now.items c.args.block c.code_of-code.result c.args.number c.requires c.code_of-code.ensures (search rules) all right
