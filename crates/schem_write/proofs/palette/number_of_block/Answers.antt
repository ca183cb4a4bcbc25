use Rattle.std.proofs.Common.{◌≡◌, ◌++◌, List, ℕ, sym, ap, ◌∙◌, subst}
use Rattle.block_table.specs.WrittenText.{state_text}
use Rattle.schem_write.specs.Code.{texts_of}
use Rattle.schem_write.specs.PaletteTexts.{with_text, IsNumberOf, AreNumbers}
use Rattle.schem_write.proofs.FirstOnes.{still_numbers}
use Rattle.schem_write.proofs.palette.number_of_block.Goals as goal

pub returns-clause-right : goal.returns-clause-right
returns-clause-right c =
    let old : List (List ℕ) = texts_of c.args.palette.now.keys in
    let new : List (List ℕ) = texts_of c.number_of.new.palette.keys in
    let same : c.deref-2.result.now ≡ state_text c.args.block = c.deref-2.ensures.value ∙ c.in_ok-push_state.ensures.ok ∙ ap (λ (front : List ℕ). front ++ state_text c.args.block) c.clear.ensures.items in
    c.keep_number.ensures new
    (subst (λ (texts : List (List ℕ)). AreNumbers texts c.args.numbers.now.items) (sym (c.in_ok-number.ensures.texts ∙ ap (with_text old) same)) (still_numbers old (state_text c.args.block) c.args.numbers.now.items c.requires.right))
    (subst (λ (text : List ℕ). IsNumberOf new text c.in_ok-number.number) same c.in_ok-number.ensures.known)
