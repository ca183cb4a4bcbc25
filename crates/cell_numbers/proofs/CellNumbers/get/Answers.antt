use Rattle.std.proofs.Common.{◌≡◌, ◌<◌, ◌≤◌, ◌/◌, ◌%◌, ◌^◌, ◌+◌, ◌==◌, ℕ, List, length, if◌then◌else◌, Some, None, Option, sym, ap, ◌∙◌, arith, count_ones}
use Rattle.std.specs.Int.{bit_at}
use Rattle.cell_numbers.specs.declared.Word.{Word}
use Rattle.cell_numbers.specs.Numbers.{number_in}
use Rattle.cell_numbers.specs.Words.{no_word, word_in}
use Rattle.cell_numbers.proofs.Found.{found, not_found, low}
use Rattle.cell_numbers.proofs.CellNumbers.get.Goals as goal

abbrev number_by : Word → ℕ → Option ℕ
number_by word bit = if bit_at word.bits bit == 1 then Some (word.before + count_ones (word.bits % 2 ^ bit)) else None

pub returns-in-Some-clause-number : goal.returns-in-Some-clause-number
returns-in-Some-clause-number c =
    let words : List Word = c.self.inside.words.items in
    let bit : ℕ = c.args.cell % 32 in
    let within : c.args.cell / 32 < length words = omega (arith, c.in-Some.ensures.lookup.3.0, ap length c.deref.ensures.value) in
    let word : c.in-Some.word.now ≡ word_in words (c.args.cell / 32) = c.in-Some.ensures.lookup.3.1 no_word ∙ ap (λ (ws : List Word). word_in ws (c.args.cell / 32)) c.deref.ensures.value in
    c.number_of.ensures ∙ ap (λ (w : Word). number_by w bit) word ∙ sym (found words c.self.inside.count c.args.cell c.self.invariant within)
    ∙ ap (λ (cells : List ℕ). number_in cells c.args.cell) c.self.view_is

pub returns-in-Some-clause-low : goal.returns-in-Some-clause-low
returns-in-Some-clause-low c =
    let words : List Word = c.self.inside.words.items in
    let within : c.args.cell / 32 < length words = omega (arith, c.in-Some.ensures.lookup.3.0, ap length c.deref.ensures.value) in
    let word : c.in-Some.word.now ≡ word_in words (c.args.cell / 32) = c.in-Some.ensures.lookup.3.1 no_word ∙ ap (λ (ws : List Word). word_in ws (c.args.cell / 32)) c.deref.ensures.value in
    low words c.args.cell c.number_of.result
    (c.number_of.ensures ∙ ap (λ (w : Word). number_by w (c.args.cell % 32)) word ∙ sym (found words c.self.inside.count c.args.cell c.self.invariant within))

pub returns-in-None-clause-number : goal.returns-in-None-clause-number
returns-in-None-clause-number c =
    let words : List Word = c.self.inside.words.items in
    let past : length words ≤ c.args.cell / 32 = omega (arith, c.in-None.ensures.lookup.3, ap length c.deref.ensures.value) in
    sym (not_found words c.args.cell past) ∙ ap (λ (cells : List ℕ). number_in cells c.args.cell) c.self.view_is
