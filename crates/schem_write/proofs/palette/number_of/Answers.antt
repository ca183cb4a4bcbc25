use Rattle.std.proofs.Common.{ℕ, List, Bool, Vec, Global, sym, ap, ◌∙◌}
use Rattle.std.proofs.Common.{refl}
use Rattle.std.specs.Str.{bytes_eq}
use Rattle.std.specs.List.{list_any}
use Rattle.schem_write.specs.PaletteTexts.{number_in}
use Rattle.schem_write.specs.Code.{texts_of}
use Rattle.schem_write.proofs.FirstOnes.{has-texts, number-texts, found-number, found-there, text-added, number-with_text, has-with_text}
use Rattle.schem_write.proofs.palette.number_of.Goals as goal

abbrev is_text : List ℕ → Vec ℕ Global → Bool
is_text x k = bytes_eq x k.items

pub returns-in-Some-clause-number : goal.returns-in-Some-clause-number
returns-in-Some-clause-number c =
    found-number (is_text c.args.text.now) c.args.palette.now.keys c.in-Some.number c.in-Some.ensures.index ∙ number-texts c.args.text.now c.args.palette.now.keys

pub returns-in-Some-clause-texts : goal.returns-in-Some-clause-texts
returns-in-Some-clause-texts c =
    rw (sym (has-texts c.args.text.now c.args.palette.now.keys) ∙ found-there (is_text c.args.text.now) c.args.palette.now.keys c.in-Some.number c.in-Some.ensures.index) refl

pub returns-clause-number : goal.returns-clause-number
returns-clause-number c =
    c.in_ok-number.ensures.index ∙ number-texts c.in_ok-from_slice.field-0.items c.args.palette.now.keys ∙ ap (λ (x : List ℕ). number_in (texts_of c.args.palette.now.keys) x) c.in_ok-from_slice.ensures.items

pub returns-clause-texts : goal.returns-clause-texts
returns-clause-texts c = ap texts_of c.in_ok-number.ensures.keys ∙ text-added c.in_ok-from_slice.field-0 c.args.text.now c.args.palette.now.keys c.in_ok-from_slice.ensures.items

pub returns-in-Some-clause-known : goal.returns-in-Some-clause-known
returns-in-Some-clause-known c = (
  returns-in-Some-clause-number c,
  sym (has-texts c.args.text.now c.args.palette.now.keys) ∙ found-there (is_text c.args.text.now) c.args.palette.now.keys c.in-Some.number c.in-Some.ensures.index,
)

pub returns-clause-known : goal.returns-clause-known
returns-clause-known c =
    let text : List ℕ = c.args.text.now in
    let old : List (List ℕ) = texts_of c.args.palette.now.keys in (
      returns-clause-number c ∙ sym (number-with_text text old) ∙ ap (λ (texts : List (List ℕ)). number_in texts text) (sym (returns-clause-texts c)),
      ap (λ (texts : List (List ℕ)). list_any (bytes_eq text) texts) (returns-clause-texts c) ∙ has-with_text text old,
    )
