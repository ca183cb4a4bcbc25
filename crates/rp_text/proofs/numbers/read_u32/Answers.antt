use Rattle.std.proofs.Common.{◌≡◌, None, sym, ap, ◌∙◌}
use Rattle.std.specs.Str.{IsUtf8}
use Rattle.rp_text.specs.Numbers.{is_plain, u32_of}
use Rattle.rp_text.proofs.DecimalText.{u32_of-not_plain, IfSome-u32_of, Some-u32_of, result_ok-parse, IsUtf8-plain, at_result_ok-None, at_result_ok-Some}
use Rattle.rp_text.proofs.numbers.read_u32.Goals as goal

-- the answer at each return is `u32_of` of the word; the other clauses follow from that
not_plain : (c : goal.Then-not-is_plain) → None ≡ u32_of c.args.word.now
not_plain c = sym (u32_of-not_plain c.args.word.now (sym c.is_plain.ensures ∙ c.if-not-is_plain.true))

not_text : (c : goal.After-from_residual) → c.from_residual.result ≡ u32_of c.args.word.now
not_text c =
    let plain = sym c.is_plain.ensures ∙ c.if-not-is_plain.false in
    absurd (at_result_ok-None _ (¬ (IsUtf8 c.args.word.now)) _ c.from_utf8.result (sym c.ok.ensures.value ∙ c.in_err-ok.was) c.from_utf8.ensures.cases (IsUtf8-plain c.args.word.now plain))

parsed : (c : goal.After-ok-2) → c.ok-2.result ≡ u32_of c.args.word.now
parsed c =
    let plain = sym c.is_plain.ensures ∙ c.if-not-is_plain.false in
    let text = at_result_ok-Some _ _ c.from_utf8.result c.in_ok-ok.field-0 (sym c.ok.ensures.value ∙ c.in_ok-ok.was) c.from_utf8.ensures.cases in
    c.ok-2.ensures.value ∙ result_ok-parse c.in_ok-ok.field-0.now c.parse.result (ap is_plain text.0 ∙ plain) c.parse.ensures.value.0 ∙ ap u32_of text.0

pub returns-then-not-is_plain : goal.returns-then-not-is_plain
returns-then-not-is_plain c = record {
  value = not_plain c;
  text = IfSome-u32_of c.args.word.now _ (not_plain c);
  every = Some-u32_of c.args.word.now _ (not_plain c);
}

pub returns-in_err-ok : goal.returns-in_err-ok
returns-in_err-ok c = record {
  value = not_text c;
  text = IfSome-u32_of c.args.word.now _ (not_text c);
  every = Some-u32_of c.args.word.now _ (not_text c);
}

pub returns : goal.returns
returns c = record {
  value = parsed c;
  text = IfSome-u32_of c.args.word.now _ (parsed c);
  every = Some-u32_of c.args.word.now _ (parsed c);
}
