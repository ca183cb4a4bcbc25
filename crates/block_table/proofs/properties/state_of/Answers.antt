use Rattle.std.proofs.Common.{◌≡◌, ◌∷◌, [], sym, ap, ◌∙◌}
use Rattle.block_table.specs.StateText.{parts}
use Rattle.block_table.proofs.PropertySteps.{formed-none, formed-is, none_after, state-plain, state-twice, state-bracketed, state-unformed, state-unended}
use Rattle.block_table.proofs.properties.state_of.Goals as goal
use Rattle.block_table.proofs.properties.state_of.Goals.{else-is_empty-via-then-is_empty+else-is_formed, else-is_empty-via-else-is_empty}

pub returns-in_default-clause-value : goal.returns-in_default-clause-value
returns-in_default-clause-value c =
    let h = rw c.in_default.is at c.cut.ensures.parts in
    state-plain c.args.text.now _ h

pub returns-in_default-clause-formed : goal.returns-in_default-clause-formed
returns-in_default-clause-formed c = formed-none

pub returns-then-is_some-clause-value : goal.returns-then-is_some-clause-value
returns-then-is_some-clause-value c =
    let name = c.cut.result.0.now in
    let h : parts 91 c.args.text.now ≡ name ∷ parts 91 c.in-Some.rest.now = rw c.in-Some.is at c.cut.ensures.parts in
    state-twice c.args.text.now name c.cut-2.result.0.now c.cut-2.result.1 (sym c.is_some.ensures ∙ c.if-is_some.true) (h ∙ ap (λ more. name ∷ more) c.cut-2.ensures.parts)

pub returns-then-is_formed-clause-value : goal.returns-then-is_formed-clause-value
returns-then-is_formed-clause-value c =
    let name = c.cut.result.0.now in
    let bracketed = c.cut-2.result.0.now in
    let h : parts 91 c.args.text.now ≡ name ∷ parts 91 c.in-Some.rest.now = rw c.in-Some.is at c.cut.ensures.parts in
    let k : parts 93 bracketed ≡ c.cut-3.result.0.now ∷ parts 93 c.in_ok-end.field-0.now = rw c.in_ok-end.was at c.cut-3.ensures.parts in
    state-bracketed c.args.text.now name bracketed c.cut-3.result.0.now c.in_ok-end.field-0.now
    (h ∙ ap (λ more. name ∷ more) (c.cut-2.ensures.parts ∙ ap (λ more. bracketed ∷ more) (none_after 91 c.cut-2.result.1 (sym c.is_some.ensures ∙ c.if-is_some.false))))
    k (sym c.is_empty.ensures ∙ c.if-is_empty.true) (formed-is c.cut-3.result.0.now (sym c.is_formed.ensures ∙ c.if-is_formed.true))

pub returns-then-is_formed-clause-formed : goal.returns-then-is_formed-clause-formed
returns-then-is_formed-clause-formed c = formed-is c.cut-3.result.0.now (sym c.is_formed.ensures ∙ c.if-is_formed.true)

pub returns-else-is_empty-clause-value : goal.returns-else-is_empty-clause-value
returns-else-is_empty-clause-value c =
    let name = c.cut.result.0.now in
    let bracketed = c.cut-2.result.0.now in
    let h : parts 91 c.args.text.now ≡ name ∷ parts 91 c.in-Some.rest.now = rw c.in-Some.is at c.cut.ensures.parts in
    let whole : parts 91 c.args.text.now ≡ name ∷ (bracketed ∷ []) = h ∙ ap (λ more. name ∷ more) (c.cut-2.ensures.parts ∙ ap (λ more. bracketed ∷ more) (none_after 91 c.cut-2.result.1 (sym c.is_some.ensures ∙ c.if-is_some.false))) in
    let k : parts 93 bracketed ≡ c.cut-3.result.0.now ∷ parts 93 c.in_ok-end.field-0.now = rw c.in_ok-end.was at c.cut-3.ensures.parts in
    elim c.else-is_empty.branch [
      | else-is_empty-via-then-is_empty+else-is_formed w ↦ state-unformed c.args.text.now name bracketed c.cut-3.result.0.now c.in_ok-end.field-0.now whole k (sym c.is_empty.ensures ∙ w.if-is_empty.true) (sym w.is_formed.ensures ∙ w.if-is_formed.false)
      | else-is_empty-via-else-is_empty w ↦ state-unended c.args.text.now name bracketed c.cut-3.result.0.now c.in_ok-end.field-0.now whole k (sym c.is_empty.ensures ∙ w.if-is_empty.false)
    ]
