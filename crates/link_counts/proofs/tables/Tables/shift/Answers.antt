use Rattle.std.proofs.Common.{◌+◌, ◌≤◌, ◌∙◌, ap, arith}
use Rattle.link_counts.specs.Tabled.{with_number}
use Rattle.link_counts.proofs.TableSteps.{tabled_next, tally_next, tally_after}
use Rattle.link_counts.proofs.tables.Tables.shift.Goals as goal

pub invariant_of-self : goal.invariant_of-self
invariant_of-self c =
    let t = c.self.inside in
    tabled_next t.places.items t.tables.items c.args.self.now c.args.key c.args.group c.index-place.result.now c.number_in-number.result c.self.invariant c.self.view_is c.requires.key c.index-place.ensures c.number_in-number.ensures
    (omega (arith, c.if-number-lt-FIRST.true)) c.args.from c.args.to c.requires.some c.requires.to c.with_number.result (c.with_number.ensures ∙ ap (λ n. with_number c.index-place.result.now c.args.group (n + 1)) c.from.ensures)

pub returns-then-number-lt-FIRST-clause-shifted : goal.returns-then-number-lt-FIRST-clause-shifted
returns-then-number-lt-FIRST-clause-shifted c =
    let t = c.self.inside in
    tally_next t.places.items t.tables.items c.args.self.now c.args.key c.args.group c.index-place.result.now c.number_in-number.result c.self.invariant c.self.view_is c.requires.key c.index-place.ensures c.number_in-number.ensures
    (omega (arith, c.if-number-lt-FIRST.true)) c.args.from c.args.to c.requires.some c.requires.to c.with_number.result (c.with_number.ensures ∙ ap (λ n. with_number c.index-place.result.now c.args.group (n + 1)) c.from.ensures)

pub returns-else-number-lt-FIRST-clause-shifted : goal.returns-else-number-lt-FIRST-clause-shifted
returns-else-number-lt-FIRST-clause-shifted c =
    let t = c.self.inside in
    let large : 17 ≤ c.number_in-number.result = omega (arith, c.if-number-lt-FIRST.false) in
    tally_after t.places.items t.tables.items c.args.self.now c.args.key c.args.group c.index-place.result.now c.number_in-number.result c.self.invariant c.self.view_is c.requires.key c.index-place.ensures c.number_in-number.ensures
    large c.index_mut-else-number-lt-FIRST.result.now c.index_mut-else-number-lt-FIRST.ensures.value c.args.from c.args.to c.shift.new.table c.shift.ensures.wide c.shift.ensures.shifted
