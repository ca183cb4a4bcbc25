use Rattle.std.proofs.Common.{◌<◌, ◌≤◌, ◌∙◌, subst, sym, arith}
use Rattle.link_counts.proofs.TableSteps.{lone_some, lone_none, table_inside, tally_here}
use Rattle.link_counts.proofs.tables.Tables.greatest.Goals as goal

pub index-requires-else-number-lt-FIRST : goal.index-requires-else-number-lt-FIRST
index-requires-else-number-lt-FIRST c =
    let t = c.self.inside in
    let large : 17 ≤ c.number_in-number.result = omega (arith, c.if-number-lt-FIRST.false) in
    let inside = table_inside t.places.items t.tables.items c.args.self.now c.args.key c.args.group c.index.result.now c.number_in-number.result c.self.invariant c.self.view_is c.requires c.index.ensures c.number_in-number.ensures large in
    omega (arith, inside, t.tables.ok.0)

pub returns-then-number-lt-FIRST-clause-some : goal.returns-then-number-lt-FIRST-clause-some
returns-then-number-lt-FIRST-clause-some c = λ above.
    let t = c.self.inside in
    lone_some t.places.items t.tables.items c.args.self.now c.args.key c.args.group c.index.result.now c.number_in-number.result c.self.invariant c.self.view_is c.requires c.index.ensures c.number_in-number.ensures
    (omega (arith, c.if-number-lt-FIRST.true)) c.saturating_sub.result (omega (arith, above, c.saturating_sub.ensures)) (omega (arith, above, c.saturating_sub.ensures))

pub returns-then-number-lt-FIRST-clause-none : goal.returns-then-number-lt-FIRST-clause-none
returns-then-number-lt-FIRST-clause-none c = λ strength above below.
    let t = c.self.inside in
    lone_none t.places.items t.tables.items c.args.self.now c.args.key c.args.group c.index.result.now c.number_in-number.result c.self.invariant c.self.view_is c.requires c.index.ensures c.number_in-number.ensures
    (omega (arith, c.if-number-lt-FIRST.true)) strength (omega (arith, above, c.saturating_sub.ensures))

pub returns-else-number-lt-FIRST-clause-some : goal.returns-else-number-lt-FIRST-clause-some
returns-else-number-lt-FIRST-clause-some c =
    let t = c.self.inside in
    let large : 17 ≤ c.number_in-number.result = omega (arith, c.if-number-lt-FIRST.false) in
    let here = tally_here t.places.items t.tables.items c.args.self.now c.args.key c.args.group c.index.result.now c.number_in-number.result c.self.invariant c.self.view_is c.requires c.index.ensures c.number_in-number.ensures
    large c.index-else-number-lt-FIRST.result.now c.index-else-number-lt-FIRST.ensures c.greatest_of.result in
    λ above. subst (λ n. 0 < n) (sym here) (c.greatest_of.ensures.some above)

pub returns-else-number-lt-FIRST-clause-none : goal.returns-else-number-lt-FIRST-clause-none
returns-else-number-lt-FIRST-clause-none c =
    let t = c.self.inside in
    let large : 17 ≤ c.number_in-number.result = omega (arith, c.if-number-lt-FIRST.false) in
    let here = tally_here t.places.items t.tables.items c.args.self.now c.args.key c.args.group c.index.result.now c.number_in-number.result c.self.invariant c.self.view_is c.requires c.index.ensures c.number_in-number.ensures
    large c.index-else-number-lt-FIRST.result.now c.index-else-number-lt-FIRST.ensures in
    λ strength above below. here strength ∙ c.greatest_of.ensures.none strength above below
