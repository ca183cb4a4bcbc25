-- One pair more is tried, in the end all: a twin is among those that are tried.
use Rattle.std.proofs.Common.{ℕ, ◌+◌, List, refl, sym, ◌∙◌, subst}
use Rattle.std.specs.List.Sorted.{IsNonDecreasing}
use Rattle.circuit.specs.Circuit.{Among}
use Rattle.graph.specs.Steps.{Coalesces}
use Rattle.pass_frame.specs.Frame.{Stays}
use Rattle.pass_frame.proofs.Sweeps.{took_reaches}
use Rattle.coalesce.proofs.SweepSteps.{Own, own_first, own_next, goes_next}
use Rattle.coalesce.proofs.TriedSteps.{twins_err, took_pair, pair_reached, left_first, left_next, twins_wait, lookless, twin_member, few_still, stands_above}
use Rattle.coalesce.proofs.sweep.take_twins.Goals as goal

pub returns-in_default-clause-wait : goal.returns-in_default-clause-wait
returns-in_default-clause-wait c = lookless c.args.graph.now.nodes c.args.waiting.now.numbers c.args.keep (sym c.look_of.ensures ∙ c.in_default.is) c.requires.wait

pub returns-in_err-later-clause-tried : goal.returns-in_err-later-clause-tried
returns-in_err-later-clause-tried c = twins_err c.args.graph.now.nodes c.args.graph.now.nodes c.from_residual.result c.from_residual.ensures.0 Stays

pub loop-gone-init : goal.loop-gone-init
loop-gone-init c = record { known = c.requires.known; took = refl; left = left_first c.args.graph.now.nodes c.args.waiting.now.numbers c.args.keep c.deref-gone-items.result.now c.requires.wait; own = own_first c.args.graph.now.nodes c.args.keep c.deref-gone-items.result.now; goes = λ end s. s }

pub take_pair-requires-clause-earlier : goal.take_pair-requires-clause-earlier
take_pair-requires-clause-earlier c = stands_above c.args.keep c.in_ok-later.later.items c.deref-gone-items.result.now c.loop-gone.gone-index c.gone-item.result c.deref-gone-items.ensures.value c.in_ok-later.ensures.above c.loop-gone-test.true c.gone-item.is

pub returns-in_err-took-clause-tried : goal.returns-in_err-took-clause-tried
returns-in_err-took-clause-tried c =
    twins_err c.args.graph.now.nodes c.take_pair.new.graph.nodes c.from_residual-in_err-took.result c.from_residual-in_err-took.ensures.0
    (pair_reached c.args.keep c.gone-item.result c.args.graph.now.nodes c.loop-gone.graph.nodes c.take_pair.new.graph.nodes c.loop-gone.took c.take_pair.result (stands_above c.args.keep c.in_ok-later.later.items c.deref-gone-items.result.now c.loop-gone.gone-index c.gone-item.result c.deref-gone-items.ensures.value c.in_ok-later.ensures.above c.loop-gone-test.true c.gone-item.is) c.loop-gone.invariant.took
    c.take_pair.ensures.tried)

pub loop-gone-preserved : goal.loop-gone-preserved
loop-gone-preserved c =
    let own : Own c.args.graph.now.nodes c.take_pair.new.graph.nodes c.args.keep c.deref-gone-items.result.now (c.loop-gone.gone-index + 1) =
    own_next c.args.graph.now.nodes c.loop-gone.graph.nodes c.take_pair.new.graph.nodes c.args.keep c.in_ok-took.field-0 c.deref-gone-items.result.now c.loop-gone.gone-index c.gone-item.result c.loop-gone-test.true c.gone-item.is
    c.in_ok-took.ensures.tried c.loop-gone.invariant.own in record {
      known = c.in_ok-took.ensures.known;
      took = took_pair c.args.keep c.gone-item.result c.args.graph.now.nodes c.loop-gone.graph.nodes c.take_pair.new.graph.nodes c.loop-gone.took c.in_ok-took.field-0 (stands_above c.args.keep c.in_ok-later.later.items c.deref-gone-items.result.now c.loop-gone.gone-index c.gone-item.result c.deref-gone-items.ensures.value c.in_ok-later.ensures.above c.loop-gone-test.true c.gone-item.is) c.loop-gone.invariant.took
          c.in_ok-took.ensures.tried;
      left = left_next c.args.graph.now.nodes c.loop-gone.graph.nodes c.take_pair.new.graph.nodes c.args.waiting.now.numbers c.args.keep c.loop-gone.took c.in_ok-took.field-0 c.deref-gone-items.result.now c.loop-gone.gone-index
          c.gone-item.result c.loop-gone-test.true c.gone-item.is c.in_ok-took.ensures.tried c.loop-gone.invariant.left;
      own = own;
      goes = goes_next c.args.graph.now.nodes c.loop-gone.graph.nodes c.take_pair.new.graph.nodes c.args.keep c.in_ok-took.field-0 c.deref-gone-items.result.now c.loop-gone.gone-index c.gone-item.result c.loop-gone-test.true c.gone-item.is
          (stands_above c.args.keep c.in_ok-later.later.items c.deref-gone-items.result.now c.loop-gone.gone-index c.gone-item.result c.deref-gone-items.ensures.value c.in_ok-later.ensures.above c.loop-gone-test.true c.gone-item.is)
          (subst IsNonDecreasing (sym c.deref-gone-items.ensures.value) c.in_ok-later.ensures.rise)
          (λ b less twins. subst (λ (xs : List ℕ). Among xs b) (sym c.deref-gone-items.ensures.value)
          (c.in_ok-later.ensures.all b less (twin_member c.args.graph.now.nodes c.args.keep b c.in-Some.look c.args.known.now.fans.lists.items c.args.known.now.groups.lists c.requires.known (sym c.look_of.ensures ∙ c.in-Some.is) twins)))
          c.in_ok-took.ensures.tried c.loop-gone.invariant.own own c.loop-gone.invariant.goes;
    }

pub add_readers-requires : goal.add_readers-requires
add_readers-requires c = few_still c.args.graph.now.nodes c.loop-gone.graph.nodes c.args.waiting.now.numbers (took_reaches Coalesces c.args.graph.now.nodes c.loop-gone.graph.nodes c.loop-gone.took c.loop-gone.invariant.took) c.requires.few

pub returns-in_err-add_readers-clause-tried : goal.returns-in_err-add_readers-clause-tried
returns-in_err-add_readers-clause-tried c =
    twins_err c.args.graph.now.nodes c.loop-gone.graph.nodes c.from_residual-in_err-add_readers.result c.from_residual-in_err-add_readers.ensures.0
    (took_reaches Coalesces c.args.graph.now.nodes c.loop-gone.graph.nodes c.loop-gone.took c.loop-gone.invariant.took)

pub returns-clause-wait : goal.returns-clause-wait
returns-clause-wait c =
    twins_wait c.args.graph.now.nodes c.loop-gone.graph.nodes c.args.waiting.now.numbers c.add_readers.new.waiting.numbers c.args.keep c.loop-gone.took c.deref-gone-items.result.now c.loop-gone.gone-index
    c.loop-gone.known.fans.lists.items c.loop-gone.known.groups.lists c.loop-gone.invariant.left c.loop-gone-test.false
    (λ b less twins. subst (λ (xs : List ℕ). Among xs b) (sym c.deref-gone-items.ensures.value)
    (c.in_ok-later.ensures.all b less (twin_member c.args.graph.now.nodes c.args.keep b c.in-Some.look c.args.known.now.fans.lists.items c.args.known.now.groups.lists c.requires.known (sym c.look_of.ensures ∙ c.in-Some.is) twins)))
    c.loop-gone.invariant.known c.in_ok-add_readers.ensures.keeps
    (λ took key look a e. c.in_ok-add_readers.ensures.all took key look (subst (λ (xs : List ℕ). Among xs key) (sym c.targets-readers.ensures) a) e)

pub returns-clause-sweep : goal.returns-clause-sweep
returns-clause-sweep c = c.loop-gone.invariant.goes
