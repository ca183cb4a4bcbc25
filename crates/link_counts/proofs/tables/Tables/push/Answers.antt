use Rattle.std.proofs.Common.{◌∙◌, ap, sym, subst, List, ◌∷◌, ◌++◌, [], map}
use Rattle.link_counts.specs.declared.counts.Counts.{Counts}
use Rattle.link_counts.specs.declared.tables.Place.{Place}
use Rattle.link_counts.specs.Tabled.{IsTabled, counts_in}
use Rattle.link_counts.proofs.TableSteps.{tabled_more, pushed_tabled, pushed_counts}
use Rattle.link_counts.proofs.tables.Tables.push.Goals as goal

pub invariant_of-self-in_err-side : goal.invariant_of-self-in_err-side
invariant_of-self-in_err-side c =
    let t = c.self.inside in
    subst (IsTabled t.places.items) (sym c.in_err-side.ensures.same) (tabled_more t.places.items t.tables.items c.args.counts.back c.in_ok-back.back c.allot.new.tables.items c.self.invariant c.allot.ensures.wide c.in_ok-back.ensures.allotted)

pub invariant_of-self-in_err-push : goal.invariant_of-self-in_err-push
invariant_of-self-in_err-push c =
    let t = c.self.inside in
    let first = tabled_more t.places.items t.tables.items c.args.counts.back c.in_ok-back.back c.allot.new.tables.items c.self.invariant c.allot.ensures.wide c.in_ok-back.ensures.allotted in
    subst (λ (l : List Place). IsTabled l c.allot-2.new.tables.items) (sym c.in_err-push.ensures.items)
    (tabled_more t.places.items c.allot.new.tables.items c.args.counts.side c.in_ok-side.side c.allot-2.new.tables.items first c.allot-2.ensures.wide c.in_ok-side.ensures.allotted)

pub invariant_of-self-2 : goal.invariant_of-self-2
invariant_of-self-2 c =
    let t = c.self.inside in
    subst (λ (l : List Place). IsTabled l c.allot-2.new.tables.items) (sym c.in_ok-push.ensures.items)
    (pushed_tabled t.places.items t.tables.items c.allot.new.tables.items c.allot-2.new.tables.items c.args.counts c.in_ok-back.back c.in_ok-side.side c.self.invariant c.allot.ensures.wide c.allot-2.ensures.wide c.in_ok-back.ensures.allotted c.in_ok-side.ensures.allotted)

pub returns : goal.returns
returns c =
    let t = c.self.inside in
    ap (map (counts_in c.allot-2.new.tables.items)) c.in_ok-push.ensures.items
    ∙ pushed_counts t.places.items t.tables.items c.allot.new.tables.items c.allot-2.new.tables.items c.args.counts c.in_ok-back.back c.in_ok-side.side c.self.invariant c.allot.ensures.wide c.allot-2.ensures.wide c.in_ok-back.ensures.allotted c.in_ok-side.ensures.allotted
    ∙ ap (λ (l : List Counts). l ++ c.args.counts ∷ []) c.self.view_is
