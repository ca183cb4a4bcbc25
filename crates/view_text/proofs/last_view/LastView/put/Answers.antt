use Rattle.std.proofs.Common.{OnOk, OnErr, List, ℕ, ◌∙◌, refl, subst}
use Rattle.rp_io.specs.Causes.{Wrote, WrotePrefix}
use Rattle.view_text.proofs.Mending.{line_is}
use Rattle.view_text.proofs.last_view.LastView.put.Goals as goal

pub returns-clause-all : goal.returns-clause-all
returns-clause-all g c =
    subst (λ (bytes : List ℕ). OnOk c.put_line.result (Wrote (g.O.Sink.written c.args.out.now) (g.O.Sink.written c.put_line.new.out) bytes))
    (line_is c.args.time c.args.cause c.deref_mut-2.result.now c.freshen.new.line.items c.freshen.new.ends c.deref.result.now c.args.self.now c.deref_mut-2.ensures.value (c.freshen.ensures.fresh refl) (c.deref.ensures.value ∙ c.self.view_is))
    c.put_line.ensures.all

pub returns-clause-front : goal.returns-clause-front
returns-clause-front g c =
    subst (λ (bytes : List ℕ). OnErr c.put_line.result (WrotePrefix (g.O.Sink.written c.args.out.now) (g.O.Sink.written c.put_line.new.out) bytes))
    (line_is c.args.time c.args.cause c.deref_mut-2.result.now c.freshen.new.line.items c.freshen.new.ends c.deref.result.now c.args.self.now c.deref_mut-2.ensures.value (c.freshen.ensures.fresh refl) (c.deref.ensures.value ∙ c.self.view_is))
    c.put_line.ensures.front
