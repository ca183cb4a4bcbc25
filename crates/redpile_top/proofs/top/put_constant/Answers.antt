use Rattle.std.proofs.Common.{◌≡◌, refl, sym, ap, subst, ◌∙◌, codes}
use Rattle.std.specs.Prelude.{OnOk}
use Rattle.rp_io.specs.Causes.{Wrote}
use Rattle.report.specs.declared.Fault.TheVariants.{Usage, Memory}
use Rattle.report.specs.FaultLine.{fault_line}
use Rattle.redpile_top.proofs.top.put_constant.Goals as goal

usage_text : codes "redpile: usage\n" ≡ fault_line Usage
unfolding fault_line
usage_text = refl

memory_text : codes "redpile: out of memory\n" ≡ fault_line Memory
unfolding fault_line
memory_text = refl

pub returns-in-Usage-clause-all : goal.returns-in-Usage-clause-all
returns-in-Usage-clause-all g c =
    subst (λ text. OnOk c.put_all.result (Wrote (g.E.Sink.written c.args.err.now) (g.E.Sink.written c.put_all.new.sink) text)) (usage_text ∙ sym (ap fault_line c.in-Usage.is)) c.put_all.ensures.all

pub returns-in-Memory-clause-all : goal.returns-in-Memory-clause-all
returns-in-Memory-clause-all g c =
    subst (λ text. OnOk c.put_all-in-Memory.result (Wrote (g.E.Sink.written c.args.err.now) (g.E.Sink.written c.put_all-in-Memory.new.sink) text)) (memory_text ∙ sym (ap fault_line c.in-Memory.is)) c.put_all-in-Memory.ensures.all
