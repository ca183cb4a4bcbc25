use Rattle.report.proofs.faults.push_script_refusal.Goals as goal

pub returns-in-Line-clause-text : goal.returns-in-Line-clause-text
returns-in-Line-clause-text c = rw (c.in-Line.is, ← c.script_kind_text.ensures.text) c.push_indexed.ensures.text
