use Rattle.report.proofs.faults.push_graph_refusal.Goals as goal

pub returns-in-Link-clause-text : goal.returns-in-Link-clause-text
returns-in-Link-clause-text c = rw (c.in-Link.is, ← c.graph_kind_text-in-Link.ensures.text) c.push_indexed-in-Link.ensures.text
