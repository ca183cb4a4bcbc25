use Rattle.report.proofs.faults.push_build_refusal.Goals as goal

pub returns-in-Version-clause-text : goal.returns-in-Version-clause-text
returns-in-Version-clause-text c = rw c.in-Version.is c.push-in-Version.ensures

pub returns-in-WrongKind-clause-text : goal.returns-in-WrongKind-clause-text
returns-in-WrongKind-clause-text c = rw (c.in-WrongKind.is, ← c.field_text-in-WrongKind.ensures.text) c.push_words-in-WrongKind.ensures
