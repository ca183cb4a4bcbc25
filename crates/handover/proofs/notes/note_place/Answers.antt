use Rattle.std.proofs.Common.{◌<◌, length, sym, ◌∙◌, arith}
use Rattle.handover.proofs.Noted.{noted_here, noted_nowhere, timely_more}
use Rattle.handover.proofs.notes.note_place.Goals as goal

pub returns-in-Some : goal.returns-in-Some
returns-in-Some c =
    let low : c.in-Some.cell < length c.args.held.now = omega (arith, c.in-Some.ensures.below, c.requires.whole) in
    record {
      notes = noted_here c.args.build.now c.args.pos c.in-Some.cell c.args.state c.args.held.now c.requires.whole low (sym c.cell.ensures.found ∙ c.in-Some.is);
      timely = timely_more c.in-Some.cell c.args.state c.args.held.now low c.requires.timely c.requires.all_timely;
    }

pub returns-in_default-clause-notes : goal.returns-in_default-clause-notes
returns-in_default-clause-notes c = noted_nowhere c.args.build.now c.args.pos c.args.state c.args.held.now (sym c.cell.ensures.found ∙ c.in_default.is)
