use Rattle.std.proofs.Common.{Err, ◌≤◌, ℕ, List, length, sym, ap, subst, ◌∙◌}
use Rattle.redpile_top.specs.Files.{tests_of}
use Rattle.redpile_top.specs.Ends.{IsBuildOf}
use Rattle.redpile_top.proofs.Tellings.{build_told, script_told, read_later, longer_later, within_read, good_build}
use Rattle.redpile_top.proofs.top.accepted.Goals as goal

pub returns-in-Err-clause-cause : goal.returns-in-Err-clause-cause
returns-in-Err-clause-cause g c =
    let b = g.I.Inputs.file c.args.inputs.now c.args.build.now in
    build_told b c.deref.result.now _ (λ bytes is. c.deref.ensures.value ∙ c.in-Ok.ensures.whole bytes is) (within_read b c.in-Ok.bytes.items 67108864 c.in-Ok.ensures.within c.in-Ok.ensures.whole) c.in-Err.ensures.err

pub returns-in-Err-TooLong-read_whole-clause-cause : goal.returns-in-Err-TooLong-read_whole-clause-cause
returns-in-Err-TooLong-read_whole-clause-cause g c =
    let b = g.I.Inputs.file c.args.inputs.now c.args.build.now in
    let build = c.in-Ok-read_build.build in
    record {
      target = build;
      good = good_build b c.deref.result.now build (λ bytes is. c.deref.ensures.value ∙ c.in-Ok.ensures.whole bytes is) (subst (λ (bs : List ℕ). length bs ≤ 67108864) (sym c.deref.ensures.value) c.in-Ok.ensures.within) c.in-Ok-read_build.ensures.ok;
      holds = longer_later c.args.script.now (g.I.Inputs.file c.read_whole.new.inputs) (g.I.Inputs.file c.args.inputs.now) 1048576 c.in-Ok.ensures.files (c.in-Err-TooLong-read_whole.ensures.long (ap Err c.in-Err-TooLong-read_whole.field-0-is));
    }

pub returns-clause-cause : goal.returns-clause-cause
returns-clause-cause g c =
    let b = g.I.Inputs.file c.args.inputs.now c.args.build.now in
    let s = g.I.Inputs.file c.args.inputs.now c.args.script.now in
    let build = c.in-Ok-read_build.build in
    let same = read_later c.args.script.now (g.I.Inputs.file c.read_whole.new.inputs) (g.I.Inputs.file c.args.inputs.now) c.in-Ok-read_whole.bytes.items c.in-Ok.ensures.files c.in-Ok-read_whole.ensures.whole in
    script_told (IsBuildOf b) tests_of s build c.deref-2.result.now c.in-Err-read_script.refusal
    (good_build b c.deref.result.now build (λ bytes is. c.deref.ensures.value ∙ c.in-Ok.ensures.whole bytes is) (subst (λ (bs : List ℕ). length bs ≤ 67108864) (sym c.deref.ensures.value) c.in-Ok.ensures.within) c.in-Ok-read_build.ensures.ok)
    (λ bytes is. c.deref-2.ensures.value ∙ same bytes is) (within_read s c.in-Ok-read_whole.bytes.items 1048576 c.in-Ok-read_whole.ensures.within same) c.in-Err-read_script.ensures.refused
