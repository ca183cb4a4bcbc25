use Rattle.std.proofs.Common.{Err, ◌≤◌, ℕ, Bool, List, length, sym, ap, ap₂, subst, ◌∙◌}
use Rattle.circuit.specs.declared.Click.{Click}
use Rattle.circuit.specs.declared.Pos.{Pos}
use Rattle.script.specs.Scripts.{script_of, Refuses}
use Rattle.redpile_top.specs.Files.{graph_tests}
use Rattle.redpile_top.specs.Ends.{IsGraphOf}
use Rattle.redpile_top.proofs.Tellings.{script_told, read_later, longer_later, within_read, good_graph}
use Rattle.redpile_top.proofs.top.accepted_graph.Goals as goal

pub returns-in-Err-TooLong-read_whole-clause-cause : goal.returns-in-Err-TooLong-read_whole-clause-cause
returns-in-Err-TooLong-read_whole-clause-cause g c =
    let told = g.I.Inputs.file c.args.inputs.now c.args.graph.now in
    let graph = c.in-Ok-from_bytes.graph.nodes in
    record {
      target = graph;
      good = good_graph told c.deref.result.now graph (λ bytes is. c.deref.ensures.value ∙ c.in-Ok.ensures.whole bytes is) (subst (λ (bs : List ℕ). length bs ≤ 268435456) (sym c.deref.ensures.value) c.in-Ok.ensures.within) c.in-Ok-from_bytes.ensures.ok;
      holds = longer_later c.args.script.now (g.I.Inputs.file c.read_whole.new.inputs) (g.I.Inputs.file c.args.inputs.now) 1048576 c.in-Ok.ensures.files (c.in-Err-TooLong-read_whole.ensures.long (ap Err c.in-Err-TooLong-read_whole.field-0-is));
    }

pub returns-clause-cause : goal.returns-clause-cause
returns-clause-cause g c =
    let told = g.I.Inputs.file c.args.inputs.now c.args.graph.now in
    let s = g.I.Inputs.file c.args.inputs.now c.args.script.now in
    let graph = c.in-Ok-from_bytes.graph.nodes in
    let same = read_later c.args.script.now (g.I.Inputs.file c.read_whole.new.inputs) (g.I.Inputs.file c.args.inputs.now) c.in-Ok-read_whole.text.items c.in-Ok.ensures.files c.in-Ok-read_whole.ensures.whole in
    script_told (IsGraphOf told) graph_tests s graph c.deref-2.result.now c.in-Err-read_script_on.refusal
    (good_graph told c.deref.result.now graph (λ bytes is. c.deref.ensures.value ∙ c.in-Ok.ensures.whole bytes is) (subst (λ (bs : List ℕ). length bs ≤ 268435456) (sym c.deref.ensures.value) c.in-Ok.ensures.within) c.in-Ok-from_bytes.ensures.ok)
    (λ bytes is. c.deref-2.ensures.value ∙ same bytes is) (within_read s c.in-Ok-read_whole.text.items 1048576 c.in-Ok-read_whole.ensures.within same) (subst (λ read. Refuses read c.in-Err-read_script_on.refusal) (ap₂ (λ (takes : Pos → Click → Bool) (wire : Pos → Bool). script_of takes wire c.deref-2.result.now) c.in-Ok-new.ensures.takes c.in-Ok-new.ensures.wire) c.in-Err-read_script_on.ensures.refused)
