use Rattle.std.proofs.Common.{◌≡◌, List, ◌++◌, ℕ, ap, ◌∙◌, subst}
use Rattle.compiler.proofs.CompiledLaws.{compiled_sound}
use Rattle.compiler.specs.Compiled.{Compiled}
use Rattle.compiler.specs.declared.Keep.TheVariants.{Prune}
use Rattle.build.specs.declared.OutPlace.{OutPlace}
use Rattle.build.specs.Outputs.{outputs}
use Rattle.generator.specs.Made.{made_build, made_script}
use Rattle.report.specs.BenchText.{bench_text}
use Rattle.report.specs.RoomyText.{RoomyText}
use Rattle.player.specs.Played.{last_view}
use Rattle.redpile_top.proofs.Compiling.{graph_takes, summary_of}
use Rattle.redpile_top.proofs.commands.summary.Goals as goal

pub play_silently-requires-clause-sound : goal.play_silently-requires-clause-sound
play_silently-requires-clause-sound g c = compiled_sound c.in_ok-build.build c.in_ok-build.ensures.whole c.in_ok-build.script.marks Prune c.in_ok-graph.graph.nodes
    (subst (λ (marks : List _). Compiled c.in_ok-build.build marks Prune c.in_ok-graph.graph.nodes) c.marks.ensures c.in_ok-graph.ensures)

pub play_silently-requires-clause-taken : goal.play_silently-requires-clause-taken
play_silently-requires-clause-taken g c = graph_takes c.in_ok-build.build c.in_ok-build.ensures.whole c.in_ok-build.script Prune c.in_ok-graph.graph.nodes
    (subst (λ (marks : List _). Compiled c.in_ok-build.build marks Prune c.in_ok-graph.graph.nodes) c.marks.ensures c.in_ok-graph.ensures) c.in_ok-build.ensures.fit

pub returns : goal.returns
returns g c =
    let b = c.in_ok-build.build in
    let script = c.in_ok-build.script in
    let nodes = c.in_ok-graph.graph.nodes in
    let compiled = subst (λ (marks : List _). Compiled b marks Prune nodes) c.marks.ensures c.in_ok-graph.ensures in
    let build : b ≡ made_build c.args.units = c.in_ok-build.ensures.build in
    let is_script : script ≡ made_script c.args.units = c.in_ok-build.ensures.script in
    let is_places : c.deref.result.now ≡ outputs b script.marks = c.deref.ensures.value ∙ c.in_ok-places.ensures ∙ ap (outputs b) c.marks-2.ensures in
    let ran = c.in_ok-end.ensures.ran in
    let values : c.deref-2.result.now ≡ last_view ran.views = c.deref-2.ensures.value ∙ ran.values in
    let counts = c.in_ok-end.end.counts in
    let units = c.args.units in
    let written = bench_text units c.deref.result.now c.deref-2.result.now counts in
    let bytes = c.push_summary.ensures.bytes ∙ ap (λ (line : RoomyText). line.bytes ++ written) c.in_ok-line.ensures in
    summary_of units b script build is_script c.in_ok-build.ensures.whole nodes compiled ran.views counts ran.run _
    (bytes ∙ ap (λ (places : List OutPlace). bench_text units places c.deref-2.result.now counts) is_places ∙ ap (λ (shown : List ℕ). bench_text units (outputs b script.marks) shown counts) values)
