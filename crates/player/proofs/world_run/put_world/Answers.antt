use Rattle.std.proofs.Common.{◌≡◌, List, refl, ap, ◌∙◌}
use Rattle.circuit.specs.declared.Pos.{Pos}
use Rattle.world_engine.specs.Running.{state_in}
use Rattle.player.specs.Played.{header_of}
use Rattle.player.proofs.Going.{on_ok_then, on_err_then}
use Rattle.player.proofs.WorldRuns.{run_of_world, part_of_world, script_taken}
use Rattle.player.proofs.world_run.put_world.Goals as goal

pub put_run-requires-clause-taken : goal.put_run-requires-clause-taken
put_run-requires-clause-taken g c = script_taken c.args.play.now.world.plan c.args.script.now c.args.play.now.world.marks c.requires.script

pub returns-clause-done : goal.returns-clause-done
returns-clause-done g c =
    let world = c.args.play.now.world in
    let header : c.args.header.now ≡ header_of world.plan c.args.script.now.marks = c.requires.header ∙ ap (λ (marks : List Pos). header_of world.plan marks) c.requires.marks in
    on_ok_then c.put_run.result _ _
    (run_of_world world.plan c.args.script.now (g.O.Sink.written c.args.out.now) (g.O.Sink.written c.put_run.new.out) world c.args.header.now refl c.requires.marks header 0 0 (state_in c.put_run.new.player.world))
    c.put_run.ensures.done

pub returns-clause-front : goal.returns-clause-front
returns-clause-front g c =
    let world = c.args.play.now.world in
    let header : c.args.header.now ≡ header_of world.plan c.args.script.now.marks = c.requires.header ∙ ap (λ (marks : List Pos). header_of world.plan marks) c.requires.marks in
    on_err_then c.put_run.result _ _
    (part_of_world world.plan c.args.script.now (g.O.Sink.written c.args.out.now) (g.O.Sink.written c.put_run.new.out) world c.args.header.now refl c.requires.marks header 0 0)
    c.put_run.ensures.front
