use Rattle.std.proofs.Common.{◌≡◌, ◌+◌, ◌*◌, ◌++◌, ℕ, List, length, ◌∙◌, ap, arith}
use Rattle.circuit.specs.declared.Pos.{Pos}
use Rattle.circuit.specs.Circuit.{start}
use Rattle.build.specs.declared.OutPlace.{OutPlace}
use Rattle.build.specs.Outputs.{outputs}
use Rattle.power_rules.specs.World.{world_circuit}
use Rattle.report.specs.Header.{header}
use Rattle.report.specs.RoomyText.{RoomyText}
use Rattle.world_order.proofs.Playing.{ready}
use Rattle.world_order.proofs.checking.take_memory.Goals as goal

pub returns-clause-ready : goal.returns-clause-ready
returns-clause-ready c =
    let b = c.args.build.now in
    let marks = c.args.script.now.marks in
    let places = c.in_ok-places.places.items in
    let two = c.marks-2.ensures in
    ready b c.cells.ensures.whole marks c.in_ok-replay.replay places c.push_header.new.out.items c.in_ok-values.values.items c.in_ok-line.line
    c.in_ok-replay.ensures.plan (c.in_ok-replay.ensures.marks ∙ two) (c.in_ok-replay.ensures.start ∙ ap (λ (ms : List Pos). start (world_circuit b ms)) two)
    (c.in_ok-places.ensures ∙ ap (λ (ms : List Pos). outputs b ms) c.marks.ensures)
    (c.in_ok-push_header.ensures.ok ∙ ap (λ (xs : List ℕ). xs ++ header c.deref.result.now) c.new-header.ensures.items ∙ ap (λ (os : List OutPlace). header os) c.deref.ensures.value)
    (let long : length c.in_ok-values.values.items ≡ length places = omega (arith, c.in_ok-values.ensures.len, c.len.ensures) in long)
    (let room : c.in_ok-line.line.room ≡ 32 + 3 * length places = omega (arith, ap (λ (l : RoomyText). l.room) c.in_ok-line.ensures, c.len-2.ensures) in room)
