use Rattle.std.proofs.Common.{◌≡◌, ℕ, List, ◌++◌, Option, ap, subst, ◌∙◌}
use Rattle.std.specs.List.{flat_map}
use Rattle.circuit.specs.declared.Pos.{Pos}
use Rattle.rp_io.specs.Causes.{WrotePrefix}
use Rattle.rp_io.proofs.Written.{prefix_more, prefix_after}
use Rattle.graph.specs.Graph.{Node}
use Rattle.graph.specs.Sound.{places_at}
use Rattle.report.specs.FireLine.{fire_line}
use Rattle.player.specs.Noted.{node_lines}
use Rattle.player.proofs.Going.{on_err_holds, on_err_then}
use Rattle.player.proofs.graph_play.put_node.Goals as goal

pub returns-in_err-put_fire-in-Some-clause-front : goal.returns-in_err-put_fire-in-Some-clause-front
returns-in_err-put_fire-in-Some-clause-front g c =
    let before = g.O.Sink.written c.args.out.now in
    let now = g.O.Sink.written c.put_fire.new.out in
    let lines = ap (λ (node : Option Node). flat_map fire_line (places_at node)) c.in-Some.ensures.value in
    on_err_holds c.from_residual.result _
    (subst (λ (bytes : List ℕ). WrotePrefix before now bytes) lines (prefix_more before now _ _ c.in_err-put_fire-in-Some.ensures.front))

pub returns-in_ok-put_fire-in-Some-clause-front : goal.returns-in_ok-put_fire-in-Some-clause-front
returns-in_ok-put_fire-in-Some-clause-front g c =
    let before = g.O.Sink.written c.args.out.now in
    let mid = g.O.Sink.written c.put_fire.new.out in
    let now = g.O.Sink.written c.put_fires.new.out in
    let pos = c.in-Some.node.now.pos in
    let lines = ap (λ (places : List Pos). fire_line pos ++ flat_map fire_line places) c.deref.ensures.value
    ∙ ap (λ (node : Option Node). flat_map fire_line (places_at node)) c.in-Some.ensures.value in
    on_err_then c.put_fires.result _ _
    (λ front. subst (λ (bytes : List ℕ). WrotePrefix before now bytes) lines (prefix_after before mid now (fire_line pos) (flat_map fire_line c.deref.result.now) c.in_ok-put_fire-in-Some.ensures.all front)) c.put_fires.ensures.front
