use Rattle.std.proofs.Common.{◌<◌, ◌≤◌, ◌+◌, ◌≡◌, [], ◌∷◌, ◌++◌, true, false, Some, Option, List, length, sym, subst, ap, ◌∙◌, arith, length-append}
use Rattle.circuit.specs.declared.Pos.{Pos}
use Rattle.build.specs.Plan.{Plan, volume, place_of}
use Rattle.graph.specs.Graph.{Graph, Node, Nodes}
use Rattle.graph.specs.Stored.{plain}
use Rattle.graph.specs.RawNodes.{has_node, bare_node, bare_nodes, node_places}
use Rattle.node_finder.proofs.FoundNodes.{MadeBelow, made_no_more, made_one_more, made_all}
use Rattle.node_finder.proofs.find.Goals as goal
use Rattle.node_finder.proofs.find.Goals.{then-has_node+in_ok-add_node, else-has_node}

pub loop-cell-preserved : goal.loop-cell-preserved
loop-cell-preserved c =
    let b : Plan = c.args.build.now in
    let test = has_node b c.args.marks.now in
    let make = λ (p : Pos). Some (bare_node b c.args.marks.now p) in
    let inside : c.loop-cell.cell < volume b = omega (arith, c.cells-cell-end.ensures.count) in
    let here = c.has_node.ensures in
    let Next : Nodes → Type 0 = λ nodes. MadeBelow test make b nodes (c.loop-cell.cell + 1) in
    elim c.if-has_node.branch [
      | then-has_node+in_ok-add_node w ↦
          let is = ap (λ (g : Graph). g.nodes) w.graph-is ∙ w.in_ok-add_node.ensures.nodes in
          record {
            made = subst Next (sym is)
                (made_one_more test make b c.loop-cell.cell c.loop-cell.graph.nodes (Some (plain w.bare_node.result)) inside (sym here ∙ w.if-has_node.true) (ap Some w.bare_node.ensures.plain) c.loop-cell.invariant.made);
            few = omega (arith, ap length is, length-append c.loop-cell.graph.nodes (Some (plain w.bare_node.result) ∷ []), c.loop-cell.invariant.few);
          }
      | else-has_node w ↦
          let is = ap (λ (g : Graph). g.nodes) w.graph-is in
          record {
            made = subst Next (sym is) (made_no_more test make b c.loop-cell.cell c.loop-cell.graph.nodes inside (sym here ∙ w.if-has_node.false) c.loop-cell.invariant.made);
            few = omega (arith, ap length is, c.loop-cell.invariant.few);
          }
    ]

pub returns : goal.returns
unfolding bare_nodes node_places
returns c = made_all (has_node c.args.build.now c.args.marks.now) (λ (p : Pos). Some (bare_node c.args.build.now c.args.marks.now p)) c.args.build.now c.loop-cell.cell c.loop-cell.graph.nodes (omega (arith, c.cells-cell-end.ensures.count)) c.loop-cell.invariant.made
