-- A build that is saved at the end of a run.
use Rattle.std.proofs.Common.{◌≡◌, ℕ, List, Result, Ok, Err, IfOk, sym, ap, subst, ◌∙◌}
use Rattle.circuit.specs.Circuit.{State}
use Rattle.circuit.specs.Shows.{Plays}
use Rattle.build.specs.Plan.{Plan, IsWhole}
use Rattle.graph.specs.Graph.{Nodes}
use Rattle.graph.specs.GraphCircuit.{graph_circuit}
use Rattle.power_rules.specs.StandsFor.{StandsFor}
use Rattle.compiler.specs.declared.Keep.TheVariants.{All}
use Rattle.compiler.specs.Compiled.{Compiled}
use Rattle.compiler.proofs.SavedLaws.{saved_run}
use Rattle.report.specs.declared.Counts.{Counts}
use Rattle.script.specs.Acts.{Meaning}
use Rattle.handover.specs.Ended.{IsPlayed}
use Rattle.handover.specs.GivenBack.{given_back}
use Rattle.handover.proofs.Saved.{given_saved}
use Rattle.player.specs.Played.{RanGraph}
use Rattle.redpile_top.specs.Written.{SavesRun}

-- a run of the graph ended where its machine stands
pub ran_is_played : (script : Meaning) (g : Nodes) (counts : Counts) (seen : List ℕ) (last : State ℕ) (reads_before reads_after : ℕ) → RanGraph g script.acts counts seen last reads_before reads_after → IsPlayed g last
ran_is_played script g counts seen last reads_before reads_after ran = record {
  acts = script.acts;
  order = ran.run.shown.order;
  views = ran.views;
  plays = subst (Plays (graph_circuit g) script.acts ran.run.shown.order ran.views) ran.ends ran.run.shown.plays;
}

-- what is given back of it is saved
saves : (b : Plan) → IsWhole b → (script : Meaning) (g : Nodes) → Compiled b script.marks All g → (counts : Counts) (seen : List ℕ) (last : State ℕ) (reads_before reads_after : ℕ) →
    RanGraph g script.acts counts seen last reads_before reads_after → (after : Plan) → after ≡ given_back b g last → SavesRun b script after
saves b whole script g compiled counts seen last reads_before reads_after ran after is =
    let shown = ran.run.shown in
    let given : after ≡ given_back b g shown.last = is ∙ ap (given_back b g) (sym ran.ends) in
    let played : IsPlayed g shown.last = record { acts = script.acts; order = shown.order; views = ran.views; plays = shown.plays } in
    let by_world = saved_run b (given_back b g shown.last) whole script.marks g compiled script.acts shown.order ran.views shown.last shown.plays (given_saved b whole script.marks g compiled shown.last played) in
    record {
      graph = g;
      views = ran.views;
      counts = counts;
      compiled = compiled;
      run = ran.run;
      end = by_world.0;
      plays = by_world.1;
      stands_for = subst (StandsFor b by_world.0) (sym given) by_world.2;
      given = given;
    }

pub saves_run : {E : Type 0} (b : Plan) → IsWhole b → (script : Meaning) (g : Nodes) → Compiled b script.marks All g → (counts : Counts) (seen : List ℕ) (last : State ℕ) (reads_before reads_after : ℕ) →
    RanGraph g script.acts counts seen last reads_before reads_after → (found : Result Plan E) → IfOk found (λ after. after ≡ given_back b g last) → IfOk found (λ after. SavesRun b script after)
saves_run b whole script g compiled counts seen last reads_before reads_after ran (Ok after) is = saves b whole script g compiled counts seen last reads_before reads_after ran after is
saves_run b whole script g compiled counts seen last reads_before reads_after ran (Err e) is = tt
