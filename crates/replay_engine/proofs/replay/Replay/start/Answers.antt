use Rattle.std.specs.Vec.{with_items}
use Rattle.std.proofs.lemmas.List.{with_items_is}
use Rattle.std.proofs.Common.{length, ◌≡◌, ℕ, List, sym, ap, subst, ◌∙◌, arith, rules, slice_index}
use Rattle.std.proofs.lemmas.Grind.{common_steps}
use Rattle.circuit.specs.declared.Pos.{Pos}
use Rattle.circuit.specs.Circuit.{State, start}
use Rattle.build.specs.Plan.{Plan}
use Rattle.power_rules.specs.World.{world_circuit}
use Rattle.replay_engine.specs.Running.{AreStill, ArePowers}
use Rattle.replay_engine.proofs.Held.{state-seen}
use Rattle.replay_engine.proofs.replay.Replay.start.Goals as goal

pub invariant_of-result : goal.invariant_of-result
invariant_of-result c =
    let m = c.in_ok-things.things in
    let cells = c.begin.new.cells in
    let powers : (with_items c.in_ok-powers.powers c.begin.new.powers).items ≡ c.begin.new.powers =
    with_items_is c.in_ok-powers.powers c.begin.new.powers (c.begin.auto.powers ∙ ap (λ (ps : List ℕ). length ps) c.deref_mut.ensures.value ∙ sym c.in_ok-powers.powers.ok.0) in
    let time : cells.time ≡ 0 = ap (λ (s : State Pos). s.time) c.begin.ensures.start in
    record {
      numbered = c.count.ensures.numbered;
      shown = c.in_ok-places.ensures;
      playing = record {
        holding = c.begin.ensures.holding;
        powers_whole = ap (λ (ps : List ℕ). length ps) powers ∙ c.begin.auto.powers ∙ ap (λ (ps : List ℕ). length ps) c.deref_mut.ensures.value
            ∙ sym c.in_ok-powers.powers.ok.0 ∙ c.in_ok-powers.ensures.len ∙ c.count.ensures.count;
        solved = subst (λ (ps : List ℕ). ArePowers m cells.cells ps) (sym powers) c.begin.ensures.powers;
        made = c.in_ok-waves.ensures;
        idle = c.begin.ensures.idle;
      };
      still = subst (λ (ps : List ℕ). AreStill m cells.cells ps) (sym powers) c.begin.ensures.still;
      latest_whole = sym c.in_ok-latest.latest.ok.0 ∙ c.in_ok-latest.ensures.len ∙ c.count-2.ensures.count;
      past = λ n. (let z : slice_index c.in_ok-latest.latest.items n ≡ 0 = first_of (search rules, grind (arith, common_steps)) in omega (arith, z));
      early = omega (arith, time);
    }

pub returns-clause-start : goal.returns-clause-start
returns-clause-start c =
    let m = c.in_ok-things.things in
    state-seen m c.begin.new.cells.time c.begin.new.cells.cells c.in_ok-latest.latest.items
    ∙ c.begin.ensures.start
    ∙ ap (λ (b : Plan). start (world_circuit b m.marks)) c.in_ok-things.ensures.plan
    ∙ ap (λ (ps : List Pos). start (world_circuit c.args.build.now ps)) c.in_ok-things.ensures.marks
