use Rattle.std.specs.Prelude.{OnOk, ◌↔◌, ◌⊎◌}
use Rattle.std.specs.Vec.{with_items}
use Rattle.std.proofs.lemmas.List.{with_items_is}
use Rattle.std.proofs.Common.{◌≡◌, ℕ, List, length, cond, sym, ap, ◌∙◌, subst}
use Rattle.circuit.specs.declared.Pos.{Pos}
use Rattle.circuit.specs.Circuit.{State}
use Rattle.power_rules.specs.World.{world_circuit}
use Rattle.replay_engine.specs.Running.{Running, circuit_of, state_in, state_of, seen_as, HasFired, FiresOne, IsUnlawful}
use Rattle.replay_engine.specs.Things.{held}
use Rattle.build.specs.Place.{same_place}
use Rattle.replay_engine.proofs.Held.{state-seen}
use Rattle.replay_engine.proofs.Seen.{fired_seen, unlawful_seen, on_ok_then, on_err_both}
use Rattle.replay_engine.proofs.replay.Replay.fire.Goals as goal

pub returns-clause-fired : goal.returns-clause-fired
returns-clause-fired c =
    let w = c.self.inside in
    let m = w.things in
    let l = w.latest.items in
    let new = c.fire_at.new.cells in
    let first = subst (λ (s : State Pos). OnOk c.fire_at.result (FiresOne (circuit_of m) s (state_of m new) c.args.pos)) (sym (state-seen m w.cells.time w.cells.cells l)) c.fire_at.ensures.fired in
    let both = subst (λ (s : State Pos). OnOk c.fire_at.result (FiresOne (circuit_of m) (state_in (seen_as m w.cells.time w.cells.cells l)) s c.args.pos)) (sym (state-seen m new.time new.cells l)) first in
    subst (λ (r : Running). OnOk c.fire_at.result (FiresOne (world_circuit r.plan r.marks) (state_in r) (state_in (seen_as m new.time new.cells l)) c.args.pos)) c.self.view_is both

pub returns-clause-told : goal.returns-clause-told
returns-clause-told c =
    let w = c.self.inside in
    let m = w.things in
    let l = w.latest.items in
    let new = c.fire_at.new.cells in
    let next : (with_items w.latest c.fire_at.new.latest).items ≡ c.fire_at.new.latest =
    with_items_is w.latest c.fire_at.new.latest (c.fire_at.auto.latest ∙ ap (λ (xs : List ℕ). length xs) c.deref_mut-2.ensures.value ∙ sym w.latest.ok.0) in
    let seen = on_ok_then c.fire_at.result _ ((key : Pos) → HasFired (seen_as m new.time new.cells (with_items w.latest c.fire_at.new.latest).items) key ↔ (HasFired (seen_as m w.cells.time w.cells.cells l) key ⊎ (key ≡ c.args.pos)))
    (λ is. fired_seen m w.cells.time new.time w.cells.cells new.cells l (with_items w.latest c.fire_at.new.latest).items c.args.pos c.fire_at.ensures.time
    (λ q. ap (λ (xs : List ℕ). held m xs 0 q) next ∙ is q ∙ ap (λ (xs : List ℕ). cond (same_place q c.args.pos) w.cells.time (held m xs 0 q)) c.deref_mut-2.ensures.value))
    c.fire_at.ensures.latest in
    subst (λ (r : Running). OnOk c.fire_at.result ((key : Pos) → HasFired (seen_as m new.time new.cells (with_items w.latest c.fire_at.new.latest).items) key ↔ (HasFired r key ⊎ (key ≡ c.args.pos)))) c.self.view_is seen

pub returns-clause-refused : goal.returns-clause-refused
returns-clause-refused c = λ why told.
    let w = c.self.inside in
    let m = w.things in
    let h = w.cells in
    subst (λ (r : Running). IsUnlawful (world_circuit r.plan r.marks) (state_in r) (HasFired r c.args.pos) c.args.pos why) c.self.view_is
    (unlawful_seen m h.time h.cells w.latest.items c.args.pos why
    (subst (λ (xs : List ℕ). IsUnlawful (circuit_of m) (state_of m h) (held m xs 0 c.args.pos ≡ h.time) c.args.pos why) c.deref_mut-2.ensures.value (c.fire_at.ensures.refused why told)))

pub returns-clause-same : goal.returns-clause-same
returns-clause-same c =
    let w = c.self.inside in
    let m = w.things in
    let new = c.fire_at.new.cells in
    let next : (with_items w.latest c.fire_at.new.latest).items ≡ c.fire_at.new.latest =
    with_items_is w.latest c.fire_at.new.latest (c.fire_at.auto.latest ∙ ap (λ (xs : List ℕ). length xs) c.deref_mut-2.ensures.value ∙ sym w.latest.ok.0) in
    on_err_both c.fire_at.result (new ≡ w.cells) (c.fire_at.new.latest ≡ c.deref_mut-2.result.now) _
    (λ same same_latest.
    (λ i. seen_as m (same i).time (same i).cells ((next ∙ same_latest ∙ c.deref_mut-2.ensures.value) i)) ∙ c.self.view_is)
    c.fire_at.ensures.same c.fire_at.ensures.same_latest
