use Rattle.std.proofs.Common.{◌≡◌, ◌<◌, ◌≤◌, ◌+◌, ◌∷◌, ◌++◌, [], ℕ, ◌∙◌, ap, sym, subst, arith, refl, length, Option, Some, None}
use Rattle.std.proofs.lemmas.List.{length-append}
use Rattle.circuit.specs.Circuit.{State, IsDue}
use Rattle.graph.specs.Graph.{Nodes}
use Rattle.graph.specs.GraphCircuit.{graph_circuit}
use Rattle.graph_machine.specs.Outgoing.{reads_of}
use Rattle.graph_machine.specs.Playing.{held_state, FiresOne, FiresNone, MayFire, reads_by}
use Rattle.graph_machine.proofs.FireSteps.{none_now_all}
use Rattle.graph_machine.proofs.TickSteps.{firing_lowers, fired_more, fired_all}
use Rattle.graph_machine.proofs.events.fire_due.Goals as goal

none_of : {A : Type 0} (o : Option A) → ((x : A) → o ≡ Some x → ⊥) → o ≡ None
none_of None h = refl
none_of (Some x) h = absurd (h x refl)

pub push-requires : goal.push-requires
push-requires g c =
    let inv = c.loop-key.invariant in
    let one : FiresOne c.args.net.now.nodes (held_state c.loop-key.cells) (held_state c.fire_next.new.cells) c.in-Some.key =
    subst (λ (n : Nodes). FiresOne n (held_state c.loop-key.cells) (held_state c.fire_next.new.cells) c.in-Some.key) inv.nodes c.in-Some.ensures.state in
    let late : 0 < c.loop-key.cells.time = omega (arith, inv.time, c.requires.late) in
    omega (arith, inv.spare, firing_lowers c.args.net.now.nodes (held_state c.loop-key.cells) (held_state c.fire_next.new.cells) c.in-Some.key late one)

pub loop-key-smaller : goal.loop-key-smaller
loop-key-smaller g c =
    let inv = c.loop-key.invariant in
    let one : FiresOne c.args.net.now.nodes (held_state c.loop-key.cells) (held_state c.fire_next.new.cells) c.in-Some.key =
    subst (λ (n : Nodes). FiresOne n (held_state c.loop-key.cells) (held_state c.fire_next.new.cells) c.in-Some.key) inv.nodes c.in-Some.ensures.state in
    let late : 0 < c.loop-key.cells.time = omega (arith, inv.time, c.requires.late) in
    firing_lowers c.args.net.now.nodes (held_state c.loop-key.cells) (held_state c.fire_next.new.cells) c.in-Some.key late one

pub loop-key-preserved : goal.loop-key-preserved
loop-key-preserved g c =
    let inv = c.loop-key.invariant in
    let nodes = c.args.net.now.nodes in
    let one : FiresOne nodes (held_state c.loop-key.cells) (held_state c.fire_next.new.cells) c.in-Some.key =
    subst (λ (n : Nodes). FiresOne n (held_state c.loop-key.cells) (held_state c.fire_next.new.cells) c.in-Some.key) inv.nodes c.in-Some.ensures.state in
    let late : 0 < c.loop-key.cells.time = omega (arith, inv.time, c.requires.late) in
    let lowers = firing_lowers nodes (held_state c.loop-key.cells) (held_state c.fire_next.new.cells) c.in-Some.key late one in
    record {
      nodes = c.fire_next.ensures.nodes ∙ inv.nodes;
      time = ap (λ (s : State ℕ). s.time) one.after ∙ inv.time;
      playing = c.fire_next.ensures.playing;
      still = c.fire_next.ensures.still;
      screen = c.fire_next.ensures.screen;
      faced = c.fire_next.ensures.faced;
      keys = c.fire_next.ensures.keys ∙ inv.keys;
      fired = fired_more nodes (held_state c.args.cells.now) (held_state c.loop-key.cells) (held_state c.fire_next.new.cells) c.args.fired.now.keys c.loop-key.fired.keys c.push.new.self.keys
          c.args.steps.now c.loop-key.steps c.fire_next.new.steps c.in-Some.key inv.fired one (c.push.ensures.keys ∙ ap (λ (k : ℕ). c.loop-key.fired.keys ++ k ∷ []) c.new.ensures)
          (subst (λ (n : Nodes). c.fire_next.new.steps ≤ c.loop-key.steps + reads_of n c.in-Some.key) inv.nodes c.in-Some.ensures.read);
      spare = omega (arith, lowers, inv.spare, c.push.ensures.spare);
      room = c.push.ensures.room ∙ inv.room;
      few = omega (arith, lowers, inv.few, ap length c.push.ensures.keys, length-append c.loop-key.fired.keys (c.new.result ∷ []));
    }

pub returns-clause-fires : goal.returns-clause-fires
returns-clause-fires g c =
    let inv = c.loop-key.invariant in
    let nodes = c.args.net.now.nodes in
    let nothing : c.fire_next.result ≡ None = none_of c.fire_next.result c.in_default.not-Some in
    let none : FiresNone nodes (held_state c.loop-key.cells) (held_state c.fire_next.new.cells) =
    subst (λ (n : Nodes). FiresNone n (held_state c.loop-key.cells) (held_state c.fire_next.new.cells)) inv.nodes
    (subst (λ (o : Option ℕ). MayFire c.loop-key.net.nodes (held_state c.loop-key.cells) (held_state c.fire_next.new.cells) o) nothing c.fire_next.ensures.state) in
    let read = subst (λ (o : Option ℕ). c.fire_next.new.steps ≤ c.loop-key.steps + reads_by c.loop-key.net.nodes o) nothing c.fire_next.ensures.read in
    fired_all nodes (held_state c.args.cells.now) (held_state c.loop-key.cells) (held_state c.fire_next.new.cells) c.args.fired.now.keys c.loop-key.fired.keys c.args.steps.now c.loop-key.steps c.fire_next.new.steps inv.fired none read

pub returns-clause-none : goal.returns-clause-none
returns-clause-none g c =
    let inv = c.loop-key.invariant in
    let nothing : c.fire_next.result ≡ None = none_of c.fire_next.result c.in_default.not-Some in
    let none : FiresNone c.loop-key.net.nodes (held_state c.loop-key.cells) (held_state c.fire_next.new.cells) =
    subst (λ (o : Option ℕ). MayFire c.loop-key.net.nodes (held_state c.loop-key.cells) (held_state c.fire_next.new.cells) o) nothing c.fire_next.ensures.state in
    none_now_all c.fire_next.new.net c.fire_next.new.cells c.fire_next.ensures.playing
    (subst (λ (n : Nodes). (key : ℕ) → IsDue (graph_circuit n) (held_state c.fire_next.new.cells) key → ⊥) (sym c.fire_next.ensures.nodes)
    (subst (λ (s : State ℕ). (key : ℕ) → IsDue (graph_circuit c.loop-key.net.nodes) s key → ⊥) (sym none.same) none.none))
