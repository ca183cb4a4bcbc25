-- What a compiled graph keeps of its build.
use Rattle.std.proofs.Common.{◌≡◌, subst, ℕ, true, false, List, [], ◌∷◌, refl, sym, ap, ◌∙◌, Option, Some, None, Err}
use Rattle.circuit.specs.declared.Act.{Act}
use Rattle.circuit.specs.declared.Act.TheVariants.{Click as ClickAct, Ticks as TicksAct}
use Rattle.circuit.specs.declared.Click.{Click}
use Rattle.circuit.specs.declared.Component.{Component}
use Rattle.circuit.specs.declared.Component.TheVariants.{Torch as TorchPart, Repeater as RepeaterPart, Comparator as ComparatorPart}
use Rattle.circuit.specs.declared.Pos.{Pos}
use Rattle.circuit.specs.Component.{takes}
use Rattle.circuit.specs.Shows.{Shows}
use Rattle.circuit.specs.Taken.{Takes, EachActTaken}
use Rattle.build.specs.Plan.{Plan, IsWhole}
use Rattle.graph.specs.declared.Kind.{Kind}
use Rattle.graph.specs.declared.Kind.TheVariants.{Torch, Repeater, Comparator, Constant}
use Rattle.graph.specs.Graph.{Node, Nodes, node_at}
use Rattle.graph.specs.GraphCircuit.{graph_circuit, role_of, role_at, place_at}
use Rattle.graph.specs.Refines.{Refines, is_outer}
use Rattle.graph.specs.Done.{Step}
use Rattle.graph.specs.Sound.{IsSound}
use Rattle.pass_frame.proofs.FrameSteps.{ran_sound, ran_refines}
use Rattle.power_rules.specs.World.{world_circuit, shows}
use Rattle.input_search.specs.Raw.{raw}
use Rattle.input_search.proofs.SoundRaw.{raw_sound}
use Rattle.input_search.proofs.RawWorld.{raw_matches, raw_refines}
use Rattle.compiler.specs.declared.Keep.{Keep}
use Rattle.compiler.specs.Compiled.{prunes, Compiled}
use Rattle.compiler.proofs.StepLaws.{step_sound, step_refines}

pub compiled_sound : (b : Plan) → IsWhole b → (marks : List Pos) (keep : Keep) (g : Nodes) → Compiled b marks keep g → IsSound g
compiled_sound b whole marks keep g c = ran_sound (Step (prunes keep)) (step_sound (prunes keep)) (raw b marks) g (Err (record {})) (raw_sound b whole marks) c.steps

compiled_refines : (b : Plan) → IsWhole b → (marks : List Pos) (keep : Keep) (g : Nodes) → Compiled b marks keep g → Refines (raw b marks) g
compiled_refines b whole marks keep g c =
    ran_refines (Step (prunes keep)) (step_sound (prunes keep)) (step_refines (prunes keep)) (raw b marks) g (Err (record {})) (raw_sound b whole marks) c.steps

-- All that it shows, the world shows.
pub compiled_shows : (b : Plan) → IsWhole b → (marks : List Pos) (keep : Keep) (g : Nodes) → Compiled b marks keep g →
    (acts : List Act) (views : List (List ℕ)) (events : ℕ) → Shows (graph_circuit g) acts views events → shows b marks acts views
compiled_shows b whole marks keep g c acts views events shown =
    let by_raw = (compiled_refines b whole marks keep g c).shows.shows acts views events shown in
    (raw_refines b whole marks).shows acts views by_raw.0 by_raw.1

-- ---- clicks

-- what takes a click is kept by every step
never : (part component : Component) (click : Click) → Some part ≡ Some component → takes component click ≡ true → takes part click ≡ false → ⊥
never part component click there taken none =
    let same : part ≡ component = cc in
    let clash : false ≡ true = sym none ∙ ap (λ (c : Component). takes c click) same ∙ taken in
    cc

outer_takes : (kind : Kind) (component : Component) (click : Click) → role_of kind ≡ Some component → takes component click ≡ true → is_outer kind ≡ true
outer_takes Torch component click there taken = absurd (never TorchPart component click there taken refl)
outer_takes (Repeater delay) component click there taken = absurd (never (RepeaterPart delay) component click there taken refl)
outer_takes (Comparator subtract direct far) component click there taken = absurd (never (ComparatorPart subtract) component click there taken refl)
outer_takes Constant component click there taken = absurd (cc)
outer_takes _ component click there taken = refl

takes_raw : (b : Plan) → IsWhole b → (marks : List Pos) (p : Pos) (click : Click) → Takes (world_circuit b marks) p click → Takes (graph_circuit (raw b marks)) p click
takes_raw b whole marks p click t =
    let m = raw_matches b marks whole in
    let found = m.covers t.key t.component t.there in
    record {
      key = found.0;
      component = t.component;
      there = m.role found.0 found.1 ∙ ap (world_circuit b marks).role found.2 ∙ t.there;
      place = found.2 ∙ t.place;
      taken = t.taken;
    }

-- The raw graph is sound, and takes each click that its build takes.
pub raw_is_sound : (b : Plan) → IsWhole b → (marks : List Pos) (g : Nodes) → g ≡ raw b marks → IsSound g
raw_is_sound b whole marks g is = subst IsSound (sym is) (raw_sound b whole marks)

pub raw_takes : (b : Plan) → IsWhole b → (marks : List Pos) (g : Nodes) → g ≡ raw b marks → (acts : List Act) → EachActTaken (world_circuit b marks) acts → EachActTaken (graph_circuit g) acts
raw_takes b whole marks g is [] taken = tt
raw_takes b whole marks g is (ClickAct pos click ∷ acts) taken =
    (subst (λ (nodes : Nodes). Takes (graph_circuit nodes) pos click) (sym is) (takes_raw b whole marks pos click taken.0), raw_takes b whole marks g is acts taken.1)
raw_takes b whole marks g is (TicksAct n ∷ acts) taken = raw_takes b whole marks g is acts taken

takes_kept : (old new : Nodes) → Refines old new → (p : Pos) (click : Click) → Takes (graph_circuit old) p click → Takes (graph_circuit new) p click
takes_kept old new r p click t = by_node (node_at old t.key) refl t.there t.place
  where
    by_node : (entry : Option Node) → node_at old t.key ≡ entry → role_at entry ≡ Some t.component → place_at entry ≡ p → Takes (graph_circuit new) p click
    by_node None e there place = absurd (cc)
    by_node (Some node) e there place =
        let stands = r.kept p node.kind (outer_takes node.kind t.component click there t.taken) (record { key = t.key; node = node; there = e; holds = (place, refl) }) in
        record {
          key = stands.key;
          component = t.component;
          there = ap role_at stands.there ∙ ap role_of stands.holds.1 ∙ there;
          place = ap place_at stands.there ∙ stands.holds.0;
          taken = t.taken;
        }

-- It takes each click that its build takes.
pub compiled_takes : (b : Plan) → IsWhole b → (marks : List Pos) (keep : Keep) (g : Nodes) → Compiled b marks keep g → (acts : List Act) → EachActTaken (world_circuit b marks) acts → EachActTaken (graph_circuit g) acts
compiled_takes b whole marks keep g c [] taken = tt
compiled_takes b whole marks keep g c (ClickAct pos click ∷ acts) taken =
    (takes_kept (raw b marks) g (compiled_refines b whole marks keep g c) pos click (takes_raw b whole marks pos click taken.0), compiled_takes b whole marks keep g c acts taken.1)
compiled_takes b whole marks keep g c (TicksAct n ∷ acts) taken = compiled_takes b whole marks keep g c acts taken
