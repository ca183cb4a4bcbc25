-- Where the steps of a new circuit keep a relation to states of an old one, all that the new one shows, the old one shows.
use Rattle.std.proofs.Common.{◌≡◌, ℕ, ◌+◌, List, [], ◌∷◌, map, refl, ap, ◌∙◌}
use Rattle.circuit.specs.declared.Pos.{Pos}
use Rattle.circuit.specs.declared.Act.{Act}
use Rattle.circuit.specs.declared.Click.{Click}
use Rattle.circuit.specs.Circuit.{Circuit, State, start, view, Clicks, Ticks}
use Rattle.circuit.specs.declared.Step.{Step}
use Rattle.circuit.specs.Shows.{Run, Ended, Clicked, Ticked, Plays, Refines, RefinesBy, clicks_in, fires_in}

-- A relation of states, new then old, that holds at the start, that each step of the new circuit keeps by a step of the old, and in which views are equal.
pub record Simulates {K J : Type 0} (old : Circuit K) (new : Circuit J) (T : State J → State K → Type 0) : Type 0 where
  pub begins : T (start new) (start old)
  pub views : (s2 : State J) (s1 : State K) → T s2 s1 → view new s2 ≡ view old s1
  pub clicks : (pos : Pos) (click : Click) (s2 : State J) (s1 : State K) (t2 : State J) → T s2 s1 → Clicks new pos click s2 t2 →
      (t1 : State K) × Clicks old pos click s1 t1 × T t2 t1
  pub ticks : (fires : List J) (s2 : State J) (s1 : State K) (t2 : State J) → T s2 s1 → Ticks new fires s2 t2 →
      (fires1 : List K) × (t1 : State K) × Ticks old fires1 s1 t1 × T t2 t1

-- so a run of the new circuit gives one of the old
pub run_simulated : {K J : Type 0} {old : Circuit K} {new : Circuit J} {T : State J → State K → Type 0} → Simulates old new T →
    {s2 last : State J} {steps : List Step} {order : List (List J)} {views : List (List ℕ)} → Run new s2 steps order views last →
    (s1 : State K) → T s2 s1 → (order1 : List (List K)) × (end : State K) × Run old s1 steps order1 views end × T last end
run_simulated sim Ended s1 t = ([], s1, Ended, t)
run_simulated sim {s2} (Clicked {next = t2} {pos} {click} hit run) s1 t =
    let a = sim.clicks pos click s2 s1 t2 t hit in
    let r = run_simulated sim run a.0 a.2 in
    (r.0, r.1, rw (sim.views t2 a.0 a.2) (Clicked a.1 r.2), r.3)
run_simulated sim {s2} (Ticked {next = t2} {fires} tick run) s1 t =
    let a = sim.ticks fires s2 s1 t2 t tick in
    let r = run_simulated sim run a.1 a.3 in
    (a.0 ∷ r.0, r.1, rw (sim.views t2 a.1 a.3) (Ticked a.2 r.2), r.3)

pub plays_simulated : {K J : Type 0} {old : Circuit K} {new : Circuit J} {T : State J → State K → Type 0} → Simulates old new T →
    (acts : List Act) (order : List (List J)) (views : List (List ℕ)) (last : State J) → Plays new acts order views last →
    (order1 : List (List K)) × (end : State K) × Plays old acts order1 views end × T last end
plays_simulated {old} {new} sim acts order views last r =
    let a = run_simulated sim r.run (start old) sim.begins in
    (a.0, a.1, record { rest = r.rest; at_start = r.at_start ∙ ap (λ v. v ∷ r.rest) (sim.views (start new) (start old) sim.begins); run = a.2 }, a.3)

-- Such a circuit refines the old one.
pub refines_by : {K J : Type 0} {old : Circuit K} {new : Circuit J} {T : State J → State K → Type 0} → Simulates old new T → Refines old new
refines_by sim = record {
  shows = λ acts views events sh.
      let a = plays_simulated sim acts sh.order views sh.last sh.plays in
      (clicks_in acts + fires_in a.0, record { order = a.0; last = a.1; plays = a.2; count = refl });
}

-- The same, where each tick's old firing list is a function of the new one.
pub record SimulatesBy {K J : Type 0} (old : Circuit K) (new : Circuit J) (f : List J → List K) (T : State J → State K → Type 0) : Type 0 where
  pub begins : T (start new) (start old)
  pub views : (s2 : State J) (s1 : State K) → T s2 s1 → view new s2 ≡ view old s1
  pub clicks : (pos : Pos) (click : Click) (s2 : State J) (s1 : State K) (t2 : State J) → T s2 s1 → Clicks new pos click s2 t2 →
      (t1 : State K) × Clicks old pos click s1 t1 × T t2 t1
  pub ticks : (fires : List J) (s2 : State J) (s1 : State K) (t2 : State J) → T s2 s1 → Ticks new fires s2 t2 →
      (t1 : State K) × Ticks old (f fires) s1 t1 × T t2 t1

run_simulated_by : {K J : Type 0} {old : Circuit K} {new : Circuit J} {f : List J → List K} {T : State J → State K → Type 0} → SimulatesBy old new f T →
    {s2 last : State J} {steps : List Step} {order : List (List J)} {views : List (List ℕ)} → Run new s2 steps order views last →
    (s1 : State K) → T s2 s1 → (end : State K) × Run old s1 steps (map f order) views end × T last end
run_simulated_by sim Ended s1 t = (s1, Ended, t)
run_simulated_by sim {s2} (Clicked {next = t2} {pos} {click} hit run) s1 t =
    let a = sim.clicks pos click s2 s1 t2 t hit in
    let r = run_simulated_by sim run a.0 a.2 in
    (r.0, rw (sim.views t2 a.0 a.2) (Clicked a.1 r.1), r.2)
run_simulated_by sim {s2} (Ticked {next = t2} {fires} tick run) s1 t =
    let a = sim.ticks fires s2 s1 t2 t tick in
    let r = run_simulated_by sim run a.0 a.2 in
    (r.0, rw (sim.views t2 a.0 a.2) (Ticked a.1 r.1), r.2)

-- Such a circuit refines the old one in that order, and to related last states.
pub refines_in_order : {K J : Type 0} {old : Circuit K} {new : Circuit J} {f : List J → List K} {T : State J → State K → Type 0} → SimulatesBy old new f T → RefinesBy old new (map f) T
refines_in_order {old} {new} sim = record {
  plays = λ acts order views last r.
      let a = run_simulated_by sim r.run (start old) sim.begins in
      (a.0, record { rest = r.rest; at_start = r.at_start ∙ ap (λ v. v ∷ r.rest) (sim.views (start new) (start old) sim.begins); run = a.1 }, a.2);
}

pub simulates_of : {K J : Type 0} {old : Circuit K} {new : Circuit J} {f : List J → List K} {T : State J → State K → Type 0} → SimulatesBy old new f T → Simulates old new T
simulates_of {f} sim = record {
  begins = sim.begins;
  views = sim.views;
  clicks = sim.clicks;
  ticks = λ fires s2 s1 t2 t c. let a = sim.ticks fires s2 s1 t2 t c in (f fires, a.0, a.1, a.2);
}

-- Refining twice is refining.
pub refines_trans : {A B D : Type 0} {one : Circuit A} {two : Circuit B} {three : Circuit D} → Refines one two → Refines two three → Refines one three
refines_trans f g = record { shows = λ acts views events sh. let a = g.shows acts views events sh in f.shows acts views a.0 a.1 }
