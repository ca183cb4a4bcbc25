-- A tick that is read line by line.
use Rattle.std.proofs.Common.{◌≡◌, ◌⊎◌, ℕ, ◌+◌, ◌-◌, ◌≤◌, true, false, List, [], ◌∷◌, ◌++◌, length, take, drop, refl, sym, ◌∙◌, ap, ap₂, subst, arith, inl, inr}
use Rattle.std.specs.List.{flat_map}
use Rattle.std.proofs.lemmas.Grind.{flat_map-append}
use Rattle.std.proofs.lemmas.List.{append-nil}
use Rattle.circuit.specs.declared.Pos.{Pos}
use Rattle.circuit.specs.Circuit.{Circuit, State, IsDue, Among, later, fire, fire_all, view}
use Rattle.build.specs.Plan.{Plan}
use Rattle.power_rules.specs.World.{world_circuit}
use Rattle.power_rules.proofs.Joining.{test_of_places}
use Rattle.replay_engine.specs.Running.{Running, HasFired, state_in}
use Rattle.report.specs.declared.Cause.TheVariants.{Tick}
use Rattle.report.specs.declared.OrderKind.TheVariants.{Short, Left}
use Rattle.report.specs.FireLine.{fire_line}
use Rattle.report.specs.ViewLine.{view_line}
use Rattle.world_order.specs.declared.front.Bad.{Bad}
use Rattle.world_order.specs.declared.front.Front.{Front}
use Rattle.world_order.specs.Begun.{IsNext}
use Rattle.world_order.specs.BadLine.{Firing, is_fire, is_unended}
use Rattle.world_order.specs.LineForms.{IsNotLine}
use Rattle.world_order.specs.Reading.{IsFront, ReadsOn, IsHere, IsNoLine, IsKind, IsNotFiring, IsNoFiring, ReadsFiring, HasBegun, IsBadTick, ReadsTick}
use Rattle.world_order.proofs.Begun.{begins_more, fire_all-more, whole_from}
use Rattle.world_order.proofs.Following.{time-fire_all}
use Rattle.world_order.proofs.Telling.{kind_of_firing, kind_of_left, kind_of_short, kind_of_view}
use Rattle.world_order.proofs.Pieces.{bad_here, reads_none, reads_join, reads_as, reads_long, rest_of, view_long}

-- ---- one more in a list

among_more : (fired : List Pos) (place key : Pos) → Among fired key ⊎ (key ≡ place) → Among (fired ++ (place ∷ [])) key
among_more [] place key (inl a) = absurd a
among_more [] place key (inr e) = inl e
among_more (one ∷ fired) place key (inl (inl e)) = inl e
among_more (one ∷ fired) place key (inl (inr a)) = inr (among_more fired place key (inl a))
among_more (one ∷ fired) place key (inr e) = inr (among_more fired place key (inr e))

among_less : (fired : List Pos) (place key : Pos) → Among (fired ++ (place ∷ [])) key → Among fired key ⊎ (key ≡ place)
among_less [] place key (inl e) = inr e
among_less [] place key (inr a) = absurd a
among_less (one ∷ fired) place key (inl e) = inl (inl e)
among_less (one ∷ fired) place key (inr a) = elim (among_less fired place key a) [ inl b ↦ inl (inr b) | inr e ↦ inr e ]

lines_more : (fired : List Pos) (place : Pos) → flat_map fire_line fired ++ fire_line place ≡ flat_map fire_line (fired ++ (place ∷ []))
lines_more fired place = ap (λ x. flat_map fire_line fired ++ x) (sym (append-nil (fire_line place))) ∙ sym (flat_map-append fire_line fired (place ∷ []))

length_more : (fired : List Pos) (place : Pos) → length fired + 1 ≡ length (fired ++ (place ∷ []))
length_more [] place = refl
length_more (one ∷ fired) place = let r : length fired + 1 ≡ length (fired ++ (place ∷ [])) = length_more fired place in omega arith

-- ---- its firings

pub begun_start : (C : Circuit Pos) (w : Running) (text : List ℕ) (front : Front) → IsFront text front → ((key : Pos) → HasFired w key → ⊥) → HasBegun C (state_in w) w text front front
begun_start C w text front f fresh = record { fired = []; begins = tt; after = refl; told = λ key. (fresh key, λ h. absurd h); reads = reads_none text front f }

pub begun_on : (C : Circuit Pos) (s : State Pos) (old new : Running) (text : List ℕ) (from mid to : Front) → HasBegun C s old text from mid → ReadsFiring C old new text mid to → HasBegun C s new text from to
begun_on C s old new text from mid to h r = record {
  fired = h.fired ++ (r.place ∷ []);
  begins = begins_more C s h.fired r.place h.begins (subst (λ (t : State Pos). IsNext C t r.place) h.after next);
  after = r.fires.fires.after ∙ ap (λ (t : State Pos). fire C t r.place) h.after ∙ sym (fire_all-more C s h.fired (r.place ∷ []));
  told = λ key. (λ f. among_more h.fired r.place key (told key ((r.fires.told key).0 f)), λ a. (r.fires.told key).1 (back key (among_less h.fired r.place key a)));
  reads = reads_as text from to (flat_map fire_line h.fired ++ fire_line r.place) (flat_map fire_line (h.fired ++ (r.place ∷ []))) 0 (length h.fired + 1) 0 (length (h.fired ++ (r.place ∷ [])))
      (lines_more h.fired r.place) refl (length_more h.fired r.place) (reads_join text from mid to (flat_map fire_line h.fired) (fire_line r.place) 0 (length h.fired) 0 1 h.reads r.reads);
}
  where
    next : IsNext C (state_in old) r.place
    next = record { due = r.fires.fires.due; least = r.fires.fires.least }

    told : (key : Pos) → HasFired old key ⊎ (key ≡ r.place) → Among h.fired key ⊎ (key ≡ r.place)
    told key (inl f) = inl ((h.told key).0 f)
    told key (inr e) = inr e

    back : (key : Pos) → Among h.fired key ⊎ (key ≡ r.place) → HasFired old key ⊎ (key ≡ r.place)
    back key (inl a) = inl ((h.told key).1 a)
    back key (inr e) = inr e

-- ---- what is wrong in it

module _ (b : Plan) (marks : List Pos) (s : State Pos) (now : Running) (text : List ℕ) (from mid : Front) (h : HasBegun (world_circuit b marks) s now text from mid) (bad : Bad) (here : IsHere text mid bad) where
  bad_tick : IsKind b marks (Firing s h.fired) (drop bad.at text) bad.kind → IsBadTick b marks s text from bad
  bad_tick k = record {
    fired = h.fired;
    begins = h.begins;
    front = ap (λ n. take n text) here.at ∙ h.reads.front;
    within = here.within;
    tick = omega (arith, here.tick, h.reads.tick);
    is = k;
  }

  rest_same : (test : List ℕ → Type 0) → test (drop mid.at text) → test (drop bad.at text)
  rest_same test t = subst (λ (n : ℕ). test (drop n text)) (sym here.at) t

  pub bad_firing : is_fire (drop mid.at text) ≡ true → IsNotFiring (world_circuit b marks) (state_in now) (HasFired now) (drop bad.at text) bad.kind → IsBadTick b marks s text from bad
  bad_firing fire is =
      bad_tick (kind_of_firing b marks s h.fired h.begins (state_in now) h.after (HasFired now) h.told (drop bad.at text) (rest_same (λ r. is_fire r ≡ true) fire) bad.kind is)

  pub bad_short : bad.kind ≡ Short → is_unended (drop mid.at text) ≡ true → IsBadTick b marks s text from bad
  bad_short is ended = bad_tick (subst (IsKind b marks (Firing s h.fired) (drop bad.at text)) (sym is)
      (kind_of_short b marks s h.fired h.begins (state_in now) h.after (drop bad.at text) (rest_same (λ r. is_unended r ≡ true) ended)))

  pub bad_left : bad.kind ≡ Left → is_unended (drop mid.at text) ≡ false → is_fire (drop mid.at text) ≡ false → (place : Pos) → IsDue (world_circuit b marks) (state_in now) place → IsBadTick b marks s text from bad
  bad_left is ended none place due = bad_tick (subst (IsKind b marks (Firing s h.fired) (drop bad.at text)) (sym is)
      (kind_of_left b marks s h.fired h.begins (state_in now) h.after (drop bad.at text) (rest_same (λ r. is_unended r ≡ false) ended) (rest_same (λ r. is_fire r ≡ false) none) place due))

  pub bad_view : is_fire (drop mid.at text) ≡ false → ((place : Pos) → IsDue (world_circuit b marks) (state_in now) place → ⊥) →
      IsNotLine (drop bad.at text) (view_line now.time Tick (view (world_circuit b marks) (state_in now))) bad.kind → IsBadTick b marks s text from bad
  bad_view none quiet is =
      bad_tick (kind_of_view b marks s h.fired h.begins (state_in now) h.after (drop bad.at text) (rest_same (λ r. is_fire r ≡ false) none) quiet
      (view_line now.time Tick (view (world_circuit b marks) (state_in now))) line bad.kind is)
    where
      time : now.time ≡ s.time
      time = ap (λ (t : State Pos). t.time) h.after ∙ time-fire_all (world_circuit b marks) s h.fired

      line : view_line now.time Tick (view (world_circuit b marks) (state_in now)) ≡ view_line s.time Tick (view (world_circuit b marks) (fire_all (world_circuit b marks) s h.fired))
      line = ap₂ (λ (n : ℕ) (t : State Pos). view_line n Tick (view (world_circuit b marks) t)) time h.after

-- ---- the whole tick

pub whole_tick : (b : Plan) (marks : List Pos) (old : State Pos) (now : Running) (text : List ℕ) (from mid last to : Front) → HasBegun (world_circuit b marks) (later old) now text from mid →
    ((place : Pos) → IsDue (world_circuit b marks) (state_in now) place → ⊥) →
    ReadsOn text mid last (view_line now.time Tick (view (world_circuit b marks) (state_in now))) 0 0 → to.at ≡ last.at → to.tick ≡ last.tick + 1 → to.fires ≡ last.fires → to.tick ≤ to.at →
    ReadsTick (world_circuit b marks) old (state_in now) text from to
whole_tick b marks old now text from mid last to h quiet r at tick fires few = record {
  fired = h.fired;
  list = whole_from C test_of_places (later old) h.fired h.begins (λ key due. quiet key (subst (λ (t : State Pos). IsDue C t key) (sym h.after) due));
  after = h.after;
  reads = reads_as text from to (flat_map fire_line h.fired ++ line now.time) (flat_map fire_line h.fired ++ line (old.time + 1)) (0 + 1) (length h.fired + 0) 1 (length h.fired)
      (ap (λ (n : ℕ). flat_map fire_line h.fired ++ line n) time) refl (omega arith)
      (reads_join text from mid to (flat_map fire_line h.fired) (line now.time) 0 (length h.fired) 1 0 h.reads view_read);
}
  where
    C : Circuit Pos
    C = world_circuit b marks

    line : ℕ → List ℕ
    line n = view_line n Tick (view C (state_in now))

    time : now.time ≡ old.time + 1
    time = ap (λ (t : State Pos). t.time) h.after ∙ time-fire_all C (later old) h.fired

    view_read : ReadsOn text mid to (view_line now.time Tick (view (world_circuit b marks) (state_in now))) 1 0
    view_read = record {
      front = ap (λ n. take n text) at ∙ r.front;
      is = record { within = omega (arith, at, r.is.within); ticks = few; fires = omega (arith, fires, at, r.is.fires) };
      tick = omega (arith, tick, r.tick);
      fire = omega (arith, fires, r.fire);
    }

-- ---- told of the same build

pub world_same : (plan b : Plan) (marks other : List Pos) → plan ≡ b → marks ≡ other → world_circuit plan marks ≡ world_circuit b other
world_same plan b marks other e f = λ i. world_circuit (e i) (f i)

pub begun_as : (C D : Circuit Pos) (s t : State Pos) (now : Running) (text : List ℕ) (from to : Front) → C ≡ D → s ≡ t → HasBegun C s now text from to → HasBegun D t now text from to
begun_as C D s t now text from to e f h = subst (λ (u : State Pos). HasBegun D u now text from to) f (subst (λ (K : Circuit Pos). HasBegun K s now text from to) e h)

pub firing_as : (C D : Circuit Pos) (old new : Running) (text : List ℕ) (from to : Front) → C ≡ D → ReadsFiring C old new text from to → ReadsFiring D old new text from to
firing_as C D old new text from to e r = subst (λ (K : Circuit Pos). ReadsFiring K old new text from to) e r

pub firing_bad : (b : Plan) (marks : List Pos) (C : Circuit Pos) (s : State Pos) (now : Running) (text : List ℕ) (from mid : Front) (bad : Bad) → C ≡ world_circuit b marks → HasBegun (world_circuit b marks) s now text from mid →
    is_fire (take (length text - mid.at) (drop mid.at text)) ≡ true → IsNoFiring C (state_in now) (HasFired now) text mid bad → IsBadTick b marks s text from bad
firing_bad b marks C s now text from mid bad e h fire n =
    bad_firing b marks s now text from mid h bad n.here (ap is_fire (sym (rest_of mid.at text)) ∙ fire)
    (subst (λ (K : Circuit Pos). IsNotFiring K (state_in now) (HasFired now) (drop bad.at text) bad.kind) e n.is)

module _ (b : Plan) (marks : List Pos) (old : State Pos) (first now : Running) (text : List ℕ) (from mid : Front) (D : Circuit Pos) (same : D ≡ world_circuit b marks) (begin : state_in first ≡ later old)
    (C : Circuit Pos) (alike : C ≡ world_circuit b marks) (begun : HasBegun C (state_in first) now text from mid) where
  h : HasBegun (world_circuit b marks) (later old) now text from mid
  h = begun_as C (world_circuit b marks) (state_in first) (later old) now text from mid alike begin begun

  due_as : (place : Pos) → IsDue D (state_in now) place → IsDue (world_circuit b marks) (state_in now) place
  due_as place d = subst (λ (K : Circuit Pos). IsDue K (state_in now) place) same d

  pub quiet_as : ((place : Pos) → IsDue D (state_in now) place → ⊥) → (place : Pos) → IsDue (world_circuit b marks) (state_in now) place → ⊥
  quiet_as none place d = none place (subst (λ (K : Circuit Pos). IsDue K (state_in now) place) (sym same) d)

  pub tick_left : (bad : Bad) → bad ≡ record { at = mid.at; tick = mid.tick; kind = Left } → is_unended (take (length text - mid.at) (drop mid.at text)) ≡ false → is_fire (drop mid.at text) ≡ false →
      (place : Pos) × IsDue D (state_in now) place → IsBadTick b marks (later old) text from bad
  tick_left bad e ended none due =
      bad_left b marks (later old) now text from mid h bad (bad_here text mid bad Left h.reads.is e) (ap (λ (x : Bad). x.kind) e) (ap is_unended (sym (rest_of mid.at text)) ∙ ended) none due.0 (due_as due.0 due.1)

  pub tick_view : (bad : Bad) → is_fire (drop mid.at text) ≡ false → ((place : Pos) → IsDue D (state_in now) place → ⊥) → IsNoLine text mid (view_line now.time Tick (view D (state_in now))) bad →
      IsBadTick b marks (later old) text from bad
  tick_view bad none quiet n =
      bad_view b marks (later old) now text from mid h bad n.here none (quiet_as quiet)
      (subst (λ (K : Circuit Pos). IsNotLine (drop bad.at text) (view_line now.time Tick (view K (state_in now))) bad.kind) same n.is)

  pub tick_whole : (last to : Front) → ((place : Pos) → IsDue D (state_in now) place → ⊥) → ReadsOn text mid last (view_line now.time Tick (view D (state_in now))) 0 0 →
      to ≡ record { at = last.at; tick = last.tick + 1; fires = last.fires } → ReadsTick (world_circuit b marks) old (state_in now) text from to
  tick_whole last to quiet r e =
      whole_tick b marks old now text from mid last to h (quiet_as quiet) (subst (λ (K : Circuit Pos). ReadsOn text mid last (view_line now.time Tick (view K (state_in now))) 0 0) same r)
      (ap (λ (x : Front). x.at) e) (ap (λ (x : Front). x.tick) e) (ap (λ (x : Front). x.fires) e)
      (omega (arith, ap (λ (x : Front). x.at) e, ap (λ (x : Front). x.tick) e, r.tick, h.reads.is.ticks, long, view_long now.time Tick (view D (state_in now))))
    where
      long : last.at ≡ mid.at + length (view_line now.time Tick (view D (state_in now)))
      long = reads_long text mid last (view_line now.time Tick (view D (state_in now))) 0 0 h.reads.is r
