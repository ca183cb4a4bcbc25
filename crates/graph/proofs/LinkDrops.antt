-- Dropping a link that brings nothing: all that is shown stays, with the order.
use Rattle.std.proofs.Common.{◌≡◌, ◌≢◌, ℕ, zero, suc, ◌+◌, ◌<◌, List, [], ◌∷◌, ◌++◌, Option, Some, None, refl, sym, ap, ◌∙◌, subst, subst₂, arith, set, length, map}
use Rattle.std.specs.Prelude.{remove, slice_get, option_map, IsSome}
use Rattle.std.proofs.Math.Path.{fun_ext}
use Rattle.std.proofs.lemmas.List.{length-set}
use Rattle.circuit.specs.Circuit.{State, outs, Each, EachBefore, later, fire_all}
use Rattle.circuit.specs.Events.{SameEvents}
use Rattle.circuit.specs.Shows.{SameRuns, Plays}
use Rattle.circuit.proofs.Matches.{Matches, Alike, IsInvariant, fire_all_alike, matches_refines, matches_in_order}
use Rattle.graph.specs.declared.Kind.{Kind}
use Rattle.graph.specs.declared.Group.{Group}
use Rattle.graph.specs.declared.Group.TheVariants.{Back, Side}
use Rattle.graph.specs.declared.Link.{Link}
use Rattle.circuit.specs.declared.Pos.{Pos}
use Rattle.graph.specs.Graph.{Node, Nodes, node_at, Lives, HasLink}
use Rattle.graph.specs.Edits.{without_link, drop_link}
use Rattle.graph.specs.Readings.{reading, back_of}
use Rattle.graph.specs.GraphCircuit.{role_at, first_at, base_at, begin_at, place_at, readings_at, output_of, outputs_from, in_order, Output, graph_circuit}
use Rattle.graph.specs.Sound.{IsSoundNode, IsSound, places_at, places_of}
use Rattle.graph.specs.Measure.{measure_at, measure}
use Rattle.graph.specs.Refines.{StandsAt, Refines}
use Rattle.graph.proofs.ListedSteps.{test_of_keys}

abbrev pub dropped : ℕ → Option Node → Option Node
dropped index entry = option_map (without_link index) entry

-- what holds of an entry and the one that takes its place holds of all entries, where it holds where nothing changes
pub entry_after_set : (R : Option Node → Option Node → Type 0) → ((a : Option Node) → R a a) → (g : Nodes) (key : ℕ) (entry : Option Node) → R (node_at g key) entry →
    (k : ℕ) → R (node_at g k) (node_at (set g key entry) k)
entry_after_set R same [] key entry r k = same None
entry_after_set R same (n ∷ g) zero entry r zero = r
entry_after_set R same (n ∷ g) zero entry r (suc k) = same (node_at g k)
entry_after_set R same (n ∷ g) (suc key) entry r zero = same n
entry_after_set R same (n ∷ g) (suc key) entry r (suc k) = entry_after_set R same g key entry r k

-- what doesn't look at links stays
kept : {A : Type 0} (f : Option Node → A) → ((a : Option Node) (index : ℕ) → f (dropped index a) ≡ f a) → (g : Nodes) (key index k : ℕ) → f (node_at (drop_link g key index) k) ≡ f (node_at g k)
kept f h g key index = entry_after_set (λ a b. f b ≡ f a) (λ a. refl) g key (dropped index (node_at g key)) (h (node_at g key) index)

role_kept : (a : Option Node) (index : ℕ) → role_at (dropped index a) ≡ role_at a
role_kept None index = refl
role_kept (Some n) index = refl

first_kept : (a : Option Node) (index : ℕ) → first_at (dropped index a) ≡ first_at a
first_kept None index = refl
first_kept (Some n) index = refl

base_kept : (a : Option Node) (index : ℕ) → base_at (dropped index a) ≡ base_at a
base_kept None index = refl
base_kept (Some n) index = refl

begin_kept : (a : Option Node) (index : ℕ) → begin_at (dropped index a) ≡ begin_at a
begin_kept None index = refl
begin_kept (Some n) index = refl

place_kept : (a : Option Node) (index : ℕ) → place_at (dropped index a) ≡ place_at a
place_kept None index = refl
place_kept (Some n) index = refl

output_kept : (key : ℕ) (a : Option Node) (index : ℕ) → output_of key (dropped index a) ≡ output_of key a
output_kept key None index = refl
output_kept key (Some n) index = refl

-- entries that show the same one by one show the same in order
pub outputs_same : (key : ℕ) (new old : Nodes) → length new ≡ length old → ((i n : ℕ) → output_of n (node_at new i) ≡ output_of n (node_at old i)) → outputs_from key new ≡ outputs_from key old
outputs_same key [] [] l h = refl
outputs_same key (b ∷ new) (a ∷ old) l h =
    let first : output_of key b ≡ output_of key a = h 0 key in
    let others : outputs_from (suc key) new ≡ outputs_from (suc key) old = outputs_same (suc key) new old (omega arith) (λ i n. h (suc i) n) in
    λ i. in_order (first i) (others i)
outputs_same key [] (a ∷ old) l h = absurd (omega arith)
outputs_same key (b ∷ new) [] l h = absurd (omega arith)

pub map_itself : (keys : List ℕ) → map (λ (k : ℕ). k) keys ≡ keys
map_itself [] = refl
map_itself (k ∷ keys) = ap (λ ks. k ∷ ks) (map_itself keys)

each_of : (keys : List ℕ) → Each (λ (k : ℕ). Unit {0}) keys
each_of [] = tt
each_of (k ∷ keys) = (tt, each_of keys)

orders_itself : (order : List (List ℕ)) → map (map (λ (k : ℕ). k)) order ≡ order
orders_itself [] = refl
orders_itself (keys ∷ order) = λ i. map_itself keys i ∷ orders_itself order i

-- both entries read the same where so much is given
abbrev pub SameReading : (ℕ → ℕ) → Option Node → Option Node → Type 0
SameReading given a b = readings_at given b ≡ readings_at given a

-- In each state with the fact the node reads the same without the link.
abbrev pub BringsNothing : (State ℕ → Type 0) → Nodes → ℕ → ℕ → Type 0
BringsNothing I g key index = (s : State ℕ) → I s → SameReading (outs (graph_circuit g) s) (node_at g key) (dropped index (node_at g key))

-- where both groups read the same without the link
pub brings_nothing : (I : State ℕ → Type 0) (g : Nodes) (key index : ℕ) (link : Link) (linked : HasLink g key index link) →
    ((s : State ℕ) → I s → (group : Group) → reading (outs (graph_circuit g) s) group (remove linked.node.links index) ≡ reading (outs (graph_circuit g) s) group linked.node.links) →
    BringsNothing I g key index
brings_nothing I g key index link linked h = λ s i. rw linked.there (one (outs (graph_circuit g) s) (h s i))
  where
    one : (given : ℕ → ℕ) → ((group : Group) → reading given group (remove linked.node.links index) ≡ reading given group linked.node.links) →
        SameReading given (Some linked.node) (dropped index (Some linked.node))
    one given r = λ i. record { back = back_of linked.node.kind (r Back i); side = r Side i }

drop_matches : (I : State ℕ → Type 0) (g : Nodes) (key index : ℕ) → BringsNothing I g key index →
    Matches (graph_circuit g) (graph_circuit (drop_link g key index)) (λ k. k) (λ k. Unit {0}) I
drop_matches I g key index same = record {
  apart = λ a b la lb e. e;
  lives = λ k component e. tt;
  covers = λ p component e. (p, tt, refl);
  role = λ k l. kept role_at role_kept g key index k;
  first = λ k l. kept first_at first_kept g key index k;
  base = λ k l. kept base_at base_kept g key index k;
  begin = λ k l. kept begin_at begin_kept g key index k;
  place = λ k l. kept place_at place_kept g key index k;
  reads = λ s i outs2 e k l.
      ap (λ (given : ℕ → ℕ). readings_at given (node_at (drop_link g key index) k)) (fun_ext (λ j. e j tt))
      ∙ entry_after_set (SameReading (outs (graph_circuit g) s)) (λ a. refl) g key (dropped index (node_at g key)) (same s i) k;
  shown = sym (map_itself (graph_circuit (drop_link g key index)).shown ∙ ap (map (λ (one : Output). one.key))
      (outputs_same 0 (drop_link g key index) g (length-set g key (dropped index (node_at g key))) (λ k n. kept (output_of n) (output_kept n) g key index k)));
  shown_live = each_of (graph_circuit (drop_link g key index)).shown;
}

state_itself : (I : State ℕ → Type 0) (s2 s1 : State ℕ) → Alike (λ k. k) (λ k. Unit {0}) I s2 s1 → s1 ≡ s2
state_itself I s2 s1 a = λ i. record { time = sym a.time i; cells = λ k. sym (a.cells k tt) i }

-- The law with the order.
pub drop_same_runs : (I : State ℕ → Type 0) (g : Nodes) (key index : ℕ) → BringsNothing I g key index → IsInvariant (graph_circuit g) I →
    SameRuns (graph_circuit g) (graph_circuit (drop_link g key index))
drop_same_runs I g key index same keeps = record {
  plays = λ acts order views last p.
      let r = (matches_in_order (λ k. k) (λ k. Unit {0}) I (drop_matches I g key index same) keeps test_of_keys test_of_keys).plays acts order views last p in
      subst₂ (λ o t. Plays (graph_circuit g) acts o views t) (orders_itself order) (state_itself I last r.0 r.2) r.1;
}

-- the same kinds stand at the same places
stands_now : (g : Nodes) (key index : ℕ) (pos : Pos) (kind : Kind) → StandsAt g pos kind → StandsAt (drop_link g key index) pos kind
stands_now g key index pos kind s =
    let now = entry_after_set (λ a b. (node : Node) → a ≡ Some node → (new : Node) × (b ≡ Some new) × (new.pos ≡ node.pos) × (new.kind ≡ node.kind)) (λ a node e. (node, e, refl, refl))
    g key (dropped index (node_at g key)) (one (node_at g key)) s.key s.node s.there in
    record { key = s.key; node = now.0; there = now.1; holds = (now.2 ∙ s.holds.0, now.3 ∙ s.holds.1) }
  where
    one : (a : Option Node) (node : Node) → a ≡ Some node → (new : Node) × (dropped index a ≡ Some new) × (new.pos ≡ node.pos) × (new.kind ≡ node.kind)
    one a node e = (without_link index node, ap (dropped index) e, refl, refl)

stood_before : (g : Nodes) (key index : ℕ) (pos : Pos) (kind : Kind) → StandsAt (drop_link g key index) pos kind → StandsAt g pos kind
stood_before g key index pos kind s =
    let was = entry_after_set (λ a b. (node : Node) → b ≡ Some node → (old : Node) × (a ≡ Some old) × (old.pos ≡ node.pos) × (old.kind ≡ node.kind)) (λ a node e. (node, e, refl, refl))
    g key (dropped index (node_at g key)) (one (node_at g key)) s.key s.node s.there in
    record { key = s.key; node = was.0; there = was.1; holds = (was.2 ∙ s.holds.0, was.3 ∙ s.holds.1) }
  where
    one : (a : Option Node) (node : Node) → dropped index a ≡ Some node → (old : Node) × (a ≡ Some old) × (old.pos ≡ node.pos) × (old.kind ≡ node.kind)
    one None node e = absurd (cc)
    one (Some old) node e = let same : without_link index old ≡ node = cc in (old, refl, ap (λ (n : Node). n.pos) same, ap (λ (n : Node). n.kind) same)

pub drop_refines : (I : State ℕ → Type 0) (g : Nodes) (key index : ℕ) → BringsNothing I g key index → IsInvariant (graph_circuit g) I → Refines g (drop_link g key index)
drop_refines I g key index same keeps = record {
  shows = matches_refines (λ k. k) (λ k. Unit {0}) I (drop_matches I g key index same) keeps test_of_keys test_of_keys;
  kept = λ pos kind outer stands. stands_now g key index pos kind stands;
  none_new = λ pos kind outer stands. stood_before g key index pos kind stands;
}

-- what lives, lives on
pub lives_on : (g : Nodes) (key index k : ℕ) → Lives g k → Lives (drop_link g key index) k
lives_on g key index k = entry_after_set (λ a b. IsSome a → IsSome b) (λ a h. h) g key (dropped index (node_at g key)) (one (node_at g key)) k
  where
    one : (a : Option Node) → IsSome a → IsSome (dropped index a)
    one None h = h
    one (Some n) h = h

pub lived_before : (g : Nodes) (key index k : ℕ) → Lives (drop_link g key index) k → Lives g k
lived_before g key index k = entry_after_set (λ a b. IsSome b → IsSome a) (λ a h. h) g key (dropped index (node_at g key)) (one (node_at g key)) k
  where
    one : (a : Option Node) → IsSome (dropped index a) → IsSome a
    one None h = h
    one (Some n) h = h

-- each link that is left was there
pub left_was_there : (links : List Link) (index i : ℕ) (link : Link) → slice_get (remove links index) i ≡ Some link → (j : ℕ) × (slice_get links j ≡ Some link)
left_was_there [] zero i link e = absurd (cc)
left_was_there [] (suc index) i link e = absurd (cc)
left_was_there (l ∷ links) zero i link e = (suc i, e)
left_was_there (l ∷ links) (suc index) zero link e = (zero, e)
left_was_there (l ∷ links) (suc index) (suc i) link e = let r = left_was_there links index i link e in (suc r.0, r.1)

sound_with : (old new : Nodes) (node : Node) → ((k : ℕ) → Lives old k → Lives new k) → IsSoundNode old node → IsSoundNode new node
sound_with old new node lives s = record {
  state = s.state;
  kind = s.kind;
  due = s.due;
  priority = s.priority;
  waiting = s.waiting;
  idle = s.idle;
  links = λ index link e. let h = s.links index link e in (h.0, lives link.from h.1);
}

sound_without : (g : Nodes) (index : ℕ) (node : Node) → IsSoundNode g node → IsSoundNode g (without_link index node)
sound_without g index node s = record {
  state = s.state;
  kind = s.kind;
  due = s.due;
  priority = s.priority;
  waiting = s.waiting;
  idle = s.idle;
  links = λ i link e. let was = left_was_there node.links index i link e in s.links was.0 link was.1;
}

places-same : (g : Nodes) (key : ℕ) (entry : Option Node) → places_at entry ≡ places_at (node_at g key) → places_of (set g key entry) ≡ places_of g
places-same [] key entry e = refl
places-same (n ∷ g) zero entry e = ap (λ ps. ps ++ places_of g) e
places-same (n ∷ g) (suc key) entry e = ap (λ ps. places_at n ++ ps) (places-same g key entry e)

-- A sound graph stays sound where an entry is replaced by one of the same places whose node is sound.
pub set_sound : (g : Nodes) (key : ℕ) (entry : Option Node) → IsSound g → places_at entry ≡ places_at (node_at g key) → ((k : ℕ) → Lives g k → Lives (set g key entry) k) →
    ((node : Node) → entry ≡ Some node → IsSoundNode g node) → IsSound (set g key entry)
set_sound g key entry s places lives here = record {
  each = λ k node e. sound_with g (set g key entry) node lives
      (entry_after_set (λ a b. ((n : Node) → a ≡ Some n → IsSoundNode g n) → (n : Node) → b ≡ Some n → IsSoundNode g n) (λ a h. h) g key entry (λ h. here) k (s.each k) node e);
  apart = subst (EachBefore (λ a b. a ≢ b)) (sym (places-same g key entry places)) s.apart;
}

pub drop_sound : (g : Nodes) (key index : ℕ) → IsSound g → IsSound (drop_link g key index)
drop_sound g key index s = set_sound g key (dropped index (node_at g key)) s (places (node_at g key)) (lives_on g key index) (one (node_at g key) (s.each key))
  where
    places : (a : Option Node) → places_at (dropped index a) ≡ places_at a
    places None = refl
    places (Some n) = refl

    one : (a : Option Node) → ((n : Node) → a ≡ Some n → IsSoundNode g n) → (node : Node) → dropped index a ≡ Some node → IsSoundNode g node
    one None h node e = absurd (cc)
    one (Some n) h node e = let same : without_link index n ≡ node = cc in subst (IsSoundNode g) same (sound_without g index n (h n refl))

-- and measures less
pub length-without : (links : List Link) (index : ℕ) (link : Link) → slice_get links index ≡ Some link → length (remove links index) + 1 ≡ length links
length-without [] index link e = absurd (cc)
length-without (l ∷ links) zero link e = omega arith
length-without (l ∷ links) (suc index) link e = omega (arith, length-without links index link e)

pub measure-set : (g : Nodes) (key : ℕ) (entry : Option Node) (node : Node) → node_at g key ≡ Some node → measure (set g key entry) + measure_at (Some node) ≡ measure g + measure_at entry
measure-set [] key entry node e = absurd (cc)
measure-set (n ∷ g) zero entry node e = rw e (omega arith)
measure-set (n ∷ g) (suc key) entry node e = omega (arith, measure-set g key entry node e)

pub drop_falls : (g : Nodes) (key index : ℕ) (link : Link) → HasLink g key index link → measure (drop_link g key index) < measure g
drop_falls g key index link linked =
    let less = measure-set g key (dropped index (node_at g key)) linked.node linked.there in
    let here : measure_at (dropped index (node_at g key)) ≡ measure_at (Some (without_link index linked.node)) = ap (λ (a : Option Node). measure_at (dropped index a)) linked.there in
    omega (arith, less, here, length-without linked.node.links index link linked.at_index)

-- and so it is after each firing
pub drop_same_events : (I : State ℕ → Type 0) (g : Nodes) (key index : ℕ) → BringsNothing I g key index → IsInvariant (graph_circuit g) I →
    SameEvents (graph_circuit g) (graph_circuit (drop_link g key index))
drop_same_events I g key index same keeps = record {
  fires = λ acts order views last p keys.
      let r = (matches_in_order (λ k. k) (λ k. Unit {0}) I (drop_matches I g key index same) keeps test_of_keys test_of_keys).plays acts order views last p in
      let kept : I last = subst I (state_itself I last r.0 r.2) r.2.kept in
      let a : Alike (λ k. k) (λ k. Unit {0}) I (later last) (later last) = record { time = refl; cells = λ k l. refl; kept = keeps.passes last kept } in
      sym (ap (λ (ks : List ℕ). fire_all (graph_circuit g) (later last) ks) (sym (map_itself keys))
      ∙ state_itself I (fire_all (graph_circuit (drop_link g key index)) (later last) keys) (fire_all (graph_circuit g) (later last) (map (λ (k : ℕ). k) keys))
      (fire_all_alike (drop_matches I g key index same) keeps test_of_keys test_of_keys keys (each_of keys) (later last) (later last) a));
}
