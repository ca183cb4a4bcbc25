-- A node that reads Constants alone and rests is a Constant.
use Rattle.std.proofs.Common.{◌≡◌, ◌≢◌, ℕ, suc, ◌+◌, ◌<◌, ◌≤◌, Bool, true, false, not, List, [], ◌∷◌, Option, Some, None, refl, sym, ap, ◌∙◌, subst, arith, cond, map, get_or, ◌⊎◌, inl, inr}
use Rattle.std.specs.Prelude.{slice_get, option_map, IsSome, ◌&&◌, ◌==◌}
use Rattle.std.proofs.lemmas.Bool.{cases_eq, cases_Bool, eq-eqb, false≢true}
use Rattle.std.proofs.lemmas.List.{length-set, get_or-set_other, get_or-set_same}
use Rattle.circuit.specs.declared.Component.{Component}
use Rattle.circuit.specs.declared.Component.TheVariants.{Torch as TorchPart, Repeater as RepeaterPart, Comparator as ComparatorPart}
use Rattle.circuit.specs.declared.Readings.{Readings}
use Rattle.circuit.specs.declared.Cell.{Cell}
use Rattle.circuit.specs.declared.Pos.{Pos}
use Rattle.circuit.specs.Component.{out, goal, locked, asks, attended_value}
use Rattle.circuit.specs.Circuit.{State, outs, out_at, Each}
use Rattle.circuit.specs.Shows.{RefinesBy}
use Rattle.circuit.specs.Rest.{AgreeBut}
use Rattle.circuit.specs.Events.{EventsAgreeBut}
use Rattle.circuit.proofs.Settled.{IsSettled}
use Rattle.circuit.proofs.RestLaw.{Rests, rests_refines, rests_in_order, rests_at_events}
use Rattle.graph.specs.declared.Kind.{Kind}
use Rattle.graph.specs.declared.Kind.TheVariants.{Torch, Repeater, Comparator, Constant}
use Rattle.graph.specs.declared.Group.{Group}
use Rattle.graph.specs.declared.Group.TheVariants.{Back, Side}
use Rattle.graph.specs.declared.Link.{Link}
use Rattle.graph.specs.Graph.{Node, Nodes, node_at, Lives}
use Rattle.graph.specs.Edits.{folded, fold_to}
use Rattle.graph.specs.Readings.{reading, back_of, readings_of}
use Rattle.graph.specs.GraphCircuit.{role_of, role_at, first_at, base_of, base_at, begin_at, begin_of, place_at, readings_at, is_output, is_before, output_of, outputs_from, in_order, Output, graph_circuit}
use Rattle.graph.specs.Sound.{top_of, IsSoundNode, IsSound, places_at}
use Rattle.graph.specs.Steps.{fixed_out, fixed_at, fixed, can_fold, Folds}
use Rattle.graph.specs.Refines.{is_outer, StandsAt, Refines}
use Rattle.graph.specs.Measure.{changing, measure_at, measure}
use Rattle.graph.proofs.NodeSteps.{below_length}
use Rattle.graph.proofs.ListedSteps.{test_of_keys}
use Rattle.graph.proofs.Shares.{reading-same}
use Rattle.graph.proofs.LinkDrops.{entry_after_set, outputs_same, set_sound, measure-set}

-- The keys that a graph shows hold outputs.
each_in_order : (P : ℕ → Type 0) (entry : Option Output) (others : List Output) → ((one : Output) → entry ≡ Some one → P one.key) → Each (λ (one : Output). P one.key) others →
    Each (λ (one : Output). P one.key) (in_order entry others)
each_in_order P None others p e = e
each_in_order P (Some one) [] p e = (p one refl, tt)
each_in_order P (Some one) (other ∷ others) p e = elim (cases_Bool (is_before one.place other.place)) [
  | inl h ↦ rw h (p one refl, e)
  | inr h ↦ rw h (e.0, each_in_order P (Some one) others p e.1)
]

each_key : (P : ℕ → Type 0) (outputs : List Output) → Each (λ (one : Output). P one.key) outputs → Each P (map (λ (one : Output). one.key) outputs)
each_key P [] e = tt
each_key P (one ∷ outputs) e = (e.0, each_key P outputs e.1)

each_from : (P : ℕ → Type 0) (key : ℕ) (entries : Nodes) → ((i : ℕ) (one : Output) → output_of (i + key) (get_or entries i None) ≡ Some one → P one.key) →
    Each (λ (one : Output). P one.key) (outputs_from key entries)
each_from P key [] h = tt
each_from P key (entry ∷ entries) h = each_in_order P (output_of key entry) (outputs_from (suc key) entries)
    (λ one e. h 0 one (ap (λ (n : ℕ). output_of n entry) (zero_plus key) ∙ e))
    (each_from P (suc key) entries (λ i one e. h (suc i) one (ap (λ (n : ℕ). output_of n (get_or entries i None)) (moved i key) ∙ e)))
  where
    zero_plus : (n : ℕ) → 0 + n ≡ n
    zero_plus n = omega arith

    moved : (i n : ℕ) → suc i + n ≡ i + suc n
    moved i n = omega arith

key_of : (n : ℕ) (entry : Option Node) (one : Output) → output_of n entry ≡ Some one → one.key ≡ n
key_of n None one e = absurd (cc)
key_of n (Some node) one e = by_test (is_output node.kind) e
  where
    by_test : (b : Bool) → cond {A = Option Output} b (Some (record { place = node.pos; key = n })) None ≡ Some one → one.key ≡ n
    by_test true e = let h : ◌≡◌ {A = Output} (record { place = node.pos; key = n }) one = cc in ap (λ (x : Output). x.key) (sym h)
    by_test false e = absurd (cc)

-- what holds of each key that is an output holds of all that are shown
pub each_shown : (P : ℕ → Type 0) (g : Nodes) → ((k : ℕ) (one : Output) → output_of k (node_at g k) ≡ Some one → P k) → Each P (graph_circuit g).shown
each_shown P g h = each_key P (outputs_from 0 g) (each_from P 0 g (λ i one e.
    let at : output_of i (node_at g i) ≡ Some one = ap (λ (n : ℕ). output_of n (node_at g i)) (plus_zero i) ∙ e in
    subst P (sym (key_of i (node_at g i) one at)) (h i one at)))
  where
    plus_zero : (n : ℕ) → n ≡ n + 0
    plus_zero n = omega arith

-- what may be folded is no output and no outer node
folds-output : (kind : Kind) → can_fold kind ≡ true → is_output kind ≡ false
folds-output Torch c = refl
folds-output (Repeater delay) c = refl
folds-output (Comparator subtract direct far) c = refl
folds-output _ c = absurd (false≢true c)

folds-outer : (kind : Kind) → can_fold kind ≡ true → is_outer kind ≡ false
folds-outer Torch c = refl
folds-outer (Repeater delay) c = refl
folds-outer (Comparator subtract direct far) c = refl
folds-outer _ c = absurd (false≢true c)

folds-changing : (kind : Kind) → can_fold kind ≡ true → changing kind ≡ 1
folds-changing Torch c = refl
folds-changing (Repeater delay) c = refl
folds-changing (Comparator subtract direct far) c = refl
folds-changing _ c = absurd (false≢true c)

-- where it is at its goal or locked, it is settled
quiet_at_goal : (a b : Bool) → (a && (b && false)) ≡ false
quiet_at_goal true true = refl
quiet_at_goal true false = refl
quiet_at_goal false b = refl

quiet_locked : (a b : Bool) → (a && (not true && b)) ≡ false
quiet_locked true b = refl
quiet_locked false b = refl

folded_settled : (kind : Kind) (component : Component) (r : Readings) (cell : Cell) → can_fold kind ≡ true → role_of kind ≡ Some component → (cell.value ≡ goal component r) ⊎ (locked component r ≡ true) →
    IsSettled component r cell
folded_settled kind component r cell can role h = record {
  quiet = elim h [
    | inl e ↦ rw (wants kind component can role (goal component r) e) (quiet_at_goal (cell.due == 0) (not (locked component r)))
    | inr e ↦ rw e (quiet_locked (cell.due == 0) (asks component (goal component r) cell.value))
  ];
  still = stays kind component can role (goal component r) cell.value;
}
  where
    wants : (kind : Kind) (component : Component) → can_fold kind ≡ true → role_of kind ≡ Some component → (aim : ℕ) → cell.value ≡ aim → asks component aim cell.value ≡ false
    wants Torch component c role aim e = let is : TorchPart ≡ component = cc in subst (λ part. asks part aim cell.value ≡ false) is (rw (eq-eqb cell.value aim e) refl)
    wants (Repeater delay) component c role aim e = let is : RepeaterPart delay ≡ component = cc in subst (λ part. asks part aim cell.value ≡ false) is (rw (eq-eqb cell.value aim e) refl)
    wants (Comparator subtract direct far) component c role aim e = let is : ComparatorPart subtract ≡ component = cc in subst (λ part. asks part aim cell.value ≡ false) is (rw (eq-eqb cell.value aim e) refl)
    wants _ component c role aim e = absurd (false≢true c)

    stays : (kind : Kind) (component : Component) → can_fold kind ≡ true → role_of kind ≡ Some component → (aim value : ℕ) → attended_value component aim value ≡ value
    stays Torch component c role aim value = let is : TorchPart ≡ component = cc in subst (λ part. attended_value part aim value ≡ value) is refl
    stays (Repeater delay) component c role aim value = let is : RepeaterPart delay ≡ component = cc in subst (λ part. attended_value part aim value ≡ value) is refl
    stays (Comparator subtract direct far) component c role aim value = let is : ComparatorPart subtract ≡ component = cc in subst (λ part. attended_value part aim value ≡ value) is refl
    stays _ component c role aim value = absurd (false≢true c)

-- a Constant gives what it gives in every state
constant_gives : (g : Nodes) (s : State ℕ) (key : ℕ) (source : Node) → node_at g key ≡ Some source → source.kind ≡ Constant → outs (graph_circuit g) s key ≡ fixed g key
constant_gives g s key source there constant = by_entry (node_at g key) there
  where
    by_kind : (kind : Kind) → kind ≡ Constant → out_at (role_of kind) (base_of (role_of kind) source.state) (s.cells key) ≡ fixed_out kind source.state
    by_kind kind e = subst (λ k. out_at (role_of k) (base_of (role_of k) source.state) (s.cells key) ≡ fixed_out k source.state) (sym e) refl

    by_entry : (entry : Option Node) → entry ≡ Some source → out_at (role_at entry) (base_at entry) (s.cells key) ≡ fixed_at entry
    by_entry entry e = subst (λ (a : Option Node). out_at (role_at a) (base_at a) (s.cells key) ≡ fixed_at a) (sym e) (by_kind source.kind constant)

-- so a node whose links all come from Constants reads the same in every state
reads_fixed : (g : Nodes) (s : State ℕ) (node : Node) → ((index : ℕ) (link : Link) → slice_get node.links index ≡ Some link → (source : Node) × (node_at g link.from ≡ Some source) × (source.kind ≡ Constant)) →
    readings_of (outs (graph_circuit g) s) node ≡ readings_of (fixed g) node
reads_fixed g s node sources =
    let same : (group : Group) → reading (outs (graph_circuit g) s) group node.links ≡ reading (fixed g) group node.links =
    λ group. reading-same (outs (graph_circuit g) s) (fixed g) group node.links (λ index link e. let f = sources index link e in constant_gives g s link.from f.0 f.1 f.2) in
    λ i. record { back = back_of node.kind (same Back i); side = same Side i }

-- What a fold leaves of each node.
pub fold_others : (g : Nodes) (key value k : ℕ) → k ≢ key → node_at (fold_to g key value) k ≡ node_at g k
fold_others g key value k n = get_or-set_other g key k (option_map (folded value) (node_at g key)) None n

pub fold_here : (g : Nodes) (key value : ℕ) (node : Node) → node_at g key ≡ Some node → node_at (fold_to g key value) key ≡ Some (folded value node)
fold_here g key value node there = get_or-set_same g key (option_map (folded value) (node_at g key)) None (below_length g key node there) ∙ ap (option_map (folded value)) there

fold_rests : (old new : Nodes) (step : Folds old new) → Rests (graph_circuit old) (graph_circuit new) step.key step.component step.node.state
fold_rests old new step = subst (λ g. Rests (graph_circuit old) (graph_circuit g) step.key step.component step.node.state) (sym step.after) (record {
  same = refl;
  there = ap role_at step.there ∙ step.role;
  gone = ap role_at here;
  begins = ap (λ (c : Cell). c.value) begins;
  idle = ap (λ (c : Cell). c.due) begins ∙ step.idle;
  idle_new = ap (λ (entry : Option Node). (begin_at entry).due) here;
  gives = ap base_at here;
  settled = λ s e.
      let reads : readings_at (outs (graph_circuit old) s) (node_at old step.key) ≡ readings_of (fixed old) step.node =
      ap (readings_at (outs (graph_circuit old) s)) step.there ∙ reads_fixed old s step.node step.sources in
      subst (λ r. IsSettled step.component r (s.cells step.key)) (sym reads)
      (folded_settled step.node.kind step.component (readings_of (fixed old) step.node) (s.cells step.key) step.can step.role (elim step.rests [ inl h ↦ inl (e ∙ h) | inr h ↦ inr h ]));
  role = λ k n. ap role_at (others k n);
  first = λ k n. ap first_at (others k n);
  base = λ k n. ap base_at (others k n);
  begin = λ k n. ap begin_at (others k n);
  place = λ k n. ap place_at (others k n);
  reads = λ given k n. ap (readings_at given) (others k n);
  shown = ap (map (λ (one : Output). one.key)) (outputs_same 0 after old (length-set old step.key (option_map (folded value) (node_at old step.key))) shows);
  unseen = each_shown (λ k. k ≢ step.key) old (λ k one e same. hidden one k (ap (λ (j : ℕ). output_of k (node_at old j)) (sym same) ∙ e));
})
  where
    value : ℕ
    value = out step.component step.node.state

    after : Nodes
    after = fold_to old step.key value

    here : node_at after step.key ≡ Some (folded value step.node)
    here = fold_here old step.key value step.node step.there

    others : (k : ℕ) → k ≢ step.key → node_at after k ≡ node_at old k
    others k n = fold_others old step.key value k n

    begins : begin_at (node_at old step.key) ≡ record { value = step.node.state; due = step.node.due; priority = step.node.priority }
    begins = ap begin_at step.there ∙ ap (λ role. begin_of role (record { value = step.node.state; due = step.node.due; priority = step.node.priority })) step.role

    no_output : (n : ℕ) → output_of n (node_at old step.key) ≡ None
    no_output n = ap (output_of n) step.there ∙ ap (λ (b : Bool). cond {A = Option Output} b (Some (record { place = step.node.pos; key = n })) None) (folds-output step.node.kind step.can)

    shows : (i n : ℕ) → output_of n (node_at after i) ≡ output_of n (node_at old i)
    shows i n = elim (cases_eq i step.key) [
      | inl e ↦ ap (λ (j : ℕ). output_of n (node_at after j)) e ∙ ap (output_of n) here ∙ sym (no_output n) ∙ ap (λ (j : ℕ). output_of n (node_at old j)) (sym e)
      | inr d ↦ ap (output_of n) (others i d)
    ]

    hidden : (one : Output) (k : ℕ) → output_of k (node_at old step.key) ≡ Some one → ⊥
    hidden one k e = let bad : None ≡ Some one = sym (no_output k) ∙ e in absurd (cc)

-- The law with the order.
pub fold_in_order : (old new : Nodes) (step : Folds old new) → RefinesBy (graph_circuit old) (graph_circuit new) (λ order. order) (AgreeBut step.key step.node.state)
fold_in_order old new step = rests_in_order (fold_rests old new step) test_of_keys

pub fold_at_events : (old new : Nodes) (step : Folds old new) → EventsAgreeBut step.key step.node.state (graph_circuit old) (graph_circuit new)
fold_at_events old new step = rests_at_events (fold_rests old new step) test_of_keys

pub fold_refines : (old new : Nodes) → Folds old new → Refines old new
fold_refines old new step = record { shows = rests_refines (fold_rests old new step) test_of_keys; kept = kept; none_new = none_new }
  where
    value : ℕ
    value = out step.component step.node.state

    now : (k : ℕ) → k ≢ step.key → node_at new k ≡ node_at old k
    now k n = ap (λ (g : Nodes). node_at g k) step.after ∙ fold_others old step.key value k n

    here : node_at new step.key ≡ Some (folded value step.node)
    here = ap (λ (g : Nodes). node_at g step.key) step.after ∙ fold_here old step.key value step.node step.there

    kept : (pos : Pos) (kind : Kind) → is_outer kind ≡ true → StandsAt old pos kind → StandsAt new pos kind
    kept pos kind outer s = elim (cases_eq s.key step.key) [
      | inl e ↦
          (let both : Some s.node ≡ Some step.node = sym s.there ∙ ap (node_at old) e ∙ step.there in
          let same : s.node ≡ step.node = cc in
          let kinds : step.node.kind ≡ kind = ap (λ (n : Node). n.kind) (sym same) ∙ s.holds.1 in
          absurd (false≢true (sym (folds-outer step.node.kind step.can) ∙ ap is_outer kinds ∙ outer)))
      | inr n ↦ record { key = s.key; node = s.node; there = now s.key n ∙ s.there; holds = s.holds }
    ]

    none_new : (pos : Pos) (kind : Kind) → is_outer kind ≡ true → StandsAt new pos kind → StandsAt old pos kind
    none_new pos kind outer s = elim (cases_eq s.key step.key) [
      | inl e ↦
          (let both : Some s.node ≡ Some (folded value step.node) = sym s.there ∙ ap (node_at new) e ∙ here in
          let same : s.node ≡ folded value step.node = cc in
          let kinds : Constant ≡ kind = ap (λ (n : Node). n.kind) (sym same) ∙ s.holds.1 in
          absurd (false≢true (ap is_outer kinds ∙ outer)))
      | inr n ↦ record { key = s.key; node = s.node; there = sym (now s.key n) ∙ s.there; holds = s.holds }
    ]

-- what a node that may be folded gives is a power
pub out_le_15 : (kind : Kind) (component : Component) (state : ℕ) → can_fold kind ≡ true → role_of kind ≡ Some component → state ≤ top_of (role_of kind) → out component state ≤ 15
out_le_15 Torch component state c role h = let is : TorchPart ≡ component = cc in subst (λ part. out part state ≤ 15) is (omega arith)
out_le_15 (Repeater delay) component state c role h = let is : RepeaterPart delay ≡ component = cc in subst (λ part. out part state ≤ 15) is (omega arith)
out_le_15 (Comparator subtract direct far) component state c role h = let is : ComparatorPart subtract ≡ component = cc in subst (λ part. out part state ≤ 15) is h
out_le_15 _ component state c role h = absurd (false≢true c)

fold_lives : (g : Nodes) (key value k : ℕ) → Lives g k → Lives (fold_to g key value) k
fold_lives g key value k = entry_after_set (λ a b. IsSome a → IsSome b) (λ a h. h) g key (option_map (folded value) (node_at g key)) (one (node_at g key)) k
  where
    one : (a : Option Node) → IsSome a → IsSome (option_map (folded value) a)
    one None h = h
    one (Some n) h = h

pub fold_lived : (g : Nodes) (key value k : ℕ) → Lives (fold_to g key value) k → Lives g k
fold_lived g key value k = entry_after_set (λ a b. IsSome b → IsSome a) (λ a h. h) g key (option_map (folded value) (node_at g key)) (one (node_at g key)) k
  where
    one : (a : Option Node) → IsSome (option_map (folded value) a) → IsSome a
    one None h = h
    one (Some n) h = h

folded_sound : (g : Nodes) (node : Node) (value : ℕ) → value ≤ 15 → IsSoundNode g (folded value node)
folded_sound g node value h = record {
  state = h;
  kind = tt;
  due = omega arith;
  priority = omega arith;
  waiting = λ n. absurd (n refl);
  idle = λ e. refl;
  links = λ index link e. absurd (none index link e);
}
  where
    no_links : List Link
    no_links = []

    none : (index : ℕ) (link : Link) → slice_get no_links index ≡ Some link → ⊥
    none index link e = cc

pub fold_sound : (old new : Nodes) → IsSound old → Folds old new → IsSound new
fold_sound old new sound step = subst IsSound (sym step.after)
    (set_sound old step.key (option_map (folded value) (node_at old step.key)) sound (places (node_at old step.key)) (fold_lives old step.key value) (one (node_at old step.key)))
  where
    value : ℕ
    value = out step.component step.node.state

    low : value ≤ 15
    low = out_le_15 step.node.kind step.component step.node.state step.can step.role (sound.each step.key step.node step.there).state

    places : (a : Option Node) → places_at (option_map (folded value) a) ≡ places_at a
    places None = refl
    places (Some n) = refl

    one : (a : Option Node) (node : Node) → option_map (folded value) a ≡ Some node → IsSoundNode old node
    one None node e = absurd (cc)
    one (Some n) node e = let same : folded value n ≡ node = cc in subst (IsSoundNode old) same (folded_sound old n value low)

pub fold_falls : (old new : Nodes) → Folds old new → measure new < measure old
fold_falls old new step =
    let value : ℕ = out step.component step.node.state in
    let less = measure-set old step.key (option_map (folded value) (node_at old step.key)) step.node step.there in
    let here : measure_at (option_map (folded value) (node_at old step.key)) ≡ measure_at (Some (folded value step.node)) = ap (λ (a : Option Node). measure_at (option_map (folded value) a)) step.there in
    let one : changing step.node.kind ≡ 1 = folds-changing step.node.kind step.can in
    let short : measure (fold_to old step.key value) < measure old = omega (arith, less, here, one) in
    subst (λ g. measure g < measure old) (sym step.after) short
