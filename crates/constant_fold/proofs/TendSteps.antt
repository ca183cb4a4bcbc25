-- What is looked at, waits or is stuck, step by step.
use Rattle.std.proofs.Common.{◌≡◌, ◌≢◌, ℕ, ◌<◌, ◌≤◌, Bool, true, false, ◌||◌, List, [], ◌∷◌, ◌++◌, Option, Some, None, refl, sym, ap, ◌∙◌, subst, arith, length, get_or, ◌⊎◌, inl, inr, if◌then◌else◌}
use Rattle.std.specs.Prelude.{slice_get, Vec, ◌==◌, IsSome, MatchOption}
use Rattle.std.specs.declared.alloc.Global.{Global}
use Rattle.std.proofs.lemmas.Bool.{cases_eq, eqb-true, eq-eqb, false≢true}
use Rattle.circuit.specs.declared.Component.{Component}
use Rattle.circuit.specs.Component.{goal, locked, out, top}
use Rattle.circuit.specs.Circuit.{Each, Among}
use Rattle.graph.specs.Items.{keys_of}
use Rattle.graph.specs.declared.Kind.{Kind}
use Rattle.graph.specs.declared.Kind.TheVariants.{Torch, Repeater, Comparator, Constant}
use Rattle.graph.specs.declared.Group.{Group}
use Rattle.graph.specs.declared.Group.TheVariants.{Back, Side}
use Rattle.graph.specs.declared.Link.{Link}
use Rattle.graph.specs.Graph.{Node, Nodes, node_at, Lives}
use Rattle.graph.specs.LinkAt.{links_of, link_at}
use Rattle.graph.specs.Edits.{folded, fold_to}
use Rattle.graph.specs.Readings.{reading, readings_of, back_of}
use Rattle.graph.specs.GraphCircuit.{role_of}
use Rattle.graph.specs.Sound.{IsSound, IsSoundNode, top_of}
use Rattle.graph.specs.Steps.{fixed_at, fixed, can_fold, Folds}
use Rattle.graph.proofs.Shares.{reading-same}
use Rattle.graph.proofs.LinkSteps.{has_link}
use Rattle.graph.proofs.FoldSteps.{fold_others, fold_here, fold_lived, out_le_15}
use Rattle.pass_frame.specs.Frame.{IsDone}
use Rattle.pass_frame.proofs.Sweeps.{index_of_key}
use Rattle.constant_fold.specs.declared.waits.Wait.{Wait}
use Rattle.constant_fold.specs.Foldable.{is_constant_kind, is_constant, folding_part, part_of, part_at, is_at_rest, rest_value_at, ReadsConstants, IsFoldable, IsStuck, NoPart, Moves}
use Rattle.constant_fold.specs.Tended.{waiting_for, IsAdded, IsEmptied, HasPassed, EachConstant, IsOpen, IsTended, ToDo, Awaits, NoFold, OthersTended, AllTended, AreListed, IsFresh}
use Rattle.constant_fold.proofs.WaitLists.{among_front, among_back, among_either, each_join, each_front, each_back, each_so}

-- what the tests tell
kind_is : (kind : Kind) → is_constant_kind kind ≡ true → kind ≡ Constant
kind_is Constant h = refl
kind_is _ h = absurd (false≢true h)

source_is : (entry : Option Node) → is_constant entry ≡ true → (source : Node) × (entry ≡ Some source) × (source.kind ≡ Constant)
source_is None h = absurd (false≢true h)
source_is (Some node) h = (node, refl, kind_is node.kind h)

source_tests : (entry : Option Node) (source : Node) → entry ≡ Some source → source.kind ≡ Constant → is_constant entry ≡ true
source_tests entry source e k = ap is_constant e ∙ ap is_constant_kind k

folding : (kind : Kind) (component : Component) → folding_part kind ≡ Some component → (can_fold kind ≡ true) × (role_of kind ≡ Some component)
folding Torch component e = (refl, e)
folding (Repeater delay) component e = (refl, e)
folding (Comparator subtract direct far) component e = (refl, e)
folding _ component e = absurd (cc)

foldable : (kind : Kind) (component : Component) → can_fold kind ≡ true → role_of kind ≡ Some component → folding_part kind ≡ Some component
foldable Torch component c e = e
foldable (Repeater delay) component c e = e
foldable (Comparator subtract direct far) component c e = e
foldable _ component c e = absurd (false≢true c)

pub part_tells : (node : Node) (component : Component) → part_of node ≡ Some component → (node.due ≡ 0) × (can_fold node.kind ≡ true) × (role_of node.kind ≡ Some component)
part_tells node component e = by_test (node.due == 0) refl e
  where
    by_test : (b : Bool) → (node.due == 0) ≡ b → (if b then folding_part node.kind else None) ≡ Some component → (node.due ≡ 0) × (can_fold node.kind ≡ true) × (role_of node.kind ≡ Some component)
    by_test true idle e = let f = folding node.kind component e in (eqb-true node.due 0 idle, f.0, f.1)
    by_test false idle e = absurd (cc)

part_from : (node : Node) (component : Component) → node.due ≡ 0 → can_fold node.kind ≡ true → role_of node.kind ≡ Some component → part_of node ≡ Some component
part_from node component idle can role = rw (eq-eqb node.due 0 idle) (foldable node.kind component can role)

rests_tell : (a b : Bool) → (a || b) ≡ true → (a ≡ true) ⊎ (b ≡ true)
rests_tell true b h = inl refl
rests_tell false b h = inr h

-- A node that can be folded is folded by a step.
pub fold_step : (old new : Nodes) (key value : ℕ) → IsFoldable old key value → new ≡ fold_to old key value → Folds old new
fold_step old new key value f e =
    let part = part_tells f.node f.component f.part in
    record {
      key = key;
      node = f.node;
      component = f.component;
      there = f.there;
      can = part.1;
      role = part.2;
      idle = part.0;
      sources = λ index link at. source_is (node_at old link.from) (f.sources index link at);
      rests = elim (rests_tell (f.node.state == goal f.component (readings_of (fixed old) f.node)) (locked f.component (readings_of (fixed old) f.node)) f.rests) [
        | inl h ↦ inl (eqb-true f.node.state (goal f.component (readings_of (fixed old) f.node)) h)
        | inr h ↦ inr h
      ];
      after = e ∙ ap (fold_to old key) f.gives;
    }

pub foldable_lives : (g : Nodes) (key value : ℕ) → IsFoldable g key value → Lives g key
foldable_lives g key value f = rw f.there refl

pub foldable_low : (g : Nodes) (key value : ℕ) → IsSound g → IsFoldable g key value → value ≤ 15
foldable_low g key value sound f =
    let part = part_tells f.node f.component f.part in
    omega (arith, f.gives, out_le_15 f.node.kind f.component f.node.state part.1 part.2 (sound.each key f.node f.there).state)

-- the state of a node that may be folded is in the range of its component
pub state_in_range : (node : Node) (component : Component) (g : Nodes) → IsSoundNode g node → part_of node ≡ Some component → node.state ≤ top component
state_in_range node component g sound e = subst (λ role. node.state ≤ top_of role) (part_tells node component e).2 sound.state

-- Where all nodes are tended and none is to be looked at, no step is left.
pub folds_done : (g : Nodes) (lists : List (Vec Wait Global)) → AllTended g [] lists → IsDone Folds g
folds_done g lists tended new step = by_tending (tended.each step.key step.node step.there)
  where
    part : part_of step.node ≡ Some step.component
    part = part_from step.node step.component step.idle step.can step.role

    by_stuck : IsStuck g step.node → ⊥
    by_stuck (NoPart none) = let bad : None ≡ Some step.component = sym none ∙ part in absurd (cc)
    by_stuck (Moves sources component other moves) =
        let both : Some component ≡ Some step.component = sym other ∙ part in
        let same : component ≡ step.component = cc in
        let still : is_at_rest g step.node step.component ≡ false = subst (λ c. is_at_rest g step.node c ≡ false) same moves in
        elim step.rests [
          | inl h ↦ absurd (false≢true (sym still ∙ ap (λ b. b || locked step.component (readings_of (fixed g) step.node)) (eq-eqb step.node.state (goal step.component (readings_of (fixed g) step.node)) h)))
          | inr h ↦ absurd (false≢true (sym still ∙ or_true (step.node.state == goal step.component (readings_of (fixed g) step.node)) (locked step.component (readings_of (fixed g) step.node)) h))
        ]
      where
        or_true : (a b : Bool) → b ≡ true → (a || b) ≡ true
        or_true true b h = refl
        or_true false b h = h

    by_tending : IsTended g [] lists step.key step.node → ⊥
    by_tending (ToDo wait among e) = absurd among
    by_tending (Awaits index link wait here is_open among e) =
        let source = step.sources index link here in
        absurd (false≢true (sym is_open ∙ source_tests (node_at g link.from) source.0 source.1 source.2))
    by_tending (NoFold stuck) = by_stuck stuck

-- One that was to be looked at is taken out.
pub tended_popped : (g : Nodes) (work rest : List Wait) (wait : Wait) (lists : List (Vec Wait Global)) → AllTended g work lists → work ≡ rest ++ wait ∷ [] → OthersTended g wait.node rest lists × HasPassed g wait
tended_popped g work rest wait lists t e = (
  record {
    others = λ k node n there. still k node n (t.each k node there);
    passed = each_front (HasPassed g) rest (wait ∷ []) (subst (Each (HasPassed g)) e t.passed);
    waits_passed = t.waits_passed;
    room = t.room;
  },
  (each_back (HasPassed g) rest (wait ∷ []) (subst (Each (HasPassed g)) e t.passed)).0,
)
  where
    still : (k : ℕ) (node : Node) → k ≢ wait.node → IsTended g work lists k node → IsTended g rest lists k node
    still k node n (ToDo other among is) = elim (among_either rest (wait ∷ []) other (subst (λ ws. Among ws other) e among)) [
      | inl a ↦ ToDo other a is
      | inr b ↦ elim b [ inl same ↦ absurd (n (sym is ∙ ap (λ (w : Wait). w.node) same)) | inr none ↦ absurd none ]
    ]
    still k node n (Awaits index link other here is_open among is) = Awaits index link other here is_open among is
    still k node n (NoFold stuck) = NoFold stuck

-- All are tended where the one that was left is.
pub tended_with : (g : Nodes) (key : ℕ) (work : List Wait) (lists : List (Vec Wait Global)) → OthersTended g key work lists → ((node : Node) → node_at g key ≡ Some node → IsTended g work lists key node) →
    AllTended g work lists
tended_with g key work lists t one = record {
  each = λ k node there. elim (cases_eq k key) [
    | inl e ↦ subst (λ j. IsTended g work lists j node) (sym e) (one node (ap (node_at g) (sym e) ∙ there))
    | inr n ↦ t.others k node n there
  ];
  passed = t.passed;
  waits_passed = t.waits_passed;
  room = t.room;
}

-- where it may not be folded
pub tended_stuck : (g : Nodes) (key : ℕ) (work : List Wait) (lists : List (Vec Wait Global)) → OthersTended g key work lists → part_at (node_at g key) ≡ None → AllTended g work lists
tended_stuck g key work lists t none = tended_with g key work lists t (λ node there. NoFold (NoPart (ap part_at (sym there) ∙ none)))

-- where it reads Constants alone, and moves
pub tended_moving : (g : Nodes) (key : ℕ) (work : List Wait) (lists : List (Vec Wait Global)) (node : Node) (component : Component) → OthersTended g key work lists → node_at g key ≡ Some node →
    part_of node ≡ Some component → EachConstant g key → is_at_rest g node component ≡ false → AllTended g work lists
tended_moving g key work lists node component t there part constants moves = tended_with g key work lists t (λ other e.
    let both : Some node ≡ Some other = sym there ∙ e in
    let same : node ≡ other = cc in
    subst (IsTended g work lists key) same
    (NoFold (Moves (λ index link at. constants index link (ap (λ (entry : Option Node). slice_get (links_of entry) index) there ∙ at)) component part moves)))

-- and where it can be folded
pub foldable_at : (g : Nodes) (key value : ℕ) (node : Node) (component : Component) → node_at g key ≡ Some node → part_of node ≡ Some component → EachConstant g key → is_at_rest g node component ≡ true →
    value ≡ out component node.state → IsFoldable g key value
foldable_at g key value node component there part constants rests gives = record {
  node = node;
  component = component;
  there = there;
  part = part;
  sources = λ index link at. constants index link (ap (λ (entry : Option Node). slice_get (links_of entry) index) there ∙ at);
  rests = rests;
  gives = gives;
}

-- so it is with what was looked at to its last link
pub looked_at : (g : Nodes) (key : ℕ) (work : List Wait) (lists : List (Vec Wait Global)) (component : Component) (found : Option ℕ) → OthersTended g key work lists → part_at (node_at g key) ≡ Some component →
    EachConstant g key → found ≡ rest_value_at g (node_at g key) component → MatchOption found (AllTended g work lists) (λ value. IsFoldable g key value × OthersTended g key work lists)
looked_at g key work lists component found t part constants e =
    subst (λ f. MatchOption f (AllTended g work lists) (λ value. IsFoldable g key value × OthersTended g key work lists)) (sym e) (by_entry (node_at g key) refl part)
  where
    by_entry : (entry : Option Node) → node_at g key ≡ entry → part_at entry ≡ Some component →
        MatchOption (rest_value_at g entry component) (AllTended g work lists) (λ value. IsFoldable g key value × OthersTended g key work lists)
    by_entry None there p = absurd (cc)
    by_entry (Some node) there p = by_test (is_at_rest g node component) refl
      where
        by_test : (b : Bool) → is_at_rest g node component ≡ b →
            MatchOption (if b then Some (out component node.state) else None) (AllTended g work lists) (λ value. IsFoldable g key value × OthersTended g key work lists)
        by_test true h = (foldable_at g key (out component node.state) node component there p constants h refl, t)
        by_test false h = tended_moving g key work lists node component t there p constants h

-- It waits for a source.
pub tended_waiting : (g : Nodes) (key source index : ℕ) (work : List Wait) (old new : List (Vec Wait Global)) → OthersTended g key work old → IsOpen g key source index → IsAdded old new source (record { node = key; index = index }) →
    AllTended g work new
tended_waiting g key source index work old new t is_open added = tended_with g key work new
    (record {
      others = λ k node n there. still k node (t.others k node n there);
      passed = t.passed;
      waits_passed = λ s. elim (cases_eq s source) [
        | inl e ↦ subst (λ j. Each (HasPassed g) (waiting_for new j)) (sym e) (subst (Each (HasPassed g)) (sym added.here) (each_join (HasPassed g) (waiting_for old source) (wait ∷ []) (t.waits_passed source) (is_open.passed, tt)))
        | inr n ↦ subst (Each (HasPassed g)) (sym (added.others s n)) (t.waits_passed s)
      ];
      room = λ k lives. subst (λ n. k < n) (sym added.size) (t.room k lives);
    })
    (λ node there. Awaits index is_open.link wait (ap (λ (entry : Option Node). slice_get (links_of entry) index) (sym there) ∙ is_open.here)
    (ap (λ k. is_constant (node_at g k)) is_open.from ∙ is_open.open_source)
    (subst (λ s. Among (waiting_for new s) wait) (sym is_open.from) (subst (λ (ws : List Wait). Among ws wait) (sym added.here) (among_back (waiting_for old source) (wait ∷ []) wait (inl refl)))) refl)
  where
    wait : Wait
    wait = record { node = key; index = index }

    kept : (s : ℕ) (other : Wait) → Among (waiting_for old s) other → Among (waiting_for new s) other
    kept s other a = elim (cases_eq s source) [
      | inl e ↦ subst (λ j. Among (waiting_for new j) other) (sym e)
          (subst (λ (ws : List Wait). Among ws other) (sym added.here) (among_front (waiting_for old source) (wait ∷ []) other (subst (λ j. Among (waiting_for old j) other) e a)))
      | inr n ↦ subst (λ (ws : List Wait). Among ws other) (sym (added.others s n)) a
    ]

    still : (k : ℕ) (node : Node) → IsTended g work old k node → IsTended g work new k node
    still k node (ToDo other among is) = ToDo other among is
    still k node (Awaits i link other here o among is) = Awaits i link other here o (kept link.from other among) is
    still k node (NoFold stuck) = NoFold stuck

-- the source of an open link lives
pub open_lives : (g : Nodes) (key source index : ℕ) → IsSound g → IsOpen g key source index → Lives g source
open_lives g key source index sound is_open =
    let h = has_link g key index is_open.link is_open.here in
    subst (Lives g) is_open.from ((sound.each key h.node h.there).links index is_open.link h.at_index).1

-- After a fold what waited for the node is to be looked at.
pub tended_folded : (g new : Nodes) (key value : ℕ) (work woken : List Wait) (old lists : List (Vec Wait Global)) → OthersTended g key work old → IsFoldable g key value → new ≡ fold_to g key value →
    woken ≡ work ++ waiting_for old key → IsEmptied old lists key → AllTended new woken lists
tended_folded g new key value work woken old lists t f e w emptied = record {
  each = λ k node there. elim (cases_eq k key) [
    | inl same ↦
        (let both : Some node ≡ Some (folded value f.node) = sym there ∙ ap (node_at new) same ∙ here in
        let is : node ≡ folded value f.node = cc in
        subst (IsTended new woken lists k) (sym is) (NoFold (NoPart refl)))
    | inr n ↦ still k node n (t.others k node n (sym (others k n) ∙ there))
  ];
  passed = subst (Each (HasPassed new)) (sym w) (each_so (HasPassed g) (HasPassed new) passes (work ++ waiting_for old key) (each_join (HasPassed g) work (waiting_for old key) t.passed (t.waits_passed key)));
  waits_passed = λ s. elim (cases_eq s key) [
    | inl same ↦ subst (λ j. Each (HasPassed new) (waiting_for lists j)) (sym same) (subst (Each (HasPassed new)) (sym emptied.here) tt)
    | inr n ↦ subst (Each (HasPassed new)) (sym (emptied.others s n)) (each_so (HasPassed g) (HasPassed new) passes (waiting_for old s) (t.waits_passed s))
  ];
  room = λ k lives. subst (λ n. k < n) (sym emptied.size) (t.room k (fold_lived g key value k (subst (λ (h : Nodes). Lives h k) e lives)));
}
  where
    here : node_at new key ≡ Some (folded value f.node)
    here = ap (λ (h : Nodes). node_at h key) e ∙ fold_here g key value f.node f.there

    others : (k : ℕ) → k ≢ key → node_at new k ≡ node_at g k
    others k n = ap (λ (h : Nodes). node_at h k) e ∙ fold_others g key value k n

    part : (f.node.due ≡ 0) × (can_fold f.node.kind ≡ true) × (role_of f.node.kind ≡ Some f.component)
    part = part_tells f.node f.component f.part

    not_constant : (kind : Kind) → can_fold kind ≡ true → is_constant_kind kind ≡ false
    not_constant Torch c = refl
    not_constant (Repeater delay) c = refl
    not_constant (Comparator subtract direct far) c = refl
    not_constant _ c = absurd (false≢true c)

    was_open : is_constant (node_at g key) ≡ false
    was_open = ap is_constant f.there ∙ not_constant f.node.kind part.1

    constants : (k : ℕ) → is_constant (node_at g k) ≡ true → k ≢ key
    constants k h same = false≢true (sym was_open ∙ ap (λ j. is_constant (node_at g j)) (sym same) ∙ h)

    stays : (k : ℕ) → is_constant (node_at g k) ≡ true → is_constant (node_at new k) ≡ true
    stays k h = ap is_constant (others k (constants k h)) ∙ h

    reads : (node : Node) → ReadsConstants g node → ReadsConstants new node
    reads node r index link at = stays link.from (r index link at)

    rests_same : (node : Node) (component : Component) → ReadsConstants g node → is_at_rest new node component ≡ is_at_rest g node component
    rests_same node component r =
        let same : (group : Group) → reading (fixed new) group node.links ≡ reading (fixed g) group node.links =
        λ group. reading-same (fixed new) (fixed g) group node.links (λ index link at. ap fixed_at (others link.from (constants link.from (r index link at)))) in
        ap (λ readings. (node.state == goal component readings) || locked component readings) (λ i. record { back = back_of node.kind (same Back i); side = same Side i })

    stuck_still : (node : Node) → IsStuck g node → IsStuck new node
    stuck_still node (NoPart none) = NoPart none
    stuck_still node (Moves sources component p moves) = Moves (reads node sources) component p (rests_same node component sources ∙ moves)

    still : (k : ℕ) (node : Node) → k ≢ key → IsTended g work old k node → IsTended new woken lists k node
    still k node n (ToDo wait among is) = ToDo wait (subst (λ (ws : List Wait). Among ws wait) (sym w) (among_front work (waiting_for old key) wait among)) is
    still k node n (Awaits index link wait at is_open among is) = elim (cases_eq link.from key) [
      | inl same ↦ ToDo wait (subst (λ (ws : List Wait). Among ws wait) (sym w) (among_back work (waiting_for old key) wait (subst (λ j. Among (waiting_for old j) wait) same among))) is
      | inr d ↦ Awaits index link wait at (ap is_constant (others link.from d) ∙ is_open) (subst (λ (ws : List Wait). Among ws wait) (sym (emptied.others link.from d)) among) is
    ]
    still k node n (NoFold stuck) = NoFold (stuck_still node stuck)

    passes : (wait : Wait) → HasPassed g wait → HasPassed new wait
    passes wait p index link less at = elim (cases_eq wait.node key) [
      | inl same ↦ absurd (no_link index link (ap (λ (entry : Option Node). slice_get (links_of entry) index) (sym here) ∙ ap (λ j. link_at new j index) (sym same) ∙ at))
      | inr n ↦ stays link.from (p index link less (ap (λ (entry : Option Node). slice_get (links_of entry) index) (sym (others wait.node n)) ∙ at))
    ]
      where
        no_link : (index : ℕ) (link : Link) → slice_get (links_of (Some (folded value f.node))) index ≡ Some link → ⊥
        no_link index link e = cc

-- the keys of all nodes
pub listed_of : (g : Nodes) (keys : List ℕ) → keys ≡ keys_of g → AreListed g keys
listed_of g keys e k lives = by_entry (node_at g k) refl lives
  where
    by_entry : (entry : Option Node) → node_at g k ≡ entry → IsSome entry → (i : ℕ) × (i < length keys) × (get_or keys i 0 ≡ k)
    by_entry None there h = absurd (false≢true h)
    by_entry (Some node) there h =
        let i = index_of_key g k node there in (i.0, omega (arith, i.1, ap (λ (ks : List ℕ). length ks) e), ap (λ (ks : List ℕ). get_or ks i.0 0) e ∙ i.2)

-- At the start all nodes are to be looked at.
pub tended_fresh : (g : Nodes) (keys : List ℕ) (work : List Wait) (lists : List (Vec Wait Global)) → AreListed g keys → IsFresh keys work lists → AllTended g work lists
tended_fresh g keys work lists listed fresh = record {
  each = λ k node there.
      let i = listed k (rw there refl) in
      let w = fresh.all i.0 i.1 in
      ToDo w.0 w.1 (w.2 ∙ i.2);
  passed = each_so (λ (wait : Wait). wait.index ≡ 0) (HasPassed g) (λ wait first index link less at. absurd (omega (arith, first, less))) work fresh.first;
  waits_passed = λ s. subst (Each (HasPassed g)) (sym (fresh.empty s)) tt;
  room = λ k lives. let i = listed k lives in subst (λ n. n < length lists) i.2 (fresh.room i.0 i.1);
}

-- Each step folds a node that can be folded.
pub foldable_of : (g new : Nodes) (step : Folds g new) → IsFoldable g step.key (out step.component step.node.state)
foldable_of g new step = record {
  node = step.node;
  component = step.component;
  there = step.there;
  part = part_from step.node step.component step.idle step.can step.role;
  sources = λ index link at. let source = step.sources index link at in source_tests (node_at g link.from) source.0 source.1 source.2;
  rests = elim step.rests [
    | inl h ↦ ap (λ b. b || locked step.component (readings_of (fixed g) step.node)) (eq-eqb step.node.state (goal step.component (readings_of (fixed g) step.node)) h)
    | inr h ↦ or_true (step.node.state == goal step.component (readings_of (fixed g) step.node)) (locked step.component (readings_of (fixed g) step.node)) h
  ];
  gives = refl;
}
  where
    or_true : (a b : Bool) → b ≡ true → (a || b) ≡ true
    or_true true b h = refl
    or_true false b h = h
