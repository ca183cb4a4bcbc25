-- Where nothing is left to fold, the same is folded, whatever was first.
use Rattle.std.proofs.Common.{◌≡◌, ℕ, true, Option, Some, refl, sym, ap, ◌∙◌, subst, length, inl, inr, ◌⊎◌}
use Rattle.std.specs.Prelude.{slice_get, option_map}
use Rattle.std.proofs.lemmas.Bool.{cases_eq, false≢true}
use Rattle.std.proofs.lemmas.List.{length-set}
use Rattle.circuit.specs.declared.Component.{Component}
use Rattle.circuit.specs.declared.Readings.{Readings}
use Rattle.circuit.specs.Component.{out, goal, locked}
use Rattle.graph.specs.declared.Group.{Group}
use Rattle.graph.specs.declared.Group.TheVariants.{Back, Side}
use Rattle.graph.specs.declared.Kind.TheVariants.{Constant}
use Rattle.graph.specs.declared.Link.{Link}
use Rattle.graph.specs.Edits.{folded, fold_to}
use Rattle.graph.specs.Graph.{Node, Nodes, node_at}
use Rattle.graph.specs.GraphCircuit.{role_of}
use Rattle.graph.specs.Readings.{reading, readings_of, back_of}
use Rattle.graph.specs.Steps.{fixed, fixed_at, can_fold, Folds}
use Rattle.graph.proofs.FoldSteps.{fold_others, fold_here}
use Rattle.graph.proofs.Shares.{reading-same}
use Rattle.pass_frame.specs.Frame.{Reaches, Stays, Goes, IsDone}
use Rattle.pass_frame.specs.Rounds.{Exhausts}
use Rattle.pass_frame.proofs.SameNodes.{nodes_same}

-- the node was folded, to what it gives in its state
record WasFolded (before after : Option Node) : Type 0 where
  pub node : Node
  pub component : Component
  pub there : before ≡ Some node
  pub can : can_fold node.kind ≡ true
  pub role : role_of node.kind ≡ Some component
  pub now : after ≡ Some (folded (out component node.state) node)

-- each node stays or was folded
record AreFolded (old new : Nodes) : Type 0 where
  pub size : length new ≡ length old
  pub each : (key : ℕ) → (node_at new key ≡ node_at old key) ⊎ WasFolded (node_at old key) (node_at new key)

-- what is folded is no Constant
not_constant : (node : Node) → node.kind ≡ Constant → can_fold node.kind ≡ true → ⊥
not_constant node is can = let no : can_fold Constant ≡ true = ap can_fold (sym is) ∙ can in absurd (false≢true no)

-- what a fold leaves is a Constant
after_fold : (key : ℕ) (old mid : Nodes) → WasFolded (node_at old key) (node_at mid key) → (node : Node) → node_at mid key ≡ Some node → can_fold node.kind ≡ true → ⊥
after_fold key old mid was node there can =
    let same : Some (folded (out was.component was.node.state) was.node) ≡ Some node = sym was.now ∙ there in
    let kind : Constant ≡ node.kind = cc in
    not_constant node (sym kind) can

folded_first : (g : Nodes) → AreFolded g g
folded_first g = record { size = refl; each = λ key. inl refl }

folded_next : (old mid new : Nodes) → AreFolded old mid → Folds mid new → AreFolded old new
folded_next old mid new are step = subst (AreFolded old) (sym step.after) (record {
  size = length-set mid step.key (option_map (folded (out step.component step.node.state)) (node_at mid step.key)) ∙ are.size;
  each = λ key. elim (cases_eq key step.key) [
    | inl e ↦ subst (λ k. (node_at after k ≡ node_at old k) ⊎ WasFolded (node_at old k) (node_at after k)) (sym e) here
    | inr n ↦ subst (λ (entry : Option Node). (entry ≡ node_at old key) ⊎ WasFolded (node_at old key) entry) (sym (fold_others mid step.key (out step.component step.node.state) key n)) (are.each key)
  ];
})
  where
    after : Nodes
    after = fold_to mid step.key (out step.component step.node.state)

    here : (node_at after step.key ≡ node_at old step.key) ⊎ WasFolded (node_at old step.key) (node_at after step.key)
    here = elim (are.each step.key) [
      | inl e ↦ inr (record {
        node = step.node;
        component = step.component;
        there = sym e ∙ step.there;
        can = step.can;
        role = step.role;
        now = fold_here mid step.key (out step.component step.node.state) step.node step.there;
      })
      | inr was ↦ absurd (after_fold step.key old mid was step.node step.there step.can)
    ]

folded_along : (old mid new : Nodes) → AreFolded old mid → Reaches Folds mid new → AreFolded old new
folded_along old mid _ are Stays = are
folded_along old mid new are (Goes {mid = next} step r) = folded_along old next new (folded_next old mid next are step) r

-- Each node is as it was at first, or as it is in the end.
abbrev Between : Nodes → Nodes → Nodes → Type 0
Between old mid end = (key : ℕ) → (node_at mid key ≡ node_at old key) ⊎ (node_at mid key ≡ node_at end key)

-- a Constant between is one in the end
constant_stays : (old mid end : Nodes) → AreFolded old end → Between old mid end → (key : ℕ) (node : Node) → node_at mid key ≡ Some node → node.kind ≡ Constant → node_at end key ≡ Some node
constant_stays old mid end are between key node there is = elim (between key) [
  | inr e ↦ sym e ∙ there
  | inl e ↦ elim (are.each key) [
    | inl same ↦ same ∙ sym e ∙ there
    | inr was ↦
        (let one : Some was.node ≡ Some node = sym was.there ∙ sym e ∙ there in
        let kind : was.node.kind ≡ node.kind = cc in
        absurd (not_constant was.node (kind ∙ is) was.can))
  ]
]

-- What may be folded between may be folded in the end, where it isn't yet.
folds_in_end : (old mid end new : Nodes) → AreFolded old end → Between old mid end → (step : Folds mid new) → node_at end step.key ≡ Some step.node → Folds end (fold_to end step.key (out step.component step.node.state))
folds_in_end old mid end new are between step there = record {
  key = step.key;
  node = step.node;
  component = step.component;
  there = there;
  can = step.can;
  role = step.role;
  idle = step.idle;
  sources = λ index link at. (let s = step.sources index link at in (s.0, stays index link at, s.2));
  rests = subst (λ (r : Readings). (step.node.state ≡ goal step.component r) ⊎ (locked step.component r ≡ true)) readings step.rests;
  after = refl;
}
  where
    stays : (index : ℕ) (link : Link) (at : slice_get step.node.links index ≡ Some link) → node_at end link.from ≡ Some (step.sources index link at).0
    stays index link at = let s = step.sources index link at in constant_stays old mid end are between link.from s.0 s.1 s.2

    same : (group : Group) → reading (fixed mid) group step.node.links ≡ reading (fixed end) group step.node.links
    same group = reading-same (fixed mid) (fixed end) group step.node.links (λ index link at. ap fixed_at ((step.sources index link at).1 ∙ sym (stays index link at)))

    readings : readings_of (fixed mid) step.node ≡ readings_of (fixed end) step.node
    readings = λ i. record { back = back_of step.node.kind (same Back i); side = same Side i }

between_next : (old mid new end : Nodes) → AreFolded old end → IsDone Folds end → Between old mid end → Folds mid new → Between old new end
between_next old mid new end are done between step = subst (λ (g : Nodes). Between old g end) (sym step.after) next
  where
    after : Nodes
    after = fold_to mid step.key (out step.component step.node.state)

    not_left : node_at end step.key ≡ Some step.node → ⊥
    not_left there = done (fold_to end step.key (out step.component step.node.state)) (folds_in_end old mid end new are between step there)

    -- it is folded in the end, to the same
    here : node_at after step.key ≡ node_at end step.key
    here = elim (between step.key) [
      | inr e ↦ absurd (not_left (sym e ∙ step.there))
      | inl e ↦ elim (are.each step.key) [
        | inl same ↦ absurd (not_left (same ∙ sym e ∙ step.there))
        | inr was ↦
            (let one : Some step.node ≡ Some was.node = sym step.there ∙ e ∙ was.there in
            let node : step.node ≡ was.node = cc in
            let both : Some step.component ≡ Some was.component = sym step.role ∙ ap (λ (n : Node). role_of n.kind) node ∙ was.role in
            let component : step.component ≡ was.component = cc in
            fold_here mid step.key (out step.component step.node.state) step.node step.there
            ∙ (λ i. Some (folded (out (component i) (node i).state) (node i)))
            ∙ sym was.now)
      ]
    ]

    next : Between old after end
    next key = elim (cases_eq key step.key) [
      | inl e ↦ inr (subst (λ k. node_at after k ≡ node_at end k) (sym e) here)
      | inr n ↦ subst (λ (entry : Option Node). (entry ≡ node_at old key) ⊎ (entry ≡ node_at end key)) (sym (fold_others mid step.key (out step.component step.node.state) key n)) (between key)
    ]

between_along : (old mid new end : Nodes) → AreFolded old end → IsDone Folds end → Between old mid end → Reaches Folds mid new → Between old new end
between_along old mid _ end are done between Stays = between
between_along old mid new end are done between (Goes {mid = next} step r) = between_along old next new end are done (between_next old mid next end are done between step) r

pub folded_one : (old one other : Nodes) → Exhausts Folds old one → Exhausts Folds old other → one ≡ other
folded_one old one other a b = nodes_same one other (first.size ∙ sym second.size) same
  where
    first : AreFolded old one
    first = folded_along old old one (folded_first old) a.reaches

    second : AreFolded old other
    second = folded_along old old other (folded_first old) b.reaches

    same : (key : ℕ) → node_at one key ≡ node_at other key
    same key = elim (between_along old old one other second b.rests (λ k. inl refl) a.reaches key) [
      | inr e ↦ e
      | inl e ↦ elim (between_along old old other one first a.rests (λ k. inl refl) b.reaches key) [
        | inr f ↦ sym f
        | inl f ↦ e ∙ sym f
      ]
    ]
