-- Dropping all unseen nodes at once is pruning them one after another, by rising number.
use Rattle.std.proofs.Common.{◌≡◌, ℕ, ◌<◌, Bool, true, false, not, List, [], ◌∷◌, Option, Some, None, Ok, refl, sym, ap, ◌∙◌, subst, arith, length, inl, inr}
use Rattle.std.specs.Prelude.{◌==◌}
use Rattle.std.proofs.lemmas.Bool.{cases_Bool, false≢true, ne_eqb}
use Rattle.circuit.specs.Circuit.{Each, Among}
use Rattle.graph.specs.declared.Link.{Link}
use Rattle.graph.specs.Graph.{Node, Nodes, node_at, Lives, HasLink}
use Rattle.graph.specs.Edits.{drop_set, IsClosed}
use Rattle.graph.specs.Sound.{IsSound}
use Rattle.graph.specs.Steps.{Reaches, Itself, Along, can_go, Prunes}
use Rattle.pass_frame.specs.Frame.{Reaches as ReachesBy, Stays, Goes, IsDone, Ran}
use Rattle.pass_frame.proofs.SameNodes.{nodes_same}
use Rattle.prune.specs.Unseen.{IsUnseen, AreUnseen}
use Rattle.prune.specs.Among.{is_among, is_among_of, among_of, each_of}
use Rattle.prune.specs.DropSteps.{node_of, lives_of, below, kept_at, gone_at, was_at, length-drop_set}
use Rattle.prune.proofs.ReachTest.{reaches_then, AreFromBelow, from_below, keys_reached, keys_reached_are}

-- The keys that pass the test reach only one another, and may go.
record MayGo (test : ℕ → Bool) (g : Nodes) : Type 0 where
  pub low : AreFromBelow g
  pub closed : (key index : ℕ) (link : Link) → HasLink g key index link → test link.from ≡ true → test key ≡ true
  pub unseen : (key : ℕ) (node : Node) → test key ≡ true → node_at g key ≡ Some node → can_go node.kind ≡ true

was_linked : (g : Nodes) (keys : List ℕ) (key index : ℕ) (link : Link) → HasLink (drop_set g keys) key index link → HasLink g key index link
was_linked g keys key index link has = record { node = has.node; there = (was_at g keys key has.node has.there).1; at_index = has.at_index }

may_go_still : {test : ℕ → Bool} {g : Nodes} → MayGo test g → (keys : List ℕ) → MayGo test (drop_set g keys)
may_go_still {test} {g} may keys = record {
  low = λ key index link has. subst (λ n. link.from < n) (sym (length-drop_set g keys)) (may.low key index link (was_linked g keys key index link has));
  closed = λ key index link has. may.closed key index link (was_linked g keys key index link has);
  unseen = λ key node passes there. may.unseen key node passes (was_at g keys key node there).1;
}

reached_passes : {test : ℕ → Bool} {g : Nodes} → MayGo test g → (a b : ℕ) → test a ≡ true → Reaches g a b → test b ≡ true
reached_passes may a _ h Itself = h
reached_passes may a _ h (Along {key = b} {index = i} {link = link} r has) = may.closed b i link has (reached_passes may a link.from h r)

one_step : {test : ℕ → Bool} {g : Nodes} → MayGo test g → (key : ℕ) (node : Node) → test key ≡ true → node_at g key ≡ Some node → Prunes g (drop_set g (keys_reached g key))
one_step {g} may key node passes there =
    let reached = keys_reached_are g may.low key (below g key node there) in
    record {
      key = key;
      keys = keys_reached g key;
      lives = lives_of g key node there;
      reached = reached;
      unseen = λ k n among at. may.unseen k n (reached_passes may key k passes ((reached k).0 among)) at;
      after = refl;
    }

-- What is left where these keys are gone, and only keys that pass the test.
record IsRest (test : ℕ → Bool) (keys : List ℕ) (old new : Nodes) : Type 0 where
  pub size : length new ≡ length old
  pub outside : (k : ℕ) → test k ≡ false → node_at new k ≡ node_at old k
  pub gone : (k : ℕ) → Among keys k → node_at new k ≡ None
  pub stays_gone : (k : ℕ) → node_at old k ≡ None → node_at new k ≡ None

abbrev Chain : (ℕ → Bool) → List ℕ → Nodes → Type 0
Chain test keys g = (new : Nodes) × ReachesBy Prunes g new × IsRest test keys g new

-- the first node goes with all that it reaches, and then the others
abbrev FirstChain : (ℕ → Bool) → ℕ → List ℕ → Nodes → Type 0
FirstChain test key keys g = (mid : Nodes) × Prunes g mid × ((new : Nodes) × ReachesBy Prunes mid new × IsRest test (key ∷ keys) g new)

dropped_at : (g : Nodes) (keys : List ℕ) (k : ℕ) → node_at g k ≡ None → node_at (drop_set g keys) k ≡ None
dropped_at g keys k h = elim (cases_Bool (is_among keys k)) [ inl e ↦ gone_at g keys k e | inr e ↦ kept_at g keys k e ∙ h ]

first_chain : {test : ℕ → Bool} {g : Nodes} → MayGo test g → (key : ℕ) (keys : List ℕ) (node : Node) → test key ≡ true → node_at g key ≡ Some node →
    ((h : Nodes) → MayGo test h → Chain test keys h) → FirstChain test key keys g
first_chain {test} {g} may key keys node passes there more =
    let all : List ℕ = keys_reached g key in
    let mid : Nodes = drop_set g all in
    let reached = keys_reached_are g may.low key (below g key node there) in
    let rest : Chain test keys mid = more mid (may_go_still may all) in (
      mid,
      one_step may key node passes there,
      (
        rest.0,
        rest.1,
        record {
          size = rest.2.size ∙ length-drop_set g all;
          outside = λ k h. rest.2.outside k h ∙ kept_at g all k (elim (cases_Bool (is_among all k)) [
            | inl e ↦ absurd (false≢true (sym h ∙ reached_passes may key k passes ((reached k).0 (among_of all k e))))
            | inr e ↦ e
          ]);
          gone = λ k a. elim a [
            | inl e ↦ rest.2.stays_gone k (gone_at g all k (is_among_of all k ((reached k).1 (subst (Reaches g key) (sym e) Itself))))
            | inr b ↦ rest.2.gone k b
          ];
          stays_gone = λ k h. rest.2.stays_gone k (dropped_at g all k h);
        },
      ),
    )

next_chain : {test : ℕ → Bool} {g : Nodes} → MayGo test g → (key : ℕ) (keys : List ℕ) → test key ≡ true → ((h : Nodes) → MayGo test h → Chain test keys h) → Chain test (key ∷ keys) g
next_chain {test} {g} may key keys passes more = by_entry (node_at g key) refl
  where
    by_entry : (entry : Option Node) → node_at g key ≡ entry → Chain test (key ∷ keys) g
    by_entry None there =
        let rest : Chain test keys g = more g may in (
          rest.0,
          rest.1,
          record {
            size = rest.2.size;
            outside = rest.2.outside;
            gone = λ k a. elim a [ inl e ↦ rest.2.stays_gone k (ap (node_at g) e ∙ there) | inr b ↦ rest.2.gone k b ];
            stays_gone = rest.2.stays_gone;
          },
        )
    by_entry (Some node) there =
        let first : FirstChain test key keys g = first_chain may key keys node passes there more in
        (first.2.0, Goes first.1 first.2.1, first.2.2)

chain : {test : ℕ → Bool} (keys : List ℕ) → Each (λ k. test k ≡ true) keys → (g : Nodes) → MayGo test g → Chain test keys g
chain [] e g may = (g, Stays, record { size = refl; outside = λ k h. refl; gone = λ k a. absurd a; stays_gone = λ k h. h })
chain (key ∷ keys) e g may = next_chain may key keys e.0 (chain keys e.1)

rest_is : (g new : Nodes) (keys : List ℕ) → IsRest (is_among keys) keys g new → new ≡ drop_set g keys
rest_is g new keys rest = nodes_same new (drop_set g keys) (rest.size ∙ sym (length-drop_set g keys))
    (λ k. elim (cases_Bool (is_among keys k)) [
      | inl e ↦ rest.gone k (among_of keys k e) ∙ sym (gone_at g keys k e)
      | inr e ↦ rest.outside k e ∙ sym (kept_at g keys k e)
    ])

pub first_reached : {g : Nodes} {a b : ℕ} {index : ℕ} {link : Link} → HasLink g a index link → Reaches g a b → Reaches g link.from b
first_reached {index} has r = reaches_then (Along {index = index} Itself has) r

-- what an unseen node links to is unseen
unseen_closed : {g : Nodes} {keys : List ℕ} → AreUnseen g keys → (key index : ℕ) (link : Link) → HasLink g key index link → Among keys link.from → Among keys key
unseen_closed {g} are key index link has among = (are.all key).1 (
  lives_of g key has.node has.there,
  λ k node r there. ((are.all link.from).0 among).1 k node (first_reached {index = index} has r) there,
)

pub unseen_may_be_dropped : {g : Nodes} {keys : List ℕ} → AreUnseen g keys → IsClosed g keys
unseen_may_be_dropped {g} {keys} are = record {
  live = each_of (Lives g) keys (λ key a. ((are.all key).0 a).0);
  rise = are.rise;
  closed = unseen_closed are;
}

unseen_may_go : (g : Nodes) (keys : List ℕ) → IsSound g → AreUnseen g keys → MayGo (is_among keys) g
unseen_may_go g keys sound are = record {
  low = from_below g sound;
  closed = λ key index link has h. is_among_of keys key (unseen_closed are key index link has (among_of keys link.from h));
  unseen = λ key node h there. ((are.all key).0 (among_of keys key h)).1 key node Itself there;
}

-- a way to a node that stays is still there
reaches_still : {g : Nodes} {keys : List ℕ} → AreUnseen g keys → (a b : ℕ) → Reaches g a b → is_among keys b ≡ false → Reaches (drop_set g keys) a b
reaches_still are a _ Itself h = Itself
reaches_still {g} {keys} are a _ (Along {key = b} {index = i} {link = link} r has) h = elim (cases_Bool (is_among keys link.from)) [
  | inl e ↦ absurd (false≢true (sym h ∙ is_among_of keys b (unseen_closed are b i link has (among_of keys link.from e))))
  | inr e ↦ Along {index = i} (reaches_still are a link.from r e) (record { node = has.node; there = kept_at g keys b h ∙ has.there; at_index = has.at_index })
]

-- no step is left where all unseen nodes were dropped
pub none_is_left : (g : Nodes) (keys : List ℕ) → AreUnseen g keys → IsDone Prunes (drop_set g keys)
none_is_left g keys are new step =
    let node = node_of (drop_set g keys) step.key step.lives in
    let was = was_at g keys step.key node.0 node.1 in
    let unseen : IsUnseen g step.key = λ k n r there. elim (cases_Bool (is_among keys k)) [
      | inl e ↦ ((are.all k).0 (among_of keys k e)).1 k n Itself there
      | inr e ↦ step.unseen k n ((step.reached k).1 (reaches_still are step.key k r e)) (kept_at g keys k e ∙ there)
    ] in
    absurd (false≢true (sym was.0 ∙ is_among_of keys step.key ((are.all step.key).1 (lives_of g step.key node.0 was.1, unseen))))

-- dropping all unseen nodes took a step just where there was one
pub dropping_ran : (g new : Nodes) (keys : List ℕ) (nothing : Bool) → IsSound g → AreUnseen g keys → new ≡ drop_set g keys → nothing ≡ (length keys == 0) → Ran Prunes g (Ok (not nothing)) new
dropping_ran g new [] nothing sound are e n = rw (e, n) (none_is_left g [] are, refl)
dropping_ran g new (key ∷ keys) nothing sound are e n =
    let node = node_of g key ((are.all key).0 (inl refl)).0 in
    let may : MayGo (is_among (key ∷ keys)) g = unseen_may_go g (key ∷ keys) sound are in
    let each : Each (λ k. is_among (key ∷ keys) k ≡ true) (key ∷ keys) = each_of (λ k. is_among (key ∷ keys) k ≡ true) (key ∷ keys) (is_among_of (key ∷ keys)) in
    let first : FirstChain (is_among (key ∷ keys)) key keys g = first_chain may key keys node.0 each.0 node.1 (chain keys each.1) in
    let some : nothing ≡ false = n ∙ ne_eqb (length (key ∷ keys)) 0 (omega arith) in
    rw some (first.0, first.1, subst (ReachesBy Prunes first.0) (rest_is g first.2.0 (key ∷ keys) first.2.2 ∙ sym e) first.2.1)
