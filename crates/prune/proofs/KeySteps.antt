-- The keys of a graph, and those of them that pass a test.
use Rattle.std.proofs.Common.{◌≡◌, ℕ, zero, suc, ◌+◌, ◌-◌, ◌<◌, ◌≤◌, Bool, true, List, [], ◌∷◌, Some, None, refl, sym, ap, ◌∙◌, subst, arith, length, inl, inr}
use Rattle.std.specs.Prelude.{slice_get, filter}
use Rattle.std.proofs.lemmas.Bool.{cases_Bool}
use Rattle.node_arena.specs.Items.{keys_from, keys_of}
use Rattle.circuit.specs.Circuit.{EachBefore, Among}
use Rattle.circuit.proofs.Keys.{each_filter, among_filter}
use Rattle.graph.specs.Graph.{Node, Nodes, node_at, Lives}
use Rattle.graph.proofs.ListedSteps.{all_keys_closed}
use Rattle.prune.specs.Among.{each_at, each_of}
use Rattle.prune.specs.DropSteps.{node_of}
use Rattle.prune.specs.Unseen.{AreUnseen}
use Rattle.prune.specs.Found.{is_unmarked, TellUnseen}

among_from : (from key : ℕ) (g : Nodes) (node : Node) → node_at g key ≡ Some node → Among (keys_from from g) (from + key)
among_from from key [] node h = absurd (cc)
among_from from zero (None ∷ g) node h = absurd (cc)
among_from from zero (Some n ∷ g) node h = inl (omega arith)
among_from from (suc key) (None ∷ g) node h = subst (Among (keys_from (suc from) g)) (omega arith) (among_from (suc from) key g node h)
among_from from (suc key) (Some n ∷ g) node h = inr (subst (Among (keys_from (suc from) g)) (omega arith) (among_from (suc from) key g node h))

pub among_keys : (g : Nodes) (key : ℕ) (node : Node) → node_at g key ≡ Some node → Among (keys_of g) key
among_keys g key node h = subst (Among (keys_of g)) (omega arith) (among_from 0 key g node h)

pub keys_live : (g : Nodes) (key : ℕ) → Among (keys_of g) key → Lives g key
keys_live g key a = each_at (Lives g) (keys_of g) key (all_keys_closed g).live a

pub keys_rise : (g : Nodes) → EachBefore (λ a b. a < b) (keys_of g)
keys_rise g = (all_keys_closed g).rise

-- the last of rising keys is the greatest
pub below_last : (keys : List ℕ) (last : ℕ) → EachBefore (λ a b. a < b) keys → slice_get keys (length keys - 1) ≡ Some last → (key : ℕ) → Among keys key → key ≤ last
below_last [] last rise at key a = absurd a
below_last (one ∷ []) last rise at key a = elim a [ inl e ↦ (let same : one ≡ last = cc in omega arith) | inr bad ↦ absurd bad ]
below_last (one ∷ two ∷ keys) last rise at key a =
    let place : length (one ∷ two ∷ keys) - 1 ≡ suc (length (two ∷ keys) - 1) = omega arith in
    let next : slice_get (two ∷ keys) (length (two ∷ keys) - 1) ≡ Some last = sym (ap (slice_get (one ∷ two ∷ keys)) place) ∙ at in
    let low : two ≤ last = below_last (two ∷ keys) last rise.1 next two (inl refl) in
    let less : one < two = rise.0.0 in
    elim a [ inl e ↦ omega arith | inr b ↦ below_last (two ∷ keys) last rise.1 next key b ]

before_filter : (R : ℕ → ℕ → Type 0) (test : ℕ → Bool) (keys : List ℕ) → EachBefore R keys → EachBefore R (filter test keys)
before_filter R test [] e = tt
before_filter R test (one ∷ keys) e = elim (cases_Bool (test one)) [
  | inl h ↦ rw h (each_filter (R one) (R one) test (λ k r t. r) keys e.0, before_filter R test keys e.1)
  | inr h ↦ rw h (before_filter R test keys e.1)
]

filter_among : (test : ℕ → Bool) (keys : List ℕ) (key : ℕ) → Among (filter test keys) key → Among keys key × (test key ≡ true)
filter_among test keys key a =
    each_at (λ k. Among keys k × (test k ≡ true)) (filter test keys) key
    (each_filter (Among keys) (λ k. Among keys k × (test k ≡ true)) test (λ k b t. (b, t)) keys (each_of (Among keys) keys (λ k b. b))) a

-- the keys that have a mark that isn't set are those of the unseen nodes
pub unmarked_are : (g : Nodes) (marks : List Bool) (keys : List ℕ) → keys ≡ filter (is_unmarked marks) (keys_of g) → TellUnseen g marks → AreUnseen g keys
unmarked_are g marks keys e tell = subst (AreUnseen g) (sym e) (record {
  rise = before_filter (λ a b. a < b) (is_unmarked marks) (keys_of g) (keys_rise g);
  all = λ key. (
    (λ a. let parts = filter_among (is_unmarked marks) (keys_of g) key a in let lives = keys_live g key parts.0 in (lives, (tell key lives).0 parts.1)),
    (λ (lives, unseen). let node = node_of g key lives in among_filter (is_unmarked marks) (keys_of g) key (among_keys g key node.0 node.1) ((tell key lives).1 unseen)),
  );
})
