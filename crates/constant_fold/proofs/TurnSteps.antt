-- Nodes that can be folded now, by tests, and those before an index.
use Rattle.std.proofs.Common.{◌≡◌, ℕ, zero, suc, ◌+◌, ◌<◌, ◌≤◌, Bool, true, false, ◌||◌, List, [], ◌∷◌, Option, Some, None, refl, sym, ap, ◌∙◌, subst, arith, length, get_or, take, inl, inr, if◌then◌else◌}
use Rattle.std.specs.Prelude.{slice_get, is_some, nat_lt}
use Rattle.std.proofs.lemmas.Bool.{cases_eq, cases_lt, lt-ltb, and_parts}
use Rattle.circuit.specs.declared.Component.{Component}
use Rattle.circuit.specs.Component.{out}
use Rattle.graph.specs.declared.Link.{Link}
use Rattle.graph.specs.Graph.{Node, Nodes, node_at}
use Rattle.graph.specs.Steps.{Folds}
use Rattle.pass_frame.specs.Frame.{IsDone}
use Rattle.pass_frame.specs.Took.{Took}
use Rattle.pass_frame.proofs.Sweeps.{took_then}
use Rattle.constant_fold.specs.Foldable.{is_constant, part_of, is_at_rest, rest_value, are_fixed, fold_value_of, fold_value_at, IsFoldable}
use Rattle.constant_fold.specs.Tended.{AreListed, NoneFold}
use Rattle.constant_fold.proofs.TendSteps.{foldable_of}

-- what the tests tell
fixed_each : (g : Nodes) (links : List Link) (index : ℕ) (link : Link) → are_fixed g links ≡ true → slice_get links index ≡ Some link → is_constant (node_at g link.from) ≡ true
fixed_each g [] index link e at = absurd (cc)
fixed_each g (l ∷ links) zero link e at = let same : l ≡ link = cc in subst (λ (one : Link). is_constant (node_at g one.from) ≡ true) same (and_parts (is_constant (node_at g l.from)) (are_fixed g links) e).0
fixed_each g (l ∷ links) (suc index) link e at = fixed_each g links index link (and_parts (is_constant (node_at g l.from)) (are_fixed g links) e).1 at

fixed_all : (g : Nodes) (links : List Link) → ((index : ℕ) (link : Link) → slice_get links index ≡ Some link → is_constant (node_at g link.from) ≡ true) → are_fixed g links ≡ true
fixed_all g [] each = refl
fixed_all g (l ∷ links) each = rw (each zero l refl) (fixed_all g links (λ index link at. each (suc index) link at))

pub foldable_by : (g : Nodes) (key value : ℕ) → fold_value_at g (node_at g key) ≡ Some value → IsFoldable g key value
foldable_by g key value e = by_entry (node_at g key) refl e
  where
    by_rest : (node : Node) (component : Component) (b : Bool) → is_at_rest g node component ≡ b → (if b then Some (out component node.state) else None) ≡ Some value →
        (is_at_rest g node component ≡ true) × (value ≡ out component node.state)
    by_rest node component true rests e = (rests, cc)
    by_rest node component false rests e = absurd (cc)

    by_test : (node : Node) (component : Component) (b : Bool) → node_at g key ≡ Some node → part_of node ≡ Some component → are_fixed g node.links ≡ b → (if b then rest_value g node component else None) ≡ Some value →
        IsFoldable g key value
    by_test node component true there part fixed e =
        let rest = by_rest node component (is_at_rest g node component) refl e in
        record {
          node = node;
          component = component;
          there = there;
          part = part;
          sources = λ index link at. fixed_each g node.links index link fixed at;
          rests = rest.0;
          gives = rest.1;
        }
    by_test node component false there part fixed e = absurd (cc)

    by_part : (node : Node) (entry : Option Component) → node_at g key ≡ Some node → part_of node ≡ entry → fold_value_of g node entry ≡ Some value → IsFoldable g key value
    by_part node None there part e = absurd (cc)
    by_part node (Some component) there part e = by_test node component (are_fixed g node.links) there part refl e

    by_entry : (entry : Option Node) → node_at g key ≡ entry → fold_value_at g entry ≡ Some value → IsFoldable g key value
    by_entry None there e = absurd (cc)
    by_entry (Some node) there e = by_part node (part_of node) there refl e

pub found_by : (g : Nodes) (key value : ℕ) → IsFoldable g key value → fold_value_at g (node_at g key) ≡ Some value
found_by g key value f =
    ap (fold_value_at g) f.there ∙ ap (fold_value_of g f.node) f.part ∙ ap (λ b. if b then rest_value g f.node f.component else None) (fixed_all g f.node.links f.sources)
    ∙ ap (λ b. if b then Some (out f.component f.node.state) else None) f.rests ∙ ap (λ (n : ℕ). Some n) (sym f.gives)

pub none_of : (found : Option ℕ) → is_some found ≡ false → found ≡ None
none_of None e = refl
none_of (Some value) e = absurd (cc)

pub none_folds : (g : Nodes) (keys : List ℕ) → AreListed g keys → NoneFold g keys 0 (length keys) → IsDone Folds g
none_folds g keys listed none new step =
    let i = listed step.key (rw step.there refl) in
    let found : fold_value_at g (node_at g step.key) ≡ Some (out step.component step.node.state) = found_by g step.key (out step.component step.node.state) (foldable_of g new step) in
    let bad : None ≡ Some (out step.component step.node.state) = sym (none i.0 (omega arith) i.1) ∙ ap (λ k. fold_value_at g (node_at g k)) i.2 ∙ found in
    absurd (cc)

-- a key that was read at its index
pub key_read : (keys : List ℕ) (index key : ℕ) → index < length keys → key ≡ get_or keys index key → key ≡ get_or keys index 0
key_read keys index key h is = is ∙ other_default keys index h
  where
    other_default : (keys : List ℕ) (i : ℕ) → i < length keys → get_or keys i key ≡ get_or keys i 0
    other_default [] i h = absurd (omega arith)
    other_default (k ∷ keys) zero h = refl
    other_default (k ∷ keys) (suc i) h = other_default keys i (omega arith)

pub none_next : (g : Nodes) (keys : List ℕ) (from index key : ℕ) → NoneFold g keys from index → key ≡ get_or keys index 0 → fold_value_at g (node_at g key) ≡ None → NoneFold g keys from (index + 1)
none_next g keys from index key before is here i h k = elim (cases_eq i index) [
  | inl now ↦ ap (λ j. fold_value_at g (node_at g j)) (ap (λ j. get_or keys j 0) now ∙ sym is) ∙ here
  | inr n ↦ before i h (omega arith)
]

-- What was folded in turn: whole steps, and none of the nodes from the first index on can be folded.
pub record Turned (first g : Nodes) (keys : List ℕ) (again index : ℕ) : Type 0 where
  pub took : Took Folds first (nat_lt 0 again) g
  pub within : again ≤ index
  pub rest : NoneFold g keys again index

pub turned_none : (g : Nodes) (keys : List ℕ) → Turned g g keys 0 0
turned_none g keys = record { took = refl; within = omega arith; rest = λ i h k. absurd (omega (arith, k)) }

pub turned_next : (first old new : Nodes) (keys : List ℕ) (again index key : ℕ) (more : Bool) → Turned first old keys again index → key ≡ get_or keys index 0 → Took Folds old more new →
    (more ≡ false → fold_value_at new (node_at new key) ≡ None) → Turned first new keys (if more then index + 1 else again) (index + 1)
turned_next first old new keys again index key false t is step here = record {
  took = subst (Took Folds first (nat_lt 0 again)) (sym step) t.took;
  within = omega (arith, t.within);
  rest = none_next new keys again index key (subst (λ g. NoneFold g keys again index) (sym step) t.rest) is (here refl);
}
turned_next first old new keys again index key true t is step here = record {
  took = subst (λ b. Took Folds first b new) (or_true (nat_lt 0 again) ∙ sym (lt-ltb 0 (index + 1) (omega arith))) (took_then Folds first old new (nat_lt 0 again) true t.took step);
  within = omega arith;
  rest = λ i h k. absurd (omega (arith, h, k));
}
  where
    or_true : (b : Bool) → (b || true) ≡ true
    or_true true = refl
    or_true false = refl

-- the first keys
get_or-first : (keys : List ℕ) (count i : ℕ) → i < count → get_or (take count keys) i 0 ≡ get_or keys i 0
get_or-first keys zero i h = absurd (omega arith)
get_or-first [] (suc count) i h = refl
get_or-first (k ∷ keys) (suc count) zero h = refl
get_or-first (k ∷ keys) (suc count) (suc i) h = get_or-first keys count i (omega arith)

length-first : (keys : List ℕ) (count : ℕ) → count ≤ length keys → length (take count keys) ≡ count
length-first keys zero h = refl
length-first [] (suc count) h = absurd (omega arith)
length-first (k ∷ keys) (suc count) h = omega (arith, length-first keys count (omega arith))

-- where none of the first can be folded either
pub none_all : (g : Nodes) (keys : List ℕ) (again index : ℕ) → again ≤ length keys → NoneFold g (take again keys) 0 index → length (take again keys) ≤ index → NoneFold g keys again (length keys) →
    NoneFold g keys 0 (length keys)
none_all g keys again index within none end rest i h k = elim (cases_lt i again) [
  | inl less ↦ ap (λ j. fold_value_at g (node_at g j)) (sym (get_or-first keys again i less)) ∙ none i (omega arith) (omega (arith, less, end, length-first keys again within))
  | inr more ↦ rest i more k
]
