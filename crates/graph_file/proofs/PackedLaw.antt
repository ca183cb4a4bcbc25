-- A graph whose nodes are renumbered shows what it showed.
use Rattle.std.proofs.Common.{◌≡◌, ℕ, zero, suc, ◌+◌, ◌<◌, ◌≤◌, Bool, true, false, List, [], ◌∷◌, Option, Some, None, IsSome, length, get_or, map, max, refl, sym, ap, ap₂, ◌∙◌, subst, arith, inl, inr}
use Rattle.std.specs.Prelude.{option_map, slice_get, if◌then◌else◌}
use Rattle.std.proofs.lemmas.Bool.{cases_Bool, cases_lt, false≢true}
use Rattle.node_arena.specs.Items.{keys_from, keys_of}
use Rattle.circuit.specs.declared.Component.{Component}
use Rattle.circuit.specs.Circuit.{Each, State, outs}
use Rattle.circuit.specs.Matches.{Matches, any_is_invariant, matches_refines}
use Rattle.circuit.specs.Shows.{Refines}
use Rattle.graph.specs.declared.Group.{Group}
use Rattle.graph.specs.declared.Group.TheVariants.{Back, Side}
use Rattle.graph.specs.declared.Link.{Link}
use Rattle.graph.specs.Graph.{Node, Nodes, node_at}
use Rattle.graph.specs.GraphCircuit.{role_at, first_at, base_at, begin_at, place_at, readings_at, is_before, is_output, Output, output_of, in_order, outputs_from, graph_circuit}
use Rattle.graph.specs.Readings.{share, reading, readings_of, back_of}
use Rattle.graph.specs.Sound.{IsSound}
use Rattle.graph.proofs.ListedSteps.{test_of_keys}
use Rattle.graph_file.specs.Json.{numbers_from, number_of, with_source, with_sources, packed_by, packed}

-- ---- keys and numbers

-- The n-th key that lives, and the node under it.
record PackedAt (renumber : ℕ → ℕ) (from n : ℕ) (g : Nodes) : Type 0 where
  key : ℕ
  node : Node
  is_key : get_or (keys_from from g) n 0 ≡ from + key
  there : node_at g key ≡ Some node
  here : node_at (packed_by renumber g) n ≡ Some (with_sources renumber node)
  numbered : (next : ℕ) → get_or (numbers_from next g) key 0 ≡ next + n

packed_at : (renumber : ℕ → ℕ) (from n : ℕ) (g : Nodes) → n < length (keys_from from g) → PackedAt renumber from n g
packed_at renumber from n [] h = absurd (omega arith)
packed_at renumber from n (None ∷ g) h =
    let p = packed_at renumber (suc from) n g h in
    let e : suc from + p.key ≡ from + suc p.key = omega arith in
    record { key = suc p.key; node = p.node; is_key = p.is_key ∙ e; there = p.there; here = p.here; numbered = p.numbered }
packed_at renumber from zero (Some node ∷ g) h =
    let e : from ≡ from + 0 = omega arith in
    record { key = 0; node = node; is_key = e; there = refl; here = refl; numbered = λ next. (let z : next ≡ next + 0 = omega arith in z) }
packed_at renumber from (suc n) (Some node ∷ g) h =
    let p = packed_at renumber (suc from) n g (omega arith) in
    let e : suc from + p.key ≡ from + suc p.key = omega arith in
    record {
      key = suc p.key;
      node = p.node;
      is_key = p.is_key ∙ e;
      there = p.there;
      here = p.here;
      numbered = λ next. p.numbered (suc next) ∙ (let z : suc next + n ≡ next + suc n = omega arith in z);
    }

packed_past : (renumber : ℕ → ℕ) (from n : ℕ) (g : Nodes) → length (keys_from from g) ≤ n → node_at (packed_by renumber g) n ≡ None
packed_past renumber from n [] h = refl
packed_past renumber from n (None ∷ g) h = packed_past renumber (suc from) n g h
packed_past renumber from zero (Some node ∷ g) h = absurd (omega arith)
packed_past renumber from (suc n) (Some node ∷ g) h = packed_past renumber (suc from) n g (omega arith)

-- The number of a key that lives.
pub record LivesAt (from next k : ℕ) (g : Nodes) : Type 0 where
  pub n : ℕ
  pub few : n < length (keys_from from g)
  pub is_key : get_or (keys_from from g) n 0 ≡ from + k
  pub numbered : get_or (numbers_from next g) k 0 ≡ next + n

pub lives_at : (from next k : ℕ) (g : Nodes) (node : Node) → node_at g k ≡ Some node → LivesAt from next k g
lives_at from next k [] node h = absurd (cc)
lives_at from next zero (None ∷ g) node h = absurd (cc)
lives_at from next zero (Some first ∷ g) node h =
    let e : from ≡ from + 0 = omega arith in
    let z : next ≡ next + 0 = omega arith in
    record { n = 0; few = omega arith; is_key = e; numbered = z }
lives_at from next (suc k) (None ∷ g) node h =
    let r = lives_at (suc from) next k g node h in
    let e : suc from + k ≡ from + suc k = omega arith in
    record { n = r.n; few = r.few; is_key = r.is_key ∙ e; numbered = r.numbered }
lives_at from next (suc k) (Some first ∷ g) node h =
    let r = lives_at (suc from) (suc next) k g node h in
    let e : suc from + k ≡ from + suc k = omega arith in
    let z : suc next + r.n ≡ next + suc r.n = omega arith in
    record { n = suc r.n; few = omega (arith, r.few); is_key = r.is_key ∙ e; numbered = r.numbered ∙ z }

-- ---- readings

share_alike : (group other : Group) (one two weight : ℕ) → one ≡ two → share (λ k. one) group (record { from = 0; group = other; weight = weight }) ≡ share (λ k. two) group (record { from = 0; group = other; weight = weight })
share_alike group other one two weight e = ap (λ n. share (λ k. n) group (record { from = 0; group = other; weight = weight })) e

reading_alike : (renumber given2 given : ℕ → ℕ) (group : Group) (links : List Link) → Each (λ (l : Link). given2 (renumber l.from) ≡ given l.from) links →
    reading given2 group (map (with_source renumber) links) ≡ reading given group links
reading_alike renumber given2 given group [] e = refl
reading_alike renumber given2 given group (l ∷ links) e = ap₂ max (share_alike group l.group (given2 (renumber l.from)) (given l.from) l.weight e.0) (reading_alike renumber given2 given group links e.1)

each_from : {A : Type 0} (P : A → Type 0) (xs : List A) → ((i : ℕ) (x : A) → slice_get xs i ≡ Some x → P x) → Each P xs
each_from P [] h = tt
each_from P (x ∷ xs) h = (h 0 x refl, each_from P xs (λ i y e. h (suc i) y e))

-- ---- outputs

abbrev moved : (ℕ → ℕ) → Output → Output
moved f one = record { place = one.place; key = f one.key }

in_order-moved : (f : ℕ → ℕ) (one : Option Output) (others : List Output) → map (moved f) (in_order one others) ≡ in_order (option_map (moved f) one) (map (moved f) others)
in_order-moved f None others = refl
in_order-moved f (Some one) [] = refl
in_order-moved f (Some one) (other ∷ others) = by_test (is_before one.place other.place) (in_order-moved f (Some one) others)
  where
    by_test : (b : Bool) → map (moved f) (in_order (Some one) others) ≡ in_order (Some (moved f one)) (map (moved f) others) →
        map (moved f) (if b then one ∷ other ∷ others else other ∷ in_order (Some one) others) ≡ (if b then moved f one ∷ moved f other ∷ map (moved f) others else moved f other ∷ in_order (Some (moved f one)) (map (moved f) others))
    by_test true h = refl
    by_test false h = ap (λ rest. moved f other ∷ rest) h

outputs_moved : (renumber f : ℕ → ℕ) (from next : ℕ) (g : Nodes) → ((n : ℕ) → n < length (keys_from from g) → f (next + n) ≡ get_or (keys_from from g) n 0) →
    outputs_from from g ≡ map (moved f) (outputs_from next (packed_by renumber g))
outputs_moved renumber f from next [] h = refl
outputs_moved renumber f from next (None ∷ g) h = outputs_moved renumber f (suc from) next g h
outputs_moved renumber f from next (Some node ∷ g) h =
    let here : f next ≡ from = (let e : next ≡ next + 0 = omega arith in ap f e ∙ h 0 (omega arith)) in
    ap₂ in_order (own here (is_output node.kind)) (outputs_moved renumber f (suc from) (suc next) g (λ n less. (let e : suc next + n ≡ next + suc n = omega arith in ap f e ∙ h (suc n) (omega (arith, less)))))
    ∙ sym (in_order-moved f (output_of next (Some (with_sources renumber node))) (outputs_from (suc next) (packed_by renumber g)))
  where
    own : f next ≡ from → (b : Bool) → (if b then Some (record { place = node.pos; key = from }) else None) ≡ option_map (moved f) (if b then Some (record { place = node.pos; key = next }) else None)
    own e true = ap (λ n. Some (record { place = node.pos; key = n })) (sym e)
    own e false = refl

each_in_order : (P : Output → Type 0) (one : Option Output) (others : List Output) → ((o : Output) → one ≡ Some o → P o) → Each P others → Each P (in_order one others)
each_in_order P None others first rest = rest
each_in_order P (Some one) [] first rest = (first one refl, tt)
each_in_order P (Some one) (other ∷ others) first rest = elim (cases_Bool (is_before one.place other.place)) [
  | inl h ↦ rw h (first one refl, rest)
  | inr h ↦ rw h (rest.0, each_in_order P (Some one) others first rest.1)
]

each_as : {A : Type 0} (P Q : A → Type 0) (xs : List A) → ((x : A) → P x → Q x) → Each P xs → Each Q xs
each_as P Q [] h e = tt
each_as P Q (x ∷ xs) h e = (h x e.0, each_as P Q xs h e.1)

outputs_below : (renumber : ℕ → ℕ) (from next : ℕ) (g : Nodes) → Each (λ (o : Output). o.key < next + length (keys_from from g)) (outputs_from next (packed_by renumber g))
outputs_below renumber from next [] = tt
outputs_below renumber from next (None ∷ g) = outputs_below renumber (suc from) next g
outputs_below renumber from next (Some node ∷ g) = each_in_order (λ (o : Output). o.key < next + suc (length (keys_from (suc from) g))) (output_of next (Some (with_sources renumber node))) (outputs_from (suc next) (packed_by renumber g))
    (λ o e. own o (is_output node.kind) e)
    (each_as (λ (o : Output). o.key < suc next + length (keys_from (suc from) g)) (λ (o : Output). o.key < next + suc (length (keys_from (suc from) g))) (outputs_from (suc next) (packed_by renumber g)) (λ o h. omega arith) (outputs_below renumber (suc from) (suc next) g))
  where
    own : (o : Output) (b : Bool) → (if b then Some (record { place = node.pos; key = next }) else None) ≡ Some o → o.key < next + suc (length (keys_from (suc from) g))
    own o true e = let s : record { place = node.pos; key = next } ≡ o = cc in subst (λ (x : Output). x.key < next + suc (length (keys_from (suc from) g))) s (omega arith)
    own o false e = absurd (cc)

map_keys : (f : ℕ → ℕ) (outs : List Output) → map (λ (o : Output). o.key) (map (moved f) outs) ≡ map f (map (λ (o : Output). o.key) outs)
map_keys f [] = refl
map_keys f (o ∷ outs) = ap (λ rest. f o.key ∷ rest) (map_keys f outs)

each_keys : (P : ℕ → Type 0) (outs : List Output) → Each (λ (o : Output). P o.key) outs → Each P (map (λ (o : Output). o.key) outs)
each_keys P [] e = tt
each_keys P (o ∷ outs) e = (e.0, each_keys P outs e.1)

-- ---- the law

pub packed_matches : (g : Nodes) → IsSound g → Matches (graph_circuit g) (graph_circuit (packed g)) (λ n. get_or (keys_of g) n 0) (λ n. n < length (keys_of g)) (λ s. Unit {0})
packed_matches g sound = record {
  apart = λ a b la lb e. sym (number_at a la) ∙ ap (number_of g) e ∙ number_at b lb;
  lives = λ k component e. lives k component e;
  covers = λ p component e. covers p component (node_at g p) refl e;
  role = λ k l. ap role_at (p k l).here ∙ sym (ap role_at (old k l));
  first = λ k l. ap first_at (p k l).here ∙ sym (ap first_at (old k l));
  base = λ k l. ap base_at (p k l).here ∙ sym (ap base_at (old k l));
  begin = λ k l. ap begin_at (p k l).here ∙ sym (ap begin_at (old k l));
  place = λ k l. ap place_at (p k l).here ∙ sym (ap place_at (old k l));
  reads = λ s i outs2 h k l. ap (readings_at outs2) (p k l).here ∙ reads s outs2 h k (p k l).node (old k l) ∙ sym (ap (readings_at (outs (graph_circuit g) s)) (old k l));
  shown = ap (map (λ (o : Output). o.key)) (outputs_moved (number_of g) key 0 0 g (λ n less. (let z : 0 + n ≡ n = omega arith in ap key z))) ∙ map_keys key (outputs_from 0 (packed g));
  shown_live = each_keys (λ n. n < length (keys_of g)) (outputs_from 0 (packed g)) (each_as (λ (o : Output). o.key < 0 + length (keys_of g)) (λ (o : Output). o.key < length (keys_of g)) (outputs_from 0 (packed g)) (λ o h. omega arith) (outputs_below (number_of g) 0 0 g));
}
  where
    key : ℕ → ℕ
    key n = get_or (keys_of g) n 0

    p : (k : ℕ) → k < length (keys_of g) → PackedAt (number_of g) 0 k g
    p k l = packed_at (number_of g) 0 k g l

    same_key : (k : ℕ) (l : k < length (keys_of g)) → get_or (keys_of g) k 0 ≡ (p k l).key
    same_key k l = let z : 0 + (p k l).key ≡ (p k l).key = omega arith in (p k l).is_key ∙ z

    old : (k : ℕ) (l : k < length (keys_of g)) → node_at g (get_or (keys_of g) k 0) ≡ Some (p k l).node
    old k l = ap (node_at g) (same_key k l) ∙ (p k l).there

    number_at : (k : ℕ) → k < length (keys_of g) → number_of g (get_or (keys_of g) k 0) ≡ k
    number_at k l = let z : 0 + k ≡ k = omega arith in ap (number_of g) (same_key k l) ∙ (p k l).numbered 0 ∙ z

    lives : (k : ℕ) (component : Component) → role_at (node_at (packed g) k) ≡ Some component → k < length (keys_of g)
    lives k component e = elim (cases_lt k (length (keys_of g))) [
      | inl less ↦ less
      | inr more ↦ absurd (let n : None ≡ Some component = sym (ap role_at (packed_past (number_of g) 0 k g more)) ∙ e in cc)
    ]

    covers : (q : ℕ) (component : Component) (entry : Option Node) → node_at g q ≡ entry → role_at (node_at g q) ≡ Some component → (k : ℕ) × (k < length (keys_of g)) × (get_or (keys_of g) k 0 ≡ q)
    covers q component None here e = absurd (let n : None ≡ Some component = sym (ap role_at here) ∙ e in cc)
    covers q component (Some node) here e = let r = lives_at 0 0 q g node here in let z : 0 + q ≡ q = omega arith in (r.n, r.few, r.is_key ∙ z)

    given_alike : (s : State ℕ) (outs2 : ℕ → ℕ) → ((k : ℕ) → k < length (keys_of g) → outs2 k ≡ outs (graph_circuit g) s (get_or (keys_of g) k 0)) → (q : ℕ) (entry : Option Node) → node_at g q ≡ entry → IsSome entry →
        outs2 (number_of g q) ≡ outs (graph_circuit g) s q
    given_alike s outs2 h q None here some = absurd (false≢true some)
    given_alike s outs2 h q (Some node) here some =
        let r = lives_at 0 0 q g node here in
        let z : 0 + q ≡ q = omega arith in
        let w : 0 + r.n ≡ r.n = omega arith in
        ap outs2 (r.numbered ∙ w) ∙ h r.n r.few ∙ ap (outs (graph_circuit g) s) (r.is_key ∙ z)

    reads : (s : State ℕ) (outs2 : ℕ → ℕ) → ((k : ℕ) → k < length (keys_of g) → outs2 k ≡ outs (graph_circuit g) s (get_or (keys_of g) k 0)) → (k : ℕ) (node : Node) → node_at g (get_or (keys_of g) k 0) ≡ Some node →
        readings_of outs2 (with_sources (number_of g) node) ≡ readings_of (outs (graph_circuit g) s) node
    reads s outs2 h k node here =
        let alike : Each (λ (l : Link). outs2 (number_of g l.from) ≡ outs (graph_circuit g) s l.from) node.links =
        each_from (λ (l : Link). outs2 (number_of g l.from) ≡ outs (graph_circuit g) s l.from) node.links
        (λ i link at. given_alike s outs2 h link.from (node_at g link.from) refl ((sound.each (get_or (keys_of g) k 0) node here).links i link at).1) in
        λ i. record {
          back = back_of node.kind (reading_alike (number_of g) outs2 (outs (graph_circuit g) s) Back node.links alike i);
          side = reading_alike (number_of g) outs2 (outs (graph_circuit g) s) Side node.links alike i;
        }

pub packed_refines : (g : Nodes) → IsSound g → Refines (graph_circuit g) (graph_circuit (packed g))
packed_refines g sound = matches_refines (λ n. get_or (keys_of g) n 0) (λ n. n < length (keys_of g)) (λ s. Unit {0}) (packed_matches g sound) (any_is_invariant (graph_circuit g)) test_of_keys test_of_keys
