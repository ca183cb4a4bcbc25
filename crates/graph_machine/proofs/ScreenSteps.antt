-- Outputs that are kept right while nodes change and attend.
use Rattle.std.proofs.Common.{◌≡◌, ◌≢◌, ℕ, zero, suc, ◌+◌, ◌<◌, ◌≤◌, List, [], ◌∷◌, length, map, set, slice_index, Option, Some, None, refl, sym, ◌∙◌, ap, subst, inl, inr, ◌⊎◌, arith}
use Rattle.std.proofs.lemmas.Bool.{cases_Bool, cases_eq, cases_lt}
use Rattle.std.proofs.lemmas.List.{get_or-map, get_or-set_same, get_or-set_other, length-map}
use Rattle.circuit.specs.declared.Cell.{Cell}
use Rattle.circuit.specs.declared.Component.{Component}
use Rattle.circuit.specs.declared.Component.TheVariants.{Wire as WirePart}
use Rattle.circuit.specs.declared.Readings.{Readings}
use Rattle.circuit.specs.Circuit.{Each, EachBefore, seen_at}
use Rattle.graph.specs.Graph.{Node, Nodes, node_at}
use Rattle.graph.specs.GraphCircuit.{Output, is_before, is_output, output_of, in_order, outputs_from, role_at, readings_at, graph_circuit}
use Rattle.cell_queue.specs.Held.{Holding, TakesFirst, cell_of, nothing, rested}
use Rattle.graph_machine.specs.Outgoing.{links_from}
use Rattle.graph_machine.specs.Wired.{Wired, given, IsTarget, AreTargets}
use Rattle.graph_machine.specs.Playing.{reads_in}
use Rattle.graph_machine.specs.Screens.{Screened, screen_of, face, AreOnce, ArePlaced, AreFaced, Refaced}
use Rattle.graph_machine.proofs.PlaceSteps.{each_in_order}
use Rattle.graph_machine.proofs.PlaySteps.{readings_stay}

-- ---- no key is shown twice

one_of : (Q : ℕ → Type 0) (key : ℕ) (entry : Option Node) → ((node : Node) → entry ≡ Some node → Q key) → (one : Output) → output_of key entry ≡ Some one → Q one.key
one_of Q key None h one is = absurd (cc)
one_of Q key (Some node) h one is = elim (cases_Bool (is_output node.kind)) [
  | inl e ↦ (let some : Some (record { place = node.pos; key = key }) ≡ Some one = rw e at is in let same : record { place = node.pos; key = key } ≡ one = cc in subst (λ (o : Output). Q o.key) same (h node refl))
  | inr e ↦ (let none : None ≡ Some one = rw e at is in absurd (cc))
]

each_key : (Q : ℕ → Type 0) (from : ℕ) (g : Nodes) → ((k : ℕ) (node : Node) → node_at g k ≡ Some node → Q (from + k)) → Each (λ (o : Output). Q o.key) (outputs_from from g)
each_key Q from [] h = tt
each_key Q from (entry ∷ g) h =
    each_in_order (λ (o : Output). Q o.key) (output_of from entry) (outputs_from (suc from) g)
    (one_of Q from entry (λ node e. subst Q (let z : from + 0 ≡ from = omega arith in z) (h 0 node e)))
    (each_key Q (suc from) g (λ k node e. subst Q (let z : from + suc k ≡ suc from + k = omega arith in z) (h (suc k) node e)))

once_in_order : (entry : Option Output) (others : List Output) → ((one : Output) → entry ≡ Some one → Each (λ (o : Output). one.key ≢ o.key) others) → EachBefore (λ (a b : Output). a.key ≢ b.key) others →
    EachBefore (λ (a b : Output). a.key ≢ b.key) (in_order entry others)
once_in_order None others apart once = once
once_in_order (Some one) [] apart once = (tt, tt)
once_in_order (Some one) (other ∷ others) apart once = elim (cases_Bool (is_before one.place other.place)) [
  | inl h ↦ rw h (apart one refl, once)
  | inr h ↦ rw h (
    each_in_order (λ (o : Output). other.key ≢ o.key) (Some one) others (λ o e. let same : one ≡ o = cc in λ f. (apart one refl).0 (ap (λ (x : Output). x.key) same ∙ sym f)) once.0,
    once_in_order (Some one) others (λ o e. let same : one ≡ o = cc in subst (λ (x : Output). Each (λ (y : Output). x.key ≢ y.key) others) same (apart one refl).1) once.1,
  )
]

once_from : (from : ℕ) (g : Nodes) → EachBefore (λ (a b : Output). a.key ≢ b.key) (outputs_from from g)
once_from from [] = tt
once_from from (entry ∷ g) =
    once_in_order (output_of from entry) (outputs_from (suc from) g)
    (one_of (λ key. Each (λ (o : Output). key ≢ o.key) (outputs_from (suc from) g)) from entry (λ node e. each_key (λ key. from ≢ key) (suc from) g (λ k n f. let above : from ≢ suc from + k = omega arith in above)))
    (once_from (suc from) g)

key_at : (P : ℕ → Type 0) (os : List Output) (i : ℕ) → i < length os → Each (λ (o : Output). P o.key) os → P (slice_index (map (λ (o : Output). o.key) os) i)
key_at P [] i inside h = absurd (omega arith)
key_at P (o ∷ os) zero inside h = h.0
key_at P (o ∷ os) (suc i) inside h = key_at P os i (omega arith) h.1

one_index : (os : List Output) (i j : ℕ) → EachBefore (λ (a b : Output). a.key ≢ b.key) os → i < length os → j < length os →
    slice_index (map (λ (o : Output). o.key) os) i ≡ slice_index (map (λ (o : Output). o.key) os) j → i ≡ j
one_index [] i j once h k e = absurd (omega arith)
one_index (o ∷ os) zero zero once h k e = refl
one_index (o ∷ os) zero (suc j) once h k e = absurd (key_at (λ key. o.key ≢ key) os j (omega arith) once.0 e)
one_index (o ∷ os) (suc i) zero once h k e = absurd (key_at (λ key. o.key ≢ key) os i (omega arith) once.0 (sym e))
one_index (o ∷ os) (suc i) (suc j) once h k e = ap suc (one_index os i j once.1 (omega arith) (omega arith) e)

module _ (g : Nodes) (keys : List ℕ) (is : keys ≡ (graph_circuit g).shown) where
  long : length keys ≡ length (outputs_from 0 g)
  long = ap (λ (ks : List ℕ). length ks) is ∙ length-map (outputs_from 0 g) (λ (o : Output). o.key)

  pub shown_once : AreOnce keys
  shown_once = record {
    each = λ i j h k e.
        one_index (outputs_from 0 g) i j (once_from 0 g) (omega (arith, long)) (omega (arith, long))
        (ap (λ (ks : List ℕ). slice_index ks i) (sym is) ∙ e ∙ ap (λ (ks : List ℕ). slice_index ks j) is);
  }

  pub shown_inside : (count : ℕ) → ((key : ℕ) → count ≤ key → node_at g key ≡ None) → (i : ℕ) → i < length keys → slice_index keys i < count
  shown_inside count past i h =
      subst (λ (ks : List ℕ). slice_index ks i < count) (sym is)
      (key_at (λ key. key < count) (outputs_from 0 g) i (omega (arith, long)) (each_key (λ key. key < count) 0 g below))
    where
      below : (k : ℕ) (node : Node) → node_at g k ≡ Some node → 0 + k < count
      below k node e = elim (cases_lt k count) [
        | inl l ↦ omega arith
        | inr h ↦ (let clash : None ≡ Some node = sym (past k h) ∙ e in absurd (cc))
      ]

pub placed_next : (keys old : List ℕ) (i : ℕ) → AreOnce keys → i < length keys → slice_index keys i < length old → ((j : ℕ) → j < i → slice_index old (slice_index keys j) ≡ j) →
    (j : ℕ) → j < i + 1 → slice_index (set old (slice_index keys i) i) (slice_index keys j) ≡ j
placed_next keys old i once here inside before j low = elim (cases_eq j i) [
  | inl e ↦ ap (λ (k : ℕ). slice_index (set old (slice_index keys i) i) (slice_index keys k)) e ∙ get_or-set_same old (slice_index keys i) i 0 inside ∙ sym e
  | inr n ↦
      (let apart : slice_index keys j ≢ slice_index keys i = λ e. n (once.each j i (omega arith) here e) in
      get_or-set_other old (slice_index keys i) (slice_index keys j) i 0 apart ∙ before j (omega arith))
]

-- ---- one output anew

module _ (w : Wired) (cells : List Cell) (keys places shown : List ℕ) (key : ℕ) (placed : ArePlaced keys places) (long : length shown ≡ length keys) where
  pub refaced_put : (place value : ℕ) → place ≡ slice_index places key → place < length shown → value ≡ face w cells (slice_index keys place) →
      Refaced w cells cells (screen_of keys places shown) (screen_of keys places (set shown place value)) (λ k. k ≡ key)
  refaced_put place value there inside is = record {
    count = refl;
    keys = refl;
    each = λ i h. elim (cases_eq i place) [
      | inl e ↦ inl (at i e)
      | inr n ↦ inr (get_or-set_other shown place i value 0 n, refl)
    ];
    done = λ i h e. at i (sym (placed.each i h) ∙ ap (slice_index places) e ∙ sym there);
  }
    where
      at : (i : ℕ) → i ≡ place → slice_index (set shown place value) i ≡ face w cells (slice_index keys i)
      at i e = subst (λ (k : ℕ). slice_index (set shown place value) k ≡ face w cells (slice_index keys k)) (sym e) (get_or-set_same shown place value 0 inside ∙ is)

  pub refaced_past : (place : ℕ) → place ≡ slice_index places key → length shown ≤ place →
      Refaced w cells cells (screen_of keys places shown) (screen_of keys places shown) (λ k. k ≡ key)
  refaced_past place there past = record {
    count = refl;
    keys = refl;
    each = λ i h. inr (refl, refl);
    done = λ i h e. let same : i ≡ place = sym (placed.each i h) ∙ ap (slice_index places) e ∙ sym there in absurd (omega (arith, same, h, past, long));
  }

seen_as : (role : Option Component) (a b : ℕ → Readings) (key : ℕ) (x y : Cell) → a key ≡ b key → x ≡ y → seen_at role a key x ≡ seen_at role b key y
seen_as None a b key x y e f = refl
seen_as (Some WirePart) a b key x y e f = ap (λ (r : Readings). r.back) e
seen_as (Some _) a b key x y e f = ap (λ (cell : Cell). cell.value) f

face_cell : (w : Wired) (a b : List Cell) (key : ℕ) → cell_of b key ≡ cell_of a key → face w b key ≡ face w a key
face_cell w a b key e = seen_as (role_at (node_at w.nodes key)) (reads_in w) (reads_in w) key (cell_of b key) (cell_of a key) refl e

-- one key held another cell, and then its output was made anew
pub refaced_held : (w : Wired) (a b : List Cell) (s t : Screened) (key : ℕ) → ((k : ℕ) → k ≢ key → cell_of b k ≡ cell_of a k) →
    Refaced w b b s t (λ k. k ≡ key) → Refaced w a b s t (λ k. k ≡ key)
refaced_held w a b s t key others r = record {
  count = r.count;
  keys = r.keys;
  each = λ i h. elim (cases_eq (slice_index s.keys i) key) [
    | inl e ↦ inl (r.done i h e)
    | inr n ↦ elim (r.each i h) [
      | inl k ↦ inl k
      | inr k ↦ inr (k.0, face_cell w a b (slice_index s.keys i) (others (slice_index s.keys i) n))
    ]
  ];
  done = r.done;
}

pub others_set : (cells new : List Cell) (key : ℕ) (cell : Cell) → new ≡ set cells key cell → (k : ℕ) → k ≢ key → cell_of new k ≡ cell_of cells k
others_set cells new key cell is k n = ap (λ (l : List Cell). cell_of l k) is ∙ get_or-set_other cells key k cell nothing n

-- ---- one after another

pub refaced_none : (w : Wired) (cells : List Cell) (s : Screened) (D : ℕ → Type 0) → ((k : ℕ) → D k → ⊥) → Refaced w cells cells s s D
refaced_none w cells s D none = record {
  count = refl;
  keys = refl;
  each = λ i h. inr (refl, refl);
  done = λ i h d. absurd (none (slice_index s.keys i) d);
}

pub refaced_then : (w : Wired) (a b c : List Cell) (s t u : Screened) (D E F : ℕ → Type 0) → ((k : ℕ) → F k → D k ⊎ E k) →
    Refaced w a b s t D → Refaced w b c t u E → Refaced w a c s u F
refaced_then w a b c s t u D E F split f g = record {
  count = g.count ∙ f.count;
  keys = g.keys ∙ f.keys;
  each = λ i h. elim (there i h) [
    | inl k ↦ inl k
    | inr k ↦ elim (f.each i h) [
      | inl l ↦ inl (k.0 ∙ l ∙ sym k.1)
      | inr l ↦ inr (k.0 ∙ l.0, k.1 ∙ l.1)
    ]
  ];
  done = λ i h d. elim (split (slice_index s.keys i) d) [
    | inl x ↦ elim (there i h) [
      | inl k ↦ k
      | inr k ↦ k.0 ∙ f.done i h x ∙ sym k.1
    ]
    | inr y ↦ last i h y
  ];
}
  where
    there : (i : ℕ) → i < length s.keys → (slice_index u.shown i ≡ face w c (slice_index s.keys i))
        ⊎ ((slice_index u.shown i ≡ slice_index t.shown i) × (face w c (slice_index s.keys i) ≡ face w b (slice_index s.keys i)))
    there i h = subst (λ (ks : List ℕ). i < length ks → (slice_index u.shown i ≡ face w c (slice_index ks i)) ⊎ ((slice_index u.shown i ≡ slice_index t.shown i) × (face w c (slice_index ks i) ≡ face w b (slice_index ks i)))) f.keys (g.each i) h

    last : (i : ℕ) → i < length s.keys → E (slice_index s.keys i) → slice_index u.shown i ≡ face w c (slice_index s.keys i)
    last i h y = subst (λ (ks : List ℕ). i < length ks → E (slice_index ks i) → slice_index u.shown i ≡ face w c (slice_index ks i)) f.keys (g.done i) h y

pub refaced_fewer : (w : Wired) (a b : List Cell) (s t : Screened) (D E : ℕ → Type 0) → ((k : ℕ) → E k → D k) → Refaced w a b s t D → Refaced w a b s t E
refaced_fewer w a b s t D E as_well f = record { count = f.count; keys = f.keys; each = f.each; done = λ i h e. f.done i h (as_well (slice_index s.keys i) e) }

-- ---- all outputs

-- Where all but what is done must show what they had to, all show what they must.
pub faced_all : (w v : Wired) (a b c : List Cell) (s t : Screened) (D : ℕ → Type 0) → ((k : ℕ) → D k ⊎ (face v b k ≡ face w a k)) → AreFaced w a s → Refaced v b c s t D → AreFaced v c t
faced_all w v a b c s t D stays faced r = record { each = subst (λ (ks : List ℕ). (i : ℕ) → i < length ks → slice_index t.shown i ≡ face v c (slice_index ks i)) (sym r.keys) there }
  where
    there : (i : ℕ) → i < length s.keys → slice_index t.shown i ≡ face v c (slice_index s.keys i)
    there i h = elim (r.each i h) [
      | inl k ↦ k
      | inr k ↦ elim (stays (slice_index s.keys i)) [
        | inl d ↦ r.done i h d
        | inr e ↦ k.0 ∙ faced.each i h ∙ sym e ∙ sym k.1
      ]
    ]

-- another cell, and what one key gives is as it was
pub stays_alone : (w : Wired) (a b : List Cell) (key : ℕ) (cell : Cell) → b ≡ set a key cell → (k : ℕ) → (k ≡ key) ⊎ (face w b k ≡ face w a k)
stays_alone w a b key cell is k = elim (cases_eq k key) [
  | inl e ↦ inl e
  | inr n ↦ inr (face_cell w a b k (others_set a b key cell is k n))
]

-- another cell, and one key gives something else
pub stays_changed : (w v : Wired) (a b : List Cell) (key out : ℕ) (cell : Cell) (targets : List ℕ) → v.nodes ≡ w.nodes → v.outs ≡ set w.outs key out → b ≡ set a key cell → AreTargets w.nodes targets key →
    (k : ℕ) → ((k ≡ key) ⊎ IsTarget targets k) ⊎ (face v b k ≡ face w a k)
stays_changed w v a b key out cell targets nodes outs is all k = elim (cases_eq k key) [
  | inl e ↦ inl (inl e)
  | inr n ↦ elim (all k) [
    | inl target ↦ inl (inr target)
    | inr none ↦ inr (same n none)
  ]
]
  where
    same : k ≢ key → links_from key (node_at w.nodes k) ≡ 0 → face v b k ≡ face w a k
    same n none =
        let reads : readings_at (given v.outs) (node_at w.nodes k) ≡ readings_at (given w.outs) (node_at w.nodes k) =
        readings_stay (given w.outs) (given v.outs) key (node_at w.nodes k) (λ other m. ap (λ (l : List ℕ). slice_index l other) outs ∙ get_or-set_other w.outs key other out 0 m) none in
        seen_as (role_at (node_at v.nodes k)) (reads_in v) (reads_in w) k (cell_of b k) (cell_of a k) (ap (λ (g : Nodes). readings_at (given v.outs) (node_at g k)) nodes ∙ reads) (others_set a b key cell is k n)
        ∙ ap (λ (g : Nodes). seen_at (role_at (node_at g k)) (reads_in w) k (cell_of a k)) nodes

-- a tick that is taken changes no value
value-rested : (cells : List Cell) (key k : ℕ) → key < length cells → (cell_of (set cells key (rested (cell_of cells key))) k).value ≡ (cell_of cells k).value
value-rested cells key k inside = elim (cases_eq k key) [
  | inl e ↦ ap (λ (n : ℕ). (cell_of (set cells key (rested (cell_of cells key))) n).value) e
      ∙ ap (λ (cell : Cell). cell.value) (get_or-set_same cells key (rested (cell_of cells key)) nothing inside)
      ∙ ap (λ (n : ℕ). (cell_of cells n).value) (sym e)
  | inr n ↦ ap (λ (cell : Cell). cell.value) (get_or-set_other cells key k (rested (cell_of cells key)) nothing n)
]

seen_value : (role : Option Component) (reads : ℕ → Readings) (key : ℕ) (x y : Cell) → x.value ≡ y.value → seen_at role reads key x ≡ seen_at role reads key y
seen_value None reads key x y e = refl
seen_value (Some WirePart) reads key x y e = refl
seen_value (Some _) reads key x y e = e

pub faced_taken : (w : Wired) (old new : Holding) (taken : Option ℕ) (s : Screened) → TakesFirst old taken new → AreFaced w old.cells s → AreFaced w new.cells s
faced_taken w old new None s t f = subst (λ (h : Holding). AreFaced w h.cells s) (sym t.0) f
faced_taken w old new (Some key) s t f =
    subst (λ (h : Holding). AreFaced w h.cells s) (sym t.1)
    (record {
      each = λ i h. f.each i h ∙ seen_value (role_at (node_at w.nodes (slice_index s.keys i))) (reads_in w) (slice_index s.keys i) (cell_of old.cells (slice_index s.keys i))
          (cell_of (set old.cells key (rested (cell_of old.cells key))) (slice_index s.keys i)) (sym (value-rested old.cells key (slice_index s.keys i) t.0.inside));
    })

pub faced_map : (w : Wired) (cells : List Cell) (s : Screened) → s.shown ≡ map (face w cells) s.keys → AreFaced w cells s
faced_map w cells s is = record { each = λ i h. ap (λ (xs : List ℕ). slice_index xs i) is ∙ get_or-map (face w cells) s.keys i 0 0 h }
