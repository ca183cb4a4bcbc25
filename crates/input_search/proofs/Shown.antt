-- The raw graph shows the places that the world shows, in the same order.
use Rattle.std.proofs.Common.{◌≡◌, ℕ, suc, ◌+◌, Bool, true, false, true≢false, List, [], ◌∷◌, map, filter, Option, Some, None, refl, sym, ◌∙◌, ap, subst, arith, inl, inr, if◌then◌else◌}
use Rattle.std.specs.Prelude.{◌||◌, ◌&&◌}
use Rattle.std.specs.List.{filter_map, cons_option}
use Rattle.std.proofs.lemmas.Bool.{cases_Bool}
use Rattle.block_table.specs.declared.Block.{Block}
use Rattle.block_table.specs.declared.Block.TheVariants.{Wire, Torch, WallTorch, Repeater, Comparator, Lever, Button, Plate, RedstoneBlock, Lamp, Trapdoor, Weighted, Note}
use Rattle.circuit.specs.declared.Pos.{Pos}
use Rattle.circuit.specs.Circuit.{Each, EachBefore}
use Rattle.build.specs.declared.OutPlace.{OutPlace}
use Rattle.build.specs.Plan.{Plan, places, block_at}
use Rattle.build.specs.Marks.{is_marked}
use Rattle.build.specs.Outputs.{is_component, out_kind, out_place, shown_at, outputs}
use Rattle.graph.specs.Graph.{Node, Nodes, node_at}
use Rattle.graph.specs.GraphCircuit.{is_before, is_output, place_at, Output, output_of, in_order, outputs_from}
use Rattle.graph.specs.RawNodes.{is_wire_block, has_node, kind_of, bare_node, node_places}
use Rattle.input_search.specs.Raw.{linked_node, raw}
use Rattle.input_search.proofs.Order.{before-filter, places-before}

-- ---- all graphs: what each output has

each-in_order : (P : Output → Type 0) (one : Option Output) (others : List Output) → ((it : Output) → one ≡ Some it → P it) → Each P others → Each P (in_order one others)
each-in_order P None others h e = e
each-in_order P (Some one) [] h e = (h one refl, tt)
each-in_order P (Some one) (other ∷ others) h e = elim (cases_Bool (is_before one.place other.place)) [
  | inl t ↦ rw t (h one refl, e)
  | inr t ↦ rw t (e.0, each-in_order P (Some one) others h e.1)
]

-- each output has the fact where each entry's has it
pub each-output : (P : Output → Type 0) (low : ℕ) (more whole : Nodes) → ((key : ℕ) → node_at more key ≡ node_at whole (low + key)) →
    ((key : ℕ) (one : Output) → output_of key (node_at whole key) ≡ Some one → P one) → Each P (outputs_from low more)
each-output P low [] whole same h = tt
each-output P low (entry ∷ more) whole same h =
    each-in_order P (output_of low entry) (outputs_from (suc low) more)
    (λ one e. h low one (ap (output_of low) (sym (same 0 ∙ ap (node_at whole) (let z : low + 0 ≡ low = omega arith in z))) ∙ e))
    (each-output P (suc low) more whole (λ key. same (suc key) ∙ ap (node_at whole) (let z : low + suc key ≡ suc low + key = omega arith in z)) h)

pub output-place : (key : ℕ) (entry : Option Node) (one : Output) → output_of key entry ≡ Some one → (one.key ≡ key) × (one.place ≡ place_at entry)
output-place key None one e = absurd (cc)
output-place key (Some node) one e = elim (cases_Bool (is_output node.kind)) [
  | inl t ↦ let f : ◌≡◌ {A = Option Output} (Some (record { place = node.pos; key = key })) (Some one) = rw t at e in same (record { place = node.pos; key = key }) f
  | inr t ↦ let f : ◌≡◌ {A = Option Output} None (Some one) = rw t at e in absurd (cc)
]
  where
    same : (it : Output) → Some it ≡ Some one → (one.key ≡ it.key) × (one.place ≡ it.place)
    same it f = let g : one ≡ it = cc in (ap (λ (o : Output). o.key) g, ap (λ (o : Output). o.place) g)

-- an output's place is that of the node under its key
places-of_keys : (g : Nodes) (shown : List Output) → Each (λ one. place_at (node_at g one.key) ≡ one.place) shown →
    map (λ k. place_at (node_at g k)) (map (λ (one : Output). one.key) shown) ≡ map (λ (one : Output). one.place) shown
places-of_keys g [] e = refl
places-of_keys g (one ∷ shown) e = λ i. e.0 i ∷ places-of_keys g shown e.1 i

pub shown-places : (g : Nodes) → map (λ k. place_at (node_at g k)) (map (λ (one : Output). one.key) (outputs_from 0 g)) ≡ map (λ (one : Output). one.place) (outputs_from 0 g)
shown-places g = places-of_keys g (outputs_from 0 g) (each-output (λ one. place_at (node_at g one.key) ≡ one.place) 0 g g (λ key. ap (node_at g) (let z : key ≡ 0 + key = omega arith in z))
    (λ key one e. let r = output-place key (node_at g key) one e in ap (λ k. place_at (node_at g k)) r.0 ∙ sym r.1))

-- ---- nodes whose places rise stand in order

-- an output that stands before all others is put in front
in-front : (one : Output) (others : List Output) → Each (λ (other : Output). is_before one.place other.place ≡ true) others → in_order (Some one) others ≡ one ∷ others
in-front one [] e = refl
in-front one (other ∷ others) e = rw e.0 refl

module _ (f : Pos → Node) (at : (p : Pos) → (f p).pos ≡ p) where
  abbrev nodes : List Pos → Nodes
  nodes ps = map (λ p. Some (f p)) ps

  output-at : (key : ℕ) (p : Pos) (one : Output) → output_of key (Some (f p)) ≡ Some one → one.place ≡ p
  output-at key p one e = (output-place key (Some (f p)) one e).1 ∙ at p

  each-place : (P : Pos → Type 0) (key : ℕ) (ps : List Pos) → Each P ps → Each (λ (one : Output). P one.place) (outputs_from key (nodes ps))
  each-place P key [] e = tt
  each-place P key (p ∷ ps) e =
      each-in_order (λ (one : Output). P one.place) (output_of key (Some (f p))) (outputs_from (suc key) (nodes ps))
      (λ one h. subst P (sym (output-at key p one h)) e.0) (each-place P (suc key) ps e.1)

  pub rising-outputs : (key : ℕ) (ps : List Pos) → EachBefore (λ p q. is_before p q ≡ true) ps →
      map (λ (one : Output). one.place) (outputs_from key (nodes ps)) ≡ filter (λ p. is_output (f p).kind) ps
  rising-outputs key [] h = refl
  rising-outputs key (p ∷ ps) h = elim (cases_Bool (is_output (f p).kind)) [
    | inl e ↦ rw e (front ∙ (λ i. at p i ∷ rising-outputs (suc key) ps h.1 i))
    | inr e ↦ rw e (rising-outputs (suc key) ps h.1)
  ]
    where
      rest : List Output
      rest = outputs_from (suc key) (nodes ps)

      one : Output
      one = record { place = (f p).pos; key = key }

      front : map (λ (o : Output). o.place) (in_order (Some one) rest) ≡ (f p).pos ∷ map (λ (o : Output). o.place) rest
      front =
          ap (map (λ (o : Output). o.place)) (in-front one rest
          (each-place (λ q. is_before (f p).pos q ≡ true) (suc key) ps (subst (λ (r : Pos). Each (λ q. is_before r q ≡ true) ps) (sym (at p)) h.0)))

-- ---- the raw graph

-- what a view shows of a block
abbrev is_shown : Bool → Block → Bool
is_shown marked (Lamp lit) = true
is_shown marked (Trapdoor facing top powered) = true
is_shown marked (Note powered) = true
is_shown marked (Wire n e s w power) = marked
is_shown marked _ = false

-- whether a block has a node
abbrev pub taken : Bool → Block → Bool
taken marked k = is_component k || (is_wire_block k && marked)

kind-shown : (b : Plan) (p : Pos) (k : Block) (marked : Bool) → taken marked k ≡ true → is_output (kind_of b p k) ≡ is_shown marked k
kind-shown b p (Lever face facing powered) marked h = refl
kind-shown b p (Button name face facing powered) marked h = refl
kind-shown b p (Plate name powered) marked h = refl
kind-shown b p (Weighted name power) marked h = refl
kind-shown b p (Torch lit) marked h = refl
kind-shown b p (WallTorch facing lit) marked h = refl
kind-shown b p (Repeater delay facing powered) marked h = refl
kind-shown b p (Comparator facing subtract) marked h = refl
kind-shown b p (Lamp lit) marked h = refl
kind-shown b p (Trapdoor facing top powered) marked h = refl
kind-shown b p (Note powered) marked h = refl
kind-shown b p RedstoneBlock marked h = refl
kind-shown b p (Wire n e s w power) marked h = sym h
kind-shown b p _ marked h = absurd (true≢false (sym h))

untaken-not_shown : (k : Block) (marked : Bool) → taken marked k ≡ false → is_shown marked k ≡ false
untaken-not_shown (Lamp lit) marked h = absurd (true≢false h)
untaken-not_shown (Trapdoor facing top powered) marked h = absurd (true≢false h)
untaken-not_shown (Note powered) marked h = absurd (true≢false h)
untaken-not_shown (Wire n e s w power) marked h = h
untaken-not_shown _ marked h = refl

abbrev place_of_out : OutPlace → Pos
place_of_out o = o.pos

shown-cons : (marked : Bool) (k : Block) (p : Pos) (rest : List OutPlace) →
    map place_of_out (cons_option (out_place p (out_kind marked k)) rest) ≡ (if is_shown marked k then p ∷ map place_of_out rest else map place_of_out rest)
shown-cons marked (Lamp lit) p rest = refl
shown-cons marked (Trapdoor facing top powered) p rest = refl
shown-cons marked (Note powered) p rest = refl
shown-cons true (Wire n e s w power) p rest = refl
shown-cons false (Wire n e s w power) p rest = refl
shown-cons marked _ p rest = refl

module _ (b : Plan) (marks all : List Pos) where
  abbrev node : Pos → Node
  node = linked_node b marks all

  abbrev shows : Pos → Bool
  shows p = is_shown (is_marked marks p) (block_at b p)

  outs-shown : (ps : List Pos) → map place_of_out (filter_map (shown_at b marks) ps) ≡ filter shows ps
  outs-shown [] = refl
  outs-shown (p ∷ ps) = shown-cons (is_marked marks p) (block_at b p) p (filter_map (shown_at b marks) ps) ∙ elim (cases_Bool (shows p)) [
    | inl e ↦ rw e (ap (λ (qs : List Pos). p ∷ qs) (outs-shown ps))
    | inr e ↦ rw e (outs-shown ps)
  ]

  nodes-shown : (ps : List Pos) → filter (λ p. is_output (node p).kind) (filter (has_node b marks) ps) ≡ filter shows ps
  unfolding has_node bare_node
  nodes-shown [] = refl
  nodes-shown (p ∷ ps) = elim (cases_Bool (has_node b marks p)) [
    | inl h ↦ rw h (rw (kind-shown b p (block_at b p) (is_marked marks p) h) (elim (cases_Bool (shows p)) [
      | inl e ↦ rw e (ap (λ (qs : List Pos). p ∷ qs) (nodes-shown ps))
      | inr e ↦ rw e (nodes-shown ps)
    ]))
    | inr h ↦ rw h (rw (untaken-not_shown (block_at b p) (is_marked marks p) h) (nodes-shown ps))
  ]

  shown-raw : map place_of_out (outputs b marks) ≡ map (λ (one : Output). one.place) (outputs_from 0 (map (λ p. Some (node p)) (filter (has_node b marks) (places b))))
  unfolding outputs bare_node
  shown-raw =
      outs-shown (places b)
      ∙ sym (nodes-shown (places b))
      ∙ sym (rising-outputs node (λ p. refl) 0 (filter (has_node b marks) (places b)) (before-filter (λ p q. is_before p q ≡ true) (has_node b marks) (places b) (places-before b)))

-- a view shows the same places of both
pub shown-alike : (b : Plan) (marks : List Pos) → map place_of_out (outputs b marks) ≡ map (λ k. place_at (node_at (raw b marks) k)) (map (λ (one : Output). one.key) (outputs_from 0 (raw b marks)))
unfolding raw node_places
shown-alike b marks = shown-raw b marks (node_places b marks) ∙ sym (shown-places (raw b marks))
