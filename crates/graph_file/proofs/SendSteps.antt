-- A graph's values, one node after another.
use Rattle.std.proofs.Common.{◌≡◌, ℕ, zero, suc, ◌+◌, ◌≤◌, ℤ, pos, negsuc, false, List, [], ◌∷◌, ◌++◌, Option, Some, None, get_or, drop, map, refl, sym, ap, ap₂, ◌∙◌, arith, append_assoc}
use Rattle.std.proofs.Math.Path.{fun_ext}
use Rattle.std.proofs.lemmas.List.{append-nil}
use Rattle.serde_json.specs.Data.{Data}
use Rattle.serde_json.specs.Find.{is_float, of_integer}
use Rattle.serde_json.specs.View.{items_of}
use Rattle.serde_json.specs.Written.{has_float, items_have_float}
use Rattle.circuit.specs.declared.Pos.{Pos}
use Rattle.graph.specs.declared.Kind.{Kind}
use Rattle.graph.specs.declared.Kind.TheVariants.{Comparator}
use Rattle.graph.specs.declared.Link.{Link}
use Rattle.graph.specs.Graph.{Node, Nodes, node_at}
use Rattle.graph_file.specs.Json.{own_number, number_after, numbers_from, number_of, with_source, packed_by, packed, place_data, node_data, entries_data, link_data, links_data, json}
use Rattle.graph_file.specs.Sending.{entry_data, sent_link, sent_at, sent_links}

-- what is found, and what is left
pub go_on : {A : Type 0} (found at rest all whole new : List A) → all ≡ at ++ rest → new ≡ found ++ at → found ++ all ≡ whole → new ++ rest ≡ whole
go_on found at rest all whole new all_is new_is so_far = ap (λ n. n ++ rest) new_is ∙ append_assoc found at rest ∙ ap (λ r. found ++ r) (sym all_is) ∙ so_far

-- ---- one entry more

pub entries_step : (key : ℕ) (g : Nodes) → entries_data (drop key g) ≡ entry_data (node_at g key) ++ entries_data (drop (suc key) g)
entries_step zero [] = refl
entries_step (suc key) [] = refl
entries_step zero (None ∷ g) = refl
entries_step zero (Some node ∷ g) = refl
entries_step (suc key) (entry ∷ g) = entries_step key g

pub links_step : (renumber : ℕ → ℕ) (from key : ℕ) (g : Nodes) → sent_links renumber from (drop key g) ≡ sent_at renumber (renumber from) (node_at g key) ++ sent_links renumber (suc from) (drop (suc key) g)
links_step renumber from zero [] = refl
links_step renumber from (suc key) [] = refl
links_step renumber from zero (entry ∷ g) = refl
links_step renumber from (suc key) (entry ∷ g) = links_step renumber from key g

-- ---- nothing is behind the last node

entries_none : (g : Nodes) → ((key : ℕ) → node_at g key ≡ None) → entries_data g ≡ []
entries_none [] none = refl
entries_none (None ∷ g) none = entries_none g (λ key. none (suc key))
entries_none (Some node ∷ g) none = absurd (let n = none 0 in cc)

pub entries_past : (count : ℕ) (g : Nodes) → ((key : ℕ) → count ≤ key → node_at g key ≡ None) → entries_data (drop count g) ≡ []
entries_past zero g past = entries_none g (λ key. past key (omega arith))
entries_past (suc count) [] past = refl
entries_past (suc count) (entry ∷ g) past = entries_past count g (λ key h. past (suc key) (omega arith))

links_none : (renumber : ℕ → ℕ) (from : ℕ) (g : Nodes) → ((key : ℕ) → node_at g key ≡ None) → sent_links renumber from g ≡ []
links_none renumber from [] none = refl
links_none renumber from (None ∷ g) none = links_none renumber (suc from) g (λ key. none (suc key))
links_none renumber from (Some node ∷ g) none = absurd (let n = none 0 in cc)

pub links_past : (renumber : ℕ → ℕ) (from count : ℕ) (g : Nodes) → ((key : ℕ) → count ≤ key → node_at g key ≡ None) → sent_links renumber from (drop count g) ≡ []
links_past renumber from zero g past = links_none renumber from g (λ key. past key (omega arith))
links_past renumber from (suc count) [] past = refl
links_past renumber from (suc count) (entry ∷ g) past = links_past renumber from count g (λ key h. past (suc key) (omega arith))

-- ---- numbers

abbrev pub SameNumbers : List ℕ → List ℕ → Type 0
SameNumbers xs ys = (k : ℕ) → get_or xs k 0 ≡ get_or ys k 0

alike_behind : (xs ys zs : List ℕ) → SameNumbers ys zs → SameNumbers (xs ++ ys) (xs ++ zs)
alike_behind [] ys zs h k = h k
alike_behind (x ∷ xs) ys zs h zero = refl
alike_behind (x ∷ xs) ys zs h (suc k) = alike_behind xs ys zs h k

numbers_step : (next key : ℕ) (g : Nodes) → SameNumbers (numbers_from next (drop key g)) (own_number next (node_at g key) ∷ numbers_from (number_after next (node_at g key)) (drop (suc key) g))
numbers_step next zero [] zero = refl
numbers_step next zero [] (suc k) = refl
numbers_step next (suc key) [] zero = refl
numbers_step next (suc key) [] (suc k) = refl
numbers_step next zero (entry ∷ g) k = refl
numbers_step next (suc key) (entry ∷ g) k = numbers_step next key g k

pub numbers_more : (next key : ℕ) (g : Nodes) (entry : Option Node) (found new : List ℕ) (after : ℕ) → entry ≡ node_at g key → new ≡ found ++ own_number next entry ∷ [] → after ≡ number_after next entry →
    SameNumbers (found ++ numbers_from next (drop key g)) (numbers_from 0 g) → SameNumbers (new ++ numbers_from after (drop (suc key) g)) (numbers_from 0 g)
numbers_more next key g entry found new after here new_is after_is so_far k =
    let own : List ℕ = own_number next (node_at g key) ∷ [] in
    let rest : List ℕ = numbers_from (number_after next (node_at g key)) (drop (suc key) g) in
    let lists : new ++ numbers_from after (drop (suc key) g) ≡ found ++ (own ++ rest) =
    ap₂ (λ xs n. xs ++ numbers_from n (drop (suc key) g)) (new_is ∙ ap (λ e. found ++ own_number next e ∷ []) here) (after_is ∙ ap (number_after next) here) ∙ append_assoc found own rest in
    ap (λ xs. get_or xs k 0) lists ∙ sym (alike_behind found (numbers_from next (drop key g)) (own ++ rest) (numbers_step next key g) k) ∙ so_far k

numbers_none : (next : ℕ) (g : Nodes) → ((key : ℕ) → node_at g key ≡ None) → SameNumbers (numbers_from next g) []
numbers_none next [] none k = refl
numbers_none next (None ∷ g) none zero = refl
numbers_none next (None ∷ g) none (suc k) = numbers_none next g (λ key. none (suc key)) k
numbers_none next (Some node ∷ g) none k = absurd (let n = none 0 in cc)

numbers_past : (next count : ℕ) (g : Nodes) → ((key : ℕ) → count ≤ key → node_at g key ≡ None) → SameNumbers (numbers_from next (drop count g)) []
numbers_past next zero g past k = numbers_none next g (λ key. past key (omega arith)) k
numbers_past next (suc count) [] past k = refl
numbers_past next (suc count) (entry ∷ g) past k = numbers_past next count g (λ key h. past (suc key) (omega arith)) k

pub numbers_all : (next count : ℕ) (g : Nodes) (numbers : List ℕ) → ((key : ℕ) → count ≤ key → node_at g key ≡ None) → SameNumbers (numbers ++ numbers_from next (drop count g)) (numbers_from 0 g) →
    (λ (key : ℕ). get_or numbers key 0) ≡ number_of g
numbers_all next count g numbers past h = fun_ext (λ k.
    ap (λ xs. get_or xs k 0) (sym (append-nil numbers)) ∙ sym (alike_behind numbers (numbers_from next (drop count g)) [] (numbers_past next count g past) k) ∙ h k)

-- ---- the packed graph

map_twice : {A B D : Type 0} (f : B → D) (h : A → B) (xs : List A) → map (λ x. f (h x)) xs ≡ map f (map h xs)
map_twice f h [] = refl
map_twice f h (x ∷ xs) = ap (λ rest. f (h x) ∷ rest) (map_twice f h xs)

sent_by : (renumber : ℕ → ℕ) (key next : ℕ) (g : Nodes) → ((k : ℕ) → renumber (key + k) ≡ get_or (numbers_from next g) k 0) → sent_links renumber key g ≡ links_data next (packed_by renumber g)
sent_by renumber key next [] h = refl
sent_by renumber key next (None ∷ g) h = sent_by renumber (suc key) next g (λ k. let e : suc key + k ≡ key + suc k = omega arith in ap renumber e ∙ h (suc k))
sent_by renumber key next (Some node ∷ g) h =
    let here : renumber key ≡ next = (let e : key ≡ key + 0 = omega arith in ap renumber e ∙ h 0) in
    ap₂ (λ (xs : List Data) ys. xs ++ ys) (ap (λ to. map (sent_link renumber to) node.links) here ∙ map_twice (link_data next) (with_source renumber) node.links)
    (sent_by renumber (suc key) (suc next) g (λ k. let e : suc key + k ≡ key + suc k = omega arith in ap renumber e ∙ h (suc k)))

pub links_packed : (g : Nodes) (renumber : ℕ → ℕ) → renumber ≡ number_of g → sent_links renumber 0 g ≡ links_data 0 (packed g)
links_packed g renumber e = ap (λ r. sent_links r 0 g) e ∙ sent_by (number_of g) 0 0 g (λ k. let z : 0 + k ≡ k = omega arith in ap (number_of g) z)

entries_by : (renumber : ℕ → ℕ) (g : Nodes) → entries_data g ≡ entries_data (packed_by renumber g)
entries_by renumber [] = refl
entries_by renumber (None ∷ g) = entries_by renumber g
entries_by renumber (Some node ∷ g) = ap (λ rest. node_data node ∷ rest) (entries_by renumber g)

pub entries_packed : (g : Nodes) → entries_data g ≡ entries_data (packed g)
entries_packed g = entries_by (number_of g) g

-- ---- no number is a float

integer_no_float : (z : ℤ) → is_float (of_integer z) ≡ false
integer_no_float (pos n) = refl
integer_no_float (negsuc n) = refl

place_no_float : (p : Pos) → has_float (place_data p) ≡ false
place_no_float p = rw (integer_no_float p.x, integer_no_float p.y, integer_no_float p.z) refl

places_no_float : (places : List Pos) → items_have_float (items_of (map place_data places)) ≡ false
places_no_float [] = refl
places_no_float (p ∷ places) = rw (integer_no_float p.x, integer_no_float p.y, integer_no_float p.z) (places_no_float places)

node_no_float : (node : Node) → has_float (node_data node) ≡ false
node_no_float node = by_kind node.kind
  where
    by_kind : (kind : Kind) → has_float (node_data (record node { kind = kind })) ≡ false
    by_kind (Comparator subtract None None) = rw (places_no_float node.also, integer_no_float node.pos.x, integer_no_float node.pos.y, integer_no_float node.pos.z) refl
    by_kind (Comparator subtract None (Some far)) = rw (places_no_float node.also, integer_no_float node.pos.x, integer_no_float node.pos.y, integer_no_float node.pos.z) refl
    by_kind (Comparator subtract (Some direct) None) = rw (places_no_float node.also, integer_no_float node.pos.x, integer_no_float node.pos.y, integer_no_float node.pos.z) refl
    by_kind (Comparator subtract (Some direct) (Some far)) = rw (places_no_float node.also, integer_no_float node.pos.x, integer_no_float node.pos.y, integer_no_float node.pos.z) refl
    by_kind _ = rw (places_no_float node.also, integer_no_float node.pos.x, integer_no_float node.pos.y, integer_no_float node.pos.z) refl

entries_no_float : (g : Nodes) → items_have_float (items_of (entries_data g)) ≡ false
entries_no_float [] = refl
entries_no_float (None ∷ g) = entries_no_float g
entries_no_float (Some node ∷ g) = rw (node_no_float node) (entries_no_float g)

links_to_no_float : (to : ℕ) (links : List Link) (more : List Data) → items_have_float (items_of more) ≡ false → items_have_float (items_of (map (link_data to) links ++ more)) ≡ false
links_to_no_float to [] more h = h
links_to_no_float to (link ∷ links) more h = links_to_no_float to links more h

links_no_float : (to : ℕ) (g : Nodes) → items_have_float (items_of (links_data to g)) ≡ false
links_no_float to [] = refl
links_no_float to (None ∷ g) = links_no_float (suc to) g
links_no_float to (Some node ∷ g) = links_to_no_float to node.links (links_data (suc to) g) (links_no_float (suc to) g)

pub json_no_float : (g : Nodes) → has_float (json g) ≡ false
json_no_float g = rw (links_no_float 0 g, entries_no_float g) refl
