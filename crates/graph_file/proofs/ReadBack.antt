-- What is written of a graph is read as the graph with its nodes renumbered.
use Rattle.std.proofs.Common.{◌≡◌, ◌≢◌, ℕ, zero, suc, ◌+◌, ◌<◌, ◌≤◌, Bool, true, false, ℤ, pos, negsuc, ◌≤ℤ◌, List, [], ◌∷◌, ◌++◌, length, Option, Some, None, IsSome, map, refl, sym, ap, ap₂, ◌∙◌, subst, arith, inl, inr}
use Rattle.std.specs.Prelude.{◌==◌, ◌&&◌, ◌||◌, nat_le, option_and_then, slice_get, filter, codes, is_some, if◌then◌else◌, IfSome}
use Rattle.std.specs.List.{filter_map, list_all}
use Rattle.std.proofs.lemmas.Bool.{cases_Bool, and_from, or_from, eqb-true, eq-eqb, lt-ltb, le-leb, false≢true, eqb-false}
use Rattle.std.proofs.lemmas.Int.{ints}
use Rattle.std.proofs.lemmas.List.{length-append, length-map}
use Rattle.std.proofs.lemmas.List.Sums.{sum_by-cons}
use Rattle.std.proofs.lemmas.List.Elements.{filter_map-append}
use Rattle.serde_json.specs.View.{items_of}
use Rattle.serde_json.specs.Data.{Data, boolean, object, string, put, no_members}
use Rattle.node_arena.specs.Items.{keys_from, keys_of}
use Rattle.circuit.specs.declared.Pos.{Pos}
use Rattle.circuit.specs.Circuit.{Each, EachBefore}
use Rattle.graph.specs.declared.Group.{Group}
use Rattle.graph.specs.declared.Group.TheVariants.{Back, Side}
use Rattle.graph.specs.declared.Kind.{Kind}
use Rattle.graph.specs.declared.Kind.TheVariants.{Lever, Button, Plate, Weighted, Torch, Repeater, Comparator, Lamp, Trapdoor, Note, Wire, Constant}
use Rattle.graph.specs.declared.Link.{Link}
use Rattle.graph.specs.Clicks.{is_same_place}
use Rattle.graph.specs.Graph.{Node, Nodes, node_at, Lives, node_count, link_count, links_into}
use Rattle.graph.specs.GraphCircuit.{role_of}
use Rattle.graph.specs.GraphText.{kind_text}
use Rattle.graph.specs.Links.{of_group, in_groups}
use Rattle.graph.specs.Sound.{top_of, can_wait, IsKindInRange, IsSoundNode, places_of as all_places}
use Rattle.graph_file.specs.declared.entries.LinkEntry.{LinkEntry}
use Rattle.graph_file.specs.FitsFile.{IsCoordinate, IsFilePlace, FitsFile}
use Rattle.graph_file.specs.GraphFile.{is_coordinate, is_place, is_strength, is_kind, is_tick, is_node, with_place, is_repeated, with_places, nowhere, or_later, node_cause, nodes_cause, link_cause, links_cause, parts_cause, cause_of, plain_link, links_to, linked, graph_with, graph_of}
use Rattle.graph_file.specs.Json.{number_of, with_source, with_sources, packed_by, packed, count, list, place_data, with_detail, node_data, entries_data, group_number, link_data, links_data, whole_data, json}
use Rattle.graph_file.specs.Reading.{as_list, list_of, kind_named, place_of, places_of, bare_with, node_with, node_of, link_of, parts_of, is_few}
use Rattle.graph_file.proofs.ValueSteps.{listed}
use Rattle.graph_file.proofs.PackedLaw.{lives_at}
use Rattle.graph_file.proofs.SeenSteps.{place_one}

-- ---- places

number_back : (n : ℕ) → pos n ≤ℤ pos 65535 → is_coordinate (pos n) ≡ true
number_back n h = lt-ltb n 65536 (omega (arith, ints))

place_back : (p : Pos) → IsFilePlace p → (place_of (place_data p) ≡ Some p) × (is_place p ≡ true)
place_back p inside = by_numbers p.x p.y p.z inside.0 inside.1.0 inside.1.1
  where
    by_numbers : (x y z : ℤ) → IsCoordinate x → IsCoordinate y → IsCoordinate z → (place_of (place_data (record { x = x; y = y; z = z })) ≡ Some (record { x = x; y = y; z = z })) × (is_place (record { x = x; y = y; z = z }) ≡ true)
    by_numbers (pos x) (pos y) (pos z) a b c = (refl, and_from (is_coordinate (pos x)) _ (number_back x a.1) (and_from (is_coordinate (pos y)) _ (number_back y b.1) (number_back z c.1)))
    by_numbers (negsuc x) y z a b c = absurd (let h = a.0 in omega (arith, ints))
    by_numbers (pos x) (negsuc y) z a b c = absurd (let h = b.0 in omega (arith, ints))
    by_numbers (pos x) (pos y) (negsuc z) a b c = absurd (let h = c.0 in omega (arith, ints))

places_back : (ps : List Pos) → Each IsFilePlace ps → (places_of (map place_data ps) ≡ Some ps) × (list_all is_place ps ≡ true)
places_back [] inside = (refl, refl)
places_back (p ∷ ps) inside =
    let first = place_back p inside.0 in
    let rest = places_back ps inside.1 in
    (rw (first.0, rest.0) refl, rw (first.1, rest.1) refl)

-- ---- nodes

members_back : (kind : Kind) (at also : Data) (state due priority : ℕ) (first : Bool) →
    node_of (object (with_detail kind
    (put (codes "also") also (put (codes "at") at (put (codes "due") (count due) (put (codes "first") (boolean first) (put (codes "kind") (string (kind_text kind)) (put (codes "priority") (count priority) (put (codes "state") (count state) no_members)))))))))
    ≡ node_with (bare_with (Some kind) (place_of at) (Some state) (Some first) (Some due) (Some priority)) (option_and_then places_of (as_list also))
unfolding kind_named
members_back Lever at also state due priority first = refl
members_back (Button delay) at also state due priority first = refl
members_back Plate at also state due priority first = refl
members_back Weighted at also state due priority first = refl
members_back Torch at also state due priority first = refl
members_back (Repeater delay) at also state due priority first = refl
members_back (Comparator subtract None None) at also state due priority first = refl
members_back (Comparator subtract None (Some far)) at also state due priority first = refl
members_back (Comparator subtract (Some direct) None) at also state due priority first = refl
members_back (Comparator subtract (Some direct) (Some far)) at also state due priority first = refl
members_back Lamp at also state due priority first = refl
members_back Trapdoor at also state due priority first = refl
members_back Note at also state due priority first = refl
members_back Wire at also state due priority first = refl
members_back Constant at also state due priority first = refl

abbrev unlinked : Node → Node
unlinked node = record node { links = [] }

abbrev pub IsFileNode : Node → Type 0
IsFileNode node = IsFilePlace node.pos × Each IsFilePlace node.also

node_back : (node : Node) → IsFileNode node → node_of (node_data node) ≡ Some (unlinked node)
node_back node inside =
    members_back node.kind (place_data node.pos) (list (map place_data node.also)) node.state node.due node.priority node.first
    ∙ ap₂ (λ (place : Option Pos) (also : Option (List Pos)). node_with (bare_with (Some node.kind) place (Some node.state) (Some node.first) (Some node.due) (Some node.priority)) also)
    (place_back node.pos inside.0).0
    (ap places_of (listed (map place_data node.also)) ∙ (places_back node.also inside.1).0)

-- a graph without gaps
abbrev pub full : List Node → Nodes
full ns = map Some ns

nodes_back : (ns : List Node) → Each IsFileNode ns → map node_of (entries_data (full ns)) ≡ map (λ n. Some (unlinked n)) ns
nodes_back [] inside = refl
nodes_back (n ∷ ns) inside = ap₂ (λ (x : Option Node) (xs : Nodes). x ∷ xs) (node_back n inside.0) (nodes_back ns inside.1)

-- ---- links

abbrev entry : ℕ → Link → LinkEntry
entry to link = record { from = link.from; to = to; group = group_number link.group; weight = link.weight }

link_back : (to : ℕ) (link : Link) → link_of (link_data to link) ≡ Some (entry to link)
link_back to link = refl

plain_back : (to : ℕ) (link : Link) → plain_link (entry to link) ≡ link
plain_back to link = by_group link.group
  where
    by_group : (group : Group) → plain_link (entry to (record link { group = group })) ≡ record link { group = group }
    by_group Back = refl
    by_group Side = refl

abbrev entries : ℕ → List Node → List LinkEntry
entries to [] = []
entries to (n ∷ ns) = map (entry to) n.links ++ entries (suc to) ns

found_of : (to : ℕ) (links : List Link) → filter_map link_of (map (link_data to) links) ≡ map (entry to) links
found_of to [] = refl
found_of to (link ∷ links) = ap (λ rest. entry to link ∷ rest) (found_of to links)

links_back : (to : ℕ) (ns : List Node) → filter_map link_of (links_data to (full ns)) ≡ entries to ns
links_back to [] = refl
links_back to (n ∷ ns) = filter_map-append link_of (map (link_data to) n.links) (links_data (suc to) (full ns)) ∙ ap₂ (λ (xs ys : List LinkEntry). xs ++ ys) (found_of to n.links) (links_back (suc to) ns)

links_to-append : (key : ℕ) (ls ms : List LinkEntry) → links_to key (ls ++ ms) ≡ links_to key ls ++ links_to key ms
links_to-append key [] ms = refl
links_to-append key (l ∷ ls) ms = elim (cases_Bool (l.to == key)) [
  | inl h ↦ rw h (ap (λ rest. plain_link l ∷ rest) (links_to-append key ls ms))
  | inr h ↦ rw h (links_to-append key ls ms)
]

own_links : (key : ℕ) (links : List Link) → links_to key (map (entry key) links) ≡ links
own_links key [] = refl
own_links key (link ∷ links) = rw (eq-eqb key key refl) (ap₂ (λ (x : Link) (xs : List Link). x ∷ xs) (plain_back key link) (own_links key links))

differs : (a b : ℕ) → a ≢ b → (a == b) ≡ false
differs a b n = elim (cases_Bool (a == b)) [ inl h ↦ absurd (n (eqb-true a b h)) | inr h ↦ h ]

other_links : (key to : ℕ) (links : List Link) → to ≢ key → links_to key (map (entry to) links) ≡ []
other_links key to [] apart = refl
other_links key to (link ∷ links) apart = rw (differs to key apart) (other_links key to links apart)

links_past : (key to : ℕ) (ns : List Node) → key < to → links_to key (entries to ns) ≡ []
links_past key to [] past = refl
links_past key to (n ∷ ns) past =
    links_to-append key (map (entry to) n.links) (entries (suc to) ns)
    ∙ ap₂ (λ (xs ys : List Link). xs ++ ys) (other_links key to n.links (λ e. omega arith)) (links_past key (suc to) ns (omega arith))

append-empty : (xs : List Link) → xs ++ [] ≡ xs
append-empty [] = refl
append-empty (x ∷ xs) = ap (λ rest. x ∷ rest) (append-empty xs)

-- the links into the node that stands under the key
links_at_key : (to j : ℕ) (ns : List Node) (n : Node) → slice_get ns j ≡ Some n → links_to (to + j) (entries to ns) ≡ n.links
links_at_key to j [] n e = absurd (cc)
links_at_key to zero (first ∷ ns) n e =
    let same : first ≡ n = cc in
    let key : to + 0 ≡ to = omega arith in
    ap (λ k. links_to k (entries to (first ∷ ns))) key
    ∙ links_to-append to (map (entry to) first.links) (entries (suc to) ns)
    ∙ ap₂ (λ (xs ys : List Link). xs ++ ys) (own_links to first.links) (links_past to (suc to) ns (omega arith)) ∙ append-empty first.links ∙ ap (λ (m : Node). m.links) same
links_at_key to (suc j) (first ∷ ns) n e =
    let key : to + suc j ≡ suc to + j = omega arith in
    links_to-append (to + suc j) (map (entry to) first.links) (entries (suc to) ns)
    ∙ ap (λ (xs : List Link). xs ++ links_to (to + suc j) (entries (suc to) ns)) (other_links (to + suc j) to first.links (λ h. omega arith))
    ∙ ap (λ k. links_to k (entries (suc to) ns)) key ∙ links_at_key (suc to) j ns n e

abbrev IsGrouped : Node → Type 0
IsGrouped n = in_groups n.links ≡ n.links

linked_back : (key : ℕ) (ns : List Node) (all : List LinkEntry) → ((j : ℕ) (n : Node) → slice_get ns j ≡ Some n → links_to (key + j) all ≡ n.links) → Each IsGrouped ns →
    linked key all (map (λ n. Some (unlinked n)) ns) ≡ full ns
linked_back key [] all here groups = refl
linked_back key (n ∷ ns) all here groups =
    let zero_key : key ≡ key + 0 = omega arith in
    let first : in_groups (links_to key all) ≡ n.links = ap (λ k. in_groups (links_to k all)) zero_key ∙ ap in_groups (here 0 n refl) ∙ groups.0 in
    ap₂ (λ (links : List Link) (rest : Nodes). Some (record n { links = links }) ∷ rest) first
    (linked_back (suc key) ns all (λ j m e. (let k : suc key + j ≡ key + suc j = omega arith in ap (λ i. links_to i all) k ∙ here (suc j) m e)) groups.1)

-- ---- no cause

pub each_append : {A : Type 0} (P : A → Type 0) (xs ys : List A) → Each P xs → Each P ys → Each P (xs ++ ys)
each_append P [] ys e f = f
each_append P (x ∷ xs) ys e f = (e.0, each_append P xs ys e.1 f)

each_of : {A : Type 0} (P : A → Type 0) (xs ys : List A) → Each P (xs ++ ys) → Each P xs × Each P ys
each_of P [] ys e = (tt, e)
each_of P (x ∷ xs) ys e = let rest = each_of P xs ys e.1 in ((e.0, rest.0), rest.1)

pub each_as : {A : Type 0} (P Q : A → Type 0) (xs : List A) → ((x : A) → P x → Q x) → Each P xs → Each Q xs
each_as P Q [] h e = tt
each_as P Q (x ∷ xs) h e = (h x e.0, each_as P Q xs h e.1)

pub each_map : {A B : Type 0} (P : B → Type 0) (f : A → B) (xs : List A) → Each (λ x. P (f x)) xs → Each P (map f xs)
each_map P f [] e = tt
each_map P f (x ∷ xs) e = (e.0, each_map P f xs e.1)

each_both : {A : Type 0} (P Q : A → Type 0) (xs : List A) → Each P xs → Each Q xs → Each (λ x. P x × Q x) xs
each_both P Q [] e f = tt
each_both P Q (x ∷ xs) e f = ((e.0, f.0), each_both P Q xs e.1 f.1)

abbrev IsGoodLink : ℕ → LinkEntry → Type 0
IsGoodLink count l = ((l.from < count) × (l.to < count)) × ((l.group ≤ 1) × (l.weight ≤ 15))

abbrev IsGoodData : ℕ → Data → Type 0
IsGoodData count d = (l : LinkEntry) × (link_of d ≡ Some l) × IsGoodLink count l

good_link : (index count : ℕ) (l : LinkEntry) → IsGoodLink count l → link_cause index count (Some l) ≡ None
good_link index count l good =
    rw (lt-ltb l.from count good.0.0, lt-ltb l.to count good.0.1, le-leb l.group 1 good.1.0, le-leb l.weight 15 good.1.1) refl

good_links : (index count : ℕ) (ds : List Data) → Each (IsGoodData count) ds → links_cause index count ds ≡ None
good_links index count [] e = refl
good_links index count (d ∷ ds) e =
    let here : link_cause index count (link_of d) ≡ None = ap (link_cause index count) e.0.1 ∙ good_link index count e.0.0 e.0.2 in
    rw here (good_links (suc index) count ds e.1)

group_small : (group : Group) → group_number group ≤ 1
group_small Back = omega arith
group_small Side = omega arith

abbrev pub IsLinkOf : ℕ → Link → Type 0
IsLinkOf count link = (link.from < count) × (link.weight ≤ 15)

good_data : (count to : ℕ) (ns : List Node) → to + length ns ≤ count → Each (λ (n : Node). Each (IsLinkOf count) n.links) ns → Each (IsGoodData count) (links_data to (full ns))
good_data count to [] few e = tt
good_data count to (n ∷ ns) few e =
    each_append (IsGoodData count) (map (link_data to) n.links) (links_data (suc to) (full ns))
    (each_map (IsGoodData count) (link_data to) n.links
    (each_as (IsLinkOf count) (λ (link : Link). IsGoodData count (link_data to link)) n.links (λ link h. (entry to link, link_back to link, ((h.0, omega arith), (group_small link.group, h.1)))) e.0))
    (good_data count (suc to) ns (omega arith) e.1)

-- ---- places that stand once

same_place : (p q : Pos) → is_same_place p q ≡ true → p ≡ q
same_place p q h = place_one p q h

not_same : (p q : Pos) → p ≢ q → is_same_place p q ≡ false
not_same p q apart = elim (cases_Bool (is_same_place p q)) [ inl h ↦ absurd (apart (same_place p q h)) | inr h ↦ h ]

abbrev AreNew : (Pos → Bool) → List Pos → Type 0
AreNew seen places = EachBefore (λ a b. a ≢ b) places × Each (λ p. seen p ≡ false) places

not_repeated : (seen : Pos → Bool) (places more : List Pos) → AreNew seen (places ++ more) → (is_repeated seen places ≡ false) × AreNew (with_places places seen) more
not_repeated seen [] more new = (refl, new)
not_repeated seen (p ∷ places) more new =
    let later : Each (λ q. with_place p seen q ≡ false) (places ++ more) =
    each_as (λ q. (p ≢ q) × (seen q ≡ false)) (λ q. with_place p seen q ≡ false) (places ++ more) (λ q h. or_from (is_same_place q p) (seen q) (not_same q p (λ e. h.0 (sym e))) h.1)
    (each_both (λ q. p ≢ q) (λ q. seen q ≡ false) (places ++ more) new.0.0 new.1.1) in
    let rest = not_repeated (with_place p seen) places more (new.0.1, later) in
    (or_from (seen p) (is_repeated (with_place p seen) places) new.1.0 rest.0, rest.1)

good_nodes : (index : ℕ) (seen : Pos → Bool) (ns : List Node) → Each IsFileNode ns → Each (λ n. is_node n ≡ true) ns → AreNew seen (all_places (full ns)) → nodes_cause index seen (entries_data (full ns)) ≡ None
good_nodes index seen [] inside good new = refl
good_nodes index seen (n ∷ ns) inside good new =
    let once = not_repeated seen (n.pos ∷ n.also) (all_places (full ns)) new in
    let here : node_cause index seen (Some (unlinked n)) ≡ None = rw (good.0, once.0) refl in
    rw (node_back n inside.0, here) (good_nodes (suc index) (with_places (n.pos ∷ n.also) seen) ns inside.1 good.1 once.1)

-- ---- soundness as tests

kind_fits : (kind : Kind) → IsKindInRange kind → is_kind kind ≡ true
kind_fits Lever h = refl
kind_fits (Button delay) (inl e) = rw (eq-eqb delay 10 e) refl
kind_fits (Button delay) (inr e) = by_test (delay == 10) (eq-eqb delay 15 e)
  where
    by_test : (b : Bool) → (delay == 15) ≡ true → (b || (delay == 15)) ≡ true
    by_test true h = refl
    by_test false h = h
kind_fits Plate h = refl
kind_fits Weighted h = refl
kind_fits Torch h = refl
kind_fits (Repeater delay) h = and_from (nat_le 1 delay) (nat_le delay 4) (le-leb 1 delay h.0) (le-leb delay 4 h.1)
kind_fits (Comparator subtract direct far) h = and_from (is_strength direct) (is_strength far) (strength direct h.0) (strength far h.1)
  where
    strength : (s : Option ℕ) → IfSome s (λ n. n ≤ 15) → is_strength s ≡ true
    strength None h = refl
    strength (Some n) h = le-leb n 15 h
kind_fits Lamp h = refl
kind_fits Trapdoor h = refl
kind_fits Note h = refl
kind_fits Wire h = refl
kind_fits Constant h = refl

tick_fits : (kind : Kind) (due priority : ℕ) → due ≤ 15 → priority ≤ 3 → (due ≢ 0 → can_wait kind ≡ true) → (due ≡ 0 → priority ≡ 0) → is_tick kind due priority ≡ true
tick_fits kind due priority small low waiting idle =
    and_from (nat_le due 15 && nat_le priority 3) (if due == 0 then priority == 0 else can_wait kind) (and_from (nat_le due 15) (nat_le priority 3) (le-leb due 15 small) (le-leb priority 3 low))
    (elim (cases_Bool (due == 0)) [
      | inl h ↦ rw h (eq-eqb priority 0 (idle (eqb-true due 0 h)))
      | inr h ↦ rw h (waiting (eqb-false due 0 h))
    ])

node_fits : (g : Nodes) (node : Node) → IsSoundNode g node → IsFileNode node → is_node node ≡ true
node_fits g node sound inside =
    and_from (is_place node.pos && list_all is_place node.also) _
    (and_from (is_place node.pos) (list_all is_place node.also) (place_back node.pos inside.0).1 (places_back node.also inside.1).1)
    (and_from (nat_le node.state (top_of (role_of node.kind)) && is_kind node.kind) (is_tick node.kind node.due node.priority)
    (and_from (nat_le node.state (top_of (role_of node.kind))) (is_kind node.kind) (le-leb node.state (top_of (role_of node.kind)) sound.state) (kind_fits node.kind sound.kind))
    (tick_fits node.kind node.due node.priority sound.due sound.priority sound.waiting sound.idle))

-- ---- the packed graph

abbrev pub nodes_by : (ℕ → ℕ) → Nodes → List Node
nodes_by renumber [] = []
nodes_by renumber (None ∷ g) = nodes_by renumber g
nodes_by renumber (Some node ∷ g) = with_sources renumber node ∷ nodes_by renumber g

pub packed_full : (renumber : ℕ → ℕ) (g : Nodes) → packed_by renumber g ≡ full (nodes_by renumber g)
packed_full renumber [] = refl
packed_full renumber (None ∷ g) = packed_full renumber g
packed_full renumber (Some node ∷ g) = ap (λ (rest : Nodes). Some (with_sources renumber node) ∷ rest) (packed_full renumber g)

-- what holds of each node that lives
pub each_node : (P : Node → Type 0) (renumber : ℕ → ℕ) (g : Nodes) → ((k : ℕ) (node : Node) → node_at g k ≡ Some node → P (with_sources renumber node)) → Each P (nodes_by renumber g)
each_node P renumber [] h = tt
each_node P renumber (None ∷ g) h = each_node P renumber g (λ k node e. h (suc k) node e)
each_node P renumber (Some node ∷ g) h = (h 0 node refl, each_node P renumber g (λ k m e. h (suc k) m e))

places_packed : (renumber : ℕ → ℕ) (g : Nodes) → all_places (full (nodes_by renumber g)) ≡ all_places g
places_packed renumber [] = refl
places_packed renumber (None ∷ g) = places_packed renumber g
places_packed renumber (Some node ∷ g) = ap (λ (rest : List Pos). (node.pos ∷ node.also) ++ rest) (places_packed renumber g)

file_nodes : (ns : List Node) → Each IsFilePlace (all_places (full ns)) → Each IsFileNode ns
file_nodes [] e = tt
file_nodes (n ∷ ns) e =
    let both = each_of IsFilePlace (n.pos ∷ n.also) (all_places (full ns)) e in
    (both.0, file_nodes ns both.1)

pub length_keys : (renumber : ℕ → ℕ) (from : ℕ) (g : Nodes) → length (nodes_by renumber g) ≡ length (keys_from from g)
length_keys renumber from [] = refl
length_keys renumber from (None ∷ g) = length_keys renumber (suc from) g
length_keys renumber from (Some node ∷ g) = ap suc (length_keys renumber (suc from) g)

pub length_nodes : (renumber : ℕ → ℕ) (g : Nodes) → length (nodes_by renumber g) ≡ node_count g
length_nodes renumber [] = refl
length_nodes renumber (None ∷ g) =
    let e : node_count (None ∷ g) ≡ 0 + node_count g = sum_by-cons (λ (o : Option Node). if is_some o then 1 else 0) None g in
    omega (arith, length_nodes renumber g, e)
length_nodes renumber (Some node ∷ g) =
    let e : node_count (Some node ∷ g) ≡ 1 + node_count g = sum_by-cons (λ (o : Option Node). if is_some o then 1 else 0) (Some node) g in
    omega (arith, length_nodes renumber g, e)

length_entries : (ns : List Node) → length (entries_data (full ns)) ≡ length ns
length_entries [] = refl
length_entries (n ∷ ns) = ap suc (length_entries ns)

pub length_links : (renumber : ℕ → ℕ) (to : ℕ) (g : Nodes) → length (links_data to (full (nodes_by renumber g))) ≡ link_count g
length_links renumber to [] = refl
length_links renumber to (None ∷ g) =
    let e : link_count (None ∷ g) ≡ 0 + link_count g = sum_by-cons links_into None g in
    omega (arith, length_links renumber to g, e)
length_links renumber to (Some node ∷ g) =
    let e : link_count (Some node ∷ g) ≡ length node.links + link_count g = sum_by-cons links_into (Some node) g in
    let own : length (map (link_data to) (map (with_source renumber) node.links)) ≡ length node.links = length-map (map (with_source renumber) node.links) (link_data to) ∙ length-map node.links (with_source renumber) in
    omega (arith, length-append (map (link_data to) (map (with_source renumber) node.links)) (links_data (suc to) (full (nodes_by renumber g))), own, length_links renumber (suc to) g, e)

filter_sources : (renumber : ℕ → ℕ) (group : Group) (links : List Link) → filter (of_group group) (map (with_source renumber) links) ≡ map (with_source renumber) (filter (of_group group) links)
filter_sources renumber group [] = refl
filter_sources renumber group (link ∷ links) = elim (cases_Bool (of_group group link)) [
  | inl h ↦ rw h (ap (λ (rest : List Link). with_source renumber link ∷ rest) (filter_sources renumber group links))
  | inr h ↦ rw h (filter_sources renumber group links)
]

map_append : {A B : Type 0} (f : A → B) (xs ys : List A) → map f xs ++ map f ys ≡ map f (xs ++ ys)
map_append f [] ys = refl
map_append f (x ∷ xs) ys = ap (λ rest. f x ∷ rest) (map_append f xs ys)

grouped : (renumber : ℕ → ℕ) (node : Node) → in_groups node.links ≡ node.links → IsGrouped (with_sources renumber node)
grouped renumber node e =
    ap₂ (λ (xs ys : List Link). xs ++ ys) (filter_sources renumber Back node.links) (filter_sources renumber Side node.links)
    ∙ map_append (with_source renumber) (filter (of_group Back) node.links) (filter (of_group Side) node.links) ∙ ap (map (with_source renumber)) e

each_from : {A : Type 0} (P : A → Type 0) (xs : List A) → ((i : ℕ) (x : A) → slice_get xs i ≡ Some x → P x) → Each P xs
each_from P [] h = tt
each_from P (x ∷ xs) h = (h 0 x refl, each_from P xs (λ i y e. h (suc i) y e))

renumbered_below : (g : Nodes) (k : ℕ) → Lives g k → number_of g k < length (keys_of g)
renumbered_below g k live = by_entry (node_at g k) refl live
  where
    by_entry : (here : Option Node) → node_at g k ≡ here → IsSome here → number_of g k < length (keys_of g)
    by_entry None e some = absurd (false≢true some)
    by_entry (Some node) e some = let r = lives_at 0 0 k g node e in omega (arith, r.few, r.numbered)

nowhere_seen : (places : List Pos) → Each (λ p. nowhere p ≡ false) places
nowhere_seen [] = tt
nowhere_seen (p ∷ places) = (refl, nowhere_seen places)

parts_back : (nodes links : List Data) → length nodes < 4294967295 → length links < 4294967295 → parts_of (whole_data links nodes) ≡ Some (nodes, links)
parts_back nodes links a b =
    let few_nodes : is_few (list_of (items_of nodes)) ≡ true = rw (listed nodes) (lt-ltb (length nodes) 4294967295 a) in
    let few_links : is_few (list_of (items_of links)) ≡ true = rw (listed links) (lt-ltb (length links) 4294967295 b) in
    rw (few_nodes, few_links, listed nodes, listed links) refl

pub file_node_at : (g : Nodes) → Each IsFilePlace (all_places g) → (k : ℕ) (node : Node) → node_at g k ≡ Some node → IsFileNode node
file_node_at [] e k node h = absurd (cc)
file_node_at (None ∷ g) e zero node h = absurd (cc)
file_node_at (None ∷ g) e (suc k) node h = file_node_at g e k node h
file_node_at (Some first ∷ g) e zero node h =
    let same : first ≡ node = cc in
    subst IsFileNode same (each_of IsFilePlace (first.pos ∷ first.also) (all_places g) e).0
file_node_at (Some first ∷ g) e (suc k) node h = file_node_at g (each_of IsFilePlace (first.pos ∷ first.also) (all_places g) e).1 k node h

pub links_below : (g : Nodes) (count : ℕ) (node : Node) → length (keys_of g) ≤ count → IsSoundNode g node → Each (IsLinkOf count) (map (with_source (number_of g)) node.links)
links_below g count node few sound =
    each_map (IsLinkOf count) (with_source (number_of g)) node.links
    (each_from (λ (link : Link). IsLinkOf count (with_source (number_of g) link)) node.links
    (λ i link at. let h = sound.links i link at in let less = renumbered_below g link.from h.1 in (omega (arith, less, few), h.0)))

pub read_back : (g : Nodes) → FitsFile g → (cause_of (json (packed g)) ≡ None) × (graph_of (json (packed g)) ≡ packed g)
unfolding cause_of graph_of
read_back g fits = (no_cause, same)
  where
    ns : List Node
    ns = nodes_by (number_of g) g

    is_full : packed g ≡ full ns
    is_full = packed_full (number_of g) g

    places : Each IsFilePlace (all_places (full ns))
    places = subst (Each IsFilePlace) (sym (places_packed (number_of g) g)) fits.places

    inside : Each IsFileNode ns
    inside = file_nodes ns places

    groups : Each IsGrouped ns
    groups = each_node IsGrouped (number_of g) g (λ k node e. grouped (number_of g) node (fits.groups k node e))

    good : Each (λ (n : Node). is_node n ≡ true) ns
    good = each_node (λ (n : Node). is_node n ≡ true) (number_of g) g (λ k node e. node_fits g node (fits.sound.each k node e) (file_node_at g fits.places k node e))

    new : AreNew nowhere (all_places (full ns))
    new = (subst (EachBefore (λ a b. a ≢ b)) (sym (places_packed (number_of g) g)) fits.sound.apart, nowhere_seen (all_places (full ns)))

    nodes : List Data
    nodes = entries_data (full ns)

    links : List Data
    links = links_data 0 (full ns)

    few : length (keys_of g) ≤ length nodes
    few = omega (arith, length_entries ns, length_keys (number_of g) 0 g)

    linked_below : Each (λ (n : Node). Each (IsLinkOf (length nodes)) n.links) ns
    linked_below = each_node (λ (n : Node). Each (IsLinkOf (length nodes)) n.links) (number_of g) g (λ k node e. links_below g (length nodes) node few (fits.sound.each k node e))

    parts : parts_of (json (full ns)) ≡ Some (nodes, links)
    parts = parts_back nodes links (omega (arith, length_entries ns, length_nodes (number_of g) g, fits.few_nodes)) (omega (arith, length_links (number_of g) 0 g, fits.few_links))

    no_cause : cause_of (json (packed g)) ≡ None
    no_cause =
        ap (λ (p : Nodes). cause_of (json p)) is_full ∙ ap parts_cause parts
        ∙ ap (λ c. or_later c (links_cause 0 (length nodes) links)) (good_nodes 0 nowhere ns inside good new)
        ∙ good_links 0 (length nodes) links (good_data (length nodes) 0 ns (omega (arith, length_entries ns)) linked_below)

    same : graph_of (json (packed g)) ≡ packed g
    same =
        ap (λ (p : Nodes). graph_of (json p)) is_full ∙ ap graph_with parts
        ∙ ap₂ (λ (ls : List LinkEntry) (bare : Nodes). linked 0 ls bare) (links_back 0 ns) (nodes_back ns inside)
        ∙ linked_back 0 ns (entries 0 ns) (λ j n e. links_at_key 0 j ns n e) groups ∙ sym is_full
