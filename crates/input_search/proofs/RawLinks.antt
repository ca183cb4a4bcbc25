-- The raw graph from the nodes of a build and the links that were found.
use Rattle.std.proofs.Common.{◌≡◌, ℕ, zero, suc, ◌<◌, ◌≤◌, true, List, [], ◌∷◌, ◌++◌, Vec, Global, length, take, get_or, map, Option, Some, None, refl, sym, ◌∙◌, ap, subst, inl, inr, arith}
use Rattle.std.specs.Prelude.{option_map, is_some, filter, All, ◌||◌, ◌&&◌}
use Rattle.std.proofs.lemmas.Bool.{cases_lt}
use Rattle.std.proofs.lemmas.List.{ext_get_or, get_or-map, get_or_past, length-map}
use Rattle.std.proofs.lemmas.List.Elements.{All-nil, All-cons, All-append}
use Rattle.std.proofs.lemmas.List.Sums.{length-filter, count_by-le-length}
use Rattle.block_table.specs.declared.Block.TheVariants.{Air}
use Rattle.circuit.specs.declared.Pos.{Pos}
use Rattle.circuit.specs.Circuit.{EachBefore, Among}
use Rattle.build.specs.Plan.{Plan, volume, in_box, cell_of, places, block_at}
use Rattle.build.specs.Places.{length-places, in_box-not_outside}
use Rattle.build.specs.Marks.{is_marked}
use Rattle.build.specs.Outputs.{is_component}
use Rattle.graph.specs.declared.Group.{Group}
use Rattle.graph.specs.declared.Group.TheVariants.{Back, Side}
use Rattle.graph.specs.declared.Link.{Link}
use Rattle.graph.specs.Graph.{Node, Nodes, node_at, Lives, node_count}
use Rattle.graph.specs.GraphCircuit.{origin}
use Rattle.graph.specs.Links.{of_group, in_groups}
use Rattle.graph.specs.RawNodes.{is_wire_block, has_node, bare_node, bare_nodes, node_places}
use Rattle.input_search.specs.Added.{links_under, with_links, plain_lists, list_at, IsFitting, AreFilled}
use Rattle.input_search.specs.Links.{From, back_links_of, side_links_of}
use Rattle.input_search.specs.Numbers.{node_number, numbered, numbered_links, AreThere, node_place, IsSpread, AreRanks, AreLinks, AreLists}
use Rattle.input_search.specs.Raw.{number_in, link_of, links_of, linked_node, raw, IsBare}
use Rattle.input_search.proofs.AddSteps.{lives_below}
use Rattle.input_search.proofs.Order.{IsLower, before-filter, before-pairs, cells-rise}
use Rattle.input_search.proofs.RawLaws.{number-at, At_place, at_place, back-sources, side-sources, in-nodes}
use Rattle.input_search.proofs.RawWorld.{node_place-has}

-- ---- Back before Side

sides_grouped : (ps : List Pos) (ys : List From) (n : ℕ) → in_groups (take n (map (link_of ps Side) ys)) ≡ take n (map (link_of ps Side) ys)
sides_grouped ps ys zero = refl
sides_grouped ps [] (suc n) = refl
sides_grouped ps (y ∷ ys) (suc n) = no_back (take n (map (link_of ps Side) ys)) (link_of ps Side y) (none ys n) (sides_grouped ps ys n)
  where
    none : (ys : List From) (n : ℕ) → filter (of_group Back) (take n (map (link_of ps Side) ys)) ≡ []
    none ys zero = refl
    none [] (suc n) = refl
    none (y ∷ ys) (suc n) = none ys n

    no_back : (links : List Link) (link : Link) → filter (of_group Back) links ≡ [] → in_groups links ≡ links → filter (of_group Back) links ++ link ∷ filter (of_group Side) links ≡ link ∷ links
    no_back links link e f = ap (λ (front : List Link). front ++ link ∷ filter (of_group Side) links) e ∙ ap (λ (all : List Link). link ∷ all) (sym (ap (λ (front : List Link). front ++ filter (of_group Side) links) e) ∙ f)

grouped : (ps : List Pos) (xs ys : List From) (n : ℕ) → in_groups (take n (map (link_of ps Back) xs ++ map (link_of ps Side) ys)) ≡ take n (map (link_of ps Back) xs ++ map (link_of ps Side) ys)
grouped ps xs ys zero = refl
grouped ps [] ys (suc n) = sides_grouped ps ys (suc n)
grouped ps (x ∷ xs) ys (suc n) = ap (λ (links : List Link). link_of ps Back x ∷ links) (grouped ps xs ys n)

no_links_grouped : (n : ℕ) (links : List Link) → links ≡ [] → in_groups (take n links) ≡ take n links
no_links_grouped zero links e = refl
no_links_grouped (suc n) [] e = refl
no_links_grouped (suc n) (link ∷ links) e = absurd (cc)

-- ---- the nodes of a build

record Placed (entry : Option Node) (p : Pos) : Type 0 where
  node : Node
  there : entry ≡ Some node
  stands : node.pos ≡ p

placed : (entry : Option Node) (p : Pos) → node_place entry ≡ Some p → Placed entry p
placed None p e = absurd (cc)
placed (Some node) p e = record { node = node; there = refl; stands = cc }

all_there : (f : Pos → Node) (ps : List Pos) → filter is_some (map (λ p. Some (f p)) ps) ≡ map (λ p. Some (f p)) ps
all_there f [] = refl
all_there f (p ∷ ps) = ap (λ (entries : Nodes). Some (f p) ∷ entries) (all_there f ps)

module _ (b : Plan) (marks : List Pos) where
  abbrev ps : List Pos
  ps = node_places b marks

  bare-pos : (p : Pos) → (bare_node b marks p).pos ≡ p
  unfolding bare_node
  bare-pos p = refl

  bare-links : (p : Pos) → (bare_node b marks p).links ≡ []
  unfolding bare_node
  bare-links p = refl

  length-bare : length (bare_nodes b marks) ≡ length ps
  unfolding bare_nodes
  length-bare = length-map ps (λ p. Some (bare_node b marks p))

  bare-at : (key : ℕ) → key < length ps → node_at (bare_nodes b marks) key ≡ Some (bare_node b marks (get_or ps key origin))
  unfolding bare_nodes
  bare-at key h = get_or-map (λ p. Some (bare_node b marks p)) ps key origin None h

  bare-past : (key : ℕ) → length ps ≤ key → node_at (bare_nodes b marks) key ≡ None
  bare-past key h = get_or_past (bare_nodes b marks) key None (omega (arith, length-bare))

  bare-number : (p : Pos) → Among ps p → node_at (bare_nodes b marks) (number_in ps p) ≡ Some (bare_node b marks p)
  unfolding bare_nodes
  bare-number p h = number-at (λ q. Some (bare_node b marks q)) ps p None h

  place-at : (key : ℕ) → key < length ps → node_place (node_at (bare_nodes b marks) key) ≡ Some (get_or ps key origin)
  place-at key h = ap node_place (bare-at key h) ∙ ap (λ (p : Pos). Some p) (bare-pos (get_or ps key origin))

  bare-place : (key : ℕ) (p : Pos) → node_place (node_at (bare_nodes b marks) key) ≡ Some p → Among ps p
  unfolding bare_nodes
  bare-place key p e =
      let r : Placed (node_at (bare_nodes b marks) key) p = placed (node_at (bare_nodes b marks) key) p e in
      let s : At_place (bare_node b marks) ps key r.node = at_place (bare_node b marks) ps key r.node r.there in
      subst (Among ps) (sym (bare-pos s.place) ∙ sym (ap (λ (node : Node). node.pos) s.stands) ∙ r.stands) s.is_in

  bare-inside : (p : Pos) → Among ps p → in_box b p ≡ true
  unfolding has_node
  bare-inside p h = in_box-not_outside b b.blocks Air (λ k. is_component k || (is_wire_block k && is_marked marks p)) p refl (node_place-has b marks p h)

  places-rise : EachBefore (IsLower b) ps
  unfolding node_places
  places-rise = before-filter (IsLower b) (has_node b marks) (places b) (cells-rise b)

  bare-rise : (key other : ℕ) (p q : Pos) → key < other → node_place (node_at (bare_nodes b marks) key) ≡ Some p → node_place (node_at (bare_nodes b marks) other) ≡ Some q → cell_of b p < cell_of b q
  bare-rise key other p q h e f = elim (cases_lt other (length ps)) [
    | inr past ↦ absurd (let g : ◌≡◌ {A = Option Pos} None (Some q) = sym (ap node_place (bare-past other past)) ∙ f in cc)
    | inl less ↦
        let first : ◌≡◌ {A = Option Pos} (Some (get_or ps key origin)) (Some p) = sym (place-at key (omega arith)) ∙ e in
        let second : ◌≡◌ {A = Option Pos} (Some (get_or ps other origin)) (Some q) = sym (place-at other less) ∙ f in
        let is_p : get_or ps key origin ≡ p = cc in
        let is_q : get_or ps other origin ≡ q = cc in
        subst (λ (x : Pos). cell_of b x < cell_of b q) is_p (subst (λ (x : Pos). cell_of b (get_or ps key origin) < cell_of b x) is_q (before-pairs (IsLower b) ps places-rise key other origin h less))
  ]

  spread : IsSpread b (bare_nodes b marks)
  spread = record { inside = λ key p e. bare-inside p (bare-place key p e); rise = bare-rise }

  count : node_count (bare_nodes b marks) ≡ length (bare_nodes b marks)
  unfolding bare_nodes
  count = sym (length-filter is_some (bare_nodes b marks)) ∙ ap length (all_there (bare_node b marks) ps)

  few : length (bare_nodes b marks) ≤ volume b
  unfolding node_places
  few = omega (arith, length-bare, length-filter (has_node b marks) (places b), count_by-le-length (has_node b marks) (places b), length-places b)

  -- ---- the links that were found

  module _ (numbers : List ℕ) (lists : List (Vec Link Global)) (ranks : AreRanks b (bare_nodes b marks) (length (bare_nodes b marks)) numbers)
      (all : length lists ≡ length (bare_nodes b marks)) (found : AreLists b (bare_nodes b marks) numbers (length (bare_nodes b marks)) (plain_lists lists)) where
    lives : (p : Pos) → Among ps p → Lives (bare_nodes b marks) (number_in ps p)
    lives p h = ap is_some (bare-number p h)

    rank : (p : Pos) → Among ps p → node_number b numbers p ≡ number_in ps p
    rank p h = ranks (number_in ps p) p (lives_below (bare_nodes b marks) (number_in ps p) (lives p h)) (ap node_place (bare-number p h) ∙ ap (λ (q : Pos). Some q) (bare-pos p))

    numbered-links : (group : Group) (xs : List From) → ((l : From) → Among xs l → Among ps l.place) → map (numbered b numbers group) xs ≡ map (link_of ps group) xs
    numbered-links group [] h = refl
    numbered-links group (x ∷ xs) h =
        (λ j. record { from = rank x.place (h x (inl refl)) j; group = group; weight = x.weight } ∷ map (numbered b numbers group) xs)
        ∙ ap (λ (links : List Link). link_of ps group x ∷ links) (numbered-links group xs (λ l i. h l (inr i)))

    numbered-raw : (p : Pos) → numbered_links b numbers p ≡ links_of b ps p
    unfolding links_of
    numbered-raw p = λ j.
        numbered-links Back (back_links_of b p (block_at b p)) (λ l i. in-nodes b marks l.place (back-sources b p (block_at b p) refl l i)) j
        ++ numbered-links Side (side_links_of b p (block_at b p)) (λ l i. in-nodes b marks l.place (side-sources b p (block_at b p) l i)) j

    list-at : (key : ℕ) → key < length ps → list_at lists key ≡ links_of b ps (get_or ps key origin)
    list-at key h =
        let Fits : Option Pos → Type 0 = λ place. AreLinks b numbers place (list_at lists key) in
        let is : Fits (Some (get_or ps key origin)) = subst Fits (place-at key h) (found key (omega (arith, length-bare))) in
        is ∙ numbered-raw (get_or ps key origin)

    list-past : (key : ℕ) → length ps ≤ key → list_at lists key ≡ []
    list-past key h = get_or_past (plain_lists lists) key [] (omega (arith, length-map lists (λ (list : Vec Link Global). list.items), all, length-bare))

    from-nodes : (group : Group) (xs : List From) → ((l : From) → Among xs l → Among ps l.place) → All (λ link. Lives (bare_nodes b marks) link.from) (map (link_of ps group) xs)
    from-nodes group [] h = All-nil (λ link. Lives (bare_nodes b marks) link.from)
    from-nodes group (x ∷ xs) h =
        All-cons (λ link. Lives (bare_nodes b marks) link.from) (link_of ps group x) (map (link_of ps group) xs) (lives x.place (h x (inl refl))) (from-nodes group xs (λ l i. h l (inr i)))

    links-from : (p : Pos) → All (λ link. Lives (bare_nodes b marks) link.from) (links_of b ps p)
    unfolding links_of
    links-from p =
        All-append (λ link. Lives (bare_nodes b marks) link.from) (map (link_of ps Back) (back_links_of b p (block_at b p))) (map (link_of ps Side) (side_links_of b p (block_at b p)))
        (from-nodes Back (back_links_of b p (block_at b p)) (λ l i. in-nodes b marks l.place (back-sources b p (block_at b p) refl l i)))
        (from-nodes Side (side_links_of b p (block_at b p)) (λ l i. in-nodes b marks l.place (side-sources b p (block_at b p) l i)))

    links-grouped : (p : Pos) (n : ℕ) → in_groups (take n (links_of b ps p)) ≡ take n (links_of b ps p)
    unfolding links_of
    links-grouped p n = grouped ps (back_links_of b p (block_at b p)) (side_links_of b p (block_at b p)) n

    fitting : IsFitting (bare_nodes b marks) lists
    fitting = record {
      live = λ key h. ap is_some (bare-at key (omega (arith, all, length-bare)));
      fresh = λ key. elim (cases_lt key (length ps)) [
        | inl less ↦ ap links_under (bare-at key less) ∙ bare-links (get_or ps key origin)
        | inr past ↦ ap links_under (bare-past key past)
      ];
      from = λ key. elim (cases_lt key (length ps)) [
        | inl less ↦ subst (λ (links : List Link). All (λ link. Lives (bare_nodes b marks) link.from) links) (sym (list-at key less)) (links-from (get_or ps key origin))
        | inr past ↦ subst (λ (links : List Link). All (λ link. Lives (bare_nodes b marks) link.from) links) (sym (list-past key past)) (All-nil (λ link. Lives (bare_nodes b marks) link.from))
      ];
      groups = λ key n. elim (cases_lt key (length ps)) [
        | inl less ↦ subst (λ (links : List Link). in_groups (take n links) ≡ take n links) (sym (list-at key less)) (links-grouped (get_or ps key origin) n)
        | inr past ↦ no_links_grouped n (list_at lists key) (list-past key past)
      ];
    }

    module _ (new : Nodes) (filled : AreFilled (plain_lists lists) (bare_nodes b marks) new) where
      size : length new ≡ length (raw b marks)
      unfolding raw
      size = filled.size ∙ length-bare ∙ sym (length-map ps (λ p. Some (linked_node b marks ps p)))

      raw-at : (key : ℕ) → key < length ps → node_at (raw b marks) key ≡ Some (linked_node b marks ps (get_or ps key origin))
      unfolding raw
      raw-at key h = get_or-map (λ p. Some (linked_node b marks ps p)) ps key origin None h

      filled-at : (key : ℕ) → key < length ps → node_at new key ≡ node_at (raw b marks) key
      filled-at key h =
          filled.each key
          ∙ (λ j. option_map (with_links (list-at key h j)) (bare-at key h j))
          ∙ sym (raw-at key h)

      filled-raw : new ≡ raw b marks
      filled-raw = ext_get_or None new (raw b marks) size (λ key h. filled-at key (omega (arith, filled.size, length-bare)))

-- ---- the same of nodes that are those of a build

pub spread_bare : (b : Plan) (g : Nodes) → IsBare b g → IsSpread b g
spread_bare b g bare = subst (IsSpread b) (sym bare.nodes) (spread b bare.marks)

pub there_bare : (b : Plan) (g : Nodes) → IsBare b g → AreThere g (length g)
there_bare b g bare = subst (λ (g : Nodes). AreThere g (length g)) (sym bare.nodes) (λ key h. ap is_some (place-at b bare.marks key (omega (arith, length-bare b bare.marks))))

pub count_bare : (b : Plan) (g : Nodes) → IsBare b g → node_count g ≡ length g
count_bare b g bare = subst (λ (g : Nodes). node_count g ≡ length g) (sym bare.nodes) (count b bare.marks)

pub few_bare : (b : Plan) (g : Nodes) → IsBare b g → length g ≤ volume b
few_bare b g bare = subst (λ (g : Nodes). length g ≤ volume b) (sym bare.nodes) (few b bare.marks)

pub fitting_bare : (b : Plan) (g : Nodes) (numbers : List ℕ) (lists : List (Vec Link Global)) (n : ℕ) → IsBare b g → n ≡ length g → AreRanks b g n numbers → length lists ≡ n → AreLists b g numbers n (plain_lists lists) → IsFitting g lists
fitting_bare b g numbers lists n bare size =
    subst (λ (k : ℕ). AreRanks b g k numbers → length lists ≡ k → AreLists b g numbers k (plain_lists lists) → IsFitting g lists) (sym size)
    (subst (λ (g : Nodes). AreRanks b g (length g) numbers → length lists ≡ length g → AreLists b g numbers (length g) (plain_lists lists) → IsFitting g lists) (sym bare.nodes)
    (λ ranks all found. fitting b bare.marks numbers lists ranks all found))

pub raw_bare : (b : Plan) (marks : List Pos) (g new : Nodes) (numbers : List ℕ) (lists : List (Vec Link Global)) (n : ℕ) → g ≡ bare_nodes b marks → n ≡ length g → AreRanks b g n numbers → length lists ≡ n
    → AreLists b g numbers n (plain_lists lists) → AreFilled (plain_lists lists) g new → new ≡ raw b marks
raw_bare b marks g new numbers lists n is size =
    subst (λ (k : ℕ). AreRanks b g k numbers → length lists ≡ k → AreLists b g numbers k (plain_lists lists) → AreFilled (plain_lists lists) g new → new ≡ raw b marks) (sym size)
    (subst (λ (g : Nodes). AreRanks b g (length g) numbers → length lists ≡ length g → AreLists b g numbers (length g) (plain_lists lists) → AreFilled (plain_lists lists) g new → new ≡ raw b marks) (sym is)
    (λ ranks all found filled. filled-raw b marks numbers lists ranks all found new filled))
