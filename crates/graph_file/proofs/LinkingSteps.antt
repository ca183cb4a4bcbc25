-- Links that go into their nodes one after another.
use Rattle.std.proofs.Common.{◌≡◌, ◌≢◌, ℕ, zero, suc, ◌+◌, ◌<◌, Bool, true, false, List, [], ◌∷◌, ◌++◌, Option, Some, None, refl, sym, ap, ap₂, ◌∙◌, arith, inl, inr}
use Rattle.std.specs.Prelude.{◌==◌, option_map, filter}
use Rattle.std.specs.List.{filter_map}
use Rattle.std.proofs.lemmas.Bool.{cases_Bool, eqb-true, eq-eqb}
use Rattle.std.proofs.lemmas.List.{append-nil}
use Rattle.std.proofs.lemmas.List.Elements.{filter-append}
use Rattle.graph.specs.declared.Link.{Link}
use Rattle.graph.specs.Graph.{Node, Nodes, node_at}
use Rattle.graph.specs.declared.Group.{Group}
use Rattle.graph.specs.declared.Group.TheVariants.{Back, Side}
use Rattle.graph.specs.Links.{is_group, of_group, in_groups}
use Rattle.graph.specs.Edits.{change, with_link}
use Rattle.graph_file.specs.declared.entries.LinkEntry.{LinkEntry}
use Rattle.graph_file.specs.GraphFile.{plain_link, links_to, with_links, linked}
use Rattle.graph_file.specs.Steps.{with_one}

-- ---- groups

filter_again : (p : Link → Bool) (links : List Link) → filter p (filter p links) ≡ filter p links
filter_again p [] = refl
filter_again p (link ∷ links) = elim (cases_Bool (p link)) [
  | inl h ↦ rw (h, h) (ap (λ rest. link ∷ rest) (filter_again p links))
  | inr h ↦ rw h (filter_again p links)
]

filter_apart : (p q : Link → Bool) → ((link : Link) → p link ≡ true → q link ≡ false) → (links : List Link) → filter q (filter p links) ≡ []
filter_apart p q apart [] = refl
filter_apart p q apart (link ∷ links) = elim (cases_Bool (p link)) [
  | inl h ↦ rw (h, apart link h) (filter_apart p q apart links)
  | inr h ↦ rw h (filter_apart p q apart links)
]

back_is_not_side : (group : Group) → is_group Back group ≡ true → is_group Side group ≡ false
back_is_not_side Back h = refl
back_is_not_side Side h = absurd (cc)

side_is_not_back : (group : Group) → is_group Side group ≡ true → is_group Back group ≡ false
side_is_not_back Side h = refl
side_is_not_back Back h = absurd (cc)

back_of_groups : (links : List Link) → filter (of_group Back) (in_groups links) ≡ filter (of_group Back) links
back_of_groups links = filter-append (of_group Back) (filter (of_group Back) links) (filter (of_group Side) links)
    ∙ ap₂ (λ xs ys. xs ++ ys) (filter_again (of_group Back) links) (filter_apart (of_group Side) (of_group Back) (λ link. side_is_not_back link.group) links) ∙ append-nil (filter (of_group Back) links)

side_of_groups : (links : List Link) → filter (of_group Side) (in_groups links) ≡ filter (of_group Side) links
side_of_groups links = filter-append (of_group Side) (filter (of_group Back) links) (filter (of_group Side) links)
    ∙ ap₂ (λ xs ys. xs ++ ys) (filter_apart (of_group Back) (of_group Side) (λ link. back_is_not_side link.group) links) (filter_again (of_group Side) links)

more_of : (p : Link → Bool) (links : List Link) (link : Link) → filter p (in_groups links) ≡ filter p links → filter p (in_groups links ++ link ∷ []) ≡ filter p (links ++ link ∷ [])
more_of p links link e = filter-append p (in_groups links) (link ∷ []) ∙ ap (λ xs. xs ++ filter p (link ∷ [])) e ∙ sym (filter-append p links (link ∷ []))

-- it doesn't matter whether the links before are in their groups
in_groups-more : (links : List Link) (link : Link) → in_groups (in_groups links ++ link ∷ []) ≡ in_groups (links ++ link ∷ [])
in_groups-more links link = ap₂ (λ xs ys. xs ++ ys) (more_of (of_group Back) links link (back_of_groups links)) (more_of (of_group Side) links link (side_of_groups links))

-- ---- nodes

links_here : (key : ℕ) (ls : List LinkEntry) (l : LinkEntry) → l.to ≡ key → links_to key (ls ++ l ∷ []) ≡ links_to key ls ++ plain_link l ∷ []
links_here key [] l e = rw (eq-eqb l.to key e) refl
links_here key (first ∷ ls) l e = elim (cases_Bool (first.to == key)) [
  | inl h ↦ rw h (ap (λ r. plain_link first ∷ r) (links_here key ls l e))
  | inr h ↦ rw h (links_here key ls l e)
]

links_elsewhere : (key : ℕ) (ls : List LinkEntry) (l : LinkEntry) → (l.to == key) ≡ false → links_to key (ls ++ l ∷ []) ≡ links_to key ls
links_elsewhere key [] l e = rw e refl
links_elsewhere key (first ∷ ls) l e = elim (cases_Bool (first.to == key)) [
  | inl h ↦ rw h (ap (λ r. plain_link first ∷ r) (links_elsewhere key ls l e))
  | inr h ↦ rw h (links_elsewhere key ls l e)
]

differs : (a b : ℕ) → a ≢ b → (a == b) ≡ false
differs a b n = elim (cases_Bool (a == b)) [ inl h ↦ absurd (n (eqb-true a b h)) | inr h ↦ h ]

entry_here : (key : ℕ) (ls : List LinkEntry) (l : LinkEntry) (entry : Option Node) → l.to ≡ key →
    option_map (with_links (links_to key (ls ++ l ∷ []))) entry ≡ option_map (with_link (plain_link l)) (option_map (with_links (links_to key ls)) entry)
entry_here key ls l None e = refl
entry_here key ls l (Some node) e = ap (λ (r : List Link). Some (record node { links = r })) (ap in_groups (links_here key ls l e) ∙ sym (in_groups-more (links_to key ls) (plain_link l)))

entries_past : (key : ℕ) (ls : List LinkEntry) (l : LinkEntry) (g : Nodes) → l.to < key → linked key (ls ++ l ∷ []) g ≡ linked key ls g
entries_past key ls l [] h = refl
entries_past key ls l (entry ∷ g) h =
    ap₂ (λ (r : List Link) rest. option_map (with_links r) entry ∷ rest) (links_elsewhere key ls l (differs l.to key (λ e. omega arith))) (entries_past (suc key) ls l g (omega arith))

-- one link more
linked_more : (key k : ℕ) (ls : List LinkEntry) (l : LinkEntry) (g : Nodes) → l.to ≡ key + k → linked key (ls ++ l ∷ []) g ≡ change (with_link (plain_link l)) (linked key ls g) k
linked_more key k ls l [] e = refl
linked_more key zero ls l (entry ∷ g) e = ap₂ (λ (x : Option Node) rest. x ∷ rest) (entry_here key ls l entry (omega arith)) (entries_past (suc key) ls l g (omega arith))
linked_more key (suc k) ls l (entry ∷ g) e =
    ap₂ (λ (r : List Link) rest. option_map (with_links r) entry ∷ rest) (links_elsewhere key ls l (differs l.to key (λ h. omega arith))) (linked_more (suc key) k ls l g (omega arith))

pub one_more : (found : Option LinkEntry) (ls : List LinkEntry) (g : Nodes) (more : List LinkEntry) → more ≡ ls ++ filter_map (λ (o : Option LinkEntry). o) (found ∷ []) → with_one found (linked 0 ls g) ≡ linked 0 more g
one_more None ls g more e = ap (λ r. linked 0 r g) (sym (e ∙ append-nil ls))
one_more (Some l) ls g more e = sym (ap (λ r. linked 0 r g) e ∙ linked_more 0 l.to ls l g (omega arith))

pub entry_linked : (key : ℕ) (ls : List LinkEntry) (g : Nodes) (k : ℕ) → node_at (linked key ls g) k ≡ option_map (with_links (links_to (key + k) ls)) (node_at g k)
entry_linked key ls [] k = refl
entry_linked key ls (entry ∷ g) zero = let e : key ≡ key + 0 = omega arith in ap (λ n. option_map (with_links (links_to n ls)) entry) e
entry_linked key ls (entry ∷ g) (suc k) = let e : suc key + k ≡ key + suc k = omega arith in entry_linked (suc key) ls g k ∙ ap (λ n. option_map (with_links (links_to n ls)) (node_at g k)) e
