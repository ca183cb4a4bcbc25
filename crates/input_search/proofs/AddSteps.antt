-- Links that go into one node, one by one.
use Rattle.std.proofs.Common.{◌≡◌, ℕ, zero, suc, ◌+◌, ◌<◌, List, [], ◌∷◌, ◌++◌, length, take, get_or, set, Option, Some, None, refl, sym, ◌∙◌, ap, inl, inr}
use Rattle.std.specs.Prelude.{option_map, is_some}
use Rattle.std.proofs.lemmas.Bool.{cases_lt, false≢true}
use Rattle.std.proofs.lemmas.List.{get_or-set_same, set-get_or, get_or_past, take_more}
use Rattle.graph.specs.declared.Link.{Link}
use Rattle.graph.specs.Graph.{Node, Nodes, node_at, Lives}
use Rattle.graph.specs.Links.{in_groups}
use Rattle.graph.specs.Edits.{change, with_link, add_link}
use Rattle.input_search.specs.Added.{links_under, with_links}

pub lives_below : (g : Nodes) (key : ℕ) → Lives g key → key < length g
lives_below g key h = elim (cases_lt key (length g)) [
  | inl below ↦ below
  | inr past ↦ absurd (false≢true (sym (ap is_some (get_or_past g key None past)) ∙ h))
]

set_twice : {X : Type 0} (xs : List X) (i : ℕ) (x y : X) → set (set xs i x) i y ≡ set xs i y
set_twice [] i x y = refl
set_twice (z ∷ xs) zero x y = refl
set_twice {X} (z ∷ xs) (suc i) x y = ap (λ (ys : List X). z ∷ ys) (set_twice xs i x y)

one_link : (link : Link) (xs ys : List Link) (o : Option Node) → in_groups (xs ++ link ∷ []) ≡ ys → option_map (with_link link) (option_map (with_links xs) o) ≡ option_map (with_links ys) o
one_link link xs ys None e = refl
one_link link xs ys (Some n) e = ap (λ (links : List Link). Some (with_links links n)) e

pub add_next : (g : Nodes) (to : ℕ) (link : Link) (xs ys : List Link) → Lives g to → in_groups (xs ++ link ∷ []) ≡ ys → add_link (change (with_links xs) g to) to link ≡ change (with_links ys) g to
add_next g to link xs ys here e =
    set_twice g to (option_map (with_links xs) (node_at g to)) (option_map (with_link link) (get_or (set g to (option_map (with_links xs) (node_at g to))) to None))
    ∙ ap (λ (o : Option Node). set g to (option_map (with_link link) o)) (get_or-set_same g to (option_map (with_links xs) (node_at g to)) None (lives_below g to here))
    ∙ ap (set g to) (one_link link xs ys (node_at g to) e)

pub no_change : (o : Option Node) → links_under o ≡ [] → o ≡ option_map (with_links []) o
no_change None e = refl
no_change (Some n) e = ap (λ (links : List Link). Some (with_links links n)) e

pub add_start : (g : Nodes) (to : ℕ) → links_under (node_at g to) ≡ [] → g ≡ change (with_links []) g to
add_start g to e = sym (set-get_or g to None) ∙ ap (set g to) (no_change (node_at g to) e)

-- what was added, and one link more
pub add_more : (g now next : Nodes) (to : ℕ) (links : List Link) (i : ℕ) (d : Link) → i < length links → Lives g to → ((n : ℕ) → in_groups (take n links) ≡ take n links)
    → now ≡ change (with_links (take i links)) g to → next ≡ add_link now to (get_or links i d) → next ≡ change (with_links (take (i + 1) links)) g to
add_more g now next to links i d h here groups is added =
    added ∙ ap (λ (n : Nodes). add_link n to (get_or links i d)) is
    ∙ add_next g to (get_or links i d) (take i links) (take (i + 1) links) here (ap in_groups (sym (take_more links i d h)) ∙ groups (i + 1))
