-- Links by their indices, before and after one was dropped.
use Rattle.std.proofs.Common.{◌≡◌, ℕ, zero, suc, ◌+◌, ◌<◌, ◌≤◌, List, [], ◌∷◌, Option, Some, None, refl, sym, ap, ◌∙◌, subst, arith, length, inl, inr}
use Rattle.std.proofs.lemmas.Bool.{cases_eq}
use Rattle.std.specs.Prelude.{remove, slice_get}
use Rattle.graph.specs.declared.Link.{Link}
use Rattle.graph.specs.Graph.{Node, Nodes, node_at, HasLink}
use Rattle.graph.specs.LinkAt.{links_of, link_at}

pub has_link : (g : Nodes) (key index : ℕ) (link : Link) → link_at g key index ≡ Some link → HasLink g key index link
has_link g key index link e = by_entry (node_at g key) refl e
  where
    by_entry : (entry : Option Node) → node_at g key ≡ entry → slice_get (links_of entry) index ≡ Some link → HasLink g key index link
    by_entry None there e = absurd (cc)
    by_entry (Some node) there e = record { node = node; there = there; at_index = e }

pub link_is : (g : Nodes) (key index : ℕ) (link : Link) → HasLink g key index link → link_at g key index ≡ Some link
link_is g key index link h = ap (λ (entry : Option Node). slice_get (links_of entry) index) h.there ∙ h.at_index

pub within_links : (links : List Link) (index : ℕ) (link : Link) → slice_get links index ≡ Some link → index < length links
within_links [] index link e = absurd (cc)
within_links (l ∷ links) zero link e = omega arith
within_links (l ∷ links) (suc index) link e = omega (arith, within_links links index link e)

pub beyond_links : (links : List Link) (index : ℕ) → slice_get links index ≡ None → length links ≤ index
beyond_links [] index e = omega arith
beyond_links (l ∷ links) zero e = absurd (cc)
beyond_links (l ∷ links) (suc index) e = omega (arith, beyond_links links index e)

-- what stands before and behind the dropped one
pub slice_get-before : (links : List Link) (index i : ℕ) → i < index → slice_get (remove links index) i ≡ slice_get links i
slice_get-before [] (suc index) i h = refl
slice_get-before [] zero i h = absurd (omega arith)
slice_get-before (l ∷ links) zero i h = absurd (omega arith)
slice_get-before (l ∷ links) (suc index) zero h = refl
slice_get-before (l ∷ links) (suc index) (suc i) h = slice_get-before links index i (omega arith)

pub slice_get-behind : (links : List Link) (index i : ℕ) → index ≤ i → slice_get (remove links index) i ≡ slice_get links (suc i)
slice_get-behind [] (suc index) i h = refl
slice_get-behind [] zero i h = refl
slice_get-behind (l ∷ links) zero i h = refl
slice_get-behind (l ∷ links) (suc index) zero h = absurd (omega arith)
slice_get-behind (l ∷ links) (suc index) (suc i) h = slice_get-behind links index i (omega arith)

-- each link before this index is so
abbrev pub LinksBelow : (Link → Type 0) → List Link → ℕ → Type 0
LinksBelow P links index = (i : ℕ) (link : Link) → i < index → slice_get links i ≡ Some link → P link

pub below_none : (P : Link → Type 0) (links : List Link) → LinksBelow P links 0
below_none P links i link h e = absurd (omega arith)

pub below_next : (P : Link → Type 0) (links : List Link) (index : ℕ) (link : Link) → LinksBelow P links index → slice_get links index ≡ Some link → P link → LinksBelow P links (index + 1)
below_next P links index link before here p i other h e = elim (cases_eq i index) [
  | inr n ↦ before i other (omega arith) e
  | inl a ↦ (let same : Some link ≡ Some other = sym here ∙ ap (slice_get links) (sym a) ∙ e in let is : link ≡ other = cc in subst P is p)
]

pub below_dropped : (P : Link → Type 0) (links : List Link) (index : ℕ) → LinksBelow P links index → LinksBelow P (remove links index) index
below_dropped P links index before i link h e = before i link h (sym (slice_get-before links index i h) ∙ e)

pub below_all : (P : Link → Type 0) (links : List Link) (index : ℕ) → LinksBelow P links index → slice_get links index ≡ None → (i : ℕ) (link : Link) → slice_get links i ≡ Some link → P link
below_all P links index before none i link e =
    before i link (let a = within_links links i link e in let b = beyond_links links index none in omega arith) e
