-- A graph into one of whose nodes other links go.
use Rattle.std.proofs.Common.{◌≡◌, ℕ, zero, suc, ◌+◌, ◌-◌, ◌<◌, List, [], ◌∷◌, Option, Some, None, refl, sym, ap, ◌∙◌, arith, length}
use Rattle.std.specs.Prelude.{remove, slice_get, option_map, IsSome}
use Rattle.graph.specs.declared.Link.{Link}
use Rattle.graph.specs.Graph.{Node, Nodes, node_at, Lives, HasLink}
use Rattle.graph.specs.LinkAt.{links_of, EachLink}
use Rattle.graph.specs.Edits.{change, relinked, without_link, set_links, drop_link}
use Rattle.graph.specs.Sieving.{Sieve, begun}
use Rattle.graph.proofs.LinkSteps.{has_link, within_links}
use Rattle.graph.proofs.LinkDrops.{length-without}

-- one change of a node after another
change_twice : (f h both : Node → Node) → ((node : Node) → f (h node) ≡ both node) → (g : Nodes) (key : ℕ) → change f (change h g key) key ≡ change both g key
change_twice f h both e [] key = refl
change_twice f h both e (None ∷ g) zero = refl
change_twice f h both e (Some node ∷ g) zero = ap (λ (new : Node). Some new ∷ g) (e node)
change_twice f h both e (n ∷ g) (suc key) = ap (λ (rest : Nodes). n ∷ rest) (change_twice f h both e g key)

-- a link is dropped
sieved_drop : (g : Nodes) (key : ℕ) (links : List Link) (index : ℕ) → set_links g key (remove links index) ≡ drop_link (set_links g key links) key index
sieved_drop g key links index = sym (change_twice (without_link index) (relinked links) (relinked (remove links index)) (λ node. refl) g key)

-- the links are put back
sieved_back : (g : Nodes) (key : ℕ) (links : List Link) → set_links (set_links g key []) key links ≡ set_links g key links
sieved_back g key links = change_twice (relinked links) (relinked []) (relinked links) (λ node. refl) g key

-- its own links change nothing
pub sieved_same : (g : Nodes) (key : ℕ) → set_links g key (links_of (node_at g key)) ≡ g
sieved_same [] key = refl
sieved_same (None ∷ g) zero = refl
sieved_same (Some node ∷ g) zero = refl
sieved_same (n ∷ g) (suc key) = ap (λ (rest : Nodes). n ∷ rest) (sieved_same g key)

pub sieved_links : (g : Nodes) (key : ℕ) (links : List Link) → Lives g key → links_of (node_at (set_links g key links) key) ≡ links
sieved_links [] key links lives = absurd (cc)
sieved_links (None ∷ g) zero links lives = absurd (cc)
sieved_links (Some node ∷ g) zero links lives = refl
sieved_links (n ∷ g) (suc key) links lives = sieved_links g key links lives

-- what was taken out of a node
pub taken_of : (g : Nodes) (key : ℕ) (links : Sieve) → Some links ≡ option_map begun (node_at g key) → Lives g key × (links.items ≡ links_of (node_at g key)) × (links.index ≡ 0)
taken_of g key links e = by_entry (node_at g key) e
  where
    by_entry : (entry : Option Node) → Some links ≡ option_map begun entry → IsSome entry × (links.items ≡ links_of entry) × (links.index ≡ 0)
    by_entry None e = absurd (cc)
    by_entry (Some node) e = let same : links ≡ begun node = cc in (refl, ap (λ (one : Sieve). one.items) same, ap (λ (one : Sieve). one.index) same)

-- a link that is to be judged goes into the node
pub sieved_link : (g : Nodes) (key : ℕ) (links : List Link) (index : ℕ) (link : Link) → Lives g key → slice_get links index ≡ Some link → HasLink (set_links g key links) key index link
sieved_link g key links index link lives e = has_link (set_links g key links) key index link (ap (λ (ls : List Link). slice_get ls index) (sieved_links g key links lives) ∙ e)

-- what holds of each link that is left holds of each link into the node
pub sieved_each : (P : Link → Type 0) (g : Nodes) (key : ℕ) (links : List Link) → Lives g key → ((i : ℕ) (link : Link) → slice_get links i ≡ Some link → P link) → EachLink P (node_at (set_links g key links) key)
sieved_each P g key links lives each i link e = each i link (ap (λ (ls : List Link). slice_get ls i) (sym (sieved_links g key links lives)) ∙ e)

-- each link that is judged leaves fewer to be judged
pub fewer_kept : (before after : Sieve) (link : Link) → slice_get before.items before.index ≡ Some link → after ≡ record { items = before.items; index = before.index + 1 } →
    length after.items - after.index < length before.items - before.index
fewer_kept before after link here e =
    let items : length after.items ≡ length before.items = ap (λ (one : Sieve). length one.items) e in
    let index : after.index ≡ before.index + 1 = ap (λ (one : Sieve). one.index) e in
    omega (arith, items, index, within_links before.items before.index link here)

pub fewer_dropped : (before after : Sieve) (link : Link) → slice_get before.items before.index ≡ Some link → after ≡ record { items = remove before.items before.index; index = before.index } →
    length after.items - after.index < length before.items - before.index
fewer_dropped before after link here e =
    let items : length after.items ≡ length (remove before.items before.index) = ap (λ (one : Sieve). length one.items) e in
    let index : after.index ≡ before.index = ap (λ (one : Sieve). one.index) e in
    omega (arith, items, index, within_links before.items before.index link here, length-without before.items before.index link here)

-- the graph after a drop in the walk
pub sieved_discard : (g : Nodes) (key : ℕ) (before after : Sieve) → after ≡ record { items = remove before.items before.index; index = before.index } →
    set_links g key after.items ≡ drop_link (set_links g key before.items) key before.index
sieved_discard g key before after e = ap (λ (one : Sieve). set_links g key one.items) e ∙ sieved_drop g key before.items before.index

-- the graph after the walk
pub sieved_end : (g mid new : Nodes) (key : ℕ) (links : List Link) → mid ≡ set_links g key [] → new ≡ set_links mid key links → new ≡ set_links g key links
sieved_end g mid new key links m e = e ∙ ap (λ (one : Nodes). set_links one key links) m ∙ sieved_back g key links
