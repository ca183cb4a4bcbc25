-- Where just the links that fail a test are dropped, those that pass are left, whichever goes first.
use Rattle.std.proofs.Common.{◌≡◌, ℕ, zero, suc, Bool, true, false, List, [], ◌∷◌, Option, Some, None, refl, sym, ap, ◌∙◌, map, set, length, inl, inr}
use Rattle.std.specs.Prelude.{filter, remove, slice_get, option_map}
use Rattle.std.proofs.lemmas.Bool.{cases_Bool}
use Rattle.std.proofs.lemmas.List.{length-map}
use Rattle.graph.specs.declared.Link.{Link}
use Rattle.graph.specs.AtKeys.{at_mapped}
use Rattle.graph.specs.Edits.{relinked, without_link, drop_link}
use Rattle.graph.specs.Graph.{Node, Nodes, node_at, HasLink}
use Rattle.pass_frame.proofs.SameNodes.{nodes_same}

pub filter_removed : {X : Type 0} (keep : X → Bool) (xs : List X) (index : ℕ) (x : X) → slice_get xs index ≡ Some x → keep x ≡ false → filter keep (remove xs index) ≡ filter keep xs
filter_removed keep [] index x at fails = absurd (cc)
filter_removed keep (y ∷ xs) zero x at fails = let same : y ≡ x = cc in rw (ap keep same ∙ fails) refl
filter_removed keep (y ∷ xs) (suc index) x at fails = elim (cases_Bool (keep y)) [
  | inl h ↦ rw h (ap (λ ys. y ∷ ys) (filter_removed keep xs index x at fails))
  | inr h ↦ rw h (filter_removed keep xs index x at fails)
]

pub filter_all : {X : Type 0} (keep : X → Bool) (xs : List X) → ((index : ℕ) (x : X) → slice_get xs index ≡ Some x → keep x ≡ true) → filter keep xs ≡ xs
filter_all keep [] all = refl
filter_all keep (x ∷ xs) all = rw (all 0 x refl) (ap (λ ys. x ∷ ys) (filter_all keep xs (λ index. all (suc index))))

abbrev passing : (Link → Bool) → Option Node → Option Node
passing keep entry = option_map (λ (node : Node). relinked (filter keep node.links) node) entry

-- the nodes with those of their links that pass
abbrev pub with_passing : (Link → Bool) → Nodes → Nodes
with_passing keep g = map (passing keep) g

mapped_set : (f : Option Node → Option Node) (g : Nodes) (key : ℕ) (entry : Option Node) → f entry ≡ f (node_at g key) → map f (set g key entry) ≡ map f g
mapped_set f [] key entry e = refl
mapped_set f (n ∷ g) zero entry e = ap (λ x. x ∷ map f g) e
mapped_set f (n ∷ g) (suc key) entry e = ap (λ rest. f n ∷ rest) (mapped_set f g key entry e)

passing_without : (keep : Link → Bool) (index : ℕ) (link : Link) (entry : Option Node) (node : Node) → entry ≡ Some node → slice_get node.links index ≡ Some link → keep link ≡ false →
    passing keep (option_map (without_link index) entry) ≡ passing keep entry
passing_without keep index link None node there at fails = absurd (cc)
passing_without keep index link (Some n) node there at fails =
    let same : n ≡ node = cc in
    let here : slice_get n.links index ≡ Some link = ap (λ (m : Node). slice_get m.links index) same ∙ at in
    ap (λ links. Some (relinked links n)) (filter_removed keep n.links index link here fails)

-- a link that fails is dropped
pub passing_dropped : (keep : Link → Bool) (g : Nodes) (key index : ℕ) (link : Link) → HasLink g key index link → keep link ≡ false → with_passing keep (drop_link g key index) ≡ with_passing keep g
passing_dropped keep g key index link has fails = mapped_set (passing keep) g key (option_map (without_link index) (node_at g key)) (passing_without keep index link (node_at g key) has.node has.there has.at_index fails)

-- none that fails is left
pub passing_all : (keep : Link → Bool) (g : Nodes) → ((key index : ℕ) (link : Link) → HasLink g key index link → keep link ≡ true) → with_passing keep g ≡ g
passing_all keep g all = nodes_same (with_passing keep g) g (length-map g (passing keep)) (λ key. at_mapped (passing keep) refl g key ∙ by_entry key (node_at g key) refl)
  where
    by_entry : (key : ℕ) (entry : Option Node) → node_at g key ≡ entry → passing keep entry ≡ entry
    by_entry key None e = refl
    by_entry key (Some node) e = ap (λ links. Some (relinked links node)) (filter_all keep node.links (λ index link at. all key index link (record { node = node; there = e; at_index = at })))
