-- Where all links from a node go into some nodes, renaming in these is renaming in all.
use Rattle.std.proofs.Common.{◌≡◌, ◌≢◌, ◌≤◌, ◌^◌, ℕ, zero, suc, List, [], ◌∷◌, Option, Some, None, refl, sym, ap, ap₂, ◌∙◌, subst, map, length, ◌⊎◌, inl, inr}
use Rattle.std.specs.Prelude.{option_map, slice_get, ◌==◌}
use Rattle.std.proofs.lemmas.List.{length-map, length-set}
use Rattle.std.proofs.lemmas.Bool.{cases_eq, cases_Bool, ne_eqb}
use Rattle.circuit.specs.Circuit.{Among}
use Rattle.graph.specs.declared.Link.{Link}
use Rattle.graph.specs.Graph.{Node, Nodes, node_at, HasLink}
use Rattle.graph.specs.Edits.{change, renamed, renamed_link, standing_for}
use Rattle.graph.specs.Links.{in_groups}
use Rattle.graph.specs.AtKeys.{at_other, at_dropped, at_changed, at_mapped}
use Rattle.graph.specs.Merging.{taken_over, IsFanOut}
use Rattle.graph.specs.Stored.{IsStored}
use Rattle.graph.proofs.EditSteps.{stored_after_set, stored_after_change}

-- the links from `gone` into these nodes come from `keep`, one node after another
abbrev pub renamed_in : ℕ → ℕ → Nodes → List ℕ → Nodes
renamed_in keep gone g [] = g
renamed_in keep gone g (key ∷ keys) = renamed_in keep gone (change (renamed keep gone) g key) keys

-- two lists of one length are one where each entry is
same_entries : (g h : Nodes) → length g ≡ length h → ((key : ℕ) → node_at g key ≡ node_at h key) → g ≡ h
same_entries [] [] l e = refl
same_entries [] (y ∷ h) l e = absurd (let no : 0 ≡ suc (length h) = l in cc)
same_entries (x ∷ g) [] l e = absurd (let no : suc (length g) ≡ 0 = l in cc)
same_entries (x ∷ g) (y ∷ h) l e = ap₂ (λ z zs. z ∷ zs) (e 0) (same_entries g h (let s : suc (length g) ≡ suc (length h) = l in cc) (λ key. e (suc key)))

-- renaming twice is renaming once
renamed_link-twice : (keep gone : ℕ) → keep ≢ gone → (link : Link) → renamed_link keep gone (renamed_link keep gone link) ≡ renamed_link keep gone link
renamed_link-twice keep gone n link = elim (cases_Bool (link.from == gone)) [
  | inl e ↦ rw (e, ne_eqb keep gone n) refl
  | inr e ↦ rw (e, e) refl
]

renamed_links-twice : (keep gone : ℕ) → keep ≢ gone → (links : List Link) → map (renamed_link keep gone) (map (renamed_link keep gone) links) ≡ map (renamed_link keep gone) links
renamed_links-twice keep gone n [] = refl
renamed_links-twice keep gone n (link ∷ links) = ap₂ (λ x xs. x ∷ xs) (renamed_link-twice keep gone n link) (renamed_links-twice keep gone n links)

renamed-twice : (keep gone : ℕ) → keep ≢ gone → (entry : Option Node) → option_map (renamed keep gone) (option_map (renamed keep gone) entry) ≡ option_map (renamed keep gone) entry
renamed-twice keep gone n None = refl
renamed-twice keep gone n (Some node) = ap (λ (links : List Link). Some (record node { links = links })) (renamed_links-twice keep gone n node.links)

-- In the end each node is renamed, where it was so before or its key is one of these.
renamed_at : (keep gone : ℕ) → keep ≢ gone → (keys : List ℕ) (g : Nodes) (h : ℕ → Option Node) → ((k : ℕ) → option_map (renamed keep gone) (node_at g k) ≡ h k) →
    ((k : ℕ) → (node_at g k ≡ h k) ⊎ Among keys k) → (k : ℕ) → node_at (renamed_in keep gone g keys) k ≡ h k
renamed_at keep gone n [] g h all some = λ k. elim (some k) [ inl e ↦ e | inr a ↦ absurd a ]
renamed_at keep gone n (key ∷ keys) g h all some = renamed_at keep gone n keys (change (renamed keep gone) g key) h all_then some_then
  where
    all_then : (k : ℕ) → option_map (renamed keep gone) (node_at (change (renamed keep gone) g key) k) ≡ h k
    all_then k = elim (cases_eq k key) [
      | inl e ↦ subst (λ j. option_map (renamed keep gone) (node_at (change (renamed keep gone) g key) j) ≡ h j) (sym e)
          (ap (option_map (renamed keep gone)) (at_changed (renamed keep gone) g key) ∙ renamed-twice keep gone n (node_at g key) ∙ all key)
      | inr d ↦ ap (option_map (renamed keep gone)) (at_other g key _ k d) ∙ all k
    ]

    some_then : (k : ℕ) → (node_at (change (renamed keep gone) g key) k ≡ h k) ⊎ Among keys k
    some_then k = elim (cases_eq k key) [
      | inl e ↦ inl (subst (λ j. node_at (change (renamed keep gone) g key) j ≡ h j) (sym e) (at_changed (renamed keep gone) g key ∙ all key))
      | inr d ↦ elim (some k) [
        | inl e ↦ inl (at_other g key _ k d ∙ e)
        | inr a ↦ elim a [ inl e ↦ absurd (d e) | inr b ↦ inr b ]
      ]
    ]

length-renamed_in : (keep gone : ℕ) (keys : List ℕ) (g : Nodes) → length (renamed_in keep gone g keys) ≡ length g
length-renamed_in keep gone [] g = refl
length-renamed_in keep gone (key ∷ keys) g = length-renamed_in keep gone keys (change (renamed keep gone) g key) ∙ length-set g key (option_map (renamed keep gone) (node_at g key))

-- a link from a key, or none
from_or_not : (links : List Link) (key : ℕ) →
    ((i : ℕ) × (link : Link) × (slice_get links i ≡ Some link) × (link.from ≡ key)) ⊎ ((keep : ℕ) → map (renamed_link keep key) links ≡ links)
from_or_not [] key = inr (λ keep. refl)
from_or_not (l ∷ links) key = elim (cases_eq l.from key) [
  | inl e ↦ inl (0, l, refl, e)
  | inr n ↦ elim (from_or_not links key) [
    | inl f ↦ inl (suc f.0, f.1, f.2, f.3)
    | inr f ↦ inr (λ keep. ap₂ (λ x xs. x ∷ xs) (rw (ne_eqb l.from key n) refl) (f keep))
  ]
]

-- So it is where all links from `gone` go into these nodes.
pub renamed_among : (keep gone : ℕ) → keep ≢ gone → (g : Nodes) (keys : List ℕ) → IsFanOut g gone keys → renamed_in keep gone g keys ≡ map (option_map (renamed keep gone)) g
renamed_among keep gone n g keys fan =
    same_entries (renamed_in keep gone g keys) (map (option_map (renamed keep gone)) g)
    (length-renamed_in keep gone keys g ∙ sym (length-map g (option_map (renamed keep gone))))
    (λ k. renamed_at keep gone n keys g (λ j. option_map (renamed keep gone) (node_at g j)) (λ j. refl) (λ j. touched j (node_at g j) refl) k
    ∙ sym (at_mapped (option_map (renamed keep gone)) refl g k))
  where
    touched : (k : ℕ) (entry : Option Node) → node_at g k ≡ entry → (entry ≡ option_map (renamed keep gone) entry) ⊎ Among keys k
    touched k None e = inl refl
    touched k (Some node) e = elim (from_or_not node.links gone) [
      | inl f ↦ inr (fan.all k f.0 f.1 (record { node = node; there = e; at_index = f.2 }) f.3)
      | inr f ↦ inl (ap (λ (links : List Link). Some (record node { links = links })) (sym (f keep)))
    ]

-- a node that stands for further places has the links that it had
stood_links : (other entry : Option Node) (node : Node) → option_map (standing_for other) entry ≡ Some node → (old : Node) × (entry ≡ Some old) × (node.links ≡ old.links)
stood_links other None node e = absurd (cc)
stood_links None (Some old) node e = let same : old ≡ node = cc in (old, refl, ap (λ (x : Node). x.links) (sym same))
stood_links (Some other) (Some old) node e = let same : standing_for (Some other) old ≡ node = cc in (old, refl, ap (λ (x : Node). x.links) (sym same))

links_before : (other : Option Node) (g : Nodes) (keep key : ℕ) (node : Node) → node_at (change (standing_for other) g keep) key ≡ Some node → (old : Node) × (node_at g key ≡ Some old) × (node.links ≡ old.links)
links_before other [] keep key node e = absurd (cc)
links_before other (x ∷ g) zero zero node e = stood_links other x node e
links_before other (x ∷ g) zero (suc key) node e = (node, e, refl)
links_before other (x ∷ g) (suc keep) zero node e = (node, e, refl)
links_before other (x ∷ g) (suc keep) (suc key) node e = links_before other g keep key node e

-- So dropping a node, and letting another stand for its places, adds no link.
pub fan_standing : (g : Nodes) (keep gone : ℕ) (keys : List ℕ) → IsFanOut g gone keys → IsFanOut (taken_over g keep gone) gone keys
fan_standing g keep gone keys fan = record { all = λ key index link has from. fan.all key index link (before key index link has (cases_eq key gone)) from }
  where
    before : (key index : ℕ) (link : Link) → HasLink (taken_over g keep gone) key index link → (key ≡ gone) ⊎ (key ≢ gone) → HasLink g key index link
    before key index link has (inl e) = let none : Some has.node ≡ None = sym has.there ∙ ap (node_at (taken_over g keep gone)) e ∙ at_dropped (change (standing_for (node_at g gone)) g keep) gone in absurd (cc)
    before key index link has (inr n) = was (links_before (node_at g gone) g keep key has.node (sym (at_other (change (standing_for (node_at g gone)) g keep) gone None key n) ∙ has.there))
      where
        was : ((old : Node) × (node_at g key ≡ Some old) × (has.node.links ≡ old.links)) → HasLink g key index link
        was (old, there, links) = record { node = old; there = there; at_index = subst (λ (xs : List Link). slice_get xs index ≡ Some link) links has.at_index }

pub stored_after_part : (g : Nodes) (keep gone : ℕ) → IsStored g → IsStored (taken_over g keep gone)
stored_after_part g keep gone stored =
    stored_after_set (change (standing_for (node_at g gone)) g keep) gone None
    (stored_after_change (standing_for (node_at g gone)) g keep stored
    (λ node e. in_groups_still (node_at g gone) node (stored.groups keep node e) (stored.few keep node e)))
    (λ node q. absurd (cc))
  where
    in_groups_still : (other : Option Node) (node : Node) → in_groups node.links ≡ node.links → length node.links ≤ 2 ^ 32 →
        (in_groups (standing_for other node).links ≡ (standing_for other node).links) × (length (standing_for other node).links ≤ 2 ^ 32)
    in_groups_still None node a b = (a, b)
    in_groups_still (Some other) node a b = (a, b)
