-- Where each node stands alone, no place stands twice.
use Rattle.std.proofs.Common.{◌≡◌, ◌≢◌, ℕ, zero, suc, ◌+◌, ◌<◌, ◌≤◌, List, [], ◌∷◌, ◌++◌, Some, None, refl, sym, ap, ◌∙◌, subst, arith, length, get_or, inl, inr}
use Rattle.std.proofs.lemmas.Bool.{cases_eq}
use Rattle.std.specs.Prelude.{slice_get}
use Rattle.circuit.specs.declared.Pos.{Pos}
use Rattle.circuit.specs.Circuit.{Each, EachBefore}
use Rattle.graph.specs.declared.Link.{Link}
use Rattle.graph.specs.Graph.{Node, Nodes, node_at, Lives}
use Rattle.graph.specs.Sound.{IsSound, IsSoundNode, places_of}
use Rattle.graph.proofs.NodeSteps.{below_length}
use Rattle.hand_graph.specs.Apart.{IsAloneBefore}

-- what holds of each node's place holds of all places
each_place : (P : Pos → Type 0) (g : Nodes) → ((k : ℕ) (node : Node) → node_at g k ≡ Some node → (node.also ≡ []) × P node.pos) → Each P (places_of g)
each_place P [] h = tt
each_place P (None ∷ g) h = each_place P g (λ k. h (suc k))
each_place P (Some node ∷ g) h =
    let one = h 0 node refl in
    subst (λ also. Each P ((node.pos ∷ also) ++ places_of g)) (sym one.0) (one.1, each_place P g (λ k. h (suc k)))

pub places_apart : (g : Nodes) → ((k : ℕ) → IsAloneBefore g k) → EachBefore (λ a b. a ≢ b) (places_of g)
places_apart [] h = tt
places_apart (None ∷ g) h = places_apart g (λ k node e. let one = h (suc k) node e in (one.0, λ other before less there. one.1 (suc other) before (omega arith) there))
places_apart (Some node ∷ g) h =
    let here = h 0 node refl in
    let rest : EachBefore (λ a b. a ≢ b) (places_of g) = places_apart g (λ k n e. let one = h (suc k) n e in (one.0, λ other before less there. one.1 (suc other) before (omega arith) there)) in
    let apart : Each (λ b. node.pos ≢ b) (places_of g) = each_place (λ b. node.pos ≢ b) g (λ k n e. let one = h (suc k) n e in (one.0, one.1 0 node (omega arith) refl)) in
    subst (λ also. EachBefore (λ a b. a ≢ b) ((node.pos ∷ also) ++ places_of g)) (sym here.0) (apart, rest)

-- where each number of the graph was looked at
pub all_sound : (g : Nodes) (count : ℕ) → length g ≤ count → ((k : ℕ) → k < count → (node : Node) → node_at g k ≡ Some node → IsSoundNode g node) → ((k : ℕ) → k < count → IsAloneBefore g k) → IsSound g
all_sound g count size sound alone = record {
  each = λ k node e. sound k (omega (arith, below_length g k node e, size)) node e;
  apart = places_apart g (λ k node e. alone k (omega (arith, below_length g k node e, size)) node e);
}

pub link_read : (links : List Link) (index : ℕ) (link : Link) → index < length links → link ≡ get_or links index link → slice_get links index ≡ Some link
link_read links index link h e = at_default links index link h ∙ ap (λ (l : Link). Some l) (sym e)
  where
    at_default : (links : List Link) (index : ℕ) (d : Link) → index < length links → slice_get links index ≡ Some (get_or links index d)
    at_default [] index d h = absurd (omega arith)
    at_default (l ∷ links) zero d h = refl
    at_default (l ∷ links) (suc index) d h = at_default links index d (omega arith)

pub within_links : (links : List Link) (index : ℕ) (link : Link) → slice_get links index ≡ Some link → index < length links
within_links [] index link e = absurd (cc)
within_links (l ∷ links) zero link e = omega arith
within_links (l ∷ links) (suc index) link e = omega (arith, within_links links index link e)

-- one link more was looked at
pub links_next : (g : Nodes) (links : List Link) (count : ℕ) (item : Link) → ((index : ℕ) (link : Link) → index < count → slice_get links index ≡ Some link → (link.weight ≤ 15) × Lives g link.from) → slice_get links count ≡ Some item →
    item.weight ≤ 15 → Lives g item.from → (index : ℕ) (link : Link) → index < count + 1 → slice_get links index ≡ Some link → (link.weight ≤ 15) × Lives g link.from
links_next g links count item before here light lives index link less e = elim (cases_eq index count) [
  | inl now ↦ (let both : Some item ≡ Some link = sym here ∙ ap (slice_get links) (sym now) ∙ e in let same : item ≡ link = cc in subst (λ (l : Link). (l.weight ≤ 15) × Lives g l.from) same (light, lives))
  | inr n ↦ before index link (omega arith) e
]

-- one node more
pub one_more : (P : ℕ → Type 0) (count : ℕ) → ((k : ℕ) → k < count → P k) → P count → (k : ℕ) → k < count + 1 → P k
one_more P count before here k less = elim (cases_eq k count) [ inl e ↦ subst P (sym e) here | inr n ↦ before k (omega arith) ]
