-- The step that drops a link, and when Unreach has nothing more to do.
use Rattle.std.proofs.Common.{◌≡◌, ℕ, zero, suc, ◌<◌, ◌≤◌, Bool, true, false, ◌||◌, List, [], ◌∷◌, Option, Some, None, get_or, length, refl, sym, ap, ◌∙◌, subst, arith, inl, inr}
use Rattle.std.specs.Prelude.{remove, slice_get, IsSome}
use Rattle.std.specs.List.{list_any}
use Rattle.std.proofs.lemmas.Bool.{cases_lt, false≢true, le-leb}
use Rattle.graph.specs.declared.Link.{Link}
use Rattle.graph.specs.Items.{keys_of}
use Rattle.graph.specs.Graph.{Node, Nodes, node_at, Lives, HasLink}
use Rattle.graph.specs.Edits.{drop_link}
use Rattle.graph.specs.Sound.{IsSound}
use Rattle.graph.specs.Steps.{bound_at, Unreaches}
use Rattle.graph.specs.LinkAt.{EachLink}
use Rattle.graph.proofs.LinkSteps.{has_link}
use Rattle.graph.proofs.LinkDrops.{left_was_there}
use Rattle.graph.proofs.Bounds.{bound_at-dropped}
use Rattle.pass_frame.specs.Frame.{IsDone}
use Rattle.pass_frame.proofs.Sweeps.{index_of_key}
use Rattle.unreach.specs.Reached.{is_spent, HasBound, HasBoundsOf, IsReached, SameBounds}

pub unreach_step : (old new : Nodes) (key index : ℕ) (link : Link) (bounds : List ℕ) → HasLink old key index link → HasBound old bounds link.from → get_or bounds link.from 0 ≤ link.weight →
    new ≡ drop_link old key index → Unreaches old new
unreach_step old new key index link bounds linked b heavy e = record {
  key = key;
  index = index;
  link = link;
  linked = linked;
  heavy = subst (λ n. n ≤ link.weight) b.bound heavy;
  after = e;
}

pub same_bounds_after : (old new : Nodes) (key index : ℕ) (link : Link) (bounds : List ℕ) → HasLink old key index link → HasBound old bounds link.from → get_or bounds link.from 0 ≤ link.weight →
    new ≡ drop_link old key index → SameBounds old new
same_bounds_after old new key index link bounds linked b heavy e =
    subst (SameBounds old) (sym e) (bound_at-dropped old key index link linked (subst (λ n. n ≤ link.weight) b.bound heavy))

pub same_bounds_then : (a b c : Nodes) → SameBounds a b → SameBounds b c → SameBounds a c
same_bounds_then a b c f s key = s key ∙ f key

pub bound_stays : (old new : Nodes) (bounds : List ℕ) (key : ℕ) → SameBounds old new → HasBound old bounds key → HasBound new bounds key
bound_stays old new bounds key same b = record { inside = b.inside; bound = b.bound ∙ sym (same key) }

-- the list holds the bound of the source of each of these links
abbrev pub HasBounds : Nodes → List ℕ → List Link → Type 0
HasBounds g bounds links = (i : ℕ) (link : Link) → slice_get links i ≡ Some link → HasBound g bounds link.from

pub bounded_after : (old new : Nodes) (bounds : List ℕ) (links : List Link) (index : ℕ) → SameBounds old new → HasBounds old bounds links → HasBounds new bounds (remove links index)
bounded_after old new bounds links index same each i link e = let was = left_was_there links index i link e in bound_stays old new bounds link.from same (each was.0 link was.1)

-- each live node has its bound in the list
pub bounds_for_all : (g : Nodes) (keys bounds : List ℕ) → keys ≡ keys_of g → HasBoundsOf g keys bounds → (k : ℕ) → Lives g k → HasBound g bounds k
bounds_for_all g keys bounds e has k lives = by_entry (node_at g k) refl lives
  where
    by_entry : (entry : Option Node) → node_at g k ≡ entry → IsSome entry → HasBound g bounds k
    by_entry None there h = absurd (false≢true h)
    by_entry (Some node) there h =
        let i = index_of_key g k node there in
        let inside : i.0 < length keys = omega (arith, i.1, ap (λ (ks : List ℕ). length ks) e) in
        subst (HasBound g bounds) (ap (λ (ks : List ℕ). get_or ks i.0 0) e ∙ i.2) (has i.0 inside)

pub bounds_for_links : (g : Nodes) (key : ℕ) (bounds : List ℕ) → IsSound g → ((k : ℕ) → Lives g k → HasBound g bounds k) → EachLink (λ l. HasBound g bounds l.from) (node_at g key)
bounds_for_links g key bounds sound has index link e =
    let h = has_link g key index link e in
    has link.from ((sound.each key h.node h.there).links index link h.at_index).1

pub unreaches_done : (g : Nodes) (bounds : List ℕ) → IsSound g → ((k : ℕ) → Lives g k → HasBound g bounds k) → ((key : ℕ) (node : Node) → node_at g key ≡ Some node → IsReached bounds (Some node)) →
    IsDone Unreaches g
unreaches_done g bounds sound has h new step =
    let lives : Lives g step.link.from = ((sound.each step.key step.linked.node step.linked.there).links step.index step.link step.linked.at_index).1 in
    let light : step.link.weight < get_or bounds step.link.from 0 = h step.key step.linked.node step.linked.there step.index step.link step.linked.at_index in
    let heavy : bound_at g (node_at g step.link.from) ≤ step.link.weight = step.heavy in
    let bound = (has step.link.from lives).bound in
    absurd (omega (arith, light, heavy, bound))

-- what fails for all of a list fails for each of it
or_parts : (a b : Bool) → (a || b) ≡ false → (a ≡ false) × (b ≡ false)
or_parts true b e = absurd (cc)
or_parts false b e = (refl, e)

none_passes : (test : Link → Bool) (links : List Link) (index : ℕ) (link : Link) → list_any test links ≡ false → slice_get links index ≡ Some link → test link ≡ false
none_passes test [] index link none at = absurd (cc)
none_passes test (l ∷ links) zero link none at = let same : l ≡ link = cc in subst (λ one. test one ≡ false) same (or_parts (test l) (list_any test links) none).0
none_passes test (l ∷ links) (suc index) link none at = none_passes test links index link (or_parts (test l) (list_any test links) none).1 at

-- where no link is spent
pub reached_by : (g : Nodes) (bounds : List ℕ) (key : ℕ) (node : Node) → Some node ≡ node_at g key → list_any (is_spent bounds) node.links ≡ false → IsReached bounds (node_at g key)
reached_by g bounds key node there none = subst (IsReached bounds) there (λ index link at. elim (cases_lt link.weight (get_or bounds link.from 0)) [
  | inl less ↦ less
  | inr spent ↦ absurd (false≢true (sym (none_passes (is_spent bounds) node.links index link none at) ∙ le-leb (get_or bounds link.from 0) link.weight spent))
])
