-- Nodes that wait.
use Rattle.std.proofs.Common.{◌≡◌, ℕ, zero, suc, ◌<◌, ◌≤◌, [], ◌∷◌, Some, None, Ok, Err, Result, sym, subst, arith, length, inl, inr, ◌⊎◌}
use Rattle.std.specs.Prelude.{Contains, OnOk}
use Rattle.std.specs.Cmp.{nat_cmp_total}
use Rattle.std.specs.Ordering.{nat_cmp}
use Rattle.std.specs.BTreeSet.{BTreeSet, IsOrdered, btree_set_len}
use Rattle.std.proofs.lemmas.List.Elements.{All-weaker, All-contains_itself}
use Rattle.std.proofs.lemmas.Map.Lookups.{exact_unsigned}
use Rattle.std.proofs.lemmas.Map.Views.{btree_set_contains_iff, length-le_from_below}
use Rattle.rp_text.specs.declared.NoMemory.{NoMemory}
use Rattle.graph.specs.Graph.{Nodes, node_at}
use Rattle.coalesce.specs.declared.looks.Look.{Look}
use Rattle.coalesce.specs.Looks.{look_at, look_in}
use Rattle.coalesce.specs.Waiting.{Waits, AreBelow, AreFew, TakesOut}

-- a set of numbers below a bound has no more than that
pub few_below : (numbers : BTreeSet ℕ) → IsOrdered nat_cmp numbers → (bound : ℕ) → AreBelow bound numbers → btree_set_len numbers ≤ bound
few_below numbers ordered bound below =
    length-le_from_below bound numbers.keys ordered
    (All-weaker (Contains numbers.keys) (λ x. x < bound) (λ x has. below x ((btree_set_contains_iff nat_cmp_total exact_unsigned numbers x).1 has)) numbers.keys (All-contains_itself numbers.keys))

-- a node with a look stands in the graph
pub within : (g : Nodes) (key : ℕ) (look : Look) → look_at g key ≡ Some look → key < length g
within g key look e = by_place g key e
  where
    by_place : (h : Nodes) (k : ℕ) → look_in g (node_at h k) ≡ Some look → k < length h
    by_place [] k f = absurd (let none : None ≡ Some look = f in cc)
    by_place (entry ∷ h) zero f = omega arith
    by_place (entry ∷ h) (suc k) f = let less : k < length h = by_place h k f in omega (arith, less)

pub few_added : (g : Nodes) (key : ℕ) (look : Look) (old new : BTreeSet ℕ) → look_at g key ≡ Some look → AreFew g old → ((other : ℕ) → Waits new other → (other ≡ key) ⊎ Waits old other) →
    ((bound : ℕ) → AreBelow bound new → btree_set_len new ≤ bound) → AreFew g new
few_added g key look old new here few no_other bounded = record { below = below; few = bounded (length g) below }
  where
    below : AreBelow (length g) new
    below other waits = elim (no_other other waits) [
      | inl e ↦ subst (λ k. k < length g) (sym e) (within g key look here)
      | inr w ↦ few.below other w
    ]

pub few_left : (g : Nodes) (old new : BTreeSet ℕ) (number : ℕ) → AreFew g old → TakesOut old new number → AreFew g new
few_left g old new number few out = record { below = λ key waits. few.below key (out.no_other key waits); few = omega (arith, few.few, out.one_less) }

pub on_ok_few : (g : Nodes) (key number : ℕ) (look : Look) (old new : BTreeSet ℕ) (r : Result (Unit {0}) NoMemory) → number ≡ key → look_at g key ≡ Some look → AreFew g old →
    OnOk r ((other : ℕ) → Waits new other → (other ≡ number) ⊎ Waits old other) → OnOk r ((bound : ℕ) → AreBelow bound new → btree_set_len new ≤ bound) → OnOk r (AreFew g new)
on_ok_few g key number look old new (Ok u) e here few no_other bounded =
    few_added g key look old new here few (λ other waits. subst (λ n. (other ≡ n) ⊎ Waits old other) e (no_other other waits)) bounded
on_ok_few g key number look old new (Err x) e here few no_other bounded = tt

-- where none waits few do
pub few_none : (g : Nodes) (numbers : BTreeSet ℕ) → ((key : ℕ) → Waits numbers key → ⊥) → btree_set_len numbers ≡ 0 → AreFew g numbers
few_none g numbers none e = record { below = λ key waits. absurd (none key waits); few = omega (arith, e) }
