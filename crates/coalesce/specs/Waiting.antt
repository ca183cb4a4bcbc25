-- The nodes whose turn is still to come.
use Rattle.std.specs.Prelude.{◌≡◌, ◌⊎◌, ℕ, ◌+◌, ◌<◌, ◌≤◌, IsTrue, length}
use Rattle.std.specs.Ordering.{nat_cmp}
use Rattle.std.specs.BTreeSet.{BTreeSet, contains, btree_set_len}
use Rattle.graph.specs.Graph.{Nodes}
use Rattle.graph.specs.Steps.{AreTwins}

-- the node of this number waits
abbrev pub Waits : BTreeSet ℕ → ℕ → Type 0
Waits numbers key = IsTrue (contains nat_cmp numbers key)

abbrev pub AreBelow : ℕ → BTreeSet ℕ → Type 0
AreBelow bound numbers = (key : ℕ) → Waits numbers key → key < bound

-- nodes of the graph wait, each once
pub record AreFew (g : Nodes) (numbers : BTreeSet ℕ) : Type 0 where
  pub below : AreBelow (length g) numbers
  pub few : btree_set_len numbers ≤ length g

-- one of the nodes that waited waits no more
pub record TakesOut (old new : BTreeSet ℕ) (number : ℕ) : Type 0 where
  pub waited : Waits old number
  pub others : (key : ℕ) → Waits old key → (key ≡ number) ⊎ Waits new key
  pub no_other : (key : ℕ) → Waits new key → Waits old key
  pub one_less : btree_set_len new + 1 ≡ btree_set_len old

-- the first that waits from this number on or, where none does, the first of all
abbrev pub IsNext : BTreeSet ℕ → ℕ → ℕ → Type 0
IsNext numbers from number =
    ((from ≤ number) × ((key : ℕ) → from ≤ key → key < number → Waits numbers key → ⊥)) ⊎
    (((key : ℕ) → from ≤ key → Waits numbers key → ⊥) × ((key : ℕ) → key < number → Waits numbers key → ⊥))

-- The lower of two twins waits.
abbrev pub TwinsWait : Nodes → BTreeSet ℕ → Type 0
TwinsWait g numbers = (a b : ℕ) → a < b → AreTwins g a b → Waits numbers a

-- So it is but for the twins of this node.
abbrev pub OthersWait : Nodes → BTreeSet ℕ → ℕ → Type 0
OthersWait g numbers keep = (a b : ℕ) → a < b → AreTwins g a b → (a ≡ keep) ⊎ Waits numbers a
