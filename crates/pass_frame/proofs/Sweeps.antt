-- A sweep over the keys of a graph, in which each node is done when its turn comes.
use Rattle.std.proofs.Common.{◌≡◌, ◌≢◌, ℕ, zero, suc, ◌+◌, ◌<◌, ◌≤◌, Bool, true, false, ◌||◌, List, [], ◌∷◌, Option, Some, None, Ok, refl, sym, ap, ◌∙◌, subst, arith, length, get_or, inl, inr}
use Rattle.std.proofs.lemmas.Bool.{cases_eq, false≢true}
use Rattle.std.specs.Prelude.{IsSome}
use Rattle.graph.specs.Items.{keys_from, keys_of}
use Rattle.graph.specs.Circuit.{Each, Among}
use Rattle.graph.specs.Graph.{Node, Nodes, node_at, Lives}
use Rattle.graph.specs.Sound.{IsSound}
use Rattle.graph.specs.LinkAt.{SameOthers}
use Rattle.graph.proofs.ListedSteps.{all_keys_closed}
use Rattle.pass_frame.specs.Frame.{Reaches, Stays, Goes, Ran, IsDone}
use Rattle.pass_frame.specs.Took.{Took}
use Rattle.pass_frame.proofs.FrameSteps.{KeepsSound, reaches_append, reaches_sound}

pub took_reaches : (P : Nodes → Nodes → Type 0) (old new : Nodes) (took : Bool) → Took P old took new → Reaches P old new
took_reaches P old new false t = subst (Reaches P old) (sym t) Stays
took_reaches P old new true t = Goes t.1 t.2

-- one step more
pub took_step : (P : Nodes → Nodes → Type 0) (old mid new : Nodes) (took : Bool) → Took P old took mid → P mid new → Took P old true new
took_step P old mid new false t h = (new, subst (λ m. P m new) t h, Stays)
took_step P old mid new true t h = (t.0, t.1, reaches_append P t.2 (Goes h Stays))

-- one part after another
pub took_then : (P : Nodes → Nodes → Type 0) (old mid new : Nodes) (took more : Bool) → Took P old took mid → Took P mid more new → Took P old (took || more) new
took_then P old mid new false false t u = u ∙ t
took_then P old mid new false true t u = (u.0, subst (λ m. P m u.0) t u.1, u.2)
took_then P old mid new true more t u = (t.0, t.1, reaches_append P t.2 (took_reaches P mid new more u))

-- a run at whose end no step is left
pub took_ran : (P : Nodes → Nodes → Type 0) (old new : Nodes) (took : Bool) → Took P old took new → IsDone P new → Ran P old (Ok took) new
took_ran P old new false t done = (subst (IsDone P) t done, t)
took_ran P old new true t done = t

pub took_sound : (P : Nodes → Nodes → Type 0) → KeepsSound P → (old new : Nodes) (took : Bool) → IsSound old → Took P old took new → IsSound new
took_sound P k old new took s t = reaches_sound P k s (took_reaches P old new took t)

-- keys by their place in the list
among_keys : (from key : ℕ) (g : Nodes) (node : Node) → node_at g key ≡ Some node → Among (keys_from from g) (from + key)
among_keys from key [] node h = absurd (cc)
among_keys from zero (None ∷ g) node h = absurd (cc)
among_keys from zero (Some n ∷ g) node h = inl (omega arith)
among_keys from (suc key) (None ∷ g) node h = subst (Among (keys_from (suc from) g)) (omega arith) (among_keys (suc from) key g node h)
among_keys from (suc key) (Some n ∷ g) node h = inr (subst (Among (keys_from (suc from) g)) (omega arith) (among_keys (suc from) key g node h))

among_index : (keys : List ℕ) (key : ℕ) → Among keys key → (i : ℕ) × (i < length keys) × (get_or keys i 0 ≡ key)
among_index [] key a = absurd a
among_index (one ∷ keys) key a = elim a [
  | inl e ↦ (zero, omega arith, sym e)
  | inr b ↦ (let r = among_index keys key b in (suc r.0, omega (arith, r.1), r.2))
]

each_index : (P : ℕ → Type 0) (keys : List ℕ) → Each P keys → (i : ℕ) → i < length keys → (d : ℕ) → P (get_or keys i d)
each_index P [] e i h d = absurd (omega arith)
each_index P (one ∷ keys) e zero h d = e.0
each_index P (one ∷ keys) e (suc i) h d = each_index P keys e.1 i (omega arith) d

-- each live key is in the list, and each key in the list lives
pub index_of_key : (g : Nodes) (key : ℕ) (node : Node) → node_at g key ≡ Some node → (i : ℕ) × (i < length (keys_of g)) × (get_or (keys_of g) i 0 ≡ key)
index_of_key g key node e = among_index (keys_of g) key (subst (Among (keys_of g)) (omega arith) (among_keys 0 key g node e))

pub key_lives : (g : Nodes) (i : ℕ) → i < length (keys_of g) → (d : ℕ) → Lives g (get_or (keys_of g) i d)
key_lives g = each_index (Lives g) (keys_of g) (all_keys_closed g).live

-- The nodes of the first keys are so.
abbrev pub DoneBefore : (Option Node → Type 0) → Nodes → List ℕ → ℕ → Type 0
DoneBefore Q g keys index = (i : ℕ) → i < index → Q (node_at g (get_or keys i 0))

pub done_none : (Q : Option Node → Type 0) (g : Nodes) (keys : List ℕ) → DoneBefore Q g keys 0
done_none Q g keys i h = absurd (omega arith)

pub done_next : (Q : Option Node → Type 0) (old new : Nodes) (keys : List ℕ) (index key : ℕ) → DoneBefore Q old keys index → key ≡ get_or keys index 0 → Q (node_at new key) → SameOthers old new key →
    DoneBefore Q new keys (index + 1)
done_next Q old new keys index key before e here others i h = elim (cases_eq (get_or keys i 0) key) [
  | inl same ↦ subst (λ k. Q (node_at new k)) (sym same) here
  | inr n ↦ subst Q (sym (others (get_or keys i 0) n)) (before i (earlier n))
]
  where
    earlier : get_or keys i 0 ≢ key → i < index
    earlier n = elim (cases_eq i index) [
      | inl same ↦ absurd (n (ap (λ j. get_or keys j 0) same ∙ sym e))
      | inr d ↦ omega arith
    ]

-- at the end all live nodes are so, where all that lives now lived at the start
pub done_all : (Q : Option Node → Type 0) (old new : Nodes) (index : ℕ) → DoneBefore Q new (keys_of old) index → length (keys_of old) ≤ index → ((k : ℕ) → Lives new k → Lives old k) →
    (key : ℕ) (node : Node) → node_at new key ≡ Some node → Q (Some node)
done_all Q old new index before end lived key node e = by_entry (node_at old key) refl (lived key (rw e refl))
  where
    by_entry : (entry : Option Node) → node_at old key ≡ entry → IsSome entry → Q (Some node)
    by_entry None there h = absurd (false≢true h)
    by_entry (Some was) there h =
        let i = index_of_key old key was there in
        subst Q (ap (node_at new) i.2 ∙ e) (before i.0 (omega (arith, i.1)))

-- what lives after a node's turn lived at the start
pub lived_next : (first old new : Nodes) (key : ℕ) → ((k : ℕ) → Lives old k → Lives first k) → Lives first key → SameOthers old new key → (k : ℕ) → Lives new k → Lives first k
lived_next first old new key before here others k h = elim (cases_eq k key) [
  | inl e ↦ subst (Lives first) (sym e) here
  | inr n ↦ before k (subst (λ (entry : Option Node). IsSome entry) (others k n) h)
]

-- the same of a list that was told to be that of the keys
pub key_in_turn : (g : Nodes) (keys : List ℕ) → keys ≡ keys_of g → (index key : ℕ) → index < length keys → key ≡ get_or keys index key → Lives g key × (key ≡ get_or keys index 0)
key_in_turn g keys e index key h is = (
  subst (Lives g) (ap (λ ks. get_or ks index key) (sym e) ∙ sym is) (key_lives g index (omega (arith, h, ap (λ ks. length ks) e)) key),
  is ∙ other_default keys index h key 0,
)
  where
    other_default : (keys : List ℕ) (i : ℕ) → i < length keys → (c d : ℕ) → get_or keys i c ≡ get_or keys i d
    other_default [] i h c d = absurd (omega arith)
    other_default (k ∷ keys) zero h c d = refl
    other_default (k ∷ keys) (suc i) h c d = other_default keys i (omega arith) c d

pub sweep_all : (Q : Option Node → Type 0) (old new : Nodes) (keys : List ℕ) (index : ℕ) → keys ≡ keys_of old → DoneBefore Q new keys index → length keys ≤ index → ((k : ℕ) → Lives new k → Lives old k) →
    (key : ℕ) (node : Node) → node_at new key ≡ Some node → Q (Some node)
sweep_all Q old new keys index e before end = done_all Q old new index (subst (λ ks. DoneBefore Q new ks index) e before) (omega (arith, end, ap (λ ks. length ks) e))
