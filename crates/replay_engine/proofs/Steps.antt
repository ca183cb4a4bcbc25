-- One thing attends, and all do.
use Rattle.std.proofs.Common.{◌≡◌, ℕ, ◌+◌, ◌<◌, Bool, true, false, cond, List, length, get_or, set, Option, Some, None, refl, sym, ◌∙◌, ap, subst, inl, inr, ◌⊎◌, arith}
use Rattle.std.proofs.lemmas.Bool.{cases_lt}
use Rattle.circuit.specs.declared.Pos.{Pos}
use Rattle.circuit.specs.declared.Component.{Component}
use Rattle.circuit.specs.declared.Readings.{Readings}
use Rattle.circuit.specs.declared.Cell.{Cell}
use Rattle.circuit.specs.Circuit.{attended_at, attend}
use Rattle.build.specs.Place.{same_place}
use Rattle.build.specs.SamePlace.{place_itself, place_one}
use Rattle.build.specs.Roles.{role_at, first_at, stored_of, stored, stored_value, waiting_at}
use Rattle.build.specs.Plan.{block_at, entry}
use Rattle.build.specs.declared.Pending.{Pending}
use Rattle.replay_engine.specs.Things.{Numbered, IsNumbered, number_at, held, nothing, state_by}
use Rattle.replay_engine.specs.Numbers.{number_cases, held-there, held-none}
use Rattle.replay_engine.specs.WireThings.{thing_cells}
use Rattle.wire_net.specs.Net.{IsRight}
use Rattle.replay_engine.specs.Running.{circuit_of, reads_of, ArePowers, AreStill, AreWithin, after_attending, Attends, spot}
use Rattle.replay_engine.proofs.Held.{held-set, role_none, spot-there}
use Rattle.replay_engine.proofs.Attending.{attends-then, attends-fewer, all-attended, still-attended, given-attends}

attended_none : (time : ℕ) (role : Option Component) (first : Bool) (reads : Pos → Readings) (p : Pos) (cell : Cell) → role ≡ None → attended_at time role first reads p cell ≡ cell
attended_none time None first reads p cell h = refl
attended_none time (Some component) first reads p cell h = absurd (cc)

-- where nothing stands nothing attends
still_none : (m : Numbered) → IsNumbered m → (time : ℕ) (reads : Pos → Readings) (p : Pos) (cell : Cell) → number_at m p ≡ None → after_attending m time reads p cell ≡ cell
still_none m w time reads p cell none = attended_none time (role_at m.plan m.marks p) (first_at m.plan p) reads p cell (role_none m w p none)

pub attend-set : (m : Numbered) → IsNumbered m → (time : ℕ) (powers : List ℕ) (cells : List Cell) (p : Pos) (n : ℕ) (cell : Cell) → length cells ≡ length m.spots → number_at m p ≡ Some n →
    cell ≡ after_attending m time (reads_of m cells powers) p (held m cells nothing p) → Attends m time powers cells (set cells n cell) (λ q. q ≡ p)
attend-set m w time powers cells p n cell l e is = record { each = λ q. one q (same_place q p) refl; done = λ q h. here q h }
  where
    here : (q : Pos) → q ≡ p → held m (set cells n cell) nothing q ≡ after_attending m time (reads_of m cells powers) q (held m cells nothing q)
    here q h = rw h (held-set m w cells nothing cell p p n l e ∙ ap (λ (t : Bool). cond t cell (held m cells nothing p)) (place_itself p) ∙ is)

    one : (q : Pos) (t : Bool) → same_place q p ≡ t →
        (held m (set cells n cell) nothing q ≡ held m cells nothing q) ⊎ (held m (set cells n cell) nothing q ≡ after_attending m time (reads_of m cells powers) q (held m cells nothing q))
    one q true s = inr (here q (place_one q p s))
    one q false s = inl (held-set m w cells nothing cell p q n l e ∙ ap (λ (t : Bool). cond t cell (held m cells nothing q)) s)

-- where no component stands nothing attends
pub attend-idle : (m : Numbered) (time : ℕ) (powers : List ℕ) (cells : List Cell) (p : Pos) → role_at m.plan m.marks p ≡ None → Attends m time powers cells cells (λ q. q ≡ p)
attend-idle m time powers cells p none = record {
  each = λ q. inl refl;
  done = λ q h. sym (attended_none time (role_at m.plan m.marks q) (first_at m.plan q) (reads_of m cells powers) q (held m cells nothing q) (ap (role_at m.plan m.marks) h ∙ none));
}

pub attend-nothing : (m : Numbered) → IsNumbered m → (time : ℕ) (powers : List ℕ) (cells : List Cell) (p : Pos) → number_at m p ≡ None → Attends m time powers cells cells (λ q. q ≡ p)
attend-nothing m w time powers cells p none = attend-idle m time powers cells p (role_none m w p none)

-- the things below i
abbrev pub Below : Numbered → ℕ → Pos → Type 0
Below m i p = (n : ℕ) × (n < i) × (p ≡ spot m n)

pub attends-more : (m : Numbered) (time : ℕ) (powers : List ℕ) (a b c : List Cell) (i : ℕ) → Attends m time powers a b (Below m i) → Attends m time powers b c (λ q. q ≡ spot m i) → Attends m time powers a c (Below m (i + 1))
attends-more m time powers a b c i f g = attends-fewer m time powers a c (λ p. Below m i p ⊎ (p ≡ spot m i)) (Below m (i + 1)) split (attends-then m time powers a b c (Below m i) (λ q. q ≡ spot m i) f g)
  where
    split : (p : Pos) → Below m (i + 1) p → Below m i p ⊎ (p ≡ spot m i)
    split p h = elim (cases_lt h.0 i) [
      | inl low ↦ inl (h.0, low, h.2)
      | inr high ↦ (let same : h.0 ≡ i = omega (arith, h.1) in inr (h.2 ∙ ap (spot m) same))
    ]

pub attends-start : (m : Numbered) (time : ℕ) (powers : List ℕ) (cells : List Cell) → Attends m time powers cells cells (Below m 0)
attends-start m time powers cells = record { each = λ p. inl refl; done = λ p h. absurd (none h.0 h.1) }
  where
    none : (n : ℕ) → n < 0 → ⊥
    none n h = omega arith

-- each thing has attended, and nothing else has to
pub all_or_nothing : (m : Numbered) → IsNumbered m → (time : ℕ) (powers : List ℕ) (cells : List Cell) (p : Pos) →
    Below m (length m.spots) p ⊎ (after_attending m time (reads_of m cells powers) p (held m cells nothing p) ≡ held m cells nothing p)
all_or_nothing m w time powers cells p = elim (number_cases m p) [
  | inl none ↦ inr (still_none m w time (reads_of m cells powers) p (held m cells nothing p) none)
  | inr n ↦ (let t = spot-there m w p n.0 n.1 in inl (n.0, t.0, sym t.1))
]

pub attends_all : (m : Numbered) → IsNumbered m → (time : ℕ) (powers : List ℕ) (old new : List Cell) → AreWithin m old → ArePowers m old powers → Attends m time powers old new (Below m (length m.spots)) →
    state_by m time new ≡ attend (circuit_of m) (state_by m time old)
attends_all m w time powers old new within right a = all-attended m w time powers old new (Below m (length m.spots)) within right a (all_or_nothing m w time powers old)

pub still_all : (m : Numbered) → IsNumbered m → (time : ℕ) (powers : List ℕ) (old new : List Cell) → Attends m time powers old new (Below m (length m.spots)) → AreStill m new powers
still_all m w time powers old new a = still-attended m time powers old new (Below m (length m.spots)) a (all_or_nothing m w time powers old)

-- some attend, and then some more: so do all of either
pub attends-with : (m : Numbered) (time : ℕ) (powers : List ℕ) (a b c : List Cell) (D E F : Pos → Type 0) → ((p : Pos) → F p → D p ⊎ E p) → Attends m time powers a b D → Attends m time powers b c E →
    Attends m time powers a c F
attends-with m time powers a b c D E F either f g = attends-fewer m time powers a c (λ p. D p ⊎ E p) F either (attends-then m time powers a b c D E f g)

pub attends-empty : (m : Numbered) (time : ℕ) (powers : List ℕ) (cells : List Cell) (D : Pos → Type 0) → ((p : Pos) → D p → ⊥) → Attends m time powers cells cells D
attends-empty m time powers cells D none = record { each = λ p. inl refl; done = λ p h. absurd (none p h) }

-- the powers stay right
pub powers-attends : (m : Numbered) (time : ℕ) (powers : List ℕ) (old new : List Cell) (D : Pos → Type 0) → Attends m time powers old new D → ArePowers m old powers → ArePowers m new powers
powers-attends m time powers old new D a right = subst (λ (g : Pos → ℕ). IsRight (thing_cells m g) powers) (sym (given-attends m time powers old new D a)) right

-- ---- what is stored

stored_none : (role : Option Component) (value : ℕ) (tick : Option Pending) → role ≡ None → nothing ≡ stored_of role value tick
stored_none None value tick h = refl
stored_none (Some component) value tick h = absurd (cc)

pub all-stored : (m : Numbered) → IsNumbered m → (cells : List Cell) → ((n : ℕ) → n < length m.spots → get_or cells n nothing ≡ stored m.plan m.marks (spot m n)) →
    state_by m 0 cells ≡ record { time = 0; cells = stored m.plan m.marks }
unfolding stored
all-stored m w cells h = λ i. record { time = 0; cells = λ p. cell p i }
  where
    cell : (p : Pos) → held m cells nothing p ≡ stored m.plan m.marks p
    cell p = elim (number_cases m p) [
      | inl none ↦ held-none m cells nothing p none ∙ stored_none (role_at m.plan m.marks p) (stored_value (block_at m.plan p) (entry m.plan m.plan.levels 0 p)) (waiting_at m.plan.pending p) (role_none m w p none)
      | inr n ↦ (let t = spot-there m w p n.0 n.1 in held-there m cells nothing p n.0 n.1 ∙ h n.0 t.0 ∙ ap (stored m.plan m.marks) t.1)
    ]
