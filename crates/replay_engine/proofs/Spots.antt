-- Where things stand, and what stands near.
use Rattle.std.proofs.Common.{◌≡◌, ℕ, ◌+◌, ◌<◌, ◌≤◌, true, List, length, get_or, set, take, Some, sym, ◌∙◌, ap, inl, inr, arith, below_more}
use Rattle.std.specs.Prelude.{Option, Contains}
use Rattle.std.specs.Option.{option_map_or}
use Rattle.std.proofs.lemmas.List.{get_or_default, get_or-set_same, get_or-set_other, get_or-take, length-set, length-take-le}
use Rattle.std.proofs.lemmas.Bool.{false≢true}
use Rattle.circuit.specs.declared.Pos.{Pos}
use Rattle.build.specs.Plan.{IsNear, IsNarrow}
use Rattle.build.specs.Near.{near_inside}
use Rattle.wire_net.specs.WaveSteps.{AreBelow}
use Rattle.wire_shape.specs.Shape.{wire_at}
use Rattle.replay_engine.specs.Near.{IsNearby, nearby, origin}
use Rattle.replay_engine.specs.Things.{Numbered, IsNumbered, number_at}
use Rattle.replay_engine.specs.Numbers.{number_inside, number_there, number_wire}
use Rattle.replay_engine.specs.WireThings.{number_of, NotesWire}
use Rattle.replay_engine.specs.Running.{spot}
use Rattle.replay_engine.proofs.Held.{spot_number}
use Rattle.replay_engine.proofs.Nearness.{near_listed, length-nearby}

pub narrow : (m : Numbered) → IsNumbered m → IsNarrow m.plan
narrow m w = record { width = w.whole.narrow; height = w.whole.low; depth = w.whole.shallow }

pub spot_near : (m : Numbered) → IsNumbered m → (n : ℕ) → n < length m.spots → IsNear 0 (spot m n)
spot_near m w n h = near_inside m.plan (spot m n) (narrow m w) (number_inside m (spot m n) n (spot_number m w n h))

-- ---- the wires that stand near

-- The wires at the first i places have their numbers in the list, which has no others up to the count.
pub record AreListed (m : Numbered) (places : List Pos) (i : ℕ) (numbers : List ℕ) (count : ℕ) : Type 0 where
  pub long : length numbers ≡ 25
  pub short : count ≤ i
  pub listed : (k : ℕ) → k < i → wire_at m.plan (get_or places k origin) ≡ true → (j : ℕ) × (j < count) × (get_or numbers j 0 ≡ number_of m (get_or places k origin))
  pub below : (j : ℕ) → j < count → get_or numbers j 0 < length m.spots

pub listed_none : (m : Numbered) (places : List Pos) (numbers : List ℕ) → length numbers ≡ 25 → AreListed m places 0 numbers 0
listed_none m places numbers long = record { long = long; short = omega arith; listed = λ k h. absurd (omega arith); below = λ j h. absurd (omega arith) }

number_of_wire : (m : Numbered) → IsNumbered m → (p : Pos) → wire_at m.plan p ≡ true → number_of m p < length m.spots
number_of_wire m w p e =
    let n = number_wire m w p e in
    let is : number_of m p ≡ n.0 = ap (λ (o : Option ℕ). option_map_or (λ (k : ℕ). k) o 0) n.1 in
    rw is (number_there m w p n.0 n.1).0

pub listed_next : (m : Numbered) → IsNumbered m → (places : List Pos) (i : ℕ) (numbers : List ℕ) (count : ℕ) (new : List ℕ) (next : ℕ) → AreListed m places i numbers count → i < 25 →
    NotesWire m (get_or places i origin) numbers count new next → AreListed m places (i + 1) new next
listed_next m w places i numbers count new next l inside notes = elim notes [
  | inl none ↦ rw (none.1, none.2) (record {
    long = l.long;
    short = omega (arith, l.short);
    listed = below_more (λ k. wire_at m.plan (get_or places k origin) ≡ true → (j : ℕ) × (j < count) × (get_or numbers j 0 ≡ number_of m (get_or places k origin))) i l.listed
        (λ e. absurd (false≢true (sym none.0 ∙ e)));
    below = l.below;
  })
  | inr wire ↦ rw (wire.1, wire.2) (put wire.0)
]
  where
    x : ℕ
    x = number_of m (get_or places i origin)

    old : (j : ℕ) → j < count → get_or (set numbers count x) j 0 ≡ get_or numbers j 0
    old j h = get_or-set_other numbers count j x 0 (omega arith)

    here : get_or (set numbers count x) count 0 ≡ x
    here = get_or-set_same numbers count x 0 (omega (arith, l.long, l.short))

    put : wire_at m.plan (get_or places i origin) ≡ true → AreListed m places (i + 1) (set numbers count x) (count + 1)
    put e = record {
      long = length-set numbers count x ∙ l.long;
      short = omega (arith, l.short);
      listed = below_more (λ k. wire_at m.plan (get_or places k origin) ≡ true → (j : ℕ) × (j < count + 1) × (get_or (set numbers count x) j 0 ≡ number_of m (get_or places k origin))) i
          (λ k h wire. let at = l.listed k h wire in (at.0, omega (arith, at.1), old at.0 at.1 ∙ at.2))
          (λ wire. (count, omega arith, here));
      below = below_more (λ j. get_or (set numbers count x) j 0 < length m.spots) count (λ j h. rw (old j h) (l.below j h)) (rw here (number_of_wire m w (get_or places i origin) e));
    }

-- a wire that stands near has its number in the list
pub wires_listed : (m : Numbered) (places : List Pos) (i : ℕ) (numbers : List ℕ) (count : ℕ) (there : Pos) → places ≡ nearby there → 25 ≤ i → count ≤ 25 → AreListed m places i numbers count →
    (p : Pos) (n : ℕ) → IsNearby there p → wire_at m.plan p ≡ true → number_at m p ≡ Some n → Contains (take count numbers) n
wires_listed m places i numbers count there are all few l p n near wire e =
    let k = near_listed there p near in
    let place : get_or places k.0 origin ≡ p = ap (λ (ps : List Pos). get_or ps k.0 origin) are ∙ get_or_default (nearby there) k.0 origin p (rw (length-nearby there) k.1) ∙ k.2 in
    let at = l.listed k.0 (omega (arith, k.1, all)) (ap (wire_at m.plan) place ∙ wire) in
    let is : get_or numbers at.0 0 ≡ n = at.2 ∙ ap (number_of m) place ∙ ap (λ (o : Option ℕ). option_map_or (λ (j : ℕ). j) o 0) e in
    let inside : at.0 < length (take count numbers) = omega (arith, length-take-le count numbers (omega (arith, few, l.long)), at.1) in
    (at.0, inside, get_or_default (take count numbers) at.0 n 0 inside ∙ get_or-take count numbers at.0 0 at.1 ∙ is)

pub wires_below : (m : Numbered) (places : List Pos) (i : ℕ) (numbers : List ℕ) (count : ℕ) → count ≤ 25 → AreListed m places i numbers count → AreBelow (length m.spots) (take count numbers)
wires_below m places i numbers count few l k h =
    let low : k < count = omega (arith, length-take-le count numbers (omega (arith, few, l.long)), h) in
    rw (get_or-take count numbers k 0 low) (l.below k low)
