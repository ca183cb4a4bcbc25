-- What lists of cells, one for each thing, mean for the states of the world.
use Rattle.std.proofs.Common.{◌≡◌, ◌≢◌, ℕ, ◌<◌, Bool, true, List, length, get_or, map, set, refl, sym, ◌∙◌, ap, Some, None, inl, inr, cond}
use Rattle.std.proofs.lemmas.Bool.{cases_Bool, false≢true}
use Rattle.std.proofs.lemmas.List.{get_or-map, get_or-set_same, get_or-set_other}
use Rattle.circuit.specs.declared.Pos.{Pos}
use Rattle.circuit.specs.declared.Component.{Component}
use Rattle.circuit.specs.declared.Cell.{Cell}
use Rattle.circuit.specs.Circuit.{put}
use Rattle.circuit.specs.Keys.{IsTest}
use Rattle.block_table.specs.declared.Block.{Block}
use Rattle.block_table.specs.declared.Block.TheVariants.{Wire, Torch, WallTorch, Repeater, Comparator, Lever, Button, Plate, Lamp, Trapdoor, Weighted, Note}
use Rattle.build.specs.Plan.{volume, in_box, entry, cell_of, places, block_at}
use Rattle.build.specs.Place.{same_place}
use Rattle.build.specs.SamePlace.{place_itself, place_one}
use Rattle.build.specs.Places.{IsInside, inside, cell_below, place-cell, places-at, length-places, entry-inside, entry-outside}
use Rattle.build.specs.Marks.{is_marked}
use Rattle.build.specs.Roles.{role_of, role_at}
use Rattle.wiring.specs.Things.{Numbered, IsNumbered, is_thing, number_at, held, nothing, state_by}
use Rattle.wiring.specs.Numbers.{number_cases, number_inside, number_there, number_thing, held-there, held-none, option_cases}
use Rattle.world_engine.specs.Running.{state_in, seen_as, circuit_of}

pub test_of_places : IsTest same_place
test_of_places = record { itself = place_itself; one = place_one }

-- the state of what a world is seen as is the state of its things
pub state-seen : (m : Numbered) (time : ℕ) (cells : List Cell) → state_in (seen_as m time cells) ≡ state_by m time cells
state-seen m time cells = λ i. record { time = time; cells = λ p. cell p i }
  where
    cell : (p : Pos) → entry m.plan (map (held m cells nothing) (places m.plan)) nothing p ≡ held m cells nothing p
    cell p = elim (cases_Bool (in_box m.plan p)) [
      | inl e ↦ (let here : IsInside m.plan p = inside m.plan p e in
          let below : cell_of m.plan p < volume m.plan = cell_below m.plan p here in
          let short : cell_of m.plan p < length (places m.plan) = rw (length-places m.plan) below in
          entry-inside m.plan (map (held m cells nothing) (places m.plan)) nothing p e
          ∙ get_or-map (held m cells nothing) (places m.plan) (cell_of m.plan p) p nothing short
          ∙ ap (held m cells nothing) (places-at m.plan (cell_of m.plan p) p below ∙ place-cell m.plan p here))
      | inr e ↦ entry-outside m.plan (map (held m cells nothing) (places m.plan)) nothing p e ∙ sym (elim (number_cases m p) [
        | inl none ↦ held-none m cells nothing p none
        | inr n ↦ absurd (false≢true (sym e ∙ number_inside m p n.0 n.1))
      ])
    ]

-- where there is no thing there is no component
thing_role : (block : Block) (marked : Bool) (component : Component) → role_of marked block ≡ Some component → is_thing block ≡ true
thing_role (Wire n e s w power) marked component h = refl
thing_role (Lever face facing powered) marked component h = refl
thing_role (Button name face facing powered) marked component h = refl
thing_role (Plate name powered) marked component h = refl
thing_role (Weighted name power) marked component h = refl
thing_role (Torch lit) marked component h = refl
thing_role (WallTorch facing lit) marked component h = refl
thing_role (Repeater delay facing powered) marked component h = refl
thing_role (Comparator facing subtract) marked component h = refl
thing_role (Lamp lit) marked component h = refl
thing_role (Trapdoor facing top powered) marked component h = refl
thing_role (Note powered) marked component h = refl
thing_role _ marked component h = absurd (cc)

pub number_role : (m : Numbered) → IsNumbered m → (p : Pos) (component : Component) → role_at m.plan m.marks p ≡ Some component → (n : ℕ) × (number_at m p ≡ Some n)
unfolding role_at
number_role m w p component h = number_thing m w p (thing_role (block_at m.plan p) (is_marked m.marks p) component h)

pub role_none : (m : Numbered) → IsNumbered m → (p : Pos) → number_at m p ≡ None → role_at m.plan m.marks p ≡ None
role_none m w p none = elim (option_cases (role_at m.plan m.marks p)) [
  | inl e ↦ e
  | inr c ↦ (let n = number_role m w p c.0 c.1 in
      let clash : None ≡ Some n.0 = sym none ∙ n.1 in absurd (cc))
]

-- one thing holds another cell: so does its place
pub held-set : {A : Type 0} (m : Numbered) → IsNumbered m → (xs : List A) (d x : A) (p q : Pos) (n : ℕ) → length xs ≡ length m.spots → number_at m p ≡ Some n →
    held m (set xs n x) d q ≡ cond (same_place q p) x (held m xs d q)
held-set m w xs d x p q n l e = elim (cases_Bool (same_place q p)) [
  | inl s ↦ (let one : q ≡ p = place_one q p s in
      let there : number_at m q ≡ Some n = ap (number_at m) one ∙ e in
      rw s (held-there m (set xs n x) d q n there ∙ get_or-set_same xs n x d (rw l (number_there m w p n e).0)))
  | inr s ↦ rw s (elim (number_cases m q) [
    | inl none ↦ held-none m (set xs n x) d q none ∙ sym (held-none m xs d q none)
    | inr k ↦
        (let apart : k.0 ≢ n = λ same.
        let one : q ≡ p = sym ((number_there m w q k.0 k.1).1 q) ∙ ap (λ (j : ℕ). get_or m.spots j q) same ∙ (number_there m w p n e).1 q in
        false≢true (sym s ∙ ap (λ (r : Pos). same_place r p) one ∙ place_itself p) in
        held-there m (set xs n x) d q k.0 k.1 ∙ get_or-set_other xs n k.0 x d apart ∙ sym (held-there m xs d q k.0 k.1))
  ])
]

pub one-put : (m : Numbered) → IsNumbered m → (time : ℕ) (cells : List Cell) (p : Pos) (n : ℕ) (c : Cell) → length cells ≡ length m.spots → number_at m p ≡ Some n →
    state_by m time (set cells n c) ≡ put (circuit_of m) (state_by m time cells) p c
one-put m w time cells p n c l e = λ i. record { time = time; cells = λ q. held-set m w cells nothing c p q n l e i }
