-- What the outputs show is the view.
use Rattle.std.proofs.Common.{◌≡◌, ℕ, ◌<◌, List, length, get_or, map, slice_index, Option, Some, None, refl, sym, ap, ◌∙◌, inl, inr, arith}
use Rattle.std.proofs.lemmas.List.{get_or-map, length-map, ext_get_or}
use Rattle.circuit.specs.declared.Component.{Component}
use Rattle.circuit.specs.declared.Component.TheVariants.{Wire as WirePart}
use Rattle.circuit.specs.declared.Readings.{Readings}
use Rattle.std.proofs.lemmas.Simd.{map-map}
use Rattle.circuit.specs.declared.Pos.{Pos}
use Rattle.circuit.specs.declared.Cell.{Cell}
use Rattle.circuit.specs.Circuit.{State, seen, seen_at, view}
use Rattle.build.specs.declared.OutPlace.{OutPlace}
use Rattle.build.specs.declared.OutKind.TheVariants.{Lamp}
use Rattle.build.specs.Outputs.{outputs}
use Rattle.build.specs.Roles.{role_at}
use Rattle.wiring.specs.Things.{Numbered, IsNumbered, number_at, held, nothing, origin, spot, state_by}
use Rattle.wiring.specs.Numbers.{number_cases, spot-there, held-there}
use Rattle.cell_queue.specs.Held.{cell_of}
use Rattle.world_engine.specs.Running.{circuit_of, given_by, seen_as, state_in, shown_of, AreWithin}
use Rattle.world_engine.specs.Levels.{AreLevels}
use Rattle.world_engine.specs.Outlets.{Outlet, Blank, Level, Value, outlet_of, outlet_in, outlet_at, outlet_under, outlets_of}
use Rattle.world_engine.specs.Screens.{Screened, face, nth_outlet, AreFaced}
use Rattle.world_engine.proofs.Held.{role_none, state-seen}
use Rattle.world_engine.proofs.LevelSteps.{reads-world}
use Rattle.world_engine.proofs.ToldSteps.{wire_back}

pub view-shown : (m : Numbered) (time : ℕ) (cells : List Cell) → map (shown_of m cells) (outputs m.plan m.marks) ≡ view (circuit_of m) (state_in (seen_as m time cells))
view-shown m time cells =
    sym (map-map (seen (circuit_of m) (state_by m 0 cells)) (λ (o : OutPlace). o.pos) (outputs m.plan m.marks))
    ∙ ap (λ (s : State Pos). view (circuit_of m) s) (sym (state-seen m time cells))

-- ---- how outputs are shown

seen_none : (role : Option Component) (reads : Pos → Readings) (p : Pos) (cell : Cell) → role ≡ None → seen_at role reads p cell ≡ 0
seen_none None reads p cell e = refl
seen_none (Some component) reads p cell e = absurd (cc)

seen_wire : (role : Option Component) (reads : Pos → Readings) (p : Pos) (cell : Cell) → role ≡ Some WirePart → seen_at role reads p cell ≡ (reads p).back
seen_wire role reads p cell e = ap (λ (r : Option Component). seen_at r reads p cell) e

blank_role : (role : Option Component) (n : ℕ) → Blank ≡ outlet_of role n → role ≡ None
blank_role None n e = refl
blank_role (Some WirePart) n e = absurd (cc)
blank_role (Some _) n e = absurd (cc)

-- where an outlet is blank nothing is shown
pub blank_shows : (m : Numbered) → IsNumbered m → (cells : List Cell) (p : Pos) → Blank ≡ outlet_at m p → seen (circuit_of m) (state_by m 0 cells) p ≡ 0
blank_shows m w cells p e = seen_none (role_at m.plan m.marks p) ((circuit_of m).readings (given_by m cells)) p (held m cells nothing p) role
  where
    role : role_at m.plan m.marks p ≡ None
    role = elim (number_cases m p) [
      | inl none ↦ role_none m w p none
      | inr n ↦ blank_role (role_at m.plan m.marks p) n.0 (e ∙ ap (outlet_in (role_at m.plan m.marks p)) n.1)
    ]

level_parts : (role : Option Component) (number : Option ℕ) (n : ℕ) → Level n ≡ outlet_in role number → (role ≡ Some WirePart) × (number ≡ Some n)
level_parts role None n e = absurd (cc)
level_parts None (Some k) n e = absurd (cc)
level_parts (Some WirePart) (Some k) n e = (refl, cc)
level_parts (Some _) (Some k) n e = absurd (cc)

value_parts : (role : Option Component) (number : Option ℕ) (n : ℕ) → Value n ≡ outlet_in role number →
    ((reads : Pos → Readings) (p : Pos) (cell : Cell) → seen_at role reads p cell ≡ cell.value) × (number ≡ Some n)
value_parts role None n e = absurd (cc)
value_parts None (Some k) n e = absurd (cc)
value_parts (Some WirePart) (Some k) n e = absurd (cc)
value_parts (Some _) (Some k) n e = (λ reads p cell. refl, cc)

module _ (m : Numbered) (w : IsNumbered m) (p : Pos) (n : ℕ) where
  pub level_there : Level n ≡ outlet_at m p → (n < length m.spots) × (spot m n ≡ p)
  level_there e = spot-there m w p n (level_parts (role_at m.plan m.marks p) (number_at m p) n e).1

  pub value_there : Value n ≡ outlet_at m p → (n < length m.spots) × (spot m n ≡ p)
  value_there e = spot-there m w p n (value_parts (role_at m.plan m.marks p) (number_at m p) n e).1

  -- a wire shows its level
  pub level_shows : (cells : List Cell) (xs : List ℕ) → AreWithin m cells → AreLevels m cells xs → Level n ≡ outlet_at m p → slice_index xs n ≡ seen (circuit_of m) (state_by m 0 cells) p
  level_shows cells xs within right e =
      let is = level_parts (role_at m.plan m.marks p) (number_at m p) n e in
      sym (held-there m xs 0 p n is.1)
      ∙ wire_back m xs p is.0
      ∙ ap (λ (reads : Pos → Readings). (reads p).back) (reads-world m w cells xs within right)
      ∙ sym (seen_wire (role_at m.plan m.marks p) ((circuit_of m).readings (given_by m cells)) p (held m cells nothing p) is.0)

  -- any other thing shows its value
  pub value_shows : (cells : List Cell) → Value n ≡ outlet_at m p → (cell_of cells n).value ≡ seen (circuit_of m) (state_by m 0 cells) p
  value_shows cells e =
      let is = value_parts (role_at m.plan m.marks p) (number_at m p) n e in
      ap (λ (c : Cell). c.value) (sym (held-there m cells nothing p n is.1))
      ∙ sym (is.0 ((circuit_of m).readings (given_by m cells)) p (held m cells nothing p))

abbrev pub no_output : OutPlace
no_output = record { pos = origin; kind = Lamp }

pub outlet_of_output : (m : Numbered) (outlets : List Outlet) (i : ℕ) (outlet : Outlet) → outlets ≡ outlets_of m → i < length outlets → outlet ≡ get_or outlets i Blank →
    outlet ≡ outlet_at m (get_or (outputs m.plan m.marks) i no_output).pos
outlet_of_output m outlets i outlet is inside there =
    let short : i < length (outputs m.plan m.marks) = omega (arith, ap (λ (os : List Outlet). length os) is, length-map (outputs m.plan m.marks) (outlet_under m)) in
    there ∙ ap (λ (os : List Outlet). get_or os i Blank) is ∙ get_or-map (outlet_under m) (outputs m.plan m.marks) i no_output Blank short

-- ---- what a screen shows

module _ (m : Numbered) (w : IsNumbered m) (p : Pos) (cells : List Cell) (xs : List ℕ) (within : AreWithin m cells) (right : AreLevels m cells xs) where
  pub face-seen : (o : Outlet) → o ≡ outlet_at m p → face xs cells o ≡ seen (circuit_of m) (state_by m 0 cells) p
  face-seen Blank e = sym (blank_shows m w cells p e)
  face-seen (Level n) e = level_shows m w p n cells xs within right e
  face-seen (Value n) e = value_shows m w p n cells e

pub screen-view : (m : Numbered) → IsNumbered m → (cells : List Cell) (xs : List ℕ) (s : Screened) → AreWithin m cells → AreLevels m cells xs → s.outlets ≡ outlets_of m → length s.shown ≡ length s.outlets → AreFaced xs cells s →
    s.shown ≡ map (shown_of m cells) (outputs m.plan m.marks)
screen-view m w cells xs s within right is whole faced =
    ext_get_or 0 s.shown (map (shown_of m cells) (outputs m.plan m.marks)) (whole ∙ long ∙ sym (length-map (outputs m.plan m.marks) (shown_of m cells))) one
  where
    long : length s.outlets ≡ length (outputs m.plan m.marks)
    long = ap (λ (os : List Outlet). length os) is ∙ length-map (outputs m.plan m.marks) (outlet_under m)

    one : (i : ℕ) → i < length s.shown → get_or s.shown i 0 ≡ get_or (map (shown_of m cells) (outputs m.plan m.marks)) i 0
    one i inside =
        let short : i < length (outputs m.plan m.marks) = omega (arith, whole, long) in
        faced.each i
        ∙ face-seen m w (get_or (outputs m.plan m.marks) i no_output).pos cells xs within right (nth_outlet s.outlets i) (outlet_of_output m s.outlets i (nth_outlet s.outlets i) is (omega (arith, whole)) refl)
        ∙ sym (get_or-map (shown_of m cells) (outputs m.plan m.marks) i no_output 0 short)
