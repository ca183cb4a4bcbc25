-- A build that stands for the last state of a run goes on with it.
use Rattle.std.proofs.Common.{◌≡◌, ℕ, Bool, true, false, List, [], ◌++◌, drop, map, Some, refl, sym, ◌∙◌, ap, inl, inr, if◌then◌else◌}
use Rattle.std.proofs.lemmas.Bool.{cases_Bool, false≢true}
use Rattle.block_table.specs.declared.Block.{Block}
use Rattle.block_table.specs.declared.Block.TheVariants.{Wire}
use Rattle.circuit.specs.declared.Pos.{Pos}
use Rattle.circuit.specs.declared.Act.{Act}
use Rattle.circuit.specs.declared.Cell.{Cell}
use Rattle.circuit.specs.declared.Component.{Component}
use Rattle.circuit.specs.Circuit.{State}
use Rattle.circuit.specs.Shows.{Plays}
use Rattle.circuit.specs.Keys.{IsTest}
use Rattle.circuit.specs.Bounds.{Bounded}
use Rattle.circuit.specs.Joining.{remaining, GoesOn}
use Rattle.circuit.proofs.Joining.{beginning_with, plays_joined}
use Rattle.circuit.proofs.WireCells.{is_wire, wire_key, wire_cells_unseen}
use Rattle.circuit.proofs.Bounded.{bounded_is_invariant}
use Rattle.circuit.proofs.Kept.{kept_by_plays}
use Rattle.build.specs.declared.OutPlace.{OutPlace}
use Rattle.build.specs.Place.{same_place}
use Rattle.build.specs.SamePlace.{place_itself, place_one}
use Rattle.build.specs.Plan.{Plan, IsWhole, places, entry, block_at}
use Rattle.build.specs.Marks.{is_marked}
use Rattle.build.specs.Roles.{role_of, role_at, stored_value, waiting_at, stored_of, stored}
use Rattle.power_rules.specs.World.{world_circuit, shows}
use Rattle.power_rules.specs.StandsFor.{StandsFor}
use Rattle.power_rules.specs.Bounded.{world_bounded}
use Rattle.power_rules.proofs.Alike.{AreAlike, world_readings-alike, role-alike, first-alike, base-alike, outputs-alike}
use Rattle.power_rules.proofs.Listed.{world_listed}

pub test_of_places : IsTest same_place
test_of_places = record { itself = place_itself; one = place_one }

stands_alike : {before after : Plan} {s : State Pos} → StandsFor before s after → AreAlike before after
stands_alike h = record { width = h.width; height = h.height; depth = h.depth; blocks = h.blocks; strengths = h.strengths }

-- ---- marks make components of wires alone

role_of-marked : (marked : Bool) (k : Block) → is_wire (role_of marked k) ≡ false → role_of marked k ≡ role_of false k
role_of-marked true (Wire n e s w power) h = absurd (false≢true (sym h))
role_of-marked false (Wire n e s w power) h = refl
role_of-marked marked _ h = refl

role-unmarked : (b : Plan) (marks : List Pos) (p : Pos) → is_wire (role_at b marks p) ≡ false → role_at b marks p ≡ role_at b [] p
unfolding role_at
role-unmarked b marks p h = role_of-marked (is_marked marks p) (block_at b p) h

stored-unmarked : (b : Plan) (marks : List Pos) (p : Pos) → is_wire (role_at b marks p) ≡ false → stored b marks p ≡ stored b [] p
unfolding stored
stored-unmarked b marks p h = ap (λ role. stored_of role (stored_value (block_at b p) (entry b b.levels 0 p)) (waiting_at b.pending p)) (role-unmarked b marks p h)

-- ---- what goes on

-- what the places of a build hold before the start, but for its wires: these hold what is left of the state
abbrev begun : Plan → List Pos → State Pos → Pos → Cell
begun b marks s p = if wire_key (world_circuit b marks) p then remaining s.time (s.cells p) else stored b marks p

begun-stored : (b : Plan) (marks : List Pos) (s : State Pos) (p : Pos) → is_wire (role_at b marks p) ≡ false → stored b marks p ≡ begun b marks s p
begun-stored b marks s p h = rw h refl

-- The world of a build that stands for a state goes on from it, once its wires hold what they held.
stands_goes_on : (before after : Plan) (marks : List Pos) (s : State Pos) → StandsFor before s after →
    GoesOn (world_circuit before marks) s (beginning_with (begun after marks s) (world_circuit after marks))
stands_goes_on before after marks s h = record {
  same = λ p q. refl;
  role = role-alike alike marks;
  first = first-alike alike;
  base = base-alike alike;
  place = λ p. refl;
  readings = world_readings-alike alike;
  shown = ap (map (λ (o : OutPlace). o.pos)) (outputs-alike alike marks);
  begin = begin;
}
  where
    alike : AreAlike before after
    alike = stands_alike h

    begin : (p : Pos) (component : Component) → role_at before marks p ≡ Some component → begun after marks s p ≡ remaining s.time (s.cells p)
    begin p component there = elim (cases_Bool (is_wire (role_at after marks p))) [
      | inl w ↦ rw w refl
      | inr w ↦
          (let plain : is_wire (role_at before marks p) ≡ false = ap is_wire (sym (role-alike alike marks p)) ∙ w in
          sym (begun-stored after marks s p w) ∙ stored-unmarked after marks p w ∙ h.cells p component (sym (role-unmarked before marks p plain) ∙ there))
    ]

pub shows_joined : (before after : Plan) (marks : List Pos) (acts : List Act) (order : List (List Pos)) (views : List (List ℕ)) (last : State Pos) →
    Plays (world_circuit before marks) acts order views last → StandsFor before last after →
    (more_acts : List Act) (more_views : List (List ℕ)) → shows after marks more_acts more_views → shows before marks (acts ++ more_acts) (views ++ drop 1 more_views)
shows_joined before after marks acts order views last plays stands more_acts more_views shown =
    let refines = wire_cells_unseen (world_circuit after marks) test_of_places (places after) (world_listed after marks) (begun after marks last) (begun-stored after marks last) in
    let more = refines.shows more_acts more_views shown.0 shown.1 in
    let joined = plays_joined (world_circuit before marks) (beginning_with (begun after marks last) (world_circuit after marks)) test_of_places acts order views last plays
    (stands_goes_on before after marks last stands) more_acts more.1.order more_views more.1.last more.1.plays in
    (_, record { order = order ++ more.1.order; last = joined.0; plays = joined.2; count = refl })

pub plays_bounded : (b : Plan) → IsWhole b → (marks : List Pos) (acts : List Act) (order : List (List Pos)) (views : List (List ℕ)) (last : State Pos) →
    Plays (world_circuit b marks) acts order views last → Bounded (world_circuit b marks) last
plays_bounded b whole marks acts order views last plays =
    kept_by_plays (bounded_is_invariant (world_circuit b marks) test_of_places (world_bounded b whole marks)) plays
