-- What the start has and every event keeps, each moment of a run has. So all is right at each.
use Rattle.std.proofs.Common.{Bool, true, false, map, arith, ◌≤◌, ℕ, List, [], ◌∷◌, ◌++◌, refl, sym, subst}
use Rattle.circuit.specs.declared.Pos.{Pos}
use Rattle.circuit.specs.declared.Act.{Act}
use Rattle.circuit.specs.declared.Step.{Step}
use Rattle.circuit.specs.Bounds.{Bounded}
use Rattle.circuit.specs.Circuit.{Circuit, State, Each, put, fired_in, fire, fire_all, with_value, later}
use Rattle.circuit.specs.Shows.{Run, Ended, Clicked, Ticked, Plays}
use Rattle.circuit.proofs.Bounded.{bounded_is_invariant, outs_le}
use Rattle.circuit.proofs.Keys.{each_as}
use Rattle.circuit.proofs.Matches.{IsInvariant}
use Rattle.wire_net.specs.Net.{greatest}
use Rattle.block_table.specs.declared.Block.{Block}
use Rattle.block_table.specs.declared.Block.TheVariants.{Wire, Repeater, Comparator, RedstoneBlock}
use Rattle.block_table.specs.declared.Side.{Side}
use Rattle.wire_shape.specs.Shape.{across}
use Rattle.build.specs.Place.{beside}
use Rattle.build.specs.Plan.{Plan, IsWhole, entry, block_at}
use Rattle.power_rules.specs.Power.{full, only, turned, turned_at, lock_power, lateral, lateral_at, lateral_power}
use Rattle.power_rules.specs.Readings.{readings_of, readings_at}
use Rattle.power_rules.specs.Bounded.{wire_cells-bounded, levels-le, world_bounded}
use Rattle.power_rules.specs.Moments.{after_each, moments, given_in, IsRightIn}
use Rattle.power_rules.specs.RightWires.{AreRight, wire_powers, levels}
use Rattle.power_rules.specs.WirePowers.{wires_right, wires_unique}
use Rattle.power_rules.specs.World.{world_circuit}
use Rattle.power_rules.proofs.Joining.{test_of_places}

each_joined : {A : Type 0} (P : A → Type 0) (xs ys : List A) → Each P xs → Each P ys → Each P (xs ++ ys)
each_joined P [] ys a b = b
each_joined P (x ∷ xs) ys a b = (a.0, each_joined P xs ys a.1 b)

kept_by_fire : {K : Type 0} {C : Circuit K} {I : State K → Type 0} → IsInvariant C I → (key : K) (s : State K) → I s → I (fire C s key)
kept_by_fire {C} keeps key s h = keeps.attends (put C s key (fired_in C s key)) (keeps.fires s key h)

kept_by_fires : {K : Type 0} {C : Circuit K} {I : State K → Type 0} → IsInvariant C I → (keys : List K) (s : State K) → I s → I (fire_all C s keys)
kept_by_fires keeps [] s h = h
kept_by_fires {C} keeps (key ∷ keys) s h = kept_by_fires keeps keys (fire C s key) (kept_by_fire keeps key s h)

kept_after_each : {K : Type 0} {C : Circuit K} {I : State K → Type 0} → IsInvariant C I → (keys : List K) (s : State K) → I s → Each I (after_each C s keys)
kept_after_each keeps [] s h = tt
kept_after_each {C} keeps (key ∷ keys) s h = (kept_by_fire keeps key s h, kept_after_each keeps keys (fire C s key) (kept_by_fire keeps key s h))

kept_at_moments : {K : Type 0} {C : Circuit K} {I : State K → Type 0} → IsInvariant C I →
    {s last : State K} {steps : List Step} {order : List (List K)} {views : List (List ℕ)} → (run : Run C s steps order views last) → I s → Each I (moments run)
kept_at_moments keeps Ended h = (h, tt)
kept_at_moments {C} {I} keeps {s} (Clicked c run) h = (
  h,
  kept_at_moments keeps run
      (subst I (sym c.after) (keeps.attends (put C s c.key (with_value (s.cells c.key) c.value)) (keeps.clicks s c.key c.component _ c.value h c.there c.takes))),
)
kept_at_moments {C} {I} keeps {s} (Ticked {fires} tick run) h =
    let before : I (later s) = keeps.passes s h in (
      h,
      (
        before,
        each_joined I (after_each C (later s) fires) (moments run) (kept_after_each keeps fires (later s) before)
            (kept_at_moments keeps run (subst I (sym tick.after) (kept_by_fires keeps fires (later s) before))),
      ),
    )

-- ---- what is read at the sides

full-le : (n : ℕ) → full n ≤ 15
full-le n = grind arith

only-le : (t : Bool) (n : ℕ) → n ≤ 15 → only t n ≤ 15
only-le true n h = h
only-le false n h = omega arith

turned-le : (block : Block) (level : ℕ) (side : Side) → level ≤ 15 → turned block level side ≤ 15
turned-le (Repeater delay facing powered) level side h = only-le _ (full level) (full-le level)
turned-le (Comparator facing subtract) level side h = only-le _ level h
turned-le _ level side h = omega arith

lateral-le : (block : Block) (level : ℕ) (side : Side) → level ≤ 15 → lateral block level side ≤ 15
lateral-le (Wire north east south west power) level side h = h
lateral-le RedstoneBlock level side h = omega arith
lateral-le (Repeater delay facing powered) level side h = only-le _ (full level) (full-le level)
lateral-le (Comparator facing subtract) level side h = only-le _ level h
lateral-le _ level side h = omega arith

greatest-le : (f : Side → ℕ) → ((side : Side) → f side ≤ 15) → (over : List Side) → greatest (map f over) ≤ 15
greatest-le f h [] = omega arith
greatest-le f h (side ∷ over) = omega (arith, h side, greatest-le f h over)

side-le : (b : Plan) (level : Pos → ℕ) → ((q : Pos) → level q ≤ 15) → (p : Pos) (block : Block) → (readings_of b level p block).side ≤ 15
unfolding lock_power lateral_power
side-le b level h p (Repeater delay facing powered) = greatest-le (turned_at b level p) (λ side. turned-le (block_at b (beside side p)) (level (beside side p)) side (h (beside side p))) (across facing)
side-le b level h p (Comparator facing subtract) = greatest-le (lateral_at b level p) (λ side. lateral-le (block_at b (beside side p)) (level (beside side p)) side (h (beside side p))) (across facing)
side-le b level h p _ = omega arith

side_at-le : (b : Plan) (level : Pos → ℕ) → ((q : Pos) → level q ≤ 15) → (p : Pos) → (readings_at b level p).side ≤ 15
unfolding readings_at
side_at-le b level h p = side-le b level h p (block_at b p)

-- ---- each moment

right_where_bounded : (b : Plan) → IsWhole b → (marks : List Pos) (s : State Pos) → Bounded (world_circuit b marks) s → IsRightIn b marks s
right_where_bounded b whole marks s bounded = record {
  power = power;
  right = right;
  one = λ other r p wire. wires_unique b given other power r right p wire;
  reads = λ p. refl;
  small = levels-le b given small;
  read_small = λ p. ((world_bounded b whole marks).back given small p, side_at-le b (levels b given (wire_powers b given)) (levels-le b given small) p);
  values = bounded;
}
  where
    given : Pos → ℕ
    given = given_in b marks s

    small : (p : Pos) → given p ≤ 15
    small = outs_le (world_circuit b marks) (world_bounded b whole marks) s bounded

    power : Pos → ℕ
    power = entry b (wire_powers b given) 0

    right : AreRight b given power
    right = wires_right b given (wire_cells-bounded b given small)

pub moments_right : (b : Plan) → IsWhole b → (marks : List Pos) (acts : List Act) (order : List (List Pos)) (views : List (List ℕ)) (last : State Pos) →
    (plays : Plays (world_circuit b marks) acts order views last) → Each (IsRightIn b marks) (moments plays.run)
moments_right b whole marks acts order views last plays =
    let keeps : IsInvariant (world_circuit b marks) (Bounded (world_circuit b marks)) = bounded_is_invariant (world_circuit b marks) test_of_places (world_bounded b whole marks) in
    each_as (Bounded (world_circuit b marks)) (IsRightIn b marks) (right_where_bounded b whole marks) (moments plays.run)
    (kept_at_moments keeps plays.run (keeps.attends (record { time = 0; cells = (world_circuit b marks).begin }) keeps.begins))
