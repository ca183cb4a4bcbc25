-- What the links of a place bring is what the rules of power read there.
use Rattle.std.proofs.Common.{◌≡◌, ℕ, ◌-◌, Bool, true, false, true≢false, List, [], ◌∷◌, map, refl, sym, ◌∙◌, ap, subst, arith, inl, inr, Option, Some, None}
use Rattle.std.specs.Prelude.{is_some, if◌then◌else◌}
use Rattle.std.specs.List.{flat_map}
use Rattle.wire_net.specs.Net.{greatest}
use Rattle.block_table.specs.declared.Side.{Side}
use Rattle.block_table.specs.declared.Side.TheVariants.{Down}
use Rattle.block_table.specs.declared.Block.{Block}
use Rattle.block_table.specs.declared.Block.TheVariants.{Wire, Torch, WallTorch, Repeater, Comparator, Lamp, Trapdoor, Note}
use Rattle.block_table.specs.Facts.{opposite}
use Rattle.circuit.specs.declared.Pos.{Pos}
use Rattle.circuit.specs.Circuit.{Among}
use Rattle.build.specs.Place.{sides}
use Rattle.build.specs.Plan.{Plan, block_at}
use Rattle.build.specs.Roles.{direct_at, far_at}
use Rattle.wire_shape.specs.Shape.{across, is_wire}
use Rattle.power_rules.specs.Power.{read, read_around, input, measured, or_direct, or_far, lock_power, lateral_power, lateral_at, turned_at}
use Rattle.power_rules.specs.Readings.{readings_of}
use Rattle.power_rules.specs.RightWires.{AreRight, level_with}
use Rattle.graph.specs.Readings.{direct_back, far_back, back_of}
use Rattle.graph.specs.RawNodes.{kind_of, unless_direct}
use Rattle.wiring.specs.declared.Tap.{Tap}
use Rattle.wiring.specs.declared.Tap.TheVariants.{Direct, Wired}
use Rattle.wiring.specs.Taps.{back_taps, side_taps}
use Rattle.input_search.specs.Links.{From, tap_links, through, back_links_of, side_links_of}
use Rattle.wiring.proofs.Lists.{From_one, among-flat_map, greatest-flat_map}
use Rattle.wiring.specs.Reads.{given_of, tap_value, is_source, IsTap}
use Rattle.wiring.proofs.TapLaws.{read-taps, input-taps, lock-taps, lateral-taps, back-is_tap, side-is_tap}
use Rattle.input_search.proofs.Distances.{brought, wire_links-power}

source-dry : (k : Block) → is_source k ≡ true → is_wire k ≡ false
source-dry (Wire n e s w power) h = absurd (true≢false (sym h))
source-dry _ h = refl

-- a comparator's own strengths, over plain values
own_strengths : (direct far : Option ℕ) (power : ℕ) → direct_back direct (far_back (unless_direct direct far) (if is_some direct then 0 else power)) ≡ or_direct direct (or_far far power)
own_strengths (Some strength) far power = refl
own_strengths None (Some strength) power = refl
own_strengths None None power = refl

module _ (b : Plan) (given power : Pos → ℕ) (right : AreRight b given power) where
  -- what the node of a place gives
  abbrev node_out : Pos → ℕ
  node_out p = given_of (block_at b p) (given p)

  abbrev level : Pos → ℕ
  level = level_with b given power

  tap-value : (tap : Tap) → IsTap b tap → brought node_out (tap_links b tap) ≡ tap_value b level tap
  tap-value (Direct p) t = rw (source-dry (block_at b p) t) (omega arith)
  tap-value (Wired p) t = rw t (wire_links-power b given power right p t)

  through-value : (taps : List Tap) → ((tap : Tap) → Among taps tap → IsTap b tap) → brought node_out (through b taps) ≡ greatest (map (tap_value b level) taps)
  through-value taps h =
      greatest-flat_map (λ (l : From). node_out l.place - l.weight) (tap_links b) (tap_value b level) taps (λ tap i. tap-value tap (h tap i))

  read-links : (p : Pos) (side : Side) → brought node_out (through b (back_taps b false p side)) ≡ read b level p side
  read-links p side = through-value (back_taps b false p side) (back-is_tap b false p side) ∙ read-taps b level p side

  input-links : (p : Pos) (side : Side) → brought node_out (through b (back_taps b true p side)) ≡ input b level p side
  input-links p side = through-value (back_taps b true p side) (back-is_tap b true p side) ∙ input-taps b level p side

  around-links : (p : Pos) → brought node_out (through b (flat_map (back_taps b false p) sides)) ≡ read_around b level p
  unfolding read_around
  around-links p =
      through-value (flat_map (back_taps b false p) sides) is_tap
      ∙ greatest-flat_map (tap_value b level) (back_taps b false p) (read b level p) sides (λ s _. read-taps b level p s)
    where
      is_tap : (tap : Tap) → Among (flat_map (back_taps b false p) sides) tap → IsTap b tap
      is_tap tap h =
          let r : From_one (back_taps b false p) sides tap = among-flat_map (back_taps b false p) sides tap h in
          back-is_tap b false p r.it tap r.gives

  sides-links : (c : Bool) (p : Pos) (ss : List Side) (f : Side → ℕ) → ((s : Side) → greatest (map (tap_value b level) (side_taps b c p s)) ≡ f s) →
      brought node_out (through b (flat_map (side_taps b c p) ss)) ≡ greatest (map f ss)
  sides-links c p ss f e =
      through-value (flat_map (side_taps b c p) ss) is_tap
      ∙ greatest-flat_map (tap_value b level) (side_taps b c p) f ss (λ s _. e s)
    where
      is_tap : (tap : Tap) → Among (flat_map (side_taps b c p) ss) tap → IsTap b tap
      is_tap tap h =
          let r : From_one (side_taps b c p) ss tap = among-flat_map (side_taps b c p) ss tap h in
          side-is_tap b c p r.it tap r.gives

  unless : (direct : Option ℕ) (links : List From) (n : ℕ) → brought node_out links ≡ n → brought node_out (if is_some direct then [] else links) ≡ (if is_some direct then 0 else n)
  unless None links n h = h
  unless (Some strength) links n h = refl

  comparator : (p : Pos) (facing : Side) (subtract : Bool) →
      back_of (kind_of b p (Comparator facing subtract)) (brought node_out (back_links_of b p (Comparator facing subtract))) ≡ measured b level p facing
  unfolding measured
  comparator p facing subtract =
      ap (λ (n : ℕ). direct_back (direct_at b p facing) (far_back (unless_direct (direct_at b p facing) (far_at b p facing)) n))
      (unless (direct_at b p facing) (through b (back_taps b true p facing)) (input b level p facing) (input-links p facing))
      ∙ own_strengths (direct_at b p facing) (far_at b p facing) (input b level p facing)

  pub back-links : (p : Pos) (k : Block) → block_at b p ≡ k → back_of (kind_of b p k) (brought node_out (back_links_of b p k)) ≡ (readings_of b level p k).back
  back-links p (Torch lit) e = read-links p Down
  back-links p (WallTorch facing lit) e = read-links p (opposite facing)
  back-links p (Lamp lit) e = around-links p
  back-links p (Trapdoor facing top powered) e = around-links p
  back-links p (Note powered) e = around-links p
  back-links p (Repeater delay facing powered) e = input-links p facing
  back-links p (Comparator facing subtract) e = comparator p facing subtract
  back-links p (Wire n e s w power) h =
      through-value (Wired p ∷ []) is_tap ∙ omega arith
    where
      is_tap : (tap : Tap) → Among (Wired p ∷ []) tap → IsTap b tap
      is_tap tap (inl e) = subst (λ (t : Tap). IsTap b t) (sym e) (rw h refl)
      is_tap tap (inr k) = absurd k
  back-links p _ e = refl

  pub side-links : (p : Pos) (k : Block) → brought node_out (side_links_of b p k) ≡ (readings_of b level p k).side
  unfolding lock_power lateral_power
  side-links p (Repeater delay facing powered) = sides-links false p (across facing) (turned_at b level p) (lock-taps b level p)
  side-links p (Comparator facing subtract) = sides-links true p (across facing) (lateral_at b level p) (lateral-taps b level p)
  side-links p _ = refl
