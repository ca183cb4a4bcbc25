-- What gives power and is no wire: a wire lets none, so no shape is asked for.
use Rattle.std.proofs.Common.{◌≡◌, Bool, true, false, List, [], ◌∷◌, ◌++◌, Some, None, refl, sym, ◌∙◌, ap}
use Rattle.std.specs.Prelude.{◌||◌, if◌then◌else◌}
use Rattle.std.specs.List.{flat_map}
use Rattle.std.specs.Option.{option_to_list}
use Rattle.std.proofs.lemmas.List.Concat.{flat_map-append}
use Rattle.block_table.specs.declared.Block.{Block}
use Rattle.block_table.specs.declared.Block.TheVariants.{Wire}
use Rattle.block_table.specs.declared.Side.{Side}
use Rattle.circuit.specs.declared.Pos.{Pos}
use Rattle.build.specs.Plan.{Plan, block_at}
use Rattle.wire_shape.specs.Shape.{is_wire}
use Rattle.wiring.specs.Taps.{Direct, Wired, lets_weak, lets_strong, wire_gives, when, strong_taps, weak_taps}
use Rattle.wiring.specs.Reads.{direct_of}

no_direct : (test : Bool) (q : Pos) → flat_map direct_of (when test (Wired q)) ≡ []
no_direct true q = refl
no_direct false q = refl

one_direct : (test : Bool) (q : Pos) → flat_map direct_of (when test (Direct q)) ≡ option_to_list (if test then Some q else None)
one_direct true q = refl
one_direct false q = refl

-- whatever a wire at q would give
strong_of : (k : Block) (gives : Bool) (q : Pos) (side : Side) →
    flat_map direct_of (if is_wire k then when gives (Wired q) else when (lets_strong k side) (Direct q)) ≡ option_to_list (if lets_strong k side then Some q else None)
strong_of (Wire n e s w power) gives q side = no_direct gives q
strong_of k gives q side = one_direct (lets_strong k side) q

weak_of : (k : Block) (gives : Bool) (q : Pos) (side : Side) →
    flat_map direct_of (if is_wire k then when gives (Wired q) else when (lets_weak k side) (Direct q)) ≡ option_to_list (if lets_weak k side then Some q else None)
weak_of (Wire n e s w power) gives q side = no_direct gives q
weak_of k gives q side = one_direct (lets_weak k side) q

pub strong_sources : (b : Plan) (q : Pos) (side : Side) → flat_map direct_of (strong_taps b q side) ≡ option_to_list (if lets_strong (block_at b q) side then Some q else None)
strong_sources b q side = strong_of (block_at b q) (wire_gives b q side) q side

pub weak_sources : (b : Plan) (q : Pos) (side : Side) → flat_map direct_of (weak_taps b false q side) ≡ option_to_list (if lets_weak (block_at b q) side then Some q else None)
weak_sources b q side = weak_of (block_at b q) (false || wire_gives b q side) q side

-- what joined lists bring is what each brings, joined
pub brought_joined : {X Y Z : Type 0} (f : Y → List Z) (g : X → List Y) (xs : List X) → flat_map (λ x. flat_map f (g x)) xs ≡ flat_map f (flat_map g xs)
brought_joined f g [] = refl
brought_joined f g (x ∷ xs) = ap (λ zs. flat_map f (g x) ++ zs) (brought_joined f g xs) ∙ sym (flat_map-append f (g x) (flat_map g xs))
