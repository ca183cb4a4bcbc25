-- The taps of readers: their links are those of the definition, and their wires are wires.
use Rattle.std.proofs.Common.{◌≡◌, List, [], ◌∷◌, refl, inl, inr}
use Rattle.std.specs.Prelude.{All, is_some}
use Rattle.std.proofs.lemmas.Bool.{cases_Bool}
use Rattle.std.proofs.lemmas.List.Elements.{All-nil, All-cons}
use Rattle.block_table.specs.declared.Block.{Block}
use Rattle.block_table.specs.declared.Block.TheVariants.{Wire, Torch, WallTorch, Repeater, Comparator, Lamp, Trapdoor, Note}
use Rattle.circuit.specs.declared.Pos.{Pos}
use Rattle.circuit.specs.Circuit.{Among}
use Rattle.build.specs.Plan.{Plan, block_at}
use Rattle.build.specs.Roles.{direct_at}
use Rattle.wiring.specs.declared.Tap.{Tap}
use Rattle.wiring.specs.declared.Tap.TheVariants.{Direct, Wired}
use Rattle.input_search.specs.Links.{through, back_links_of, side_links_of}
use Rattle.input_search.specs.WireTaps.{IsWireTap}
use Rattle.wiring.specs.Readers.{reader_taps, reader_side_taps}
use Rattle.wiring.specs.Reads.{IsTap}
use Rattle.wiring.proofs.ReadLaws.{reader_backs-is_tap, reader_sides-is_tap}

pub back_through : (b : Plan) (p : Pos) (k : Block) → through b (reader_taps b p k) ≡ back_links_of b p k
back_through b p (Torch lit) = refl
back_through b p (WallTorch facing lit) = refl
back_through b p (Lamp lit) = refl
back_through b p (Trapdoor facing top powered) = refl
back_through b p (Note powered) = refl
back_through b p (Repeater delay facing powered) = refl
back_through b p (Comparator facing subtract) = elim (cases_Bool (is_some (direct_at b p facing))) [ inl e ↦ rw e refl | inr e ↦ rw e refl ]
back_through b p (Wire north east south west power) = refl
back_through b p _ = refl

pub side_through : (b : Plan) (p : Pos) (k : Block) → through b (reader_side_taps b p k) ≡ side_links_of b p k
side_through b p (Repeater delay facing powered) = refl
side_through b p (Comparator facing subtract) = refl
side_through b p _ = refl

all_among : {X : Type 0} (P : X → Type 0) (xs : List X) → ((x : X) → Among xs x → P x) → All P xs
all_among P [] h = All-nil P
all_among P (x ∷ xs) h = All-cons P x xs (h x (inl refl)) (all_among P xs (λ y k. h y (inr k)))

is_wired : (b : Plan) (tap : Tap) → IsTap b tap → IsWireTap b tap
is_wired b (Direct p) h = tt
is_wired b (Wired w) h = h

pub readers_wired : (b : Plan) (p : Pos) → All (IsWireTap b) (reader_taps b p (block_at b p))
readers_wired b p = all_among (IsWireTap b) (reader_taps b p (block_at b p)) (λ tap h. is_wired b tap (reader_backs-is_tap b p tap h))

pub reader_sides_wired : (b : Plan) (p : Pos) (k : Block) → All (IsWireTap b) (reader_side_taps b p k)
reader_sides_wired b p k = all_among (IsWireTap b) (reader_side_taps b p k) (λ tap h. is_wired b tap (reader_sides-is_tap b p k tap h))
