-- The part of a number is that of its spot, and what a comparator reads is told by its part.
use Rattle.std.proofs.Common.{◌≡◌, ℕ, ◌<◌, List, length, refl, ◌∙◌, ap}
use Rattle.std.proofs.lemmas.List.{get_or-map, length-map}
use Rattle.block_table.specs.declared.Block.{Block}
use Rattle.block_table.specs.declared.Block.TheVariants.{Comparator}
use Rattle.circuit.specs.declared.Pos.{Pos}
use Rattle.build.specs.Plan.{Plan}
use Rattle.power_rules.specs.Power.{or_direct, or_far}
use Rattle.wiring.specs.Parts.{Part, part_at, no_part, part_in, input_strength, far_strength}
use Rattle.wiring.specs.Reads.{back_with}
use Rattle.wiring.specs.Things.{Numbered, spot, origin}
use Rattle.wiring.specs.Wired.{Wired, IsWired}

pub part_there : (m : Numbered) (t : Wired) → IsWired m t → (n : ℕ) → n < length m.spots → part_in t.parts n ≡ part_at m.plan m.marks (spot m n)
part_there m t wired n inside = ap (λ (parts : List Part). part_in parts n) wired.parts ∙ get_or-map (part_at m.plan m.marks) m.spots n origin no_part inside

pub parts_whole : (m : Numbered) (t : Wired) → IsWired m t → length t.parts ≡ length m.spots
parts_whole m t wired = ap (λ (parts : List Part). length parts) wired.parts ∙ length-map m.spots (part_at m.plan m.marks)

pub strengths : (b : Plan) (p : Pos) (k : Block) (power : ℕ) → or_direct (input_strength b p k) (or_far (far_strength b p k) power) ≡ back_with b p k power
strengths b p (Comparator facing subtract) power = refl
strengths b p _ power = refl
