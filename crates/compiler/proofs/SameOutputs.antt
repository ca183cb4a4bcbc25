-- The outputs of circuits whose keys stand for each other, and of a build.
use Rattle.std.proofs.Common.{◌≡◌, Bool, true, false, List, [], ◌∷◌, map, Option, Some, None, refl, sym, ap, ap₂, ◌∙◌}
use Rattle.std.specs.List.{filter_map, cons_option}
use Rattle.block_table.specs.declared.Block.{Block}
use Rattle.block_table.specs.declared.Block.TheVariants.{Wire, Torch, WallTorch, Repeater, Comparator, Lever, Button, Plate, Lamp, Trapdoor, Weighted, Note}
use Rattle.circuit.specs.declared.Pos.{Pos}
use Rattle.circuit.specs.Circuit.{Circuit, State, Each}
use Rattle.circuit.specs.Matches.{Matches}
use Rattle.build.specs.declared.OutKind.{OutKind}
use Rattle.build.specs.declared.OutPlace.{OutPlace}
use Rattle.build.specs.Marks.{is_marked}
use Rattle.build.specs.Outputs.{out_kind, out_place, shown_at, outputs}
use Rattle.build.specs.Plan.{Plan, places, block_at}
use Rattle.build.specs.Roles.{role_of, role_at}
use Rattle.power_rules.specs.World.{world_circuit}
use Rattle.compiler.specs.CircuitOutputs.{out_of_role, output_under, circuit_outputs}

-- ---- lists

-- of keys and of those that they stand for
found_alike : {J K B : Type 0} (f : J → Option B) (h : K → Option B) (at : J → K) (keys : List J) → Each (λ k. f k ≡ h (at k)) keys → filter_map f keys ≡ filter_map h (map at keys)
found_alike f h at [] e = refl
found_alike f h at (k ∷ keys) e = ap₂ cons_option e.0 (found_alike f h at keys e.1)

each_so : {J : Type 0} (P Q : J → Type 0) → ((k : J) → P k → Q k) → (keys : List J) → Each P keys → Each Q keys
each_so P Q f [] e = tt
each_so P Q f (k ∷ keys) e = (f k e.0, each_so P Q f keys e.1)

-- A circuit that matches another one has its outputs.
pub matching_outputs : {K J : Type 0} {old : Circuit K} {new : Circuit J} (at : J → K) (Live : J → Type 0) (I : State K → Type 0) → Matches old new at Live I → circuit_outputs new ≡ circuit_outputs old
matching_outputs {old} {new} at Live I m =
    found_alike (output_under new) (output_under old) at new.shown
    (each_so Live (λ k. output_under new k ≡ output_under old (at k)) (λ k l. ap₂ (λ p role. out_place p (out_of_role role)) (m.place k l) (m.role k l)) new.shown m.shown_live)
    ∙ ap (filter_map (output_under old)) (sym m.shown)

-- ---- a build

role_out : (marked : Bool) (k : Block) → out_of_role (role_of marked k) ≡ out_kind marked k
role_out marked (Lever face facing powered) = refl
role_out marked (Button name face facing powered) = refl
role_out marked (Plate name powered) = refl
role_out marked (Weighted name power) = refl
role_out marked (Torch lit) = refl
role_out marked (WallTorch facing lit) = refl
role_out marked (Repeater delay facing powered) = refl
role_out marked (Comparator facing subtract) = refl
role_out marked (Lamp lit) = refl
role_out marked (Trapdoor facing top powered) = refl
role_out marked (Note powered) = refl
role_out true (Wire north east south west power) = refl
role_out false (Wire north east south west power) = refl
role_out marked _ = refl

world_output : (b : Plan) (marks : List Pos) (p : Pos) → output_under (world_circuit b marks) p ≡ shown_at b marks p
unfolding role_at
world_output b marks p = ap (out_place p) (role_out (is_marked marks p) (block_at b p))

-- an output stands at its place
stands_there : (p : Pos) (kind : Option OutKind) (one : OutPlace) → out_place p kind ≡ Some one → one.pos ≡ p
stands_there p None one e = absurd (cc)
stands_there p (Some kind) one e = let same : ◌≡◌ {A = OutPlace} (record { pos = p; kind = kind }) one = cc in ap (λ (o : OutPlace). o.pos) (sym same)

each_output : (b : Plan) (marks : List Pos) (ps : List Pos) → Each (λ (one : OutPlace). shown_at b marks one.pos ≡ Some one) (filter_map (shown_at b marks) ps)
each_output b marks [] = tt
each_output b marks (p ∷ ps) = by_output (shown_at b marks p) refl (each_output b marks ps)
  where
    by_output : (found : Option OutPlace) → shown_at b marks p ≡ found → Each (λ (one : OutPlace). shown_at b marks one.pos ≡ Some one) (filter_map (shown_at b marks) ps) →
        Each (λ (one : OutPlace). shown_at b marks one.pos ≡ Some one) (cons_option found (filter_map (shown_at b marks) ps))
    by_output None e rest = rest
    by_output (Some one) e rest = (ap (shown_at b marks) (stands_there p (out_kind (is_marked marks p) (block_at b p)) one e) ∙ e, rest)

found_again : (f : Pos → Option OutPlace) (outs : List OutPlace) → Each (λ (one : OutPlace). f one.pos ≡ Some one) outs → filter_map f (map (λ (one : OutPlace). one.pos) outs) ≡ outs
found_again f [] e = refl
found_again f (one ∷ outs) e = ap₂ cons_option e.0 (found_again f outs e.1)

-- The outputs of the world are those of its build.
pub world_outputs : (b : Plan) (marks : List Pos) → circuit_outputs (world_circuit b marks) ≡ outputs b marks
unfolding outputs
world_outputs b marks = found_again (output_under (world_circuit b marks)) (filter_map (shown_at b marks) (places b))
    (each_so (λ (one : OutPlace). shown_at b marks one.pos ≡ Some one) (λ (one : OutPlace). output_under (world_circuit b marks) one.pos ≡ Some one)
    (λ one e. world_output b marks one.pos ∙ e) (filter_map (shown_at b marks) (places b)) (each_output b marks (places b)))
