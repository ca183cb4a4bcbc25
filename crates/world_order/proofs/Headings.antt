-- Lines of a header, each with one LF at its end.
use Rattle.std.proofs.Common.{◌≡◌, ℕ, suc, ◌<◌, ◌≤◌, ◌^◌, List, [], ◌∷◌, ◌++◌, length, map, Option, Some, None, refl, sym, ◌∙◌, ap, subst, arith, decimal}
use Rattle.std.specs.Prelude.{codes, is_some}
use Rattle.std.specs.List.{flat_map, filter_map, cons_option}
use Rattle.circuit.specs.declared.Pos.{Pos}
use Rattle.circuit.specs.Circuit.{Each}
use Rattle.block_table.specs.declared.Block.{Block}
use Rattle.block_table.specs.declared.Block.TheVariants.{Air}
use Rattle.build.specs.declared.OutKind.{OutKind}
use Rattle.build.specs.declared.OutKind.TheVariants.{Lamp, Trapdoor, Note, Wire}
use Rattle.build.specs.declared.OutPlace.{OutPlace}
use Rattle.build.specs.Marks.{is_marked}
use Rattle.build.specs.Outputs.{outputs, out_kind, out_place, shown_at}
use Rattle.build.specs.Plan.{Plan, IsWhole, places, natural, block_at}
use Rattle.build.specs.Places.{IsInside, inside, in_box-not_outside, length-places}
use Rattle.report.specs.Header.{header, count_line, output_line, kind_text}
use Rattle.report.specs.PlaceText.{place_text}
use Rattle.rp_text.proofs.DecimalText.{HasPlainDigits-decimal}
use Rattle.world_order.specs.BadLine.{HasNumbers}
use Rattle.world_order.specs.Reading.{IsLine, IsLined, header_lines, joined}
use Rattle.world_order.proofs.Texts.{Lacks, digits_lack, number_lacks}

lacks_both : (c : ℕ) (xs ys : List ℕ) → Lacks c xs → Lacks c ys → Lacks c (xs ++ ys)
lacks_both c [] ys a b = b
lacks_both c (x ∷ xs) ys a b = (a.0, lacks_both c xs ys a.1 b)

-- ---- the lines

pub count_is_line : (n : ℕ) → n < 2 ^ 64 → IsLine (count_line n)
unfolding count_line
count_is_line n small = record {
  body = codes "outputs " ++ decimal n;
  unbroken = lacks_both 10 (codes "outputs ") (decimal n) (λ e. cc, (λ e. cc, (λ e. cc, (λ e. cc, (λ e. cc, (λ e. cc, (λ e. cc, (λ e. cc, tt)))))))) (digits_lack 10 refl (decimal n) (HasPlainDigits-decimal n small).digits);
  is = refl;
}

kind_lacks : (kind : OutKind) → Lacks 10 (kind_text kind)
kind_lacks Lamp = (λ e. cc, (λ e. cc, (λ e. cc, (λ e. cc, tt))))
kind_lacks Trapdoor = (λ e. cc, (λ e. cc, (λ e. cc, (λ e. cc, (λ e. cc, (λ e. cc, (λ e. cc, (λ e. cc, tt))))))))
kind_lacks Note = (λ e. cc, (λ e. cc, (λ e. cc, (λ e. cc, tt))))
kind_lacks Wire = (λ e. cc, (λ e. cc, (λ e. cc, (λ e. cc, tt))))

place_lacks : (p : Pos) → HasNumbers p → Lacks 10 (place_text p)
unfolding place_text
place_lacks p n = subst (λ (q : Pos). Lacks 10 (place_text q)) (sym n.is)
    (lacks_both 10 (((decimal n.x ++ codes " ") ++ decimal n.y) ++ codes " ") (decimal n.z)
    (lacks_both 10 ((decimal n.x ++ codes " ") ++ decimal n.y) (codes " ")
    (lacks_both 10 (decimal n.x ++ codes " ") (decimal n.y) (lacks_both 10 (decimal n.x) (codes " ") (number_lacks 10 n.x refl n.small_x) (λ e. cc, tt)) (number_lacks 10 n.y refl n.small_y)) (λ e. cc, tt))
    (number_lacks 10 n.z refl n.small_z))

output_is_line : (o : OutPlace) → HasNumbers o.pos → IsLine (output_line o)
unfolding output_line
output_is_line o n = record {
  body = (place_text o.pos ++ codes " ") ++ kind_text o.kind;
  unbroken = lacks_both 10 (place_text o.pos ++ codes " ") (kind_text o.kind) (lacks_both 10 (place_text o.pos) (codes " ") (place_lacks o.pos n) (λ e. cc, tt)) (kind_lacks o.kind);
  is = refl;
}

outputs_are_lines : (os : List OutPlace) → Each (λ (o : OutPlace). HasNumbers o.pos) os → Each IsLine (map output_line os)
outputs_are_lines [] e = tt
outputs_are_lines (o ∷ os) e = (output_is_line o e.0, outputs_are_lines os e.1)

-- ---- the outputs of a build stand in its box

shown_numbers : (b : Plan) → IsWhole b → (marks : List Pos) (p : Pos) (kind : OutKind) → out_kind (is_marked marks p) (block_at b p) ≡ Some kind → HasNumbers p
shown_numbers b w marks p kind there =
    let i : IsInside b p = inside b p (in_box-not_outside b b.blocks Air (λ (k : Block). is_some (out_kind (is_marked marks p) k)) p refl (ap is_some there)) in
    let x : natural p.x < b.width = i.x_below in
    let y : natural p.y < b.height = i.y_below in
    let z : natural p.z < b.depth = i.z_below in
    let wx : b.width < 65536 = w.narrow in
    let wy : b.height < 65536 = w.low in
    let wz : b.depth < 65536 = w.shallow in
    record {
      x = natural p.x;
      y = natural p.y;
      z = natural p.z;
      small_x = omega arith;
      small_y = omega arith;
      small_z = omega arith;
      is = λ j. record { x = sym i.x_is j; y = sym i.y_is j; z = sym i.z_is j };
    }

shown_one : (b : Plan) → IsWhole b → (marks : List Pos) (p : Pos) (k : Option OutKind) → out_kind (is_marked marks p) (block_at b p) ≡ k → (os : List OutPlace) →
    Each (λ (o : OutPlace). HasNumbers o.pos) os → Each (λ (o : OutPlace). HasNumbers o.pos) (cons_option (out_place p k) os)
shown_one b w marks p None e os h = h
shown_one b w marks p (Some kind) e os h = (shown_numbers b w marks p kind e, h)

all_shown : (b : Plan) → IsWhole b → (marks ps : List Pos) → Each (λ (o : OutPlace). HasNumbers o.pos) (filter_map (shown_at b marks) ps)
all_shown b w marks [] = tt
all_shown b w marks (p ∷ ps) = shown_one b w marks p (out_kind (is_marked marks p) (block_at b p)) refl (filter_map (shown_at b marks) ps) (all_shown b w marks ps)

one_more : (o : Option OutPlace) (os : List OutPlace) (n : ℕ) → length os ≤ n → length (cons_option o os) ≤ suc n
one_more None os n l = omega (arith, l)
one_more (Some o) os n l = omega (arith, l)

few_shown : (b : Plan) (marks ps : List Pos) → length (filter_map (shown_at b marks) ps) ≤ length ps
few_shown b marks [] = omega arith
few_shown b marks (p ∷ ps) = one_more (shown_at b marks p) (filter_map (shown_at b marks) ps) (length ps) (few_shown b marks ps)

pub few_outputs : (b : Plan) → IsWhole b → (marks : List Pos) → length (outputs b marks) ≤ 16777216
unfolding outputs
few_outputs b w marks = omega (arith, few_shown b marks (places b), length-places b, w.small)

outputs_numbers : (b : Plan) → IsWhole b → (marks : List Pos) → Each (λ (o : OutPlace). HasNumbers o.pos) (outputs b marks)
unfolding outputs
outputs_numbers b w marks = all_shown b w marks (places b)

pub header_is_lined : (b : Plan) → IsWhole b → (marks : List Pos) → Each IsLine (header_lines (outputs b marks))
header_is_lined b w marks =
    (count_is_line (length (outputs b marks)) (omega (arith, few_outputs b w marks)), outputs_are_lines (outputs b marks) (outputs_numbers b w marks))

outputs_joined : (os : List OutPlace) → flat_map output_line os ≡ joined (map output_line os)
outputs_joined [] = refl
outputs_joined (o ∷ os) = ap (λ x. output_line o ++ x) (outputs_joined os)

pub header_joined : (os : List OutPlace) → header os ≡ joined (header_lines os)
unfolding header
header_joined os = ap (λ x. count_line (length os) ++ x) (outputs_joined os)

pub header_lined : (os : List OutPlace) (text : List ℕ) → text ≡ header os → Each IsLine (header_lines os) → IsLined text
header_lined os text e h = record { lines = header_lines os; each = h; is = e ∙ header_joined os }
