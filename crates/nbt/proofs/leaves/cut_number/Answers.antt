use Rattle.std.proofs.Common.{◌≡◌, ℕ, List, ◌++◌, length, refl, ap, sym, ◌∙◌, subst, arith}
use Rattle.nbt.specs.Plain.{plain_tree, PlainTree, byte, short, int, long, float, double}
use Rattle.nbt.specs.Spelling.{number_size, type_of, CanStand, payload}
use Rattle.nbt.specs.Reading.{IsLeaf}
use Rattle.nbt.specs.declared.trees.Tree.{Tree}
use Rattle.nbt.proofs.Fronts.{IsBytes, bytes-front, are-bytes}
use Rattle.nbt.proofs.Elements.{number-cut, read-8, read-16, read-32, read-64, four_reads, eight_reads}
use Rattle.nbt.proofs.Views.{plain-Byte, plain-Short, plain-Int, plain-Long, plain-Float, plain-Double}
use Rattle.nbt.specs.declared.trees.Tree.TheVariants.{Byte, Short, Int, Long}
use Rattle.std.specs.Int.{w8, w16, w32, w64, cast_signed, cast_unsigned}
use Rattle.std.proofs.lemmas.Int.{to_z-of_z}
use Rattle.nbt.proofs.leaves.cut_number.Goals as goal
use Rattle.nbt.proofs.leaves.cut_number.Goals.{in-1, in-2, in-3, in-4, in-5, in_default}

pub returns-in_err-head-clause-none : goal.returns-in_err-head-clause-none
returns-in_err-head-clause-none c =
    let all : IsBytes c.args.bytes.now = λ i. omega (arith, c.type_inv.bytes i) in
    rw c.from_residual.ensures (number-cut c.args.kind c.args.bytes.now c.requires.least c.requires.greatest (omega (arith, c.number_size.ensures, c.in_err-head.ensures.none)) all)

pub returns-clause-some : goal.returns-clause-some
returns-clause-some c =
    let s = c.args.bytes.now in
    let head = c.in_ok-head.head.now in
    let rest = c.in_ok-head.rest.now in
    let all : IsBytes s = λ i. omega (arith, c.type_inv.bytes i) in
    let fits : IsBytes head = bytes-front head rest (subst IsBytes c.in_ok-head.ensures.some all) in
    let size = c.in_ok-head.ensures.count ∙ c.number_size.ensures in
    let made : (one : Tree) (p : PlainTree) → plain_tree one ≡ p → c.match-kind.tree ≡ one → type_of p ≡ c.args.kind → ((depth : ℕ) → CanStand depth p) → payload p ≡ head → IsLeaf c.args.kind s (plain_tree c.match-kind.tree) rest =
    λ one p same is t stands spelled. subst (λ (q : PlainTree). IsLeaf c.args.kind s q rest) (sym (ap plain_tree is ∙ same)) (t, stands, c.in_ok-head.ensures.some ∙ ap (λ (x : List ℕ). x ++ rest) (sym spelled)) in
    elim c.match-kind.branch [
      | in-1 w ↦
          let kind : c.args.kind ≡ 1 = w.in-1.is in
          let count : length head ≡ 1 = size ∙ ap number_size kind in
          let number = read-8 head w.cast_signed.result count fits w.cast_signed.ensures in
          let same = to_z-of_z w8 w.cast_signed.result number.0 in
          made (Byte (cast_signed w8 (cast_unsigned w8 w.cast_signed.result))) (byte w.cast_signed.result) (plain-Byte _ ∙ ap byte same) w.tree-is (sym kind) (λ depth. number.0) number.1
      | in-2 w ↦
          let kind : c.args.kind ≡ 2 = w.in-2.is in
          let count : length head ≡ 2 = size ∙ ap number_size kind in
          let number = read-16 head w.read_i16.result count fits w.read_i16.ensures in
          let same = to_z-of_z w16 w.read_i16.result number.0 in
          made (Short (cast_signed w16 (cast_unsigned w16 w.read_i16.result))) (short w.read_i16.result) (plain-Short _ ∙ ap short same) w.tree-is (sym kind) (λ depth. number.0) number.1
      | in-3 w ↦
          let kind : c.args.kind ≡ 3 = w.in-3.is in
          let count : length head ≡ 4 = size ∙ ap number_size kind in
          let number = read-32 head w.read_i32.result count fits w.read_i32.ensures in
          let same = to_z-of_z w32 w.read_i32.result number.0 in
          made (Int (cast_signed w32 (cast_unsigned w32 w.read_i32.result))) (int w.read_i32.result) (plain-Int _ ∙ ap int same) w.tree-is (sym kind) (λ depth. number.0) number.1
      | in-4 w ↦
          let kind : c.args.kind ≡ 4 = w.in-4.is in
          let count : length head ≡ 8 = size ∙ ap number_size kind in
          let number = read-64 head w.read_i64.result count fits w.read_i64.ensures in
          let same = to_z-of_z w64 w.read_i64.result number.0 in
          made (Long (cast_signed w64 (cast_unsigned w64 w.read_i64.result))) (long w.read_i64.result) (plain-Long _ ∙ ap long same) w.tree-is (sym kind) (λ depth. number.0) number.1
      | in-5 w ↦
          let kind : c.args.kind ≡ 5 = w.in-5.is in
          let count : length head ≡ 4 = size ∙ ap number_size kind in
          made _ (float head) (plain-Float _ ∙ ap float (four_reads head count)) w.tree-is (sym kind) (λ depth. (count, are-bytes head fits)) refl
      | in_default w ↦
          let low = c.requires.least in
          let high = c.requires.greatest in
          let kind : c.args.kind ≡ 6 = omega arith in
          let count : length head ≡ 8 = size ∙ ap number_size kind in
          made _ (double head) (plain-Double _ ∙ ap double (eight_reads head count)) w.tree-is (sym kind) (λ depth. (count, are-bytes head fits)) refl
    ]
