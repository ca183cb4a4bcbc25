use Rattle.std.proofs.Common.{ℕ, suc, [], ◌∷◌, subst, arith, rules, add-one}
use Rattle.nbt.specs.Spelling.{MayHold}
use Rattle.nbt.specs.Reading.{StopsInPayload}
use Rattle.nbt.proofs.Fronts.{IsBytes, bytes-back}
use Rattle.nbt.proofs.Stops.{list-type, list-empty, list-numbers, list-items}
use Rattle.nbt.proofs.pieces.cut_list.Goals as goal

pub returns-in_err-element-clause-err : goal.returns-in_err-element-clause-err
returns-in_err-element-clause-err c =
    let stops : StopsInPayload c.args.depth 9 c.args.bytes.now c.in_err-element.field-0.0 =
    list-type c.args.depth _ c.args.bytes.now c.in_err-element.field-0.0 c.requires (add-one c.args.depth) c.in_err-element.ensures.err in
    search rules

pub returns-in_err-tree-in-0-clause-err : goal.returns-in_err-tree-in-0-clause-err
returns-in_err-tree-in-0-clause-err c =
    let depth = c.args.depth in
    let hold : MayHold (suc depth) c.in_ok-element.element = subst (λ (d : ℕ). MayHold d c.in_ok-element.element) (add-one depth) c.in_ok-element.ensures.allowed in
    let stops : StopsInPayload depth 9 c.args.bytes.now c.in_err-tree-in-0.field-0.0 =
    list-empty depth c.in_ok-element.element c.args.bytes.now c.in_ok-element.rest.now c.in_ok-element.ensures.known hold c.in_ok-element.ensures.ok
    c.in_err-tree-in-0.field-0.0 c.in-0.is c.in_err-tree-in-0.ensures.err in
    search rules

pub returns-in_err-tree-in-1-to-6-clause-err : goal.returns-in_err-tree-in-1-to-6-clause-err
returns-in_err-tree-in-1-to-6-clause-err c =
    let depth = c.args.depth in
    let hold : MayHold (suc depth) c.in_ok-element.element = subst (λ (d : ℕ). MayHold d c.in_ok-element.element) (add-one depth) c.in_ok-element.ensures.allowed in
    let all : IsBytes c.args.bytes.now = λ i. omega (arith, c.type_inv.bytes i) in
    let fits : IsBytes c.in_ok-element.rest.now = bytes-back (c.in_ok-element.element ∷ []) c.in_ok-element.rest.now (subst IsBytes c.in_ok-element.ensures.ok all) in
    let stops : StopsInPayload depth 9 c.args.bytes.now c.in_err-tree-in-1-to-6.field-0.0 =
    list-numbers depth c.in_ok-element.element c.args.bytes.now c.in_ok-element.rest.now c.in_ok-element.ensures.known hold c.in_ok-element.ensures.ok
    c.in_err-tree-in-1-to-6.field-0.0 fits c.requires (omega arith) (omega arith) c.in_err-tree-in-1-to-6.ensures.err in
    search rules

pub returns-in_err-left-in_default-clause-err : goal.returns-in_err-left-in_default-clause-err
returns-in_err-left-in_default-clause-err c =
    let depth = c.args.depth in
    let hold : MayHold (suc depth) c.in_ok-element.element = subst (λ (d : ℕ). MayHold d c.in_ok-element.element) (add-one depth) c.in_ok-element.ensures.allowed in
    let stops : StopsInPayload depth 9 c.args.bytes.now c.in_err-left-in_default.field-0.0 =
    list-items depth c.in_ok-element.element c.args.bytes.now c.in_ok-element.rest.now c.in_ok-element.ensures.known hold c.in_ok-element.ensures.ok
    c.in_err-left-in_default.field-0.0 (omega arith) c.in_err-left-in_default.ensures.err in
    search rules
