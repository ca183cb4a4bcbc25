use Rattle.nbt.specs.declared.refusals.NbtKind.TheVariants.{Truncated}
use Rattle.nbt.specs.declared.open.Stop.TheVariants.{At}
use Rattle.std.proofs.Common.{◌≡◌, ◌+◌, ℕ, suc, List, ◌∷◌, ◌++◌, length, refl, sym, ap, ◌∙◌, subst, arith, rules, reverse, map}
use Rattle.nbt.specs.Plain.{plain_field, plain_tree}
use Rattle.nbt.specs.Spelling.{short_text, IsText, MayHold}
use Rattle.nbt.specs.Faults.{begun_compound, begun_list, heading, MayCome}
use Rattle.nbt.specs.Reading.{stack_of, plain_open, IsNext, StopsAtNext}
use Rattle.nbt.specs.declared.open.Open.{Open}
use Rattle.nbt.proofs.Stacks.{stack-length, on-ok, on-err}
use Rattle.std.specs.Prelude.{IfOk, IfErr}
use Rattle.nbt.proofs.Stops.{field-type, field-name, next-stops, next-piece}
use Rattle.nbt.proofs.pieces.cut_next.Goals as goal

pub returns-in_err-kind-in-Compound-clause-err : goal.returns-in_err-kind-in-Compound-clause-err
returns-in_err-kind-in-Compound-clause-err c =
    let outer = c.args.outer.now.items in
    let depth : c.len-depth.result + 1 ≡ suc (length (map plain_open (reverse outer))) = omega (arith, c.len-depth.ensures, stack-length outer, c.args.outer.now.ok.0) in
    let stops : StopsAtNext (stack_of c.args.top.now outer) c.args.bytes.now c.in_err-kind-in-Compound.field-0.0 =
    subst (λ (top : Open). StopsAtNext (stack_of top outer) c.args.bytes.now c.in_err-kind-in-Compound.field-0.0) (sym c.in-Compound.is)
    (field-type c.in-Compound.name.items.items (map plain_field c.in-Compound.fields.items) (map plain_open (reverse outer)) c.args.bytes.now _ c.in_err-kind-in-Compound.field-0.0 depth c.in_err-kind-in-Compound.ensures.err) in
    search rules

pub returns-in_default-clause-err : goal.returns-in_default-clause-err
returns-in_default-clause-err c =
    let outer = c.args.outer.now.items in
    let depth : c.len-depth.result + 1 ≡ suc (length (map plain_open (reverse outer))) = omega (arith, c.len-depth.ensures, stack-length outer, c.args.outer.now.ok.0) in
    let kind = c.in_ok-kind-in-Compound.kind in
    let some = c.if-kind-eq0.false in
    let stops =
    subst (λ (top : Open). StopsAtNext (stack_of top outer) c.args.bytes.now (At 0 Truncated)) (sym c.in-Compound.is)
    (field-name c.in-Compound.name.items.items (map plain_field c.in-Compound.fields.items) (map plain_open (reverse outer)) c.args.bytes.now kind c.in_ok-kind-in-Compound.rest.now (omega arith)
    c.in_ok-kind-in-Compound.ensures.known (subst (λ (d : ℕ). MayHold d kind) depth c.in_ok-kind-in-Compound.ensures.allowed) c.in_ok-kind-in-Compound.ensures.ok c.in_default.ensures.none) in
    rw c.cut_short.ensures stops

pub returns-in_ok-name-in-Compound-clause-ok : goal.returns-in_ok-name-in-Compound-clause-ok
returns-in_ok-name-in-Compound-clause-ok c =
    let outer = c.args.outer.now.items in
    let stack = begun_compound c.in-Compound.name.items.items (map plain_field c.in-Compound.fields.items) ∷ map plain_open (reverse outer) in
    let depth : c.len-depth.result + 1 ≡ length stack = omega (arith, c.len-depth.ensures, stack-length outer, c.args.outer.now.ok.0) in
    let kind = c.in_ok-kind-in-Compound.kind in
    let name = c.in_ok-name-in-Compound.name.items.items in
    let some = c.if-kind-eq0.false in
    let called : name ≡ c.in-Some.name.now = c.in_ok-name-in-Compound.ensures in
    let short : IsText name = subst IsText (sym called) c.in-Some.ensures.text in
    let come : MayCome stack kind name = (omega arith, c.in_ok-kind-in-Compound.ensures.known, subst (λ (d : ℕ). MayHold d kind) depth c.in_ok-kind-in-Compound.ensures.allowed, short) in
    let spelled : c.args.bytes.now ≡ heading stack kind name ++ c.in-Some.rest.now =
    c.in_ok-kind-in-Compound.ensures.ok ∙ ap (λ (x : List ℕ). kind ∷ x) (c.in-Some.ensures.some ∙ ap (λ (x : List ℕ). short_text x ++ c.in-Some.rest.now) (sym called)) in
    subst (λ (top : Open). IfOk c.cut_payload.result (λ x. IsNext (stack_of top outer) c.args.bytes.now x.0 x.1.now)) (sym c.in-Compound.is)
    (on-ok c.cut_payload.result c.cut_payload.ensures.ok (λ x h. next-piece stack kind _ name c.args.bytes.now c.in-Some.rest.now x.0 x.1.now depth come spelled h))

pub returns-in_ok-name-in-Compound-clause-err : goal.returns-in_ok-name-in-Compound-clause-err
returns-in_ok-name-in-Compound-clause-err c =
    let outer = c.args.outer.now.items in
    let stack = begun_compound c.in-Compound.name.items.items (map plain_field c.in-Compound.fields.items) ∷ map plain_open (reverse outer) in
    let depth : c.len-depth.result + 1 ≡ length stack = omega (arith, c.len-depth.ensures, stack-length outer, c.args.outer.now.ok.0) in
    let kind = c.in_ok-kind-in-Compound.kind in
    let name = c.in_ok-name-in-Compound.name.items.items in
    let some = c.if-kind-eq0.false in
    let called : name ≡ c.in-Some.name.now = c.in_ok-name-in-Compound.ensures in
    let short : IsText name = subst IsText (sym called) c.in-Some.ensures.text in
    let come : MayCome stack kind name = (omega arith, c.in_ok-kind-in-Compound.ensures.known, subst (λ (d : ℕ). MayHold d kind) depth c.in_ok-kind-in-Compound.ensures.allowed, short) in
    let spelled : c.args.bytes.now ≡ heading stack kind name ++ c.in-Some.rest.now =
    c.in_ok-kind-in-Compound.ensures.ok ∙ ap (λ (x : List ℕ). kind ∷ x) (c.in-Some.ensures.some ∙ ap (λ (x : List ℕ). short_text x ++ c.in-Some.rest.now) (sym called)) in
    subst (λ (top : Open). IfErr c.cut_payload.result (StopsAtNext (stack_of top outer) c.args.bytes.now)) (sym c.in-Compound.is)
    (on-err c.cut_payload.result c.cut_payload.ensures.err (λ e h. next-stops stack kind name c.args.bytes.now c.in-Some.rest.now come spelled _ e depth h))

pub returns-else-left-eq0-clause-err : goal.returns-else-left-eq0-clause-err
returns-else-left-eq0-clause-err c =
    let outer = c.args.outer.now.items in
    let left = c.in-List.left in
    let element = c.in-List.element in
    let stack = begun_list c.in-List.name.items.items element left (map plain_tree c.in-List.items.items) ∷ map plain_open (reverse outer) in
    let depth : c.len-depth.result + 1 ≡ length stack = omega (arith, c.len-depth.ensures, stack-length outer, c.args.outer.now.ok.0) in
    let some = c.if-left-eq0.false in
    let come : MayCome stack element c.new.result.items = (refl, omega arith, c.new.ensures.items) in
    subst (λ (top : Open). IfErr c.cut_payload-in-List.result (StopsAtNext (stack_of top outer) c.args.bytes.now)) (sym c.in-List.is)
    (on-err c.cut_payload-in-List.result c.cut_payload-in-List.ensures.err (λ e h. next-stops stack element c.new.result.items c.args.bytes.now c.args.bytes.now come refl _ e depth h))
