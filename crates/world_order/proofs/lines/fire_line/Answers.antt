use Rattle.std.proofs.Common.{◌≡◌, ℕ, List, ◌+◌, ◌∷◌, ◌++◌, ap, refl, sym, ◌∙◌, subst, drop, decimal, arith}
use Rattle.std.proofs.lemmas.List.{drop-drop}
use Rattle.world_order.specs.LineForms.{IsNumberBefore}
use Rattle.world_order.proofs.Numbers.{named_parts, number_is, fire_line_here, rest_from}
use Rattle.world_order.proofs.lines.fire_line.Goals as goal

pub returns-in_default-clause-none : goal.returns-in_default-clause-none
returns-in_default-clause-none c = λ none place names.
    c.number_before.ensures.none c.in_default.is names.numbers.x (decimal names.numbers.y ++ (32 ∷ (decimal names.numbers.z ++ (10 ∷ names.more)))) names.numbers.small_x
    (rest_from 5 c.args.rest.now ∙ named_parts c.args.rest.now c.requires place names)

pub returns-in_default-number_before-clause-none : goal.returns-in_default-number_before-clause-none
returns-in_default-number_before-clause-none c = λ none place names.
    let rest = c.args.rest.now in
    let one = subst (λ (t : List ℕ). IsNumberBefore 32 t c.in-Some.x c.in-Some.len_x) (rest_from 5 rest) c.in-Some.ensures.some in
    let behind = number_is 32 (drop 5 rest) c.in-Some.x c.in-Some.len_x refl one names.numbers.x (decimal names.numbers.y ++ (32 ∷ (decimal names.numbers.z ++ (10 ∷ names.more)))) names.numbers.small_x
    (named_parts rest c.requires place names) in
    c.number_before-2.ensures.none c.in_default-number_before.is names.numbers.y (decimal names.numbers.z ++ (10 ∷ names.more)) names.numbers.small_y
    (rest_from (5 + c.in-Some.len_x) rest ∙ sym (drop-drop c.in-Some.len_x 5 rest) ∙ behind)

pub returns-in_default-number_before-2-clause-none : goal.returns-in_default-number_before-2-clause-none
returns-in_default-number_before-2-clause-none c = λ none place names.
    let rest = c.args.rest.now in
    let lx = c.in-Some.len_x in
    let ly = c.in-Some-number_before.len_y in
    let one = subst (λ (t : List ℕ). IsNumberBefore 32 t c.in-Some.x lx) (rest_from 5 rest) c.in-Some.ensures.some in
    let two = subst (λ (t : List ℕ). IsNumberBefore 32 t c.in-Some-number_before.y ly) (rest_from (5 + lx) rest ∙ sym (drop-drop lx 5 rest)) c.in-Some-number_before.ensures.some in
    let behind = number_is 32 (drop 5 rest) c.in-Some.x lx refl one names.numbers.x (decimal names.numbers.y ++ (32 ∷ (decimal names.numbers.z ++ (10 ∷ names.more)))) names.numbers.small_x
    (named_parts rest c.requires place names) in
    let more = number_is 32 (drop lx (drop 5 rest)) c.in-Some-number_before.y ly refl two names.numbers.y (decimal names.numbers.z ++ (10 ∷ names.more)) names.numbers.small_y behind in
    let sum : 5 + (lx + ly) ≡ 5 + lx + ly = omega arith in
    c.number_before-3.ensures.none c.in_default-number_before-2.is names.numbers.z names.more names.numbers.small_z
    (rest_from (5 + lx + ly) rest ∙ sym (drop-drop ly lx (drop 5 rest) ∙ drop-drop (lx + ly) 5 rest ∙ ap (λ (n : ℕ). drop n rest) sum) ∙ more)

pub returns-clause-some : goal.returns-clause-some
returns-clause-some c =
    let rest = c.args.rest.now in
    let lx = c.in-Some.len_x in
    let ly = c.in-Some-number_before.len_y in
    let lz = c.in-Some-number_before-2.len_z in
    let one = subst (λ (t : List ℕ). IsNumberBefore 32 t c.in-Some.x lx) (rest_from 5 rest) c.in-Some.ensures.some in
    let two = subst (λ (t : List ℕ). IsNumberBefore 32 t c.in-Some-number_before.y ly) (rest_from (5 + lx) rest ∙ sym (drop-drop lx 5 rest)) c.in-Some-number_before.ensures.some in
    let sum : 5 + (lx + ly) ≡ 5 + lx + ly = omega arith in
    let three = subst (λ (t : List ℕ). IsNumberBefore 10 t c.in-Some-number_before-2.z lz)
    (rest_from (5 + lx + ly) rest ∙ sym (drop-drop ly lx (drop 5 rest) ∙ drop-drop (lx + ly) 5 rest ∙ ap (λ (n : ℕ). drop n rest) sum)) c.in-Some-number_before-2.ensures.some in
    fire_line_here rest (record { x = c.in-Some.x; y = c.in-Some-number_before.y; z = c.in-Some-number_before-2.z; len = 5 + lx + ly + lz }) lx ly c.requires one two lz three refl
