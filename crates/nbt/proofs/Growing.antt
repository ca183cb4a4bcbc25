-- What a step of the reader keeps: what is begun and the bytes behind it are the bytes of the file.
use Rattle.std.proofs.Common.{◌≡◌, ◌<◌, ◌≤◌, ◌+◌, ◌-◌, ◌^◌, ℕ, suc, List, [], ◌∷◌, ◌++◌, length, refl, sym, ap, ◌∙◌, subst, arith, length-append, append_assoc, map, reverse}
use Rattle.std.proofs.lemmas.List.{append-nil, reverse-append}
use Rattle.std.specs.Int.{w8, w16, w32, w64}
use Rattle.nbt.specs.Plain.{PlainTree, PlainField, PlainRoot, byte, short, int, long, float, double, bytes, text, ints, longs, empty_list, numbers, list, compound, trees_of, fields_of}
use Rattle.nbt.specs.Spelling.{unsigned, short_text, all_signed, type_of, count, payload, item_payloads, field_spellings, spelling, max_depth, IsText, CanStand, ItemsCanStand, FieldsCanStand, CanBeSpelled}
use Rattle.nbt.specs.Faults.{Begun, begun_compound, begun_list, begun_type, begun_name, begun_payload, heading, beginning, MayCome, IsRightSoFar, IsBegun}
use Rattle.nbt.specs.Reading.{plain_open, stack_of, grown, closed, HasRoom, IsEnd, IsCompound, IsRootOf, work}
use Rattle.nbt.specs.declared.open.Open.{Open}
use Rattle.nbt.proofs.Numbers.{length-unsigned, length-signed}

-- one more field, one more item
pub fields-push : (held : List PlainField) (name : List ℕ) (one : PlainTree)
    → field_spellings (fields_of (held ++ (name, one) ∷ [])) ≡ field_spellings (fields_of held) ++ (type_of one ∷ (short_text name ++ payload one))
fields-push [] name one = append-nil (type_of one ∷ (short_text name ++ payload one))
fields-push (f ∷ held) name one =
    ap (λ (x : List ℕ). (type_of f.1 ∷ (short_text f.0 ++ payload f.1)) ++ x) (fields-push held name one)
    ∙ sym (append_assoc (type_of f.1 ∷ (short_text f.0 ++ payload f.1)) (field_spellings (fields_of held)) (type_of one ∷ (short_text name ++ payload one)))

pub items-push : (held : List PlainTree) (one : PlainTree) → item_payloads (trees_of (held ++ one ∷ [])) ≡ item_payloads (trees_of held) ++ payload one
items-push [] one = append-nil (payload one)
items-push (t ∷ held) one = ap (λ (x : List ℕ). payload t ++ x) (items-push held one) ∙ sym (append_assoc (payload t) (item_payloads (trees_of held)) (payload one))

pub fields-stand : (d : ℕ) (held : List PlainField) (name : List ℕ) (one : PlainTree) → FieldsCanStand d (fields_of held) → IsText name → CanStand d one
    → FieldsCanStand d (fields_of (held ++ (name, one) ∷ []))
fields-stand d [] name one h low stands = (low, stands, tt)
fields-stand d (f ∷ held) name one h low stands = (h.0, h.1, fields-stand d held name one h.2 low stands)

pub items-stand : (d e : ℕ) (held : List PlainTree) (one : PlainTree) → ItemsCanStand d e (trees_of held) → type_of one ≡ e → CanStand d one
    → ItemsCanStand d e (trees_of (held ++ one ∷ []))
items-stand d e [] one h t stands = (t, stands, tt)
items-stand d e (x ∷ held) one h t stands = (h.0, h.1, items-stand d e held one h.2 t stands)

pub count-of : (held : List PlainTree) → count (trees_of held) ≡ length held
count-of [] = refl
count-of (t ∷ held) = ap suc (count-of held)

-- one more tree in the inmost
pub grown-begun : (b : Begun) (outer : List Begun) (name : List ℕ) (one : PlainTree) → IsBegun (b ∷ outer) → MayCome (b ∷ outer) (type_of one) name → CanStand (suc (length outer)) one
    → IsBegun (grown b name one ∷ outer)
grown-begun (begun_compound own held) outer name one h come stands =
    (h.0, h.1, h.2, fields-stand (suc (length outer)) held name one h.3 come.3 stands)
grown-begun (begun_list own element left held) outer name one h come stands =
    let room = come.1 in
    let few = h.3.3 in
    let most : length (held ++ one ∷ []) + (left - 1) < 2 ^ 31 = omega (arith, length-append held (one ∷ [])) in
    (h.0, h.1, h.2, (h.3.0, h.3.1, h.3.2, most, items-stand (suc (length outer)) element held one h.3.4 come.0 stands))

pub grown-payload : (b : Begun) (outer : List Begun) (name : List ℕ) (one : PlainTree) → MayCome (b ∷ outer) (type_of one) name
    → begun_payload (grown b name one) ≡ begun_payload b ++ (heading (b ∷ outer) (type_of one) name ++ payload one)
grown-payload (begun_compound own held) outer name one come = fields-push held name one
grown-payload (begun_list own element left held) outer name one come =
    let room = come.1 in
    let same : length (held ++ one ∷ []) + (left - 1) ≡ length held + left = omega (arith, length-append held (one ∷ [])) in
    ap (λ (n : ℕ). element ∷ (unsigned w32 n ++ item_payloads (trees_of (held ++ one ∷ [])))) same
    ∙ ap (λ (x : List ℕ). element ∷ (unsigned w32 (length held + left) ++ x)) (items-push held one)
    ∙ ap (λ (x : List ℕ). element ∷ x) (sym (append_assoc (unsigned w32 (length held + left)) (item_payloads (trees_of held)) (payload one)))

grown-type : (b : Begun) (name : List ℕ) (one : PlainTree) → (begun_type (grown b name one) ≡ begun_type b) × (begun_name (grown b name one) ≡ begun_name b)
grown-type (begun_compound own held) name one = (refl, refl)
grown-type (begun_list own element left held) name one = (refl, refl)

pub grown-beginning : (b : Begun) (outer : List Begun) (name : List ℕ) (one : PlainTree) → MayCome (b ∷ outer) (type_of one) name
    → beginning (grown b name one ∷ outer) ≡ beginning (b ∷ outer) ++ (heading (b ∷ outer) (type_of one) name ++ payload one)
grown-beginning b outer name one come =
    let same = grown-type b name one in
    let more : List ℕ = heading (b ∷ outer) (type_of one) name ++ payload one in
    ap (λ (t : ℕ). beginning outer ++ (heading outer t (begun_name (grown b name one)) ++ begun_payload (grown b name one))) same.0
    ∙ ap (λ (n : List ℕ). beginning outer ++ (heading outer (begun_type b) n ++ begun_payload (grown b name one))) same.1
    ∙ ap (λ (x : List ℕ). beginning outer ++ (heading outer (begun_type b) (begun_name b) ++ x)) (grown-payload b outer name one come)
    ∙ ap (λ (x : List ℕ). beginning outer ++ x) (sym (append_assoc (heading outer (begun_type b) (begun_name b)) (begun_payload b) more))
    ∙ sym (append_assoc (beginning outer) (heading outer (begun_type b) (begun_name b) ++ begun_payload b) more)

-- the inmost as a tree
pub closed-type : (b : Begun) → type_of (closed b) ≡ begun_type b
closed-type (begun_compound own held) = refl
closed-type (begun_list own element left held) = refl

pub closed-stands : (b : Begun) (outer : List Begun) (bs rest : List ℕ) → IsBegun (b ∷ outer) → IsEnd (b ∷ outer) bs rest → CanStand (length outer) (closed b)
closed-stands (begun_compound own held) outer bs rest h end = (h.1, h.3)
closed-stands (begun_list own element left held) outer bs rest h end =
    let few = h.3.3 in
    (h.1, h.3.0, h.3.1, h.3.2, omega (arith, count-of held), h.3.4)

pub closed-payload : (b : Begun) (outer : List Begun) (bs rest : List ℕ) → IsEnd (b ∷ outer) bs rest → begun_payload b ++ bs ≡ payload (closed b) ++ rest
closed-payload (begun_compound own held) outer bs rest end =
    ap (λ (x : List ℕ). field_spellings (fields_of held) ++ x) end ∙ sym (append_assoc (field_spellings (fields_of held)) (0 ∷ []) rest)
closed-payload (begun_list own element left held) outer bs rest end =
    let many : length held + left ≡ count (trees_of held) = omega (arith, count-of held, end.0) in
    ap (λ (x : List ℕ). (element ∷ (unsigned w32 (length held + left) ++ item_payloads (trees_of held))) ++ x) end.1
    ∙ ap (λ (n : ℕ). (element ∷ (unsigned w32 n ++ item_payloads (trees_of held))) ++ rest) many

-- the bytes of a list of which the last part is known
pub behind : (front head tail bs rest : List ℕ) → bs ≡ head ++ (tail ++ rest) → front ++ bs ≡ (front ++ (head ++ tail)) ++ rest
behind front head tail bs rest e =
    ap (λ (x : List ℕ). front ++ x) (e ∙ sym (append_assoc head tail rest)) ∙ sym (append_assoc front (head ++ tail) rest)

-- a tree comes next
pub tree-step : (b : Begun) (outer : List Begun) (name bs rest : List ℕ) (one : PlainTree) → MayCome (b ∷ outer) (type_of one) name
    → bs ≡ heading (b ∷ outer) (type_of one) name ++ (payload one ++ rest) → beginning (b ∷ outer) ++ bs ≡ beginning (grown b name one ∷ outer) ++ rest
tree-step b outer name bs rest one come e =
    behind (beginning (b ∷ outer)) (heading (b ∷ outer) (type_of one) name) (payload one) bs rest e
    ∙ ap (λ (x : List ℕ). x ++ rest) (sym (grown-beginning b outer name one come))

-- the inmost ends, and something holds it
pub closed-may-come : (b holder : Begun) (outer : List Begun) → IsBegun (b ∷ holder ∷ outer) → MayCome (holder ∷ outer) (type_of (closed b)) (begun_name b)
closed-may-come b holder outer h = subst (λ (t : ℕ). MayCome (holder ∷ outer) t (begun_name b)) (sym (closed-type b)) h.2

pub end-step : (b holder : Begun) (outer : List Begun) (bs rest : List ℕ) → IsBegun (b ∷ holder ∷ outer) → IsEnd (b ∷ holder ∷ outer) bs rest
    → beginning (b ∷ holder ∷ outer) ++ bs ≡ beginning (grown holder (begun_name b) (closed b) ∷ outer) ++ rest
end-step b holder outer bs rest h end =
    let under = holder ∷ outer in
    let head : List ℕ = heading under (begun_type b) (begun_name b) in
    let first : beginning (b ∷ under) ++ bs ≡ beginning under ++ (head ++ (payload (closed b) ++ rest)) =
    append_assoc (beginning under) (head ++ begun_payload b) bs ∙ ap (λ (x : List ℕ). beginning under ++ x) (append_assoc head (begun_payload b) bs ∙ ap (λ (x : List ℕ). head ++ x) (closed-payload b under bs rest end)) in
    first
    ∙ ap (λ (t : ℕ). beginning under ++ (heading under t (begun_name b) ++ (payload (closed b) ++ rest))) (sym (closed-type b))
    ∙ tree-step holder outer (begun_name b) (heading under (type_of (closed b)) (begun_name b) ++ (payload (closed b) ++ rest)) rest (closed b) (closed-may-come b holder outer h) refl

-- the root ends
pub root-step : (b : Begun) (bs rest : List ℕ) (root : PlainRoot) → IsBegun (b ∷ []) → IsEnd (b ∷ []) bs rest → IsRootOf b root
    → CanBeSpelled root × (beginning (b ∷ []) ++ bs ≡ spelling root ++ rest)
root-step (begun_list own element left held) bs rest root h end is = absurd is
root-step (begun_compound own held) bs rest root h end is =
    let made : PlainRoot = record { name = own; fields = fields_of held } in
    let spelled : beginning (begun_compound own held ∷ []) ++ bs ≡ spelling made ++ rest =
    ap (λ (x : List ℕ). 10 ∷ x) (append_assoc (short_text own) (field_spellings (fields_of held)) bs
    ∙ ap (λ (x : List ℕ). short_text own ++ x) (closed-payload (begun_compound own held) [] bs rest end)
    ∙ sym (append_assoc (short_text own) (payload (compound (fields_of held))) rest)) in
    subst (λ (r : PlainRoot). CanBeSpelled r × (beginning (begun_compound own held ∷ []) ++ bs ≡ spelling r ++ rest)) (sym is) ((h.2.1, h.3), spelled)

pub root-compound : (b : Begun) → IsBegun (b ∷ []) → IsCompound b
root-compound (begun_compound own held) h = tt
root-compound (begun_list own element left held) h = absurd (omega (arith, h.2.0))

-- a list that holds something has room for it
pub holder-room : (b holder : Begun) (outer : List Begun) → IsBegun (b ∷ holder ∷ outer) → HasRoom holder
holder-room b (begun_compound own held) outer h = tt
holder-room b (begun_list own element left held) outer h = h.2.1

pub next-room : (b : Begun) (outer : List Begun) (t : ℕ) (name : List ℕ) → MayCome (b ∷ outer) t name → HasRoom b
next-room (begun_compound own held) outer t name h = tt
next-room (begun_list own element left held) outer t name h = h.1

-- what is open, with one more
pub stack-push : (inner top : Open) (outer more : List Open) → more ≡ outer ++ top ∷ [] → stack_of inner more ≡ plain_open inner ∷ stack_of top outer
stack-push inner top outer more e = ap (λ (x : List Open). plain_open inner ∷ map plain_open x) (ap reverse e ∙ reverse-append outer (top ∷ []))

-- every payload has a byte
pub payload-some : (depth : ℕ) (one : PlainTree) → CanStand depth one → 1 ≤ length (payload one)
unfolding short_text
payload-some depth (byte z) h = omega (arith, length-signed w8 z)
payload-some depth (short z) h = omega (arith, length-signed w16 z)
payload-some depth (int z) h = omega (arith, length-signed w32 z)
payload-some depth (long z) h = omega (arith, length-signed w64 z)
payload-some depth (float raw) h = let four = h.0 in omega arith
payload-some depth (double raw) h = let eight = h.0 in omega arith
payload-some depth (bytes bs) h = omega (arith, length-append (unsigned w32 (length bs)) bs, length-unsigned w32 (length bs))
payload-some depth (text bs) h = omega (arith, length-append (unsigned w16 (length bs)) bs, length-unsigned w16 (length bs))
payload-some depth (ints zs) h = omega (arith, length-append (unsigned w32 (length zs)) (all_signed w32 zs), length-unsigned w32 (length zs))
payload-some depth (longs zs) h = omega (arith, length-append (unsigned w32 (length zs)) (all_signed w64 zs), length-unsigned w32 (length zs))
payload-some depth (empty_list z) h = omega arith
payload-some depth (numbers e raw) h = omega arith
payload-some depth (list e ts) h = omega arith
payload-some depth (compound fs) h = omega (arith, length-append (field_spellings fs) (0 ∷ []))

-- work gets less
pub work-tree : (b : Begun) (outer : List Begun) (name bs rest : List ℕ) (one : PlainTree) → CanStand (suc (length outer)) one
    → bs ≡ heading (b ∷ outer) (type_of one) name ++ (payload one ++ rest) → work (grown b name one ∷ outer) rest < work (b ∷ outer) bs
unfolding work
work-tree (begun_compound own held) outer name bs rest one stands e =
    let all = ap length e in
    omega (arith, ap length e, length-append (type_of one ∷ short_text name) (payload one ++ rest), length-append (payload one) rest)
work-tree (begun_list own element left held) outer name bs rest one stands e =
    omega (arith, ap length e, length-append (payload one) rest, payload-some (suc (length outer)) one stands)

pub work-open : (inner b : Begun) (outer : List Begun) (bs rest : List ℕ) → MayCome (b ∷ outer) (begun_type inner) (begun_name inner)
    → bs ≡ heading (b ∷ outer) (begun_type inner) (begun_name inner) ++ (begun_payload inner ++ rest) → work (inner ∷ b ∷ outer) rest < work (b ∷ outer) bs
unfolding work
work-open (begun_compound n h) (begun_compound own held) outer bs rest come e =
    omega (arith, ap length e, length-append (10 ∷ short_text n) (begun_payload (begun_compound n h) ++ rest), length-append (begun_payload (begun_compound n h)) rest)
work-open (begun_list n k l h) (begun_compound own held) outer bs rest come e =
    omega (arith, ap length e, length-append (9 ∷ short_text n) (begun_payload (begun_list n k l h) ++ rest), length-append (begun_payload (begun_list n k l h)) rest)
work-open (begun_compound n h) (begun_list own element left held) outer bs rest come e =
    omega (arith, ap length e, length-append (begun_payload (begun_compound n h)) rest)
work-open (begun_list n k l h) (begun_list own element left held) outer bs rest come e =
    omega (arith, ap length e, length-append (begun_payload (begun_list n k l h)) rest)

pub work-end : (b holder : Begun) (outer : List Begun) (name bs rest : List ℕ) (one : PlainTree) → IsEnd (b ∷ holder ∷ outer) bs rest
    → work (grown holder name one ∷ outer) rest < work (b ∷ holder ∷ outer) bs
unfolding work
work-end (begun_compound n h) (begun_compound own held) outer name bs rest one e = omega (arith, ap length e)
work-end (begun_compound n h) (begun_list own element left held) outer name bs rest one e = omega (arith, ap length e)
work-end (begun_list n k l h) (begun_compound own held) outer name bs rest one e = omega (arith, ap length e.1)
work-end (begun_list n k l h) (begun_list own element left held) outer name bs rest one e = omega (arith, ap length e.1)

-- From one state of the reader to the next: what is begun, the bytes of the file, and less work.
abbrev pub Moves : List Begun → List ℕ → List Begun → List ℕ → Type 0
Moves old bs new rest = IsBegun new × (beginning old ++ bs ≡ beginning new ++ rest) × (work new rest < work old bs)

pub moves-tree : (b : Begun) (outer new : List Begun) (top : Begun) (name bs rest : List ℕ) (one : PlainTree) → new ≡ top ∷ outer → top ≡ grown b name one → IsBegun (b ∷ outer)
    → MayCome (b ∷ outer) (type_of one) name × CanStand (suc (length outer)) one × (bs ≡ heading (b ∷ outer) (type_of one) name ++ (payload one ++ rest))
    → Moves (b ∷ outer) bs new rest
moves-tree b outer new top name bs rest one at is h next =
    subst (λ (s : List Begun). Moves (b ∷ outer) bs s rest) (sym (at ∙ ap (λ (t : Begun). t ∷ outer) is))
    (grown-begun b outer name one h next.0 next.1, tree-step b outer name bs rest one next.0 next.2, work-tree b outer name bs rest one next.1 next.2)

pub moves-open : (b inner : Begun) (outer new : List Begun) (bs rest : List ℕ) → new ≡ inner ∷ b ∷ outer → IsBegun (b ∷ outer)
    → MayCome (b ∷ outer) (begun_type inner) (begun_name inner) × IsRightSoFar (suc (suc (length outer))) inner × (suc (length outer) < max_depth)
    × (bs ≡ heading (b ∷ outer) (begun_type inner) (begun_name inner) ++ (begun_payload inner ++ rest))
    → Moves (b ∷ outer) bs new rest
moves-open b inner outer new bs rest at h next =
    subst (λ (s : List Begun). Moves (b ∷ outer) bs s rest) (sym at) (
      (h, next.2, next.0, next.1),
      behind (beginning (b ∷ outer)) (heading (b ∷ outer) (begun_type inner) (begun_name inner)) (begun_payload inner) bs rest next.3,
      work-open inner b outer bs rest next.0 next.3,
    )

pub moves-end : (b holder top : Begun) (outer old new : List Begun) (name bs rest : List ℕ) (one : PlainTree) → old ≡ b ∷ holder ∷ outer → new ≡ top ∷ outer → top ≡ grown holder name one
    → name ≡ begun_name b → one ≡ closed b → IsBegun old → IsEnd old bs rest → Moves old bs new rest
moves-end b holder top outer old new name bs rest one was at is n t h end =
    let begun : IsBegun (b ∷ holder ∷ outer) = subst IsBegun was h in
    let ends : IsEnd (b ∷ holder ∷ outer) bs rest = subst (λ (s : List Begun). IsEnd s bs rest) was end in
    let made : new ≡ grown holder (begun_name b) (closed b) ∷ outer =
    at ∙ ap (λ (x : Begun). x ∷ outer) (is ∙ ap (λ (x : List ℕ). grown holder x one) n ∙ ap (λ (x : PlainTree). grown holder (begun_name b) x) t) in
    let come = closed-may-come b holder outer begun in
    subst (λ (s : List Begun). Moves s bs new rest) (sym was)
    (subst (λ (s : List Begun). Moves (b ∷ holder ∷ outer) bs s rest) (sym made) (
      grown-begun holder outer (begun_name b) (closed b) begun.0 come (closed-stands b (holder ∷ outer) bs rest begun ends),
      end-step b holder outer bs rest begun ends,
      work-end b holder outer (begun_name b) bs rest (closed b) ends,
    ))
