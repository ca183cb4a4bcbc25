-- Bytes with a fault are no root's spelling.
use Rattle.std.proofs.Common.{◌≡◌, ◌<◌, ◌≤◌, ◌+◌, ◌/◌, ◌^◌, ℕ, zero, suc, ℤ, pos, negsuc, List, [], ◌∷◌, ◌++◌, length, refl, sym, ap, ◌∙◌, subst, arith, length-append, append_assoc, inl, inr}
use Rattle.std.specs.Prelude.{FitsSigned, ◌⊎◌, ◌≤ℤ◌}
use Rattle.std.specs.Int.{w32, w64, cast_unsigned}
use Rattle.std.proofs.lemmas.List.{append-nil}
use Rattle.std.proofs.lemmas.Int.{ints as signs}
use Rattle.nbt.specs.Plain.{PlainTree, PlainTrees, PlainFields, PlainRoot, PlainField, byte, short, int, long, float, double, bytes, text, ints, longs, empty_list, numbers, list, compound, no_trees, tree, no_fields, field, trees_of, fields_of}
use Rattle.nbt.specs.Spelling.{unsigned, short_text, all_signed, type_of, number_size, count, payload, item_payloads, field_spellings, spelling, max_depth, IsNest, MayHold, CanStand, ItemsCanStand, FieldsCanStand, CanBeSpelled}
use Rattle.nbt.specs.Faults.{Begun, begun_compound, begun_list, begun_type, begun_name, begun_payload, heading, beginning, MayCome, IsRightSoFar, IsBegun, Item, field_type, element_type, array_length, list_length, IsArray, IsInPayload, IsFieldType, Comes, IsWrong, IsWrongLength, IsLength, IsWrongAt, IsFirstFault}
use Rattle.nbt.specs.declared.refusals.NbtKind.{NbtKind}
use Rattle.nbt.specs.declared.refusals.NbtKind.TheVariants.{Truncated, BadType, BadLength, TooDeep, Trailing, RootNotCompound}
use Rattle.nbt.proofs.Numbers.{unsigned-same, signed-is, text-same, length-unsigned}
use Rattle.nbt.proofs.Unique.{type-range, tree-same, root-same, numbers-count, tail-same}

-- The rest of a root's spelling behind what is begun: the fields of the inmost that are still to come, or its items.
abbrev pub IsRest : List Begun → List ℕ → Type 0
IsRest [] rest = (r : PlainRoot) × CanBeSpelled r × (rest ≡ spelling r)
IsRest (begun_compound name held ∷ outer) rest = (fs : PlainFields) × (after : List ℕ) × FieldsCanStand (suc (length outer)) fs × (rest ≡ field_spellings fs ++ (0 ∷ after))
IsRest (begun_list name element left held ∷ outer) rest = (ts : PlainTrees) × (after : List ℕ) × (count ts ≡ left) × ItemsCanStand (suc (length outer)) element ts
    × (rest ≡ item_payloads ts ++ after)

abbrev IsNextTree : ℕ → ℕ → List ℕ → Type 0
IsNextTree depth t within = (one : PlainTree) × (after : List ℕ) × (type_of one ≡ t) × CanStand depth one × (within ≡ payload one ++ after)

-- behind a heading comes the payload of a tree
next-tree : (begun : List Begun) (t : ℕ) (name rest within : List ℕ) → IsRest begun rest → MayCome begun t name → rest ≡ heading begun t name ++ within
    → IsNextTree (length begun) t within
next-tree [] t name rest within h come e =
    let r = h.0 in
    let low : length r.name < 2 ^ 16 = h.1.0.0 in
    let both : short_text r.name ++ payload (compound r.fields) ≡ short_text name ++ within = (tail-same (sym h.2 ∙ e)).1 in
    let names = text-same r.name name (payload (compound r.fields)) within low come.1.0 both in
    let room : 0 < max_depth = omega arith in
    (compound r.fields, [], sym come.0, (room, h.1.1), sym names.1 ∙ sym (append-nil (payload (compound r.fields))))
next-tree (begun_compound own held ∷ outer) t name rest within h come e = at h.0 h.2 (sym h.3 ∙ e)
  where
    at : (fs : PlainFields) → FieldsCanStand (suc (length outer)) fs → field_spellings fs ++ (0 ∷ h.1) ≡ t ∷ (short_text name ++ within) → IsNextTree (suc (length outer)) t within
    at no_fields stands f = let heads = (tail-same f).0 in let low = come.0 in absurd (omega arith)
    at (field m one fs) stands f =
        let parts = tail-same f in
        let both : short_text m ++ (payload one ++ (field_spellings fs ++ (0 ∷ h.1))) ≡ short_text name ++ within =
        sym (append_assoc (short_text m ++ payload one) (field_spellings fs) (0 ∷ h.1) ∙ append_assoc (short_text m) (payload one) (field_spellings fs ++ (0 ∷ h.1))) ∙ parts.1 in
        let names = text-same m name _ within stands.0.0 come.3.0 both in
        (one, field_spellings fs ++ (0 ∷ h.1), parts.0, stands.1, sym names.1)
next-tree (begun_list own element left held ∷ outer) t name rest within h come e = at h.0 h.2 h.3 (sym e ∙ h.4)
  where
    at : (ts : PlainTrees) → count ts ≡ left → ItemsCanStand (suc (length outer)) element ts → within ≡ item_payloads ts ++ h.1 → IsNextTree (suc (length outer)) t within
    at no_trees n stands f = let room = come.1 in absurd (omega arith)
    at (tree one ts) n stands f = (one, item_payloads ts ++ h.1, stands.0 ∙ sym come.0, stands.1, f ∙ append_assoc (payload one) (item_payloads ts) h.1)

-- what is held so far is the front of what is held
peel-fields : (d d' : ℕ) (held : List PlainField) (fs : PlainFields) (rest after : List ℕ) → FieldsCanStand d (fields_of held) → FieldsCanStand d' fs
    → field_spellings (fields_of held) ++ rest ≡ field_spellings fs ++ (0 ∷ after)
    → (more : PlainFields) × FieldsCanStand d' more × (rest ≡ field_spellings more ++ (0 ∷ after))
peel-fields d d' [] fs rest after h stands e = (fs, stands, e)
peel-fields d d' (f ∷ held) no_fields rest after h stands e = let heads = (tail-same e).0 in let r = type-range f.1 in absurd (omega arith)
peel-fields d d' (f ∷ held) (field m one fs) rest after h stands e =
    let parts = tail-same e in
    let both : short_text f.0 ++ (payload f.1 ++ (field_spellings (fields_of held) ++ rest)) ≡ short_text m ++ (payload one ++ (field_spellings fs ++ (0 ∷ after))) =
    sym (append_assoc (short_text f.0 ++ payload f.1) (field_spellings (fields_of held)) rest ∙ append_assoc (short_text f.0) (payload f.1) (field_spellings (fields_of held) ++ rest))
    ∙ parts.1 ∙ (append_assoc (short_text m ++ payload one) (field_spellings fs) (0 ∷ after) ∙ append_assoc (short_text m) (payload one) (field_spellings fs ++ (0 ∷ after))) in
    let names = text-same f.0 m _ _ h.0.0 stands.0.0 both in
    let first = tree-same d d' f.1 one _ _ h.1 stands.1 parts.0 names.1 in
    peel-fields d d' held fs rest after h.2 stands.2 first.1

peel-items : (d d' k : ℕ) (held : List PlainTree) (ts : PlainTrees) (left : ℕ) (rest after : List ℕ) → ItemsCanStand d k (trees_of held) → ItemsCanStand d' k ts
    → length held + left ≡ count ts → item_payloads (trees_of held) ++ rest ≡ item_payloads ts ++ after
    → (more : PlainTrees) × (count more ≡ left) × ItemsCanStand d' k more × (rest ≡ item_payloads more ++ after)
peel-items d d' k [] ts left rest after h stands n e = (ts, omega arith, stands, e)
peel-items d d' k (x ∷ held) no_trees left rest after h stands n e = absurd (omega arith)
peel-items d d' k (x ∷ held) (tree one ts) left rest after h stands n e =
    let both : payload x ++ (item_payloads (trees_of held) ++ rest) ≡ payload one ++ (item_payloads ts ++ after) =
    sym (append_assoc (payload x) (item_payloads (trees_of held)) rest) ∙ e ∙ append_assoc (payload one) (item_payloads ts) after in
    let first = tree-same d d' x one _ _ h.1 stands.1 (h.0 ∙ sym stands.0) both in
    peel-items d d' k held ts left rest after h.2 stands.2 (omega arith) first.1

into-compound : (own : List ℕ) (held : List PlainField) (outer : List Begun) (rest : List ℕ) (one : PlainTree) (after : List ℕ) → IsRightSoFar (suc (length outer)) (begun_compound own held)
    → type_of one ≡ 10 → CanStand (length outer) one → field_spellings (fields_of held) ++ rest ≡ payload one ++ after → IsRest (begun_compound own held ∷ outer) rest
into-compound own held outer rest (compound fs) after h t stands e =
    let found = peel-fields (suc (length outer)) (suc (length outer)) held fs rest after h stands.1 (e ∙ append_assoc (field_spellings fs) (0 ∷ []) after) in
    (found.0, after, found.1, found.2)
into-compound own held outer rest (byte z) after h t stands e = absurd (omega arith)
into-compound own held outer rest (short z) after h t stands e = absurd (omega arith)
into-compound own held outer rest (int z) after h t stands e = absurd (omega arith)
into-compound own held outer rest (long z) after h t stands e = absurd (omega arith)
into-compound own held outer rest (float z) after h t stands e = absurd (omega arith)
into-compound own held outer rest (double z) after h t stands e = absurd (omega arith)
into-compound own held outer rest (bytes z) after h t stands e = absurd (omega arith)
into-compound own held outer rest (text z) after h t stands e = absurd (omega arith)
into-compound own held outer rest (ints z) after h t stands e = absurd (omega arith)
into-compound own held outer rest (longs z) after h t stands e = absurd (omega arith)
into-compound own held outer rest (empty_list z) after h t stands e = absurd (omega arith)
into-compound own held outer rest (numbers k z) after h t stands e = absurd (omega arith)
into-compound own held outer rest (list k z) after h t stands e = absurd (omega arith)

into-list : (own : List ℕ) (element left : ℕ) (held : List PlainTree) (outer : List Begun) (rest : List ℕ) (one : PlainTree) (after : List ℕ)
    → IsRightSoFar (suc (length outer)) (begun_list own element left held) → type_of one ≡ 9 → CanStand (length outer) one
    → begun_payload (begun_list own element left held) ++ rest ≡ payload one ++ after → IsRest (begun_list own element left held ∷ outer) rest
into-list own element left held outer rest (list k ts) after h t stands e =
    let parts = tail-same e in
    let both : unsigned w32 (length held + left) ++ (item_payloads (trees_of held) ++ rest) ≡ unsigned w32 (count ts) ++ (item_payloads ts ++ after) =
    sym (append_assoc (unsigned w32 (length held + left)) (item_payloads (trees_of held)) rest) ∙ parts.1 ∙ append_assoc (unsigned w32 (count ts)) (item_payloads ts) after in
    let few = h.3 in
    let low = stands.4 in
    let counts = unsigned-same w32 (length held + left) (count ts) (omega arith) (omega arith) _ _ both in
    let here = subst (λ (i : ℕ). ItemsCanStand (suc (length outer)) i ts) (sym parts.0) stands.5 in
    let found = peel-items (suc (length outer)) (suc (length outer)) element held ts left rest after h.4 here counts.0 counts.1 in
    (found.0, after, found.1, found.2, found.3)
into-list own element left held outer rest (empty_list z) after h t stands e = let heads = (tail-same e).0 in let low = h.0 in absurd (omega arith)
into-list own element left held outer rest (numbers k z) after h t stands e = let heads = (tail-same e).0 in let low = h.0 in let high = stands.2 in absurd (omega arith)
into-list own element left held outer rest (byte z) after h t stands e = absurd (omega arith)
into-list own element left held outer rest (short z) after h t stands e = absurd (omega arith)
into-list own element left held outer rest (int z) after h t stands e = absurd (omega arith)
into-list own element left held outer rest (long z) after h t stands e = absurd (omega arith)
into-list own element left held outer rest (float z) after h t stands e = absurd (omega arith)
into-list own element left held outer rest (double z) after h t stands e = absurd (omega arith)
into-list own element left held outer rest (bytes z) after h t stands e = absurd (omega arith)
into-list own element left held outer rest (text z) after h t stands e = absurd (omega arith)
into-list own element left held outer rest (ints z) after h t stands e = absurd (omega arith)
into-list own element left held outer rest (longs z) after h t stands e = absurd (omega arith)
into-list own element left held outer rest (compound z) after h t stands e = absurd (omega arith)

into : (b : Begun) (outer : List Begun) (rest : List ℕ) → IsRightSoFar (suc (length outer)) b → IsNextTree (length outer) (begun_type b) (begun_payload b ++ rest) → IsRest (b ∷ outer) rest
into (begun_compound own held) outer rest h next = into-compound own held outer rest next.0 next.1 h next.2 next.3 next.4
into (begun_list own element left held) outer rest h next = into-list own element left held outer rest next.0 next.1 h next.2 next.3 next.4

-- a root's spelling that starts with what is begun goes on as that asks
pub rest-of : (begun : List Begun) (rest s : List ℕ) (r : PlainRoot) → IsBegun begun → s ≡ beginning begun ++ rest → CanBeSpelled r → s ≡ spelling r → IsRest begun rest
rest-of [] rest s r h e can spelled = (r, can, sym e ∙ spelled)
rest-of (b ∷ outer) rest s r h e can spelled =
    let head : List ℕ = heading outer (begun_type b) (begun_name b) in
    let under = rest-of outer (head ++ (begun_payload b ++ rest)) s r h.0
    (e ∙ append_assoc (beginning outer) (head ++ begun_payload b) rest ∙ ap (λ (x : List ℕ). beginning outer ++ x) (append_assoc head (begun_payload b) rest)) can spelled in
    into b outer rest h.3 (next-tree outer (begun_type b) (begun_name b) _ (begun_payload b ++ rest) under h.2 refl)

-- An item that is right.
abbrev pub IsRightType : ℕ → List ℕ → Type 0
IsRightType depth s = (t : ℕ) × (more : List ℕ) × (s ≡ t ∷ more) × (t ≤ 12) × MayHold depth t

abbrev pub IsRight : Item → List ℕ → Type 0
IsRight (field_type depth) s = IsRightType depth s
IsRight (element_type depth) s = IsRightType depth s
IsRight array_length s = (n : ℕ) × (more : List ℕ) × (s ≡ unsigned w32 n ++ more) × (n < 2 ^ 32) × (IsWrongLength array_length n → ⊥)
IsRight (list_length element) s = (n : ℕ) × (more : List ℕ) × (s ≡ unsigned w32 n ++ more) × (n < 2 ^ 32) × (IsWrongLength (list_length element) n → ⊥)

low-type : (depth t : ℕ) → t < 9 → MayHold depth t
low-type depth t low nest = elim nest [ inl e ↦ absurd (omega arith) | inr e ↦ absurd (omega arith) ]

stands-held : (depth : ℕ) (one : PlainTree) → CanStand depth one → MayHold depth (type_of one)
stands-held depth (byte z) h nest = low-type depth 1 (omega arith) nest
stands-held depth (short z) h nest = low-type depth 2 (omega arith) nest
stands-held depth (int z) h nest = low-type depth 3 (omega arith) nest
stands-held depth (long z) h nest = low-type depth 4 (omega arith) nest
stands-held depth (float z) h nest = low-type depth 5 (omega arith) nest
stands-held depth (double z) h nest = low-type depth 6 (omega arith) nest
stands-held depth (bytes z) h nest = low-type depth 7 (omega arith) nest
stands-held depth (text z) h nest = low-type depth 8 (omega arith) nest
stands-held depth (ints z) h nest = elim nest [ inl e ↦ absurd (omega arith) | inr e ↦ absurd (omega arith) ]
stands-held depth (longs z) h nest = elim nest [ inl e ↦ absurd (omega arith) | inr e ↦ absurd (omega arith) ]
stands-held depth (empty_list z) h nest = h.0
stands-held depth (numbers k z) h nest = h.0
stands-held depth (list k z) h nest = h.0
stands-held depth (compound z) h nest = h.0

field-right : (depth : ℕ) (fs : PlainFields) (after s : List ℕ) → FieldsCanStand depth fs → s ≡ field_spellings fs ++ (0 ∷ after) → IsRightType depth s
field-right depth no_fields after s h e = (0, after, e, omega arith, low-type depth 0 (omega arith))
field-right depth (field m one fs) after s h e = (type_of one, _, e, (type-range one).1, stands-held depth one h.1)

-- the number in the length of an array
counted-right : (n : ℕ) (row after s : List ℕ) → n < 2 ^ 31 → s ≡ (unsigned w32 n ++ row) ++ after → IsRight array_length s
counted-right n row after s low e = (n, row ++ after, e ∙ append_assoc (unsigned w32 n) row after, omega arith, λ wrong. omega arith)

array-right : (depth : ℕ) (one : PlainTree) (after s : List ℕ) → IsArray (type_of one) → CanStand depth one → s ≡ payload one ++ after → IsRight array_length s
array-right depth (bytes bs) after s array h e = counted-right (length bs) bs after s h.0 e
array-right depth (ints zs) after s array h e = counted-right (length zs) (all_signed w32 zs) after s h.0 e
array-right depth (longs zs) after s array h e = counted-right (length zs) (all_signed w64 zs) after s h.0 e
array-right depth (byte z) after s array h e = elim array [ inl t ↦ absurd (omega arith) | inr u ↦ elim u [ inl t ↦ absurd (omega arith) | inr t ↦ absurd (omega arith) ] ]
array-right depth (short z) after s array h e = elim array [ inl t ↦ absurd (omega arith) | inr u ↦ elim u [ inl t ↦ absurd (omega arith) | inr t ↦ absurd (omega arith) ] ]
array-right depth (int z) after s array h e = elim array [ inl t ↦ absurd (omega arith) | inr u ↦ elim u [ inl t ↦ absurd (omega arith) | inr t ↦ absurd (omega arith) ] ]
array-right depth (long z) after s array h e = elim array [ inl t ↦ absurd (omega arith) | inr u ↦ elim u [ inl t ↦ absurd (omega arith) | inr t ↦ absurd (omega arith) ] ]
array-right depth (float z) after s array h e = elim array [ inl t ↦ absurd (omega arith) | inr u ↦ elim u [ inl t ↦ absurd (omega arith) | inr t ↦ absurd (omega arith) ] ]
array-right depth (double z) after s array h e = elim array [ inl t ↦ absurd (omega arith) | inr u ↦ elim u [ inl t ↦ absurd (omega arith) | inr t ↦ absurd (omega arith) ] ]
array-right depth (text z) after s array h e = elim array [ inl t ↦ absurd (omega arith) | inr u ↦ elim u [ inl t ↦ absurd (omega arith) | inr t ↦ absurd (omega arith) ] ]
array-right depth (empty_list z) after s array h e = elim array [ inl t ↦ absurd (omega arith) | inr u ↦ elim u [ inl t ↦ absurd (omega arith) | inr t ↦ absurd (omega arith) ] ]
array-right depth (numbers k z) after s array h e = elim array [ inl t ↦ absurd (omega arith) | inr u ↦ elim u [ inl t ↦ absurd (omega arith) | inr t ↦ absurd (omega arith) ] ]
array-right depth (list k z) after s array h e = elim array [ inl t ↦ absurd (omega arith) | inr u ↦ elim u [ inl t ↦ absurd (omega arith) | inr t ↦ absurd (omega arith) ] ]
array-right depth (compound z) after s array h e = elim array [ inl t ↦ absurd (omega arith) | inr u ↦ elim u [ inl t ↦ absurd (omega arith) | inr t ↦ absurd (omega arith) ] ]

-- a list's payload: its element type, and then its length
abbrev IsListFront : ℕ → List ℕ → Type 0
IsListFront depth s = (element : ℕ) × (n : ℕ) × (more : List ℕ) × (s ≡ element ∷ (unsigned w32 n ++ more)) × (element ≤ 12) × MayHold (suc depth) element × (n < 2 ^ 32)
    × (IsWrongLength (list_length element) n → ⊥)

right-count : (element n : ℕ) → 1 ≤ element → n < 2 ^ 31 → IsWrongLength (list_length element) n → ⊥
right-count zero n low few wrong = absurd (omega arith)
right-count (suc element) n low few wrong = omega arith

empty-count : (z : ℤ) → FitsSigned w32 z → z ≤ℤ pos 0 → (cast_unsigned w32 z < 2 ^ 32) × (IsWrongLength (list_length 0) (cast_unsigned w32 z) → ⊥)
empty-count (pos n) fits low = let none : n ≡ 0 = omega (arith, signs) in (omega arith, λ wrong. omega (arith, wrong.0))
empty-count (negsuc n) fits low = let f = fits.sfits in (omega arith, λ wrong. omega (arith, wrong.1))

list-front : (depth : ℕ) (one : PlainTree) (after s : List ℕ) → type_of one ≡ 9 → CanStand depth one → s ≡ payload one ++ after → IsListFront depth s
list-front depth (empty_list z) after s t h e =
    let number = empty-count z h.1 h.2 in
    (0, cast_unsigned w32 z, after, e ∙ ap (λ (x : List ℕ). 0 ∷ (x ++ after)) (signed-is w32 z), omega arith, low-type _ 0 (omega arith), number.0, number.1)
list-front depth (numbers k raw) after s t h e =
    let size : length raw / number_size k ≡ h.3 = numbers-count k h.3 raw h.4 in
    let few = h.5 in
    let high = h.2 in (
      k,
      length raw / number_size k,
      raw ++ after,
      e ∙ ap (λ (x : List ℕ). k ∷ x) (append_assoc (unsigned w32 (length raw / number_size k)) raw after),
      omega arith,
      low-type _ k (omega arith),
      omega arith,
      right-count k _ h.1 (omega arith),
    )
list-front depth (list k ts) after s t h e =
    let few = h.4 in (
      k,
      count ts,
      item_payloads ts ++ after,
      e ∙ ap (λ (x : List ℕ). k ∷ x) (append_assoc (unsigned w32 (count ts)) (item_payloads ts) after),
      h.2,
      h.3,
      omega arith,
      right-count k (count ts) (omega (arith, h.1)) few,
    )
list-front depth (byte z) after s t h e = absurd (omega arith)
list-front depth (short z) after s t h e = absurd (omega arith)
list-front depth (int z) after s t h e = absurd (omega arith)
list-front depth (long z) after s t h e = absurd (omega arith)
list-front depth (float z) after s t h e = absurd (omega arith)
list-front depth (double z) after s t h e = absurd (omega arith)
list-front depth (bytes z) after s t h e = absurd (omega arith)
list-front depth (text z) after s t h e = absurd (omega arith)
list-front depth (ints z) after s t h e = absurd (omega arith)
list-front depth (longs z) after s t h e = absurd (omega arith)
list-front depth (compound z) after s t h e = absurd (omega arith)

-- where a root's spelling goes on, each item is right
payload-right : (depth t : ℕ) (item : Item) (within s after : List ℕ) → IsInPayload depth t item within → after ≡ within ++ s → IsNextTree depth t after → IsRight item s
payload-right depth t (field_type d) within s after h e next = absurd h
payload-right depth t (element_type d) within s after h e next =
    let front = list-front depth next.0 next.1 after (next.2 ∙ h.0) next.3 next.4 in
    let here : s ≡ front.0 ∷ (unsigned w32 front.1 ++ front.2) = sym (e ∙ ap (λ (x : List ℕ). x ++ s) h.2) ∙ front.3 in
    (front.0, _, here, front.4, subst (λ (k : ℕ). MayHold k front.0) (sym h.1) front.5)
payload-right depth t array_length within s after h e next =
    array-right depth next.0 next.1 s (subst IsArray (sym next.2) h.0) next.3 (sym (e ∙ ap (λ (x : List ℕ). x ++ s) h.1) ∙ next.4)
payload-right depth t (list_length element) within s after h e next =
    let front = list-front depth next.0 next.1 after (next.2 ∙ h.0) next.3 next.4 in
    let parts = tail-same (sym (e ∙ ap (λ (x : List ℕ). x ++ s) h.3) ∙ front.3) in
    (front.1, front.2, parts.1, front.6, subst (λ (k : ℕ). IsWrongLength (list_length k) front.1 → ⊥) (sym parts.0) front.7)

field-item : (begun : List Begun) (item : Item) (s : List ℕ) → IsFieldType begun item → IsRest begun s → IsRight item s
field-item (begun_compound own held ∷ outer) (field_type d) s h rest = field-right d rest.0 rest.1 s (subst (λ (k : ℕ). FieldsCanStand k rest.0) (sym h) rest.2) rest.3
field-item (begun_compound own held ∷ outer) (element_type d) s h rest = absurd h
field-item (begun_compound own held ∷ outer) array_length s h rest = absurd h
field-item (begun_compound own held ∷ outer) (list_length k) s h rest = absurd h
field-item (begun_list own element left held ∷ outer) item s h rest = absurd h
field-item [] item s h rest = absurd h

pub comes-right : (begun : List Begun) (item : Item) (before s rest : List ℕ) → Comes begun item before → rest ≡ before ++ s → IsRest begun rest → IsRight item s
comes-right begun item before s rest comes e h = elim comes [
  | inl at ↦ field-item begun item s at.0 (subst (IsRest begun) (e ∙ ap (λ (x : List ℕ). x ++ s) at.1) h)
  | inr at ↦
      let split : rest ≡ heading begun at.0 at.1 ++ (at.2 ++ s) = e ∙ ap (λ (x : List ℕ). x ++ s) at.5 ∙ append_assoc (heading begun at.0 at.1) at.2 s in
      payload-right (length begun) at.0 item at.2 s (at.2 ++ s) at.4 refl (next-tree begun at.0 at.1 rest (at.2 ++ s) h at.3 split)
]

-- an item that is right is not wrong
right-type : (depth : ℕ) (s : List ℕ) → IsRightType depth s → (t : ℕ) (more : List ℕ) → s ≡ t ∷ more → (12 < t) ⊎ (IsNest t × (max_depth ≤ depth)) → ⊥
right-type depth s h t more e wrong =
    let same : h.0 ≡ t = (tail-same (sym h.2 ∙ e)).0 in
    let known = h.3 in
    elim wrong [
      | inl high ↦ omega arith
      | inr deep ↦ let room : depth < max_depth = h.4 (subst IsNest (sym same) deep.0) in let limit = deep.1 in omega arith
    ]

right-length : (item : Item) (s : List ℕ) → ((n : ℕ) × (more : List ℕ) × (s ≡ unsigned w32 n ++ more) × (n < 2 ^ 32) × (IsWrongLength item n → ⊥))
    → (m : ℕ) (other : List ℕ) → s ≡ unsigned w32 m ++ other → m < 2 ^ 32 → IsWrongLength item m → ⊥
right-length item s h m other e limit wrong =
    let fits = h.3 in
    let same = (unsigned-same w32 h.0 m (omega arith) (omega arith) h.1 other (sym h.2 ∙ e)).0 in
    h.4 (subst (IsWrongLength item) (sym same) wrong)

pub not-wrong : (kind : NbtKind) (item : Item) (s : List ℕ) → IsRight item s → IsWrong kind item s → ⊥
not-wrong BadType (field_type d) s h wrong = right-type d s h wrong.0 wrong.1 wrong.2 (inl wrong.3)
not-wrong BadType (element_type d) s h wrong = right-type d s h wrong.0 wrong.1 wrong.2 (inl wrong.3)
not-wrong BadType array_length s h wrong = wrong.3
not-wrong BadType (list_length k) s h wrong = wrong.3
not-wrong TooDeep (field_type d) s h wrong = right-type d s h wrong.0 wrong.1 wrong.2 (inr wrong.3)
not-wrong TooDeep (element_type d) s h wrong = right-type d s h wrong.0 wrong.1 wrong.2 (inr wrong.3)
not-wrong TooDeep array_length s h wrong = wrong.3
not-wrong TooDeep (list_length k) s h wrong = wrong.3
not-wrong BadLength (field_type d) s h wrong = wrong.4
not-wrong BadLength (element_type d) s h wrong = wrong.4
not-wrong BadLength array_length s h wrong = right-length array_length s h wrong.0 wrong.1 wrong.2 wrong.3 wrong.4
not-wrong BadLength (list_length k) s h wrong = right-length (list_length k) s h wrong.0 wrong.1 wrong.2 wrong.3 wrong.4
not-wrong Truncated item s h wrong = wrong
not-wrong Trailing item s h wrong = wrong
not-wrong RootNotCompound item s h wrong = wrong

long-enough : (n : ℕ) (s more : List ℕ) → s ≡ unsigned w32 n ++ more → length s < 4 → ⊥
long-enough n s more e few = omega (arith, ap length e, length-append (unsigned w32 n) more, length-unsigned w32 n)

pub not-cut : (item : Item) (s : List ℕ) → IsLength item → IsRight item s → length s < 4 → ⊥
not-cut (field_type d) s is h few = is
not-cut (element_type d) s is h few = is
not-cut array_length s is h few = long-enough h.0 s h.1 h.2 few
not-cut (list_length k) s is h few = long-enough h.0 s h.1 h.2 few

wrong-excludes : (kind : NbtKind) (place : ℕ) (s : List ℕ) (r : PlainRoot) → IsWrongAt kind place s → CanBeSpelled r → s ≡ spelling r → ⊥
wrong-excludes kind place s r h can spelled =
    let rest = rest-of h.0 (h.2 ++ h.3) s r h.4 h.8 can spelled in
    not-wrong kind h.1 h.3 (comes-right h.0 h.1 h.2 h.3 (h.2 ++ h.3) h.5 refl rest) h.6

pub nil-absurd : (b : ℕ) (s : List ℕ) → [] ≡ b ∷ s → ⊥
nil-absurd b s e = let n = ap length e in omega arith

-- a spelling that goes on is no spelling
pub longer-excludes : (a r : PlainRoot) (b : ℕ) (more : List ℕ) → CanBeSpelled a → CanBeSpelled r → spelling a ≡ spelling r ++ (b ∷ more) → ⊥
longer-excludes a r b more ha hr e = nil-absurd b more (root-same a r [] (b ∷ more) ha hr (append-nil (spelling a) ∙ e)).1

-- Bytes with a fault are no root's spelling.
pub fault-excludes : (s : List ℕ) (place : ℕ) (kind : NbtKind) (r : PlainRoot) → IsFirstFault s place kind → CanBeSpelled r → s ≡ spelling r → ⊥
fault-excludes s place RootNotCompound r h can spelled = h.4 (tail-same (sym h.3 ∙ spelled)).0
fault-excludes s place Trailing r h can spelled = longer-excludes r h.0 h.1 h.2 can h.3 (sym spelled ∙ h.4)
fault-excludes s place BadType r h can spelled = wrong-excludes BadType place s r h can spelled
fault-excludes s place TooDeep r h can spelled = wrong-excludes TooDeep place s r h can spelled
fault-excludes s place BadLength r h can spelled = wrong-excludes BadLength place s r h can spelled
fault-excludes s place Truncated r h can spelled = elim h.1 [
  | inl cut ↦ longer-excludes cut.0 r cut.1 cut.2 cut.3 can (cut.4 ∙ ap (λ (x : List ℕ). x ++ (cut.1 ∷ cut.2)) spelled)
  | inr cut ↦
      let rest = rest-of cut.0 (cut.2 ++ cut.3) s r cut.4 cut.8 can spelled in
      not-cut cut.1 cut.3 cut.6 (comes-right cut.0 cut.1 cut.2 cut.3 (cut.2 ++ cut.3) cut.5 refl rest) cut.7
]
