-- What may stand where an item comes: the bytes before it begin a root, and each root that they begin has a right item there.
use Rattle.std.proofs.Common.{◌≡◌, ◌<◌, ◌≤◌, ◌+◌, ◌-◌, ◌*◌, ◌^◌, ℕ, zero, suc, ℤ, pos, negsuc, List, [], ◌∷◌, ◌++◌, length, refl, sym, ap, ◌∙◌, subst, arith, append_assoc, inl, inr}
use Rattle.std.specs.Prelude.{FitsSigned, ◌≤ℤ◌, replicate}
use Rattle.std.specs.List.{AllByRecursion}
use Rattle.std.specs.Int.{Width, w32, w64, byte_at, cast_unsigned}
use Rattle.std.proofs.lemmas.Bool.{cases_lt}
use Rattle.std.proofs.lemmas.List.{append-nil, length-replicate}
use Rattle.std.proofs.lemmas.Int.{ints as signs}
use Rattle.byteorder.specs.Endian.{big_from}
use Rattle.byteorder.specs.Numbers.{big_number-reads_back}
use Rattle.nbt.specs.Plain.{PlainTree, PlainRoot, byte, bytes, ints, longs, empty_list, numbers}
use Rattle.nbt.specs.Spelling.{unsigned, signed, short_text, all_signed, type_of, number_size, payload, spelling, max_depth, MayHold, CanStand, CanBeSpelled}
use Rattle.nbt.specs.Faults.{Begun, begun_compound, begun_list, heading, beginning, MayCome, IsBegun, Item, field_type, element_type, array_length, list_length, IsArray, IsInPayload, IsFieldType, Comes, IsWrongLength, IsLength, Begins}
use Rattle.nbt.proofs.Numbers.{signed-is}
use Rattle.nbt.proofs.Unique.{numbers-count}
use Rattle.nbt.proofs.Fronts.{unsigned-32, IsBytes, zeros}
use Rattle.nbt.proofs.Excludes.{IsRight, rest-of, comes-right}
use Rattle.nbt.proofs.Places.{complete, finish-list, may-hold, before-begins}

-- the number in four bytes
abbrev pub word : ℕ → ℕ → ℕ → ℕ → ℕ
word a b c d = ((a * 256 + b) * 256 + c) * 256 + d

abbrev pub AreFour : ℕ → ℕ → ℕ → ℕ → Type 0
AreFour a b c d = (a < 256) × (b < 256) × (c < 256) × (d < 256)

abbrev pub HasFour : ℕ → Type 0
HasFour n = (a : ℕ) × (b : ℕ) × (c : ℕ) × (d : ℕ) × AreFour a b c d × (n ≡ word a b c d) × (unsigned w32 n ≡ a ∷ b ∷ c ∷ d ∷ [])

pub has-four : (n : ℕ) → n < 2 ^ 32 → HasFour n
unfolding unsigned
has-four n h =
    let worth = big_number-reads_back 4 n [] (omega arith) in
    (byte_at 3 n, byte_at 2 n, byte_at 1 n, byte_at 0 n, (omega arith, omega arith, omega arith, omega arith), omega (arith, worth), refl)

pub word-bytes : (a b c d : ℕ) → AreFour a b c d → unsigned w32 (word a b c d) ≡ a ∷ b ∷ c ∷ d ∷ []
word-bytes a b c d h = ap (unsigned w32) worth ∙ unsigned-32 (a ∷ b ∷ c ∷ d ∷ []) refl fits
  where
    worth : word a b c d ≡ big_from 0 4 (a ∷ b ∷ c ∷ d ∷ [])
    worth = omega arith

    fits : IsBytes (a ∷ b ∷ c ∷ d ∷ [])
    fits zero = h.0
    fits (suc zero) = h.1
    fits (suc (suc zero)) = h.2
    fits (suc (suc (suc zero))) = h.3
    fits (suc (suc (suc (suc i)))) = omega arith

pub word-small : (a b c d : ℕ) → AreFour a b c d → word a b c d < 2 ^ 32
word-small a b c d h = let u = h.0 in let v = h.1 in let x = h.2 in let y = h.3 in omega arith

-- a tree of this type, which something of this depth may hold, whose payload starts with these bytes
abbrev pub IsOneWith : ℕ → ℕ → List ℕ → Type 0
IsOneWith depth t front = (one : PlainTree) × (more : List ℕ) × (type_of one ≡ t) × CanStand depth one × (payload one ≡ front ++ more)

zeros-fit : (w : Width) (n : ℕ) → FitsSigned w (pos 0) → AllByRecursion (FitsSigned w) (replicate n (pos 0))
zeros-fit w zero h = tt
zeros-fit w (suc n) h = (h, zeros-fit w n h)

array-with : (depth t n : ℕ) → IsArray t → n < 2 ^ 31 → IsOneWith depth t (unsigned w32 n)
array-with depth t n array low = elim array [
  | inl e ↦
      let few = length-replicate {A = ℕ} n 0 in
      (bytes (replicate n 0), replicate n 0, sym e, (subst (λ (m : ℕ). m < 2 ^ 31) (sym few) low, zeros n), ap (λ (m : ℕ). unsigned w32 m ++ replicate n 0) few)
  | inr more ↦
      let zs : List ℤ = replicate n (pos 0) in
      let few : length zs ≡ n = length-replicate {A = ℤ} n (pos 0) in
      let short : length zs < 2 ^ 31 = subst (λ (m : ℕ). m < 2 ^ 31) (sym few) low in
      elim more [
        | inl e ↦ (ints zs, all_signed w32 zs, sym e, (short, zeros-fit w32 n (record { sfits = omega arith })), ap (λ (m : ℕ). unsigned w32 m ++ all_signed w32 zs) few)
        | inr e ↦ (longs zs, all_signed w64 zs, sym e, (short, zeros-fit w64 n (record { sfits = omega arith })), ap (λ (m : ℕ). unsigned w32 m ++ all_signed w64 zs) few)
      ]
]

-- the length of a list of type End
pub empty-number : (n : ℕ) → n < 2 ^ 32 → (IsWrongLength (list_length 0) n → ⊥) → (z : ℤ) × FitsSigned w32 z × (z ≤ℤ pos 0) × (signed w32 z ≡ unsigned w32 n)
empty-number zero low right = (pos 0, record { sfits = omega arith }, omega (arith, signs), signed-is w32 (pos 0))
empty-number (suc n) low right = elim (cases_lt (suc n) (2 ^ 31)) [
  | inl small ↦ absurd (right (omega arith, small))
  | inr big ↦
      let z : ℤ = negsuc (2 ^ 32 - suc (suc n)) in
      let same : cast_unsigned w32 z ≡ suc n = omega arith in
      (z, record { sfits = omega arith }, omega (arith, signs), signed-is w32 z ∙ ap (unsigned w32) same)
]

empty-with : (depth n : ℕ) → depth < max_depth → n < 2 ^ 32 → (IsWrongLength (list_length 0) n → ⊥) → IsOneWith depth 9 (0 ∷ unsigned w32 n)
empty-with depth n room low right =
    let z = empty-number n low right in
    (empty_list z.0, [], refl, (room, z.1, z.2), ap (λ (x : List ℕ). 0 ∷ x) (z.3 ∙ sym (append-nil (unsigned w32 n))))

numbers-with : (depth element n : ℕ) → depth < max_depth → 1 ≤ element → element ≤ 6 → n < 2 ^ 31 → IsOneWith depth 9 (element ∷ unsigned w32 n)
numbers-with depth element n room low high few =
    let raw : List ℕ = replicate (n * number_size element) 0 in
    let full : length raw ≡ n * number_size element = length-replicate {A = ℕ} (n * number_size element) 0 in
    (numbers element raw, raw, refl, (room, low, high, n, full, few, zeros (n * number_size element)), ap (λ (m : ℕ). element ∷ (unsigned w32 m ++ raw)) (numbers-count element n raw full))

items-with : (begun : List Begun) (name : List ℕ) (element n : ℕ) → IsBegun begun → length begun < max_depth → MayCome begun 9 name → 7 ≤ element → element ≤ 12
    → MayHold (suc (length begun)) element → n < 2 ^ 31 → IsOneWith (length begun) 9 (element ∷ unsigned w32 n)
items-with begun name element n h room come low high hold few =
    let none : 0 + n ≡ n = omega arith in
    let whole = finish-list name element n [] begun (h, room, come, (low, high, hold, subst (λ (m : ℕ). m < 2 ^ 31) (sym none) few, tt)) in
    let front : element ∷ (unsigned w32 (0 + n) ++ []) ≡ element ∷ unsigned w32 n = ap (λ (m : ℕ). element ∷ (unsigned w32 m ++ [])) none ∙ ap (λ (x : List ℕ). element ∷ x) (append-nil (unsigned w32 n)) in
    (whole.0, whole.1, whole.2, whole.3, whole.4 ∙ ap (λ (x : List ℕ). x ++ whole.1) front)

wrong-count : (element n : ℕ) → 1 ≤ element → (IsWrongLength (list_length element) n → ⊥) → n < 2 ^ 31
wrong-count zero n low right = absurd (omega arith)
wrong-count (suc element) n low right = elim (cases_lt n (2 ^ 31)) [ inl small ↦ small | inr big ↦ absurd (right big) ]

list-with : (begun : List Begun) (name : List ℕ) (element n : ℕ) → IsBegun begun → length begun < max_depth → MayCome begun 9 name → element ≤ 12
    → MayHold (suc (length begun)) element → n < 2 ^ 32 → (IsWrongLength (list_length element) n → ⊥) → IsOneWith (length begun) 9 (element ∷ unsigned w32 n)
list-with begun name zero n h room come high hold low right = empty-with (length begun) n room low right
list-with begun name (suc k) n h room come high hold low right =
    let few = wrong-count (suc k) n (omega arith) right in
    elim (cases_lt k 6) [
      | inl small ↦ numbers-with (length begun) (suc k) n room (omega arith) (omega arith) few
      | inr big ↦ items-with begun name (suc k) n h room come (omega arith) high hold few
    ]

-- the item comes behind these bytes
abbrev pub ComesBehind : Item → List ℕ → Type 0
ComesBehind item front = (begun : List Begun) × (before : List ℕ) × IsBegun begun × Comes begun item before × (front ≡ beginning begun ++ before)

begins-front : (a b : List ℕ) → Begins (a ++ b) → Begins a
begins-front a b h = (h.0, b ++ h.1, h.2, h.3 ∙ append_assoc a b h.1)

tree-behind : (begun : List Begun) (t : ℕ) (name front : List ℕ) → IsBegun begun → MayCome begun t name → IsOneWith (length begun) t front → Begins (beginning begun ++ (heading begun t name ++ front))
tree-behind begun t name front h come one =
    let root = complete begun name one.0 h (subst (λ (k : ℕ). MayCome begun k name) (sym one.2) come) one.3 in
    let split : beginning begun ++ (heading begun (type_of one.0) name ++ payload one.0) ≡ (beginning begun ++ (heading begun t name ++ front)) ++ one.1 =
    ap (λ (k : ℕ). beginning begun ++ (heading begun k name ++ payload one.0)) one.2
    ∙ ap (λ (x : List ℕ). beginning begun ++ (heading begun t name ++ x)) one.4
    ∙ ap (λ (x : List ℕ). beginning begun ++ x) (sym (append_assoc (heading begun t name) front one.1))
    ∙ sym (append_assoc (beginning begun) (heading begun t name ++ front) one.1) in
    begins-front (beginning begun ++ (heading begun t name ++ front)) one.1 (subst Begins split root)

-- the bytes before an item begin a root
pub begins-behind : (item : Item) (front : List ℕ) → ComesBehind item front → Begins front
begins-behind item front h = subst Begins (sym h.4) (before-begins h.0 item h.1 h.2 h.3)

-- an item is right in a root's spelling
pub right-spelled : (item : Item) (front s : List ℕ) (r : PlainRoot) → ComesBehind item front → CanBeSpelled r → spelling r ≡ front ++ s → IsRight item s
right-spelled item front s r h can e =
    let split : spelling r ≡ beginning h.0 ++ (h.1 ++ s) = e ∙ ap (λ (x : List ℕ). x ++ s) h.4 ∙ append_assoc (beginning h.0) h.1 s in
    comes-right h.0 item h.1 s (h.1 ++ s) h.3 refl (rest-of h.0 (h.1 ++ s) (spelling r) r h.2 split can refl)

pub right-behind : (item : Item) (front s : List ℕ) → ComesBehind item front → Begins (front ++ s) → (more : List ℕ) × IsRight item (s ++ more)
right-behind item front s h begins = (begins.1, right-spelled item front (s ++ begins.1) begins.0 h begins.2 (begins.3 ∙ append_assoc front s begins.1))

no-field-length : (begun : List Begun) (item : Item) → IsFieldType begun item → IsLength item → ⊥
no-field-length [] item at is = at
no-field-length (begun_list own element left held ∷ outer) item at is = at
no-field-length (begun_compound own held ∷ outer) (field_type d) at is = is
no-field-length (begun_compound own held ∷ outer) (element_type d) at is = is
no-field-length (begun_compound own held ∷ outer) array_length at is = at
no-field-length (begun_compound own held ∷ outer) (list_length k) at is = at

length-with : (begun : List Begun) (t : ℕ) (name within : List ℕ) (item : Item) (n : ℕ) → IsBegun begun → MayCome begun t name → IsInPayload (length begun) t item within
    → IsLength item → n < 2 ^ 32 → (IsWrongLength item n → ⊥) → IsOneWith (length begun) t (within ++ unsigned w32 n)
length-with begun t name within (field_type d) n h come inside is low right = absurd is
length-with begun t name within (element_type d) n h come inside is low right = absurd is
length-with begun t name within array_length n h come inside is low right =
    let few : n < 2 ^ 31 = elim (cases_lt n (2 ^ 31)) [ inl small ↦ small | inr big ↦ absurd (right big) ] in
    subst (λ (x : List ℕ). IsOneWith (length begun) t (x ++ unsigned w32 n)) (sym inside.1) (array-with (length begun) t n inside.0 few)
length-with begun t name within (list_length element) n h come inside is low right =
    let nine = subst (λ (k : ℕ). MayCome begun k name) inside.0 come in
    let room : length begun < max_depth = may-hold begun t name h come (inl inside.0) in
    let one = list-with begun name element n h room nine inside.1 inside.2 low right in
    subst (λ (x : List ℕ). IsOneWith (length begun) t (x ++ unsigned w32 n)) (sym inside.3) (subst (λ (k : ℕ). IsOneWith (length begun) k (element ∷ unsigned w32 n)) (sym inside.0) one)

-- every right number goes on to a root
pub number-behind : (item : Item) (front : List ℕ) (n : ℕ) → ComesBehind item front → IsLength item → n < 2 ^ 32 → (IsWrongLength item n → ⊥) → Begins (front ++ unsigned w32 n)
number-behind item front n h is low right = elim h.3 [
  | inl at ↦ absurd (no-field-length h.0 item at.0 is)
  | inr at ↦
      let one = length-with h.0 at.0 at.1 at.2 item n h.2 at.3 at.4 is low right in
      let split : front ++ unsigned w32 n ≡ beginning h.0 ++ (heading h.0 at.0 at.1 ++ (at.2 ++ unsigned w32 n)) =
      ap (λ (x : List ℕ). x ++ unsigned w32 n) h.4 ∙ append_assoc (beginning h.0) h.1 (unsigned w32 n)
      ∙ ap (λ (x : List ℕ). beginning h.0 ++ (x ++ unsigned w32 n)) at.5
      ∙ ap (λ (x : List ℕ). beginning h.0 ++ x) (append_assoc (heading h.0 at.0 at.1) at.2 (unsigned w32 n)) in
      subst Begins (sym split) (tree-behind h.0 at.0 at.1 (at.2 ++ unsigned w32 n) h.2 at.3 one)
]

-- some byte above 0 goes on to a root
abbrev pub GoesOn : List ℕ → Type 0
GoesOn front = (b : ℕ) × (more : List ℕ) × (0 < b) × Begins (front ++ (b ∷ more))

pub word-behind : (item : Item) (front : List ℕ) (a : ℕ) → ComesBehind item front → IsLength item → a < 256 → (IsWrongLength item (word a 0 0 0) → ⊥) → Begins (front ++ (a ∷ 0 ∷ 0 ∷ 0 ∷ []))
word-behind item front a h is low right =
    let four : AreFour a 0 0 0 = (low, omega arith, omega arith, omega arith) in
    subst (λ (x : List ℕ). Begins (front ++ x)) (word-bytes a 0 0 0 four) (number-behind item front (word a 0 0 0) h is (word-small a 0 0 0 four) right)

field-on : (begun : List Begun) (item : Item) → IsBegun begun → IsFieldType begun item → GoesOn (beginning begun)
field-on [] item h at = absurd at
field-on (begun_list own element left held ∷ outer) item h at = absurd at
field-on (begun_compound own held ∷ outer) item h at =
    let plain : MayHold (suc (length outer)) 1 = λ nest. elim nest [ inl e ↦ absurd (omega arith) | inr e ↦ absurd (omega arith) ] in
    let fits : CanStand (suc (length outer)) (byte (pos 0)) = record { sfits = omega arith } in
    (1, short_text [] ++ payload (byte (pos 0)), omega arith, complete (begun_compound own held ∷ outer) [] (byte (pos 0)) h (omega arith, omega arith, plain, (omega arith, tt)) fits)

element-on : (begun : List Begun) (t : ℕ) (name : List ℕ) → IsBegun begun → MayCome begun t name → t ≡ 9 → GoesOn (beginning begun ++ heading begun t name)
element-on begun t name h come nine =
    let room : length begun < max_depth = may-hold begun t name h come (inl nine) in
    let one = numbers-with (length begun) 1 0 room (omega arith) (omega arith) (omega arith) in
    let root = tree-behind begun t name (1 ∷ unsigned w32 0) h come (subst (λ (k : ℕ). IsOneWith (length begun) k (1 ∷ unsigned w32 0)) (sym nine) one) in
    (1, unsigned w32 0, omega arith, subst Begins (sym (append_assoc (beginning begun) (heading begun t name) (1 ∷ unsigned w32 0))) root)

pub goes-on-behind : (item : Item) (front : List ℕ) → ComesBehind item front → GoesOn front
goes-on-behind array_length front h = (1, _, omega arith, word-behind array_length front 1 h tt (omega arith) (λ wrong. omega arith))
goes-on-behind (list_length zero) front h = (128, _, omega arith, word-behind (list_length zero) front 128 h tt (omega arith) (λ wrong. omega (arith, wrong.1)))
goes-on-behind (list_length (suc k)) front h = (1, _, omega arith, word-behind (list_length (suc k)) front 1 h tt (omega arith) (λ wrong. omega arith))
goes-on-behind (field_type d) front h = elim h.3 [
  | inl at ↦ subst GoesOn (sym (h.4 ∙ ap (λ (x : List ℕ). beginning h.0 ++ x) at.1 ∙ append-nil (beginning h.0))) (field-on h.0 (field_type d) h.2 at.0)
  | inr at ↦ absurd at.4
]
goes-on-behind (element_type d) front h = elim h.3 [
  | inl at ↦ subst GoesOn (sym (h.4 ∙ ap (λ (x : List ℕ). beginning h.0 ++ x) at.1 ∙ append-nil (beginning h.0))) (field-on h.0 (element_type d) h.2 at.0)
  | inr at ↦
      let split : front ≡ beginning h.0 ++ heading h.0 at.0 at.1 =
      h.4 ∙ ap (λ (x : List ℕ). beginning h.0 ++ x) (at.5 ∙ ap (λ (x : List ℕ). heading h.0 at.0 at.1 ++ x) at.4.2 ∙ append-nil (heading h.0 at.0 at.1)) in
      subst GoesOn (sym split) (element-on h.0 at.0 at.1 h.2 at.3 at.4.0)
]
