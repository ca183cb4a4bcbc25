-- Bytes have one first fault.
use Rattle.std.proofs.Common.{◌≡◌, ◌≢◌, ◌<◌, ◌≤◌, ◌*◌, ◌^◌, ℕ, zero, suc, List, [], ◌∷◌, ◌++◌, length, refl, sym, ap, ◌∙◌, subst, arith, length-append, append_assoc, inl, inr}
use Rattle.std.specs.Prelude.{⊤, ◌⊎◌}
use Rattle.std.specs.Int.{w32}
use Rattle.std.proofs.lemmas.Bool.{cases_lt}
use Rattle.std.proofs.lemmas.List.{append-nil}
use Rattle.nbt.specs.Plain.{PlainRoot}
use Rattle.nbt.specs.Spelling.{unsigned, short_text, spelling, IsNest, CanBeSpelled}
use Rattle.nbt.specs.Faults.{Begun, begun_type, begun_name, begun_payload, heading, beginning, IsBegun, IsInPayload, IsFieldType, Comes, Item, field_type, element_type, array_length, list_length, IsWrong, IsWrongLength, IsLength, Begins, IsWrongAt, IsFirstFault}
use Rattle.nbt.specs.declared.refusals.NbtKind.{NbtKind}
use Rattle.nbt.specs.declared.refusals.NbtKind.TheVariants.{Truncated, BadType, BadLength, TooDeep, Trailing, RootNotCompound}
use Rattle.nbt.proofs.Numbers.{length-unsigned}
use Rattle.nbt.proofs.Unique.{root-same, tail-same}
use Rattle.nbt.proofs.Excludes.{IsRight, not-wrong, not-cut, longer-excludes}
use Rattle.nbt.proofs.Onward.{word, AreFour, has-four, word-bytes, word-small, ComesBehind, begins-behind, right-spelled, right-behind, number-behind, word-behind, GoesOn, goes-on-behind}

-- Two splits of one list: the second is further on by these elements.
abbrev Further : List ℕ → List ℕ → List ℕ → List ℕ → Type 0
Further a x b y = (q : ℕ) × (m : List ℕ) × (b ≡ a ++ (q ∷ m)) × (x ≡ (q ∷ m) ++ y)

abbrev Splits : List ℕ → List ℕ → List ℕ → List ℕ → Type 0
Splits a x b y = ((a ≡ b) × (x ≡ y)) ⊎ (Further a x b y ⊎ Further b y a x)

further-cons : (p q : ℕ) (a x b y : List ℕ) → p ≡ q → Further a x b y → Further (p ∷ a) x (q ∷ b) y
further-cons p q a x b y e f = (f.0, f.1, ap (λ (z : ℕ). z ∷ b) (sym e) ∙ ap (λ (z : List ℕ). p ∷ z) f.2, f.3)

compare : (a x b y : List ℕ) → a ++ x ≡ b ++ y → Splits a x b y
compare [] x [] y e = inl (refl, e)
compare [] x (q ∷ m) y e = inr (inl (q, m, refl, e))
compare (q ∷ m) x [] y e = inr (inr (q, m, refl, sym e))
compare (p ∷ a) x (q ∷ b) y e =
    let parts = tail-same e in
    elim (compare a x b y parts.1) [
      | inl s ↦ inl (ap (λ (z : ℕ). z ∷ a) parts.0 ∙ ap (λ (z : List ℕ). q ∷ z) s.0, s.1)
      | inr more ↦ elim more [
        | inl f ↦ inr (inl (further-cons p q a x b y parts.0 f))
        | inr f ↦ inr (inr (further-cons q p b y a x (sym parts.0) f))
      ]
    ]

-- a number whose first byte this is
first-byte : (a n : ℕ) (s more : List ℕ) → a ∷ s ≡ unsigned w32 n ++ more → n < 2 ^ 32 → (a * 16777216 ≤ n) × (n < suc a * 16777216)
first-byte a n s more e low =
    let f = has-four n low in
    let head : a ≡ f.0 = (tail-same (e ∙ ap (λ (x : List ℕ). x ++ more) f.6)).0 in
    let worth = f.5 in
    let b = f.4.1 in
    let c = f.4.2 in
    let d = f.4.3 in
    (omega arith, omega arith)

-- No item is right with both of these bytes.
no-other : (item : Item) (front s t : List ℕ) → ComesBehind item front → Begins (front ++ (200 ∷ s)) → Begins (front ++ (5 ∷ t)) → ⊥
no-other (field_type d) front s t h high low =
    let r = (right-behind (field_type d) front (200 ∷ s) h high).1 in
    let head = (tail-same r.2).0 in
    let known = r.3 in
    omega arith
no-other (element_type d) front s t h high low =
    let r = (right-behind (element_type d) front (200 ∷ s) h high).1 in
    let head = (tail-same r.2).0 in
    let known = r.3 in
    omega arith
no-other array_length front s t h high low =
    let r = (right-behind array_length front (200 ∷ s) h high).1 in
    let worth = first-byte 200 r.0 _ r.1 r.2 r.3 in
    r.4 (omega (arith, worth.0))
no-other (list_length zero) front s t h high low =
    let r = (right-behind (list_length zero) front (5 ∷ t) h low).1 in
    let worth = first-byte 5 r.0 _ r.1 r.2 r.3 in
    r.4 (omega (arith, worth.0), omega (arith, worth.1))
no-other (list_length (suc k)) front s t h high low =
    let r = (right-behind (list_length (suc k)) front (200 ∷ s) h high).1 in
    let worth = first-byte 200 r.0 _ r.1 r.2 r.3 in
    r.4 (omega (arith, worth.0))

abbrev IsRightNumber : Item → List ℕ → Type 0
IsRightNumber item s = (n : ℕ) × (more : List ℕ) × (s ≡ unsigned w32 n ++ more) × (n < 2 ^ 32) × (IsWrongLength item n → ⊥)

right-number : (item : Item) (s : List ℕ) → IsLength item → IsRight item s → IsRightNumber item s
right-number (field_type d) s is h = absurd is
right-number (element_type d) s is h = absurd is
right-number array_length s is h = h
right-number (list_length k) s is h = h

-- The first byte of a right number leaves the other three open, or all four are zero.
abbrev IsFree : Item → ℕ → Type 0
IsFree item a = (b c d : ℕ) → AreFour a b c d → IsWrongLength item (word a b c d) → ⊥

free-or-empty : (item : Item) (a b c d : ℕ) → IsLength item → AreFour a b c d → (IsWrongLength item (word a b c d) → ⊥) → IsFree item a ⊎ ((item ≡ list_length 0) × (a < 128))
free-or-empty (field_type k) a b c d is h right = absurd is
free-or-empty (element_type k) a b c d is h right = absurd is
free-or-empty array_length a b c d is h right = elim (cases_lt a 128) [
  | inl small ↦ inl (λ x y z g wrong. omega (arith, g.0, g.1, g.2, g.3, wrong))
  | inr big ↦ absurd (right (omega arith))
]
free-or-empty (list_length zero) a b c d is h right = elim (cases_lt a 128) [
  | inl small ↦ inr (refl, small)
  | inr big ↦ inl (λ x y z g wrong. omega (arith, wrong.1))
]
free-or-empty (list_length (suc k)) a b c d is h right = elim (cases_lt a 128) [
  | inl small ↦ inl (λ x y z g wrong. omega (arith, g.0, g.1, g.2, g.3, wrong))
  | inr big ↦ absurd (right (omega arith))
]

-- No item comes within the four bytes of a length.
module _ (item : Item) (front : List ℕ) (h : ComesBehind item front) (is : IsLength item) where
  -- any byte may come next
  filled : (q x : ℕ) (m more rest : List ℕ) (a b c d : ℕ) → AreFour a b c d → x < 256 → IsFree item a → length m < 3 → q ∷ (m ++ more) ≡ a ∷ b ∷ c ∷ d ∷ rest
      → (s : List ℕ) × Begins ((front ++ (q ∷ m)) ++ (x ∷ s))
  filled q x [] more rest a b c d g low free few e =
      let bytes : AreFour a x 0 0 = (g.0, low, omega arith, omega arith) in
      let root = subst (λ (y : List ℕ). Begins (front ++ y)) (word-bytes a x 0 0 bytes) (number-behind item front (word a x 0 0) h is (word-small a x 0 0 bytes) (free x 0 0 bytes)) in
      let first : q ≡ a = (tail-same e).0 in
      (0 ∷ 0 ∷ [], subst Begins (sym (append_assoc front (q ∷ []) (x ∷ 0 ∷ 0 ∷ []))) (subst (λ (y : ℕ). Begins (front ++ (y ∷ x ∷ 0 ∷ 0 ∷ []))) (sym first) root))
  filled q x (y ∷ []) more rest a b c d g low free few e =
      let bytes : AreFour a b x 0 = (g.0, g.1, low, omega arith) in
      let root = subst (λ (y : List ℕ). Begins (front ++ y)) (word-bytes a b x 0 bytes) (number-behind item front (word a b x 0) h is (word-small a b x 0 bytes) (free b x 0 bytes)) in
      let first : q ≡ a = (tail-same e).0 in
      let second : y ≡ b = (tail-same (tail-same e).1).0 in
      let both : q ∷ y ∷ [] ≡ a ∷ b ∷ [] = cc in
      (0 ∷ [], subst (λ (z : List ℕ). Begins ((front ++ z) ++ (x ∷ 0 ∷ []))) (sym both) (subst Begins (sym (append_assoc front (a ∷ b ∷ []) (x ∷ 0 ∷ []))) root))
  filled q x (y ∷ z ∷ []) more rest a b c d g low free few e =
      let bytes : AreFour a b c x = (g.0, g.1, g.2, low) in
      let root = subst (λ (y : List ℕ). Begins (front ++ y)) (word-bytes a b c x bytes) (number-behind item front (word a b c x) h is (word-small a b c x bytes) (free b c x bytes)) in
      let first : q ≡ a = (tail-same e).0 in
      let second : y ≡ b = (tail-same (tail-same e).1).0 in
      let third : z ≡ c = (tail-same (tail-same (tail-same e).1).1).0 in
      let all : q ∷ y ∷ z ∷ [] ≡ a ∷ b ∷ c ∷ [] = cc in
      ([], subst (λ (z : List ℕ). Begins ((front ++ z) ++ (x ∷ []))) (sym all) (subst Begins (sym (append_assoc front (a ∷ b ∷ c ∷ []) (x ∷ []))) root))
  filled q x (y ∷ z ∷ u ∷ m) more rest a b c d g low free few e = absurd (omega arith)

-- where four bytes are zero, so is what follows the first of them
zero-next : (q x : ℕ) (m more rest : List ℕ) (a b c d : ℕ) → length m < 3 → q ∷ (m ++ (x ∷ more)) ≡ a ∷ b ∷ c ∷ d ∷ rest → b ≡ 0 → c ≡ 0 → d ≡ 0 → x ≡ 0
zero-next q x [] more rest a b c d few e zb zc zd = (tail-same (tail-same e).1).0 ∙ zb
zero-next q x (y ∷ []) more rest a b c d few e zb zc zd = (tail-same (tail-same (tail-same e).1).1).0 ∙ zc
zero-next q x (y ∷ z ∷ []) more rest a b c d few e zb zc zd = (tail-same (tail-same (tail-same (tail-same e).1).1).1).0 ∙ zd
zero-next q x (y ∷ z ∷ u ∷ m) more rest a b c d few e zb zc zd = absurd (omega arith)

empty-inside : (front : List ℕ) (q : ℕ) (m : List ℕ) → ComesBehind (list_length 0) front → GoesOn (front ++ (q ∷ m)) → length m < 3 → q < 128 → ⊥
empty-inside front q m h on few low =
    let root : Begins (front ++ ((q ∷ m) ++ (on.0 ∷ on.1))) = subst Begins (append_assoc front (q ∷ m) (on.0 ∷ on.1)) on.3 in
    let right = right-behind (list_length 0) front ((q ∷ m) ++ (on.0 ∷ on.1)) h root in
    let r = right.1 in
    let f = has-four r.0 r.3 in
    let e : q ∷ (m ++ (on.0 ∷ (on.1 ++ right.0))) ≡ f.0 ∷ f.1 ∷ f.2 ∷ f.3 ∷ r.1 =
    ap (λ (x : List ℕ). q ∷ x) (sym (append_assoc m (on.0 ∷ on.1) right.0)) ∙ r.2 ∙ ap (λ (x : List ℕ). x ++ r.1) f.6 in
    let first : q ≡ f.0 = (tail-same e).0 in
    let worth : r.0 ≡ word f.0 f.1 f.2 f.3 = f.5 in
    let b = f.4.1 in
    let c = f.4.2 in
    let d = f.4.3 in
    let some = on.2 in
    elim (cases_lt 0 r.0) [
      | inl positive ↦ r.4 (positive, omega arith)
      | inr none ↦
          let next : on.0 ≡ 0 = zero-next q on.0 m (on.1 ++ right.0) r.1 f.0 f.1 f.2 f.3 few e (omega arith) (omega arith) (omega arith) in
          omega arith
    ]

pub inside : (item other : Item) (front : List ℕ) (q : ℕ) (m : List ℕ) → ComesBehind item front → ComesBehind other (front ++ (q ∷ m)) → IsLength item → length m < 3 → ⊥
inside item other front q m h g is few =
    let right = right-behind item front (q ∷ m) h (begins-behind other (front ++ (q ∷ m)) g) in
    let r = right-number item ((q ∷ m) ++ right.0) is right.1 in
    let f = has-four r.0 r.3 in
    let e : q ∷ (m ++ right.0) ≡ f.0 ∷ f.1 ∷ f.2 ∷ f.3 ∷ r.1 = r.2 ∙ ap (λ (x : List ℕ). x ++ r.1) f.6 in
    let first : q ≡ f.0 = (tail-same e).0 in
    elim (free-or-empty item f.0 f.1 f.2 f.3 is f.4 (λ wrong. r.4 (subst (IsWrongLength item) (sym f.5) wrong))) [
      | inl free ↦
          let high = filled item front h is q 200 m right.0 r.1 f.0 f.1 f.2 f.3 f.4 (omega arith) free few e in
          let low = filled item front h is q 5 m right.0 r.1 f.0 f.1 f.2 f.3 f.4 (omega arith) free few e in
          no-other other (front ++ (q ∷ m)) high.0 low.0 g high.1 low.1
      | inr empty ↦
          empty-inside front q m (subst (λ (i : Item). ComesBehind i front) empty.0 h) (goes-on-behind other (front ++ (q ∷ m)) g) few (subst (λ (b : ℕ). b < 128) (sym first) empty.1)
    ]

-- Where another item comes further on, the first one is whole and right.
whole-number : (item : Item) (q : ℕ) (m more y : List ℕ) → 3 ≤ length m → IsRightNumber item ((q ∷ m) ++ more) → IsRightNumber item ((q ∷ m) ++ y)
whole-number item q [] more y many r = absurd (omega arith)
whole-number item q (b ∷ []) more y many r = absurd (omega arith)
whole-number item q (b ∷ c ∷ []) more y many r = absurd (omega arith)
whole-number item q (b ∷ c ∷ d ∷ m) more y many r =
    let f = has-four r.0 r.3 in
    let e : q ∷ b ∷ c ∷ d ∷ (m ++ more) ≡ f.0 ∷ f.1 ∷ f.2 ∷ f.3 ∷ r.1 = r.2 ∙ ap (λ (x : List ℕ). x ++ r.1) f.6 in
    let first : q ≡ f.0 = (tail-same e).0 in
    let second : b ≡ f.1 = (tail-same (tail-same e).1).0 in
    let third : c ≡ f.2 = (tail-same (tail-same (tail-same e).1).1).0 in
    let fourth : d ≡ f.3 = (tail-same (tail-same (tail-same (tail-same e).1).1).1).0 in
    let all : q ∷ b ∷ c ∷ d ∷ [] ≡ f.0 ∷ f.1 ∷ f.2 ∷ f.3 ∷ [] = cc in
    (r.0, m ++ y, ap (λ (x : List ℕ). x ++ (m ++ y)) (all ∙ sym f.6), r.3, r.4)

of-number : (item : Item) (s : List ℕ) → IsLength item → IsRightNumber item s → IsRight item s
of-number (field_type d) s is h = absurd is
of-number (element_type d) s is h = absurd is
of-number array_length s is h = h
of-number (list_length k) s is h = h

length-later : (item other : Item) (front : List ℕ) (q : ℕ) (m y : List ℕ) → IsLength item → ComesBehind item front → ComesBehind other (front ++ (q ∷ m)) → IsRight item ((q ∷ m) ++ y)
length-later item other front q m y is h g =
    let right = right-behind item front (q ∷ m) h (begins-behind other (front ++ (q ∷ m)) g) in
    elim (cases_lt (length m) 3) [
      | inl few ↦ absurd (inside item other front q m h g is few)
      | inr many ↦ of-number item ((q ∷ m) ++ y) is (whole-number item q m right.0 y many (right-number item ((q ∷ m) ++ right.0) is right.1))
    ]

pub later : (item other : Item) (front : List ℕ) (q : ℕ) (m y : List ℕ) → ComesBehind item front → ComesBehind other (front ++ (q ∷ m)) → IsRight item ((q ∷ m) ++ y)
later (field_type d) other front q m y h g =
    let right = (right-behind (field_type d) front (q ∷ m) h (begins-behind other (front ++ (q ∷ m)) g)).1 in
    (right.0, m ++ y, ap (λ (b : ℕ). b ∷ (m ++ y)) (tail-same right.2).0, right.3, right.4)
later (element_type d) other front q m y h g =
    let right = (right-behind (element_type d) front (q ∷ m) h (begins-behind other (front ++ (q ∷ m)) g)).1 in
    (right.0, m ++ y, ap (λ (b : ℕ). b ∷ (m ++ y)) (tail-same right.2).0, right.3, right.4)
later array_length other front q m y h g = length-later array_length other front q m y tt h g
later (list_length k) other front q m y h g = length-later (list_length k) other front q m y tt h g

-- No type byte comes where a length does.
abbrev IsType : Item → Type 0
IsType (field_type d) = ⊤
IsType (element_type d) = ⊤
IsType _ = ⊥

type-low : (item : Item) (front : List ℕ) (a : ℕ) (s : List ℕ) → IsType item → ComesBehind item front → Begins (front ++ (a ∷ s)) → a ≤ 12
type-low (field_type d) front a s is h begins =
    let right = (right-behind (field_type d) front (a ∷ s) h begins).1 in
    let head : a ≡ right.0 = (tail-same right.2).0 in
    let known = right.3 in
    omega arith
type-low (element_type d) front a s is h begins =
    let right = (right-behind (element_type d) front (a ∷ s) h begins).1 in
    let head : a ≡ right.0 = (tail-same right.2).0 in
    let known = right.3 in
    omega arith
type-low array_length front a s is h begins = absurd is
type-low (list_length k) front a s is h begins = absurd is

no-mix : (item other : Item) (front : List ℕ) → IsType item → IsLength other → ComesBehind item front → ComesBehind other front → ⊥
no-mix item (field_type d) front t is h g = is
no-mix item (element_type d) front t is h g = is
no-mix item array_length front t is h g =
    let low = type-low item front 13 _ t h (word-behind array_length front 13 g tt (omega arith) (λ wrong. omega arith)) in omega arith
no-mix item (list_length zero) front t is h g =
    let low = type-low item front 128 _ t h (word-behind (list_length zero) front 128 g tt (omega arith) (λ wrong. omega (arith, wrong.1))) in omega arith
no-mix item (list_length (suc k)) front t is h g =
    let low = type-low item front 13 _ t h (word-behind (list_length (suc k)) front 13 g tt (omega arith) (λ wrong. omega arith)) in omega arith

-- what a wrong item is
high-type : (item : Item) (rest : List ℕ) → IsWrong BadType item rest → IsType item × (t : ℕ) × (more : List ℕ) × (rest ≡ t ∷ more) × (12 < t)
high-type (field_type d) rest h = (tt, h.0, h.1, h.2, h.3)
high-type (element_type d) rest h = (tt, h.0, h.1, h.2, h.3)
high-type array_length rest h = absurd h.3
high-type (list_length k) rest h = absurd h.3

low-nest : (t : ℕ) → IsNest t → t ≤ 12
low-nest t nest = elim nest [ inl e ↦ omega arith | inr e ↦ omega arith ]

deep-type : (item : Item) (rest : List ℕ) → IsWrong TooDeep item rest → IsType item × (t : ℕ) × (more : List ℕ) × (rest ≡ t ∷ more) × (t ≤ 12)
deep-type (field_type d) rest h = (tt, h.0, h.1, h.2, low-nest h.0 h.3.0)
deep-type (element_type d) rest h = (tt, h.0, h.1, h.2, low-nest h.0 h.3.0)
deep-type array_length rest h = absurd h.3
deep-type (list_length k) rest h = absurd h.3

wrong-number : (item : Item) (rest : List ℕ) → IsWrong BadLength item rest → IsLength item × (4 ≤ length rest)
wrong-number (field_type d) rest h = absurd h.4
wrong-number (element_type d) rest h = absurd h.4
wrong-number array_length rest h = (tt, omega (arith, ap length h.2, length-append (unsigned w32 h.0) h.1, length-unsigned w32 h.0))
wrong-number (list_length k) rest h = (tt, omega (arith, ap length h.2, length-append (unsigned w32 h.0) h.1, length-unsigned w32 h.0))

not-both : (item other : Item) (rest : List ℕ) → IsWrong BadType item rest → IsWrong TooDeep other rest → ⊥
not-both item other rest h g =
    let high = high-type item rest h in
    let deep = deep-type other rest g in
    let head : high.1 ≡ deep.1 = (tail-same (sym high.3 ∙ deep.3)).0 in
    let a = high.4 in
    let b = deep.4 in
    omega arith

-- Two items that come at one place are wrong in one way.
module _ (item other : Item) (front rest : List ℕ) (h : ComesBehind item front) (g : ComesBehind other front) where
  same-kind : (kind also : NbtKind) → IsWrong kind item rest → IsWrong also other rest → kind ≡ also
  same-kind BadType BadType a b = refl
  same-kind TooDeep TooDeep a b = refl
  same-kind BadLength BadLength a b = refl
  same-kind BadType TooDeep a b = absurd (not-both item other rest a b)
  same-kind TooDeep BadType a b = absurd (not-both other item rest b a)
  same-kind BadType BadLength a b = absurd (no-mix item other front (high-type item rest a).0 (wrong-number other rest b).0 h g)
  same-kind TooDeep BadLength a b = absurd (no-mix item other front (deep-type item rest a).0 (wrong-number other rest b).0 h g)
  same-kind BadLength BadType a b = absurd (no-mix other item front (high-type other rest b).0 (wrong-number item rest a).0 g h)
  same-kind BadLength TooDeep a b = absurd (no-mix other item front (deep-type other rest b).0 (wrong-number item rest a).0 g h)
  same-kind Truncated also a b = absurd a
  same-kind Trailing also a b = absurd a
  same-kind RootNotCompound also a b = absurd a
  same-kind BadType Truncated a b = absurd b
  same-kind BadType Trailing a b = absurd b
  same-kind BadType RootNotCompound a b = absurd b
  same-kind TooDeep Truncated a b = absurd b
  same-kind TooDeep Trailing a b = absurd b
  same-kind TooDeep RootNotCompound a b = absurd b
  same-kind BadLength Truncated a b = absurd b
  same-kind BadLength Trailing a b = absurd b
  same-kind BadLength RootNotCompound a b = absurd b

  not-cut-and-wrong : (kind : NbtKind) → IsLength item → length rest < 4 → IsWrong kind other rest → ⊥
  not-cut-and-wrong BadType is few b = no-mix other item front (high-type other rest b).0 is g h
  not-cut-and-wrong TooDeep is few b = no-mix other item front (deep-type other rest b).0 is g h
  not-cut-and-wrong BadLength is few b = let many = (wrong-number other rest b).1 in omega arith
  not-cut-and-wrong Truncated is few b = b
  not-cut-and-wrong Trailing is few b = b
  not-cut-and-wrong RootNotCompound is few b = b

-- An item that is wrong, or a length that the end cuts.
abbrev Fails : List ℕ → ℕ → NbtKind → Item → List ℕ → List ℕ → Type 0
Fails s place kind item front rest = (IsWrong kind item rest × (place ≡ length front))
    ⊎ (IsLength item × (length rest < 4) × (place ≡ length s) × (kind ≡ Truncated))

-- The forms of a fault.
abbrev IsNoCompound : List ℕ → ℕ → NbtKind → Type 0
IsNoCompound s place kind = (place ≡ 0) × (kind ≡ RootNotCompound) × (b : ℕ) × (more : List ℕ) × (s ≡ b ∷ more) × (b ≢ 10)

abbrev HasMore : List ℕ → ℕ → NbtKind → Type 0
HasMore s place kind = (r : PlainRoot) × (b : ℕ) × (more : List ℕ) × CanBeSpelled r × (s ≡ spelling r ++ (b ∷ more)) × (place ≡ length (spelling r)) × (kind ≡ Trailing)

abbrev LacksMore : List ℕ → ℕ → NbtKind → Type 0
LacksMore s place kind = (r : PlainRoot) × (b : ℕ) × (more : List ℕ) × CanBeSpelled r × (spelling r ≡ s ++ (b ∷ more)) × (place ≡ length s) × (kind ≡ Truncated)

abbrev HasItem : List ℕ → ℕ → NbtKind → Type 0
HasItem s place kind = (item : Item) × (front : List ℕ) × (rest : List ℕ) × ComesBehind item front × (s ≡ front ++ rest) × Fails s place kind item front rest

data Form (s : List ℕ) (place : ℕ) (kind : NbtKind) : Type 0 where
  no_compound : IsNoCompound s place kind → Form s place kind
  more_behind : HasMore s place kind → Form s place kind
  more_lacks : LacksMore s place kind → Form s place kind
  at_item : HasItem s place kind → Form s place kind

wrong-form : (s : List ℕ) (place : ℕ) (kind : NbtKind) → IsWrongAt kind place s → Form s place kind
wrong-form s place kind h = at_item (h.1, beginning h.0 ++ h.2, h.3, (h.0, h.2, h.4, h.5, refl), h.8 ∙ sym (append_assoc (beginning h.0) h.2 h.3), inl (h.6, h.7))

form-of : (s : List ℕ) (place : ℕ) (kind : NbtKind) → IsFirstFault s place kind → Form s place kind
form-of s place RootNotCompound h = no_compound (h.0, refl, h.1, h.2, h.3, h.4)
form-of s place Trailing h = more_behind (h.0, h.1, h.2, h.3, h.4, h.5, refl)
form-of s place BadType h = wrong-form s place BadType h
form-of s place TooDeep h = wrong-form s place TooDeep h
form-of s place BadLength h = wrong-form s place BadLength h
form-of s place Truncated h = elim h.1 [
  | inl cut ↦ more_lacks (cut.0, cut.1, cut.2, cut.3, cut.4, h.0, refl)
  | inr cut ↦
      at_item (cut.1, beginning cut.0 ++ cut.2, cut.3, (cut.0, cut.2, cut.4, cut.5, refl), cut.8 ∙ sym (append_assoc (beginning cut.0) cut.2 cut.3), inr (cut.6, cut.7, h.0, refl))
]

-- an item that fails isn't right
fails-not : (s : List ℕ) (place : ℕ) (kind : NbtKind) (item : Item) (front rest : List ℕ) → Fails s place kind item front rest → IsRight item rest → ⊥
fails-not s place kind item front rest fails right = elim fails [
  | inl wrong ↦ not-wrong kind item rest right wrong.0
  | inr cut ↦ not-cut item rest cut.0 right cut.1
]

-- no root is shorter than what comes before an item
no-shorter : (item : Item) (front more : List ℕ) (r : PlainRoot) → CanBeSpelled r → ComesBehind item front → front ≡ spelling r ++ more → ⊥
no-shorter item front more r can h e =
    let on = goes-on-behind item front h in
    let root = on.3 in
    let split : spelling root.0 ≡ spelling r ++ (more ++ (on.0 ∷ (on.1 ++ root.1))) =
    root.3 ∙ append_assoc front (on.0 ∷ on.1) root.1 ∙ ap (λ (x : List ℕ). x ++ (on.0 ∷ (on.1 ++ root.1))) e ∙ append_assoc (spelling r) more (on.0 ∷ (on.1 ++ root.1)) in
    let none : [] ≡ more ++ (on.0 ∷ (on.1 ++ root.1)) = (root-same root.0 r [] (more ++ (on.0 ∷ (on.1 ++ root.1))) root.2 can (append-nil (spelling root.0) ∙ split)).1 in
    let long = length-append more (on.0 ∷ (on.1 ++ root.1)) in
    let few = ap length none in
    omega arith

-- what is begun starts with the root's type
first-ten : (b : Begun) (outer : List Begun) → IsBegun (b ∷ outer) → (more : List ℕ) × (beginning (b ∷ outer) ≡ 10 ∷ more)
first-ten b [] h = (short_text (begun_name b) ++ begun_payload b, ap (λ (t : ℕ). t ∷ (short_text (begun_name b) ++ begun_payload b)) h.2.0)
first-ten b (c ∷ outer) h =
    let under = first-ten c outer h.0 in
    let own : List ℕ = heading (c ∷ outer) (begun_type b) (begun_name b) ++ begun_payload b in
    (under.0 ++ own, ap (λ (x : List ℕ). x ++ own) under.1)

no-root-item : (item : Item) (before : List ℕ) → Comes [] item before → ⊥
no-root-item item before comes = elim comes [ inl at ↦ none item at.0 | inr at ↦ no-payload at.0 item at.2 at.3.0 at.4 ]
  where
    none : (item : Item) → IsFieldType [] item → ⊥
    none item at = at

    no-payload : (t : ℕ) (item : Item) (within : List ℕ) → t ≡ 10 → IsInPayload 0 t item within → ⊥
    no-payload t (field_type d) within ten h = h
    no-payload t (element_type d) within ten h = let nine = h.0 in omega arith
    no-payload t array_length within ten h = elim h.0 [ inl e ↦ omega arith | inr u ↦ elim u [ inl e ↦ omega arith | inr e ↦ omega arith ] ]
    no-payload t (list_length k) within ten h = let nine = h.0 in omega arith

item-ten : (item : Item) (front : List ℕ) → ComesBehind item front → (more : List ℕ) × (front ≡ 10 ∷ more)
item-ten item front h = at h.0 h.1 h.2 h.3 h.4
  where
    at : (begun : List Begun) (before : List ℕ) → IsBegun begun → Comes begun item before → front ≡ beginning begun ++ before → (more : List ℕ) × (front ≡ 10 ∷ more)
    at [] before is comes e = absurd (no-root-item item before comes)
    at (b ∷ outer) before is comes e = let ten = first-ten b outer is in (ten.0 ++ before, e ∙ ap (λ (x : List ℕ). x ++ before) ten.1)

abbrev One : ℕ → NbtKind → ℕ → NbtKind → Type 0
One place kind other also = (place ≡ other) × (kind ≡ also)

turned : (place other : ℕ) (kind also : NbtKind) → One other also place kind → One place kind other also
turned place other kind also h = (sym h.0, sym h.1)

module _ (s : List ℕ) (place other : ℕ) (kind also : NbtKind) where
  items-one : HasItem s place kind → HasItem s other also → One place kind other also
  items-one a b =
      elim (compare a.1 a.2 b.1 b.2 (sym a.4 ∙ b.4)) [
        | inl same ↦
            let g : ComesBehind b.0 a.1 = subst (ComesBehind b.0) (sym same.0) b.3 in
            elim a.5 [
              | inl wrong ↦ elim b.5 [
                | inl bad ↦ (wrong.1 ∙ ap length same.0 ∙ sym bad.1, same-kind a.0 b.0 a.1 a.2 a.3 g kind also wrong.0 (subst (IsWrong also b.0) (sym same.1) bad.0))
                | inr cut ↦ absurd (not-cut-and-wrong b.0 a.0 a.1 a.2 g a.3 kind cut.0 (subst (λ (x : List ℕ). length x < 4) (sym same.1) cut.1) wrong.0)
              ]
              | inr cut ↦ elim b.5 [
                | inl bad ↦ absurd (not-cut-and-wrong a.0 b.0 a.1 a.2 a.3 g also cut.0 cut.1 (subst (IsWrong also b.0) (sym same.1) bad.0))
                | inr more ↦ (cut.2 ∙ sym more.2, cut.3 ∙ sym more.3)
              ]
            ]
        | inr far ↦ elim far [
          | inl f ↦
              let right = later a.0 b.0 a.1 f.0 f.1 b.2 a.3 (subst (ComesBehind b.0) f.2 b.3) in
              absurd (fails-not s place kind a.0 a.1 a.2 a.5 (subst (IsRight a.0) (sym f.3) right))
          | inr f ↦
              let right = later b.0 a.0 b.1 f.0 f.1 a.2 b.3 (subst (ComesBehind a.0) f.2 a.3) in
              absurd (fails-not s other also b.0 b.1 b.2 b.5 (subst (IsRight b.0) (sym f.3) right))
        ]
      ]

  item-more : HasItem s place kind → HasMore s other also → One place kind other also
  item-more a b = elim (compare a.1 a.2 (spelling b.0) (b.1 ∷ b.2) (sym a.4 ∙ b.4)) [
    | inl same ↦ absurd (no-shorter a.0 a.1 [] b.0 b.3 a.3 (same.0 ∙ sym (append-nil (spelling b.0))))
    | inr far ↦ elim far [
      | inl f ↦
          let right = right-spelled a.0 a.1 (f.0 ∷ f.1) b.0 a.3 b.3 f.2 in
          absurd (fails-not s place kind a.0 a.1 a.2 a.5 (subst (IsRight a.0) (sym f.3) (right-longer a.0 (f.0 ∷ f.1) (b.1 ∷ b.2) right)))
      | inr f ↦ absurd (no-shorter a.0 a.1 (f.0 ∷ f.1) b.0 b.3 a.3 f.2)
    ]
  ]
    where
      right-longer : (item : Item) (x y : List ℕ) → IsRight item x → IsRight item (x ++ y)
      right-longer (field_type d) x y h = (h.0, h.1 ++ y, ap (λ (z : List ℕ). z ++ y) h.2, h.3, h.4)
      right-longer (element_type d) x y h = (h.0, h.1 ++ y, ap (λ (z : List ℕ). z ++ y) h.2, h.3, h.4)
      right-longer array_length x y h = (h.0, h.1 ++ y, ap (λ (z : List ℕ). z ++ y) h.2 ∙ append_assoc (unsigned w32 h.0) h.1 y, h.3, h.4)
      right-longer (list_length k) x y h = (h.0, h.1 ++ y, ap (λ (z : List ℕ). z ++ y) h.2 ∙ append_assoc (unsigned w32 h.0) h.1 y, h.3, h.4)

  item-lacks : HasItem s place kind → LacksMore s other also → One place kind other also
  item-lacks a b = elim a.5 [
    | inl wrong ↦
        let split : spelling b.0 ≡ a.1 ++ (a.2 ++ (b.1 ∷ b.2)) = b.4 ∙ ap (λ (x : List ℕ). x ++ (b.1 ∷ b.2)) a.4 ∙ append_assoc a.1 a.2 (b.1 ∷ b.2) in
        absurd (not-wrong kind a.0 (a.2 ++ (b.1 ∷ b.2)) (right-spelled a.0 a.1 (a.2 ++ (b.1 ∷ b.2)) b.0 a.3 b.3 split) (wrong-longer kind a.0 a.2 (b.1 ∷ b.2) wrong.0))
    | inr cut ↦ (cut.2 ∙ sym b.5, cut.3 ∙ sym b.6)
  ]
    where
      wrong-longer : (kind : NbtKind) (item : Item) (x y : List ℕ) → IsWrong kind item x → IsWrong kind item (x ++ y)
      wrong-longer BadType item x y h = (h.0, h.1 ++ y, ap (λ (z : List ℕ). z ++ y) h.2, h.3)
      wrong-longer TooDeep item x y h = (h.0, h.1 ++ y, ap (λ (z : List ℕ). z ++ y) h.2, h.3)
      wrong-longer BadLength item x y h = (h.0, h.1 ++ y, ap (λ (z : List ℕ). z ++ y) h.2 ∙ append_assoc (unsigned w32 h.0) h.1 y, h.3, h.4)
      wrong-longer Truncated item x y h = absurd h
      wrong-longer Trailing item x y h = absurd h
      wrong-longer RootNotCompound item x y h = absurd h

  more-more : HasMore s place kind → HasMore s other also → One place kind other also
  more-more a b =
      let same = (root-same a.0 b.0 (a.1 ∷ a.2) (b.1 ∷ b.2) a.3 b.3 (sym a.4 ∙ b.4)).0 in
      (a.5 ∙ ap (λ (r : PlainRoot). length (spelling r)) same ∙ sym b.5, a.6 ∙ sym b.6)

  more-lacks : HasMore s place kind → LacksMore s other also → One place kind other also
  more-lacks a b =
      absurd (longer-excludes b.0 a.0 a.1 (a.2 ++ (b.1 ∷ b.2)) b.3 a.3 (b.4 ∙ ap (λ (x : List ℕ). x ++ (b.1 ∷ b.2)) a.4 ∙ append_assoc (spelling a.0) (a.1 ∷ a.2) (b.1 ∷ b.2)))

  -- where the first byte is not 10, there is no root and no item
  none-more : IsNoCompound s place kind → HasMore s other also → One place kind other also
  none-more a b = absurd (a.5 (tail-same (sym a.4 ∙ b.4)).0)

  none-lacks : IsNoCompound s place kind → LacksMore s other also → One place kind other also
  none-lacks a b = absurd (a.5 (sym (tail-same (b.4 ∙ ap (λ (x : List ℕ). x ++ (b.1 ∷ b.2)) a.4)).0))

  none-item : IsNoCompound s place kind → HasItem s other also → One place kind other also
  none-item a b = let ten = item-ten b.0 b.1 b.3 in absurd (a.5 (tail-same (sym a.4 ∙ b.4 ∙ ap (λ (x : List ℕ). x ++ b.2) ten.1)).0)

one-form : (s : List ℕ) (place other : ℕ) (kind also : NbtKind) → Form s place kind → Form s other also → One place kind other also
one-form s place other kind also (no_compound a) (no_compound b) = (a.0 ∙ sym b.0, a.1 ∙ sym b.1)
one-form s place other kind also (no_compound a) (more_behind b) = none-more s place other kind also a b
one-form s place other kind also (no_compound a) (more_lacks b) = none-lacks s place other kind also a b
one-form s place other kind also (no_compound a) (at_item b) = none-item s place other kind also a b
one-form s place other kind also (more_behind a) (no_compound b) = turned place other kind also (none-more s other place also kind b a)
one-form s place other kind also (more_behind a) (more_behind b) = more-more s place other kind also a b
one-form s place other kind also (more_behind a) (more_lacks b) = more-lacks s place other kind also a b
one-form s place other kind also (more_behind a) (at_item b) = turned place other kind also (item-more s other place also kind b a)
one-form s place other kind also (more_lacks a) (no_compound b) = turned place other kind also (none-lacks s other place also kind b a)
one-form s place other kind also (more_lacks a) (more_behind b) = turned place other kind also (more-lacks s other place also kind b a)
one-form s place other kind also (more_lacks a) (more_lacks b) = (a.5 ∙ sym b.5, a.6 ∙ sym b.6)
one-form s place other kind also (more_lacks a) (at_item b) = turned place other kind also (item-lacks s other place also kind b a)
one-form s place other kind also (at_item a) (no_compound b) = turned place other kind also (none-item s other place also kind b a)
one-form s place other kind also (at_item a) (more_behind b) = item-more s place other kind also a b
one-form s place other kind also (at_item a) (more_lacks b) = item-lacks s place other kind also a b
one-form s place other kind also (at_item a) (at_item b) = items-one s place other kind also a b

-- Two first faults are one.
pub one-fault : (s : List ℕ) (place other : ℕ) (kind also : NbtKind) → IsFirstFault s place kind → IsFirstFault s other also → (place ≡ other) × (kind ≡ also)
one-fault s place other kind also a b = one-form s place other kind also (form-of s place kind a) (form-of s other also b)
