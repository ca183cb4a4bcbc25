-- What bytes start with, or where they stop: each list of bytes does one of the two.
use Rattle.std.proofs.Common.{◌≡◌, ◌<◌, ◌≤◌, ◌+◌, ◌*◌, ◌^◌, ℕ, zero, suc, List, [], ◌∷◌, ◌++◌, length, take, drop, refl, sym, ap, ◌∙◌, subst, arith, inl, inr}
use Rattle.std.specs.Prelude.{◌⊎◌}
use Rattle.std.specs.Int.{w16, w32, w64}
use Rattle.std.proofs.lemmas.Bool.{cases_lt, cases_eq}
use Rattle.std.proofs.lemmas.List.{append-nil, take-append-drop, length-take}
use Rattle.byteorder.specs.Endian.{big_from}
use Rattle.byteorder.specs.Numbers.{big_from-lt}
use Rattle.nbt.specs.Plain.{PlainTree, PlainField, bytes, text, ints, longs, empty_list, numbers}
use Rattle.nbt.specs.Spelling.{unsigned, short_text, all_signed, type_of, number_size, payload, max_depth, IsText, IsNest, MayHold, CanStand}
use Rattle.nbt.specs.Faults.{Begun, begun_compound, begun_list, begun_type, begun_name, begun_payload, heading, MayCome, IsRightSoFar, IsBegun, IsWrongLength, list_length}
use Rattle.nbt.specs.Reading.{IsCutText, IsLeaf, StopsAtLength, StopsAtElements, StopsAtType, StopsInLeaf, StopsInPayload, StopsAtNext, IsEnd}
use Rattle.nbt.specs.declared.refusals.NbtKind.{NbtKind}
use Rattle.nbt.specs.declared.refusals.NbtKind.TheVariants.{Truncated, BadType, BadLength, TooDeep, Trailing, RootNotCompound}
use Rattle.nbt.specs.declared.open.Stop.{Stop}
use Rattle.nbt.specs.declared.open.Stop.TheVariants.{At}
use Rattle.nbt.proofs.Unique.{numbers-count}
use Rattle.nbt.proofs.Fronts.{IsBytes, bytes-front, bytes-back, are-bytes, unsigned-16, unsigned-32, cut-text-length, cut-text-bytes, text-front}
use Rattle.nbt.proofs.Elements.{number-32, number-64, numbers-of, number-leaf, number-cut, stops-bytes, stops-ints, stops-longs, stops-leaf, string-cut, elements-front}
use Rattle.nbt.proofs.Stops.{list-type, list-empty, list-items, list-numbers, field-type, field-name, next-stops}
use Rattle.nbt.proofs.Onward.{empty-number}

-- the bytes stop, for want of memory aside
abbrev pub Stops : (Stop → Type 0) → Type 0
Stops P = (left : ℕ) × (kind : NbtKind) × P (At left kind)

abbrev Cuts : ℕ → List ℕ → Type 0
Cuts n s = (head : List ℕ) × (rest : List ℕ) × (s ≡ head ++ rest) × (length head ≡ n)

cut-front : (n : ℕ) (s : List ℕ) → (length s < n) ⊎ Cuts n s
cut-front n s = elim (cases_lt (length s) n) [
  | inl few ↦ inl few
  | inr many ↦ inr (take n s, drop n s, sym (take-append-drop n s), omega (arith, length-take n s))
]

abbrev HasNumber : List ℕ → Type 0
HasNumber s = (n : ℕ) × (rest : List ℕ) × (s ≡ unsigned w32 n ++ rest) × (n < 2 ^ 32)

number-front : (s : List ℕ) → IsBytes s → (length s < 4) ⊎ HasNumber s
number-front s h = elim (cut-front 4 s) [
  | inl few ↦ inl few
  | inr cut ↦
      let fits : IsBytes cut.0 = bytes-front cut.0 cut.1 (subst IsBytes cut.2 h) in
      let low = big_from-lt 0 4 cut.0 fits in
      inr (big_from 0 4 cut.0, cut.1, cut.2 ∙ ap (λ (x : List ℕ). x ++ cut.1) (sym (unsigned-32 cut.0 cut.3 fits)), omega arith)
]

abbrev HasText : List ℕ → Type 0
HasText s = (t : List ℕ) × (rest : List ℕ) × (s ≡ short_text t ++ rest) × IsText t

pub text-cuts : (s : List ℕ) → IsBytes s → IsCutText s ⊎ HasText s
text-cuts s h = elim (cut-front 2 s) [
  | inl few ↦ inl (cut-text-length s h few)
  | inr cut ↦
      let fits : IsBytes cut.0 = bytes-front cut.0 cut.1 (subst IsBytes cut.2 h) in
      let n : ℕ = big_from 0 2 cut.0 in
      let low = big_from-lt 0 2 cut.0 fits in
      let limit : n < 2 ^ 16 = omega arith in
      let front : s ≡ unsigned w16 n ++ cut.1 = cut.2 ∙ ap (λ (x : List ℕ). x ++ cut.1) (sym (unsigned-16 cut.0 cut.3 fits)) in
      elim (cut-front n cut.1) [
        | inl few ↦ inl (cut-text-bytes s cut.1 n h limit front few)
        | inr name ↦
            let here : IsBytes name.0 = bytes-front name.0 name.1 (subst IsBytes name.2 (bytes-back cut.0 cut.1 (subst IsBytes cut.2 h))) in
            inr (name.0, name.1, text-front s cut.1 name.1 name.0 n front name.2 name.3, (subst (λ (m : ℕ). m < 2 ^ 16) (sym name.3) limit, are-bytes name.0 here))
      ]
]

-- a length, and elements behind it
abbrev HasLength : List ℕ → Type 0
HasLength s = (n : ℕ) × (rest : List ℕ) × (s ≡ unsigned w32 n ++ rest) × (n < 2 ^ 31)

length-front : (s : List ℕ) → IsBytes s → Stops (StopsAtLength s) ⊎ HasLength s
length-front s h = elim (number-front s h) [
  | inl few ↦ inl (0, Truncated, (refl, few))
  | inr number ↦ elim (cases_lt number.0 (2 ^ 31)) [
    | inl low ↦ inr (number.0, number.1, number.2, low)
    | inr high ↦ inl (length s, BadLength, (refl, (number.0, number.1, number.2, number.3, high)))
  ]
]

stops-length : (size : ℕ) (s : List ℕ) (left : ℕ) (kind : NbtKind) → StopsAtLength s (At left kind) → StopsAtElements size s (At left kind)
stops-length size s left Truncated h = (h.0, inl h.1)
stops-length size s left BadLength h = h
stops-length size s left BadType h = absurd h
stops-length size s left TooDeep h = absurd h
stops-length size s left Trailing h = absurd h
stops-length size s left RootNotCompound h = absurd h

abbrev HasElements : ℕ → List ℕ → Type 0
HasElements size s = (n : ℕ) × (raw : List ℕ) × (rest : List ℕ) × (s ≡ unsigned w32 n ++ (raw ++ rest)) × (n < 2 ^ 31) × (length raw ≡ n * size)

elements-cut : (size : ℕ) (s : List ℕ) → IsBytes s → Stops (StopsAtElements size s) ⊎ HasElements size s
elements-cut size s h = elim (length-front s h) [
  | inl stops ↦ inl (stops.0, stops.1, stops-length size s stops.0 stops.1 stops.2)
  | inr counted ↦ elim (cut-front (counted.0 * size) counted.1) [
    | inl few ↦ inl (0, Truncated, (refl, inr (counted.0, counted.1, counted.2, counted.3, few)))
    | inr cut ↦ inr (counted.0, cut.0, cut.1, counted.2 ∙ ap (λ (x : List ℕ). unsigned w32 counted.0 ++ x) cut.2, counted.3, cut.3)
  ]
]

-- a leaf
abbrev HasLeaf : ℕ → List ℕ → Type 0
HasLeaf t s = (leaf : PlainTree) × (rest : List ℕ) × IsLeaf t s leaf rest

abbrev LeafOrStop : ℕ → List ℕ → Type 0
LeafOrStop t s = Stops (StopsInLeaf t s) ⊎ HasLeaf t s

number-or : (t : ℕ) (s : List ℕ) → 1 ≤ t → t ≤ 6 → IsBytes s → LeafOrStop t s
number-or t s low high h = elim (cut-front (number_size t) s) [
  | inl few ↦ inl (0, Truncated, (refl, inl (number-cut t s low high few h)))
  | inr cut ↦
      let leaf = number-leaf t cut.0 low high cut.3 (bytes-front cut.0 cut.1 (subst IsBytes cut.2 h)) in
      inr (leaf.0, cut.1, (leaf.1, leaf.2, cut.2 ∙ ap (λ (x : List ℕ). x ++ cut.1) (sym leaf.3)))
]

within : (s raw rest : List ℕ) (n : ℕ) → s ≡ unsigned w32 n ++ (raw ++ rest) → IsBytes s → IsBytes raw
within s raw rest n e h = bytes-front raw rest (bytes-back (unsigned w32 n) (raw ++ rest) (subst IsBytes e h))

bytes-or : (s : List ℕ) → IsBytes s → LeafOrStop 7 s
bytes-or s h = elim (elements-cut 1 s h) [
  | inl stops ↦ inl (stops.0, stops.1, stops-bytes s (At stops.0 stops.1) h stops.2)
  | inr row ↦
      let count : length row.1 ≡ row.0 = omega (arith, row.5) in
      inr (bytes row.1, row.2, (refl, λ depth. (subst (λ (m : ℕ). m < 2 ^ 31) (sym count) row.4, are-bytes row.1 (within s row.1 row.2 row.0 row.3 h)), elements-front s row.1 row.2 row.0 (length row.1) row.1 row.3 count refl))
]

text-or : (s : List ℕ) → IsBytes s → LeafOrStop 8 s
text-or s h = elim (text-cuts s h) [
  | inl cut ↦ inl (0, Truncated, (refl, inl (string-cut s cut)))
  | inr name ↦ inr (text name.0, name.1, (refl, λ depth. name.3, name.2))
]

ints-or : (s : List ℕ) → IsBytes s → LeafOrStop 11 s
ints-or s h = elim (elements-cut 4 s h) [
  | inl stops ↦ inl (stops.0, stops.1, stops-ints s (At stops.0 stops.1) h stops.2)
  | inr row ↦
      let zs = numbers-of w32 4 number-32 row.0 row.1 row.5 (within s row.1 row.2 row.0 row.3 h) in
      inr (ints zs.0, row.2, (refl, λ depth. (subst (λ (m : ℕ). m < 2 ^ 31) (sym zs.1) row.4, zs.2), elements-front s (all_signed w32 zs.0) row.2 row.0 (length zs.0) row.1 row.3 zs.1 zs.3))
]

longs-or : (s : List ℕ) → IsBytes s → LeafOrStop 12 s
longs-or s h = elim (elements-cut 8 s h) [
  | inl stops ↦ inl (stops.0, stops.1, stops-longs s (At stops.0 stops.1) h stops.2)
  | inr row ↦
      let zs = numbers-of w64 8 number-64 row.0 row.1 row.5 (within s row.1 row.2 row.0 row.3 h) in
      inr (longs zs.0, row.2, (refl, λ depth. (subst (λ (m : ℕ). m < 2 ^ 31) (sym zs.1) row.4, zs.2), elements-front s (all_signed w64 zs.0) row.2 row.0 (length zs.0) row.1 row.3 zs.1 zs.3))
]

-- what a payload starts with: a whole tree, or what is begun
pub data Part : Type 0 where
  whole : PlainTree → Part
  opened : Begun → Part

abbrev pub IsPart : ℕ → ℕ → List ℕ → List ℕ → Part → List ℕ → Type 0
IsPart depth t name s (whole one) rest = (type_of one ≡ t) × CanStand depth one × (s ≡ payload one ++ rest)
IsPart depth t name s (opened b) rest = (begun_type b ≡ t) × (begun_name b ≡ name) × IsRightSoFar (suc depth) b × (depth < max_depth) × (s ≡ begun_payload b ++ rest)

abbrev PartOrStop : ℕ → ℕ → List ℕ → List ℕ → Type 0
PartOrStop depth t name s = Stops (StopsInPayload depth t s) ⊎ ((part : Part) × (rest : List ℕ) × IsPart depth t name s part rest)

leaf-part : (depth t : ℕ) (name s : List ℕ) → LeafOrStop t s → PartOrStop depth t name s
leaf-part depth t name s or = elim or [
  | inl stops ↦ inl (stops.0, stops.1, stops-leaf t s (At stops.0 stops.1) depth stops.2)
  | inr leaf ↦ inr (whole leaf.0, leaf.1, (leaf.2.0, leaf.2.1 depth, leaf.2.2))
]

-- a type byte
abbrev HasType : ℕ → List ℕ → Type 0
HasType depth s = (t : ℕ) × (rest : List ℕ) × (s ≡ t ∷ rest) × (t ≤ 12) × MayHold depth t

nest-or : (t : ℕ) → IsNest t ⊎ (IsNest t → ⊥)
nest-or t = elim (cases_eq t 9) [
  | inl nine ↦ inl (inl nine)
  | inr not_nine ↦ elim (cases_eq t 10) [
    | inl ten ↦ inl (inr ten)
    | inr not_ten ↦ inr (λ nest. elim nest [ inl e ↦ not_nine e | inr e ↦ not_ten e ])
  ]
]

type-front : (depth : ℕ) (s : List ℕ) → Stops (StopsAtType depth s) ⊎ HasType depth s
type-front depth [] = inl (0, Truncated, (refl, refl))
type-front depth (t ∷ rest) = elim (cases_lt 12 t) [
  | inl high ↦ inl (suc (length rest), BadType, (refl, t, rest, refl, high))
  | inr known ↦ elim (cases_lt depth max_depth) [
    | inl room ↦ inr (t, rest, refl, known, λ nest. room)
    | inr deep ↦ elim (nest-or t) [
      | inl nest ↦ inl (suc (length rest), TooDeep, (refl, t, rest, refl, nest, deep))
      | inr leaf ↦ inr (t, rest, refl, known, λ nest. absurd (leaf nest))
    ]
  ]
]

-- a list, behind its element type
module _ (depth element : ℕ) (name s rest : List ℕ) (room : depth < max_depth) (known : element ≤ 12) (hold : MayHold (suc depth) element) (e : s ≡ element ∷ rest) (h : IsBytes rest) where
  empty-part : element ≡ 0 → PartOrStop depth 9 name s
  empty-part none = elim (number-front rest h) [
    | inl few ↦ inl (0, Truncated, list-empty depth element s rest known hold e (At 0 Truncated) none (refl, few))
    | inr number ↦ elim (wrong-or number.0) [
      | inl wrong ↦ inl (length rest, BadLength, list-empty depth element s rest known hold e (At (length rest) BadLength) none (refl, number.0, number.1, number.2, wrong.0, wrong.1))
      | inr right ↦
          let z = empty-number number.0 number.3 right in
          inr (whole (empty_list z.0), number.1, (refl, (room, z.1, z.2), e ∙ ap (λ (k : ℕ). k ∷ rest) none ∙ ap (λ (x : List ℕ). 0 ∷ x) (number.2 ∙ ap (λ (x : List ℕ). x ++ number.1) (sym z.3))))
    ]
  ]
    where
      wrong-or : (n : ℕ) → IsWrongLength (list_length 0) n ⊎ (IsWrongLength (list_length 0) n → ⊥)
      wrong-or n = elim (cases_lt 0 n) [
        | inl some ↦ elim (cases_lt n (2 ^ 31)) [
          | inl low ↦ inl (some, low)
          | inr high ↦ inr (λ wrong. omega (arith, wrong.1))
        ]
        | inr none ↦ inr (λ wrong. omega (arith, wrong.0))
      ]

  numbers-part : 1 ≤ element → element ≤ 6 → PartOrStop depth 9 name s
  numbers-part low high = elim (elements-cut (number_size element) rest h) [
    | inl stops ↦ inl (stops.0, stops.1, list-numbers depth element s rest known hold e (At stops.0 stops.1) h room low high stops.2)
    | inr row ↦
        let count = numbers-count element row.0 row.1 row.5 in
        inr (
          whole (numbers element row.1),
          row.2,
          (refl, (room, low, high, row.0, row.5, row.4, are-bytes row.1 (within rest row.1 row.2 row.0 row.3 h)), e ∙ ap (λ (x : List ℕ). element ∷ x) (elements-front rest row.1 row.2 row.0 _ row.1 row.3 count refl)),
        )
  ]

  items-part : 7 ≤ element → PartOrStop depth 9 name s
  items-part low = elim (length-front rest h) [
    | inl stops ↦ inl (stops.0, stops.1, list-items depth element s rest known hold e (At stops.0 stops.1) low stops.2)
    | inr counted ↦
        let n : ℕ = counted.0 in
        let none : 0 + n ≡ n = omega arith in
        let spelled : s ≡ (element ∷ (unsigned w32 (0 + n) ++ [])) ++ counted.1 =
        e ∙ ap (λ (x : List ℕ). element ∷ x) (counted.2 ∙ ap (λ (m : ℕ). unsigned w32 m ++ counted.1) (sym none)
        ∙ ap (λ (x : List ℕ). x ++ counted.1) (sym (append-nil (unsigned w32 (0 + n))))) in
        inr (opened (begun_list name element n []), counted.1, (refl, refl, (low, known, hold, subst (λ (m : ℕ). m < 2 ^ 31) (sym none) counted.3, tt), room, spelled))
  ]

list-part : (depth : ℕ) (name s : List ℕ) → depth < max_depth → IsBytes s → PartOrStop depth 9 name s
list-part depth name s room h = elim (type-front (suc depth) s) [
  | inl stops ↦ inl (stops.0, stops.1, list-type depth (suc depth) s (At stops.0 stops.1) room refl stops.2)
  | inr one ↦
      let fits : IsBytes one.1 = bytes-back (one.0 ∷ []) one.1 (subst IsBytes one.2 h) in
      elim (cases_lt 0 one.0) [
        | inl some ↦ elim (cases_lt one.0 7) [
          | inl low ↦ numbers-part depth one.0 name s one.1 room one.3 one.4 one.2 fits some (omega arith)
          | inr high ↦ items-part depth one.0 name s one.1 room one.3 one.4 one.2 fits high
        ]
        | inr none ↦ empty-part depth one.0 name s one.1 room one.3 one.4 one.2 fits (omega arith)
      ]
]

compound-part : (depth : ℕ) (name s : List ℕ) → depth < max_depth → PartOrStop depth 10 name s
compound-part depth name s room = inr (opened (begun_compound name []), s, (refl, refl, tt, room, refl))

-- a payload of a type that may come
pub payload-front : (depth t : ℕ) (name s : List ℕ) → 1 ≤ t → t ≤ 12 → MayHold depth t → IsBytes s → PartOrStop depth t name s
payload-front depth zero name s low high hold h = absurd (omega arith)
payload-front depth (suc zero) name s low high hold h = leaf-part depth 1 name s (number-or 1 s (omega arith) (omega arith) h)
payload-front depth (suc (suc zero)) name s low high hold h = leaf-part depth 2 name s (number-or 2 s (omega arith) (omega arith) h)
payload-front depth (suc (suc (suc zero))) name s low high hold h = leaf-part depth 3 name s (number-or 3 s (omega arith) (omega arith) h)
payload-front depth (suc (suc (suc (suc zero)))) name s low high hold h = leaf-part depth 4 name s (number-or 4 s (omega arith) (omega arith) h)
payload-front depth (suc (suc (suc (suc (suc zero))))) name s low high hold h = leaf-part depth 5 name s (number-or 5 s (omega arith) (omega arith) h)
payload-front depth (suc (suc (suc (suc (suc (suc zero)))))) name s low high hold h = leaf-part depth 6 name s (number-or 6 s (omega arith) (omega arith) h)
payload-front depth (suc (suc (suc (suc (suc (suc (suc zero))))))) name s low high hold h = leaf-part depth 7 name s (bytes-or s h)
payload-front depth (suc (suc (suc (suc (suc (suc (suc (suc zero)))))))) name s low high hold h = leaf-part depth 8 name s (text-or s h)
payload-front depth (suc (suc (suc (suc (suc (suc (suc (suc (suc zero))))))))) name s low high hold h = list-part depth name s (hold (inl refl)) h
payload-front depth (suc (suc (suc (suc (suc (suc (suc (suc (suc (suc zero)))))))))) name s low high hold h = compound-part depth name s (hold (inr refl))
payload-front depth (suc (suc (suc (suc (suc (suc (suc (suc (suc (suc (suc zero))))))))))) name s low high hold h = leaf-part depth 11 name s (ints-or s h)
payload-front depth (suc (suc (suc (suc (suc (suc (suc (suc (suc (suc (suc (suc zero)))))))))))) name s low high hold h = leaf-part depth 12 name s (longs-or s h)
payload-front depth (suc (suc (suc (suc (suc (suc (suc (suc (suc (suc (suc (suc (suc t))))))))))))) name s low high hold h = absurd (omega arith)

-- what comes next in the inmost: a part behind its heading, or the end
abbrev pub HasPart : List Begun → List ℕ → Type 0
HasPart begun s = (t : ℕ) × (name : List ℕ) × (behind : List ℕ) × (part : Part) × (rest : List ℕ) × MayCome begun t name × (s ≡ heading begun t name ++ behind)
    × IsPart (length begun) t name behind part rest

abbrev pub NextOrStop : List Begun → List ℕ → Type 0
NextOrStop begun s = Stops (StopsAtNext begun s) ⊎ (HasPart begun s ⊎ ((rest : List ℕ) × IsEnd begun s rest))

part-or : (begun : List Begun) (t : ℕ) (name s behind : List ℕ) → MayCome begun t name → s ≡ heading begun t name ++ behind → PartOrStop (length begun) t name behind → NextOrStop begun s
part-or begun t name s behind come e or = elim or [
  | inl stops ↦ inl (stops.0, stops.1, next-stops begun t name s behind come e (length begun) (At stops.0 stops.1) refl stops.2)
  | inr part ↦ inr (inl (t, name, behind, part.0, part.1, come, e, part.2))
]

next-field : (own : List ℕ) (held : List PlainField) (outer : List Begun) (s : List ℕ) → IsBytes s → NextOrStop (begun_compound own held ∷ outer) s
next-field own held outer s h = elim (type-front (suc (length outer)) s) [
  | inl stops ↦ inl (stops.0, stops.1, field-type own held outer s (suc (length outer)) (At stops.0 stops.1) refl stops.2)
  | inr one ↦ elim (cases_lt 0 one.0) [
    | inl some ↦
        let fits : IsBytes one.1 = bytes-back (one.0 ∷ []) one.1 (subst IsBytes one.2 h) in
        elim (text-cuts one.1 fits) [
          | inl cut ↦ inl (0, Truncated, field-name own held outer s one.0 one.1 some one.3 one.4 one.2 cut)
          | inr name ↦
              let here : IsBytes name.1 = bytes-back (short_text name.0) name.1 (subst IsBytes name.2 fits) in
              let come : MayCome (begun_compound own held ∷ outer) one.0 name.0 = (some, one.3, one.4, name.3) in
              part-or (begun_compound own held ∷ outer) one.0 name.0 s name.1 come (one.2 ∙ ap (λ (x : List ℕ). one.0 ∷ x) name.2)
              (payload-front (suc (length outer)) one.0 name.0 name.1 some one.3 one.4 here)
        ]
    | inr none ↦ let zero_type : one.0 ≡ 0 = omega arith in inr (inr (one.1, one.2 ∙ ap (λ (t : ℕ). t ∷ one.1) zero_type))
  ]
]

next-item : (own : List ℕ) (element left : ℕ) (held : List PlainTree) (outer : List Begun) (s : List ℕ) → IsRightSoFar (suc (length outer)) (begun_list own element left held) → IsBytes s
    → NextOrStop (begun_list own element left held ∷ outer) s
next-item own element left held outer s right h = elim (cases_lt 0 left) [
  | inl some ↦
      let low = right.0 in
      let come : MayCome (begun_list own element left held ∷ outer) element [] = (refl, some, refl) in
      part-or (begun_list own element left held ∷ outer) element [] s s come refl (payload-front (suc (length outer)) element [] s (omega arith) right.1 right.2 h)
  | inr none ↦ inr (inr (s, (omega arith, refl)))
]

pub next-front : (b : Begun) (outer : List Begun) (s : List ℕ) → IsBegun (b ∷ outer) → IsBytes s → NextOrStop (b ∷ outer) s
next-front (begun_compound own held) outer s begun h = next-field own held outer s h
next-front (begun_list own element left held) outer s begun h = next-item own element left held outer s begun.3 h
