-- Numbers, arrays and texts: each list of bytes of the right length is one, and bytes that end too early begin one.
use Rattle.std.proofs.Common.{◌≡◌, ◌<◌, ◌≤◌, ◌-◌, ◌*◌, ◌^◌, ℕ, zero, suc, ℤ, List, [], ◌∷◌, ◌++◌, length, take, drop, get_or, refl, sym, ap, ◌∙◌, subst, arith, append_assoc, inl, inr}
use Rattle.std.specs.Prelude.{FitsSigned, replicate}
use Rattle.std.specs.List.{AllByRecursion}
use Rattle.std.specs.Int.{Width, w8, w16, w32, w64, cast_signed}
use Rattle.std.proofs.lemmas.List.{append-nil, take-append-drop, length-take, length-drop}
use Rattle.std.proofs.Math.Facts.{sfits_to_z, Fits-of_lt}
use mir.Val.{bits}
use Rattle.byteorder.specs.Endian.{big_from}
use Rattle.nbt.specs.Plain.{PlainTree, byte, short, int, long, float, double, bytes, text, ints, longs}
use Rattle.nbt.specs.Spelling.{unsigned, signed, all_signed, type_of, number_size, payload, CanStand}
use Rattle.nbt.specs.Faults.{IsArray, array_length}
use Rattle.nbt.specs.Reading.{IsCutText, IsCutLeaf, IsCutPayload, LacksElements, StopsAtElements, StopsInLeaf, StopsInPayload}
use Rattle.nbt.specs.declared.refusals.NbtKind.TheVariants.{Truncated, BadType, BadLength, TooDeep, Trailing, RootNotCompound}
use Rattle.nbt.specs.declared.open.Stop.{Stop}
use Rattle.nbt.specs.declared.open.Stop.TheVariants.{At, NoMemory}
use Rattle.byteorder.specs.Numbers.{big_from-lt}
use Rattle.nbt.proofs.Fronts.{IsBytes, bytes-front, bytes-back, bytes-zeros, bytes-append, are-bytes, unsigned-8, unsigned-16, unsigned-32, unsigned-64, signed-cast, filled}

-- a number in two's complement whose bytes these are
abbrev pub IsNumberOf : Width → List ℕ → Type 0
IsNumberOf w raw = (z : ℤ) × FitsSigned w z × (signed w z ≡ raw)

signed_of : (w : Width) (n : ℕ) (raw : List ℕ) → n < 2 ^ bits w → unsigned w n ≡ raw → IsNumberOf w raw
signed_of w n raw h e = (cast_signed w n, sfits_to_z {w = w} {n = n} (Fits-of_lt h), signed-cast w n h ∙ e)

pub number-8 : (raw : List ℕ) → length raw ≡ 1 → IsBytes raw → IsNumberOf w8 raw
number-8 [] e h = absurd (omega arith)
number-8 (b ∷ []) e h = let low : b < 256 = h 0 in signed_of w8 b (b ∷ []) (omega arith) (unsigned-8 b low)
number-8 (b ∷ c ∷ raw) e h = absurd (omega arith)

pub number-16 : (raw : List ℕ) → length raw ≡ 2 → IsBytes raw → IsNumberOf w16 raw
number-16 raw e h = let low = big_from-lt 0 2 raw h in signed_of w16 (big_from 0 2 raw) raw (omega arith) (unsigned-16 raw e h)

pub number-32 : (raw : List ℕ) → length raw ≡ 4 → IsBytes raw → IsNumberOf w32 raw
number-32 raw e h = let low = big_from-lt 0 4 raw h in signed_of w32 (big_from 0 4 raw) raw (omega arith) (unsigned-32 raw e h)

pub number-64 : (raw : List ℕ) → length raw ≡ 8 → IsBytes raw → IsNumberOf w64 raw
number-64 raw e h = let low = big_from-lt 0 8 raw h in signed_of w64 (big_from 0 8 raw) raw (omega arith) (unsigned-64 raw e h)

-- numbers in two's complement whose bytes these are, one after the other
abbrev pub AreNumbersOf : Width → ℕ → List ℕ → Type 0
AreNumbersOf w n raw = (zs : List ℤ) × (length zs ≡ n) × AllByRecursion (FitsSigned w) zs × (all_signed w zs ≡ raw)

module _ (w : Width) (size : ℕ) (one : (raw : List ℕ) → length raw ≡ size → IsBytes raw → IsNumberOf w raw) where
  pub numbers-of : (n : ℕ) (raw : List ℕ) → length raw ≡ n * size → IsBytes raw → AreNumbersOf w n raw
  numbers-of zero [] e h = ([], refl, tt, refl)
  numbers-of zero (b ∷ raw) e h = absurd (omega arith)
  numbers-of (suc n) raw e h =
      let all : size ≤ length raw = omega arith in
      let split : take size raw ++ drop size raw ≡ raw = take-append-drop size raw in
      let fits : IsBytes (take size raw ++ drop size raw) = subst IsBytes (sym split) h in
      let count : length (take size raw) ≡ size = omega (arith, length-take size raw) in
      let first = one (take size raw) count (bytes-front (take size raw) (drop size raw) fits) in
      let left : length (drop size raw) ≡ n * size = omega (arith, length-drop size raw) in
      let later = numbers-of n (drop size raw) left (bytes-back (take size raw) (drop size raw) fits) in (
        first.0 ∷ later.0,
        ap suc later.1,
        (first.1, later.2),
        ap (λ (s : List ℕ). s ++ all_signed w later.0) first.2 ∙ ap (λ (s : List ℕ). take size raw ++ s) later.3 ∙ split,
      )

-- a number at the end of a row
pub all_signed-push : (w : Width) (zs : List ℤ) (z : ℤ) → all_signed w (zs ++ z ∷ []) ≡ all_signed w zs ++ signed w z
all_signed-push w [] z = append-nil (signed w z)
all_signed-push w (y ∷ zs) z = ap (λ (s : List ℕ). signed w y ++ s) (all_signed-push w zs z) ∙ sym (append_assoc (signed w y) (all_signed w zs) (signed w z))

pub all-push : {X : Type 0} (P : X → Type 0) (xs : List X) (x : X) → AllByRecursion P xs → P x → AllByRecursion P (xs ++ x ∷ [])
all-push P [] x h p = (p, tt)
all-push P (y ∷ xs) x h p = (h.0, all-push P xs x h.1 p)

-- each list of bytes as long as a number of this type is its payload
pub number-leaf : (t : ℕ) (raw : List ℕ) → 1 ≤ t → t ≤ 6 → length raw ≡ number_size t → IsBytes raw
    → (leaf : PlainTree) × (type_of leaf ≡ t) × ((depth : ℕ) → CanStand depth leaf) × (payload leaf ≡ raw)
number-leaf zero raw low high e h = absurd (omega arith)
number-leaf (suc zero) raw low high e h = let z = number-8 raw e h in (byte z.0, refl, λ depth. z.1, z.2)
number-leaf (suc (suc zero)) raw low high e h = let z = number-16 raw e h in (short z.0, refl, λ depth. z.1, z.2)
number-leaf (suc (suc (suc zero))) raw low high e h = let z = number-32 raw e h in (int z.0, refl, λ depth. z.1, z.2)
number-leaf (suc (suc (suc (suc zero)))) raw low high e h = let z = number-64 raw e h in (long z.0, refl, λ depth. z.1, z.2)
number-leaf (suc (suc (suc (suc (suc zero))))) raw low high e h = (float raw, refl, λ depth. (e, are-bytes raw h), refl)
number-leaf (suc (suc (suc (suc (suc (suc zero)))))) raw low high e h = (double raw, refl, λ depth. (e, are-bytes raw h), refl)
number-leaf (suc (suc (suc (suc (suc (suc (suc t))))))) raw low high e h = absurd (omega arith)

bytes-filled : (s : List ℕ) (n : ℕ) → IsBytes s → IsBytes (s ++ (0 ∷ replicate n 0))
bytes-filled s n h = bytes-append s (0 ∷ replicate n 0) h (bytes-zeros (suc n))

pub number-cut : (t : ℕ) (s : List ℕ) → 1 ≤ t → t ≤ 6 → length s < number_size t → IsBytes s → IsCutLeaf t s
number-cut t s low high few h =
    let n = number_size t - suc (length s) in
    let leaf = number-leaf t (s ++ (0 ∷ replicate n 0)) low high (filled s (number_size t) few) (bytes-filled s n h) in
    (leaf.0, 0, replicate n 0, leaf.1, leaf.2, leaf.3)

-- bytes behind their length that end too early begin an array
module _ (s rest : List ℕ) (n size : ℕ) (e : s ≡ unsigned w32 n ++ rest) (limit : n < 2 ^ 31) (few : length rest < n * size) (h : IsBytes s) where
  gap : ℕ
  gap = n * size - suc (length rest)

  whole : List ℕ
  whole = rest ++ (0 ∷ replicate gap 0)

  whole-length : length whole ≡ n * size
  unfolding whole gap
  whole-length = filled rest (n * size) few

  whole-bytes : IsBytes whole
  unfolding whole
  whole-bytes = bytes-filled rest gap (bytes-back (unsigned w32 n) rest (subst IsBytes e h))

  goes-on : (count : ℕ) (raw : List ℕ) → count ≡ n → raw ≡ whole → unsigned w32 count ++ raw ≡ s ++ (0 ∷ replicate gap 0)
  unfolding whole
  goes-on count raw c r =
      ap (λ (m : ℕ). unsigned w32 m ++ raw) c ∙ ap (λ (x : List ℕ). unsigned w32 n ++ x) r ∙ sym (append_assoc (unsigned w32 n) rest (0 ∷ replicate gap 0))
      ∙ ap (λ (x : List ℕ). x ++ (0 ∷ replicate gap 0)) (sym e)

  bytes-cut : size ≡ 1 → IsCutLeaf 7 s
  bytes-cut one =
      let count : length whole ≡ n = whole-length ∙ ap (λ (m : ℕ). n * m) one ∙ omega arith in
      (bytes whole, 0, replicate gap 0, refl, λ depth. (subst (λ (m : ℕ). m < 2 ^ 31) (sym count) limit, are-bytes whole whole-bytes), goes-on (length whole) whole count refl)

  ints-cut : size ≡ 4 → IsCutLeaf 11 s
  ints-cut four =
      let zs = numbers-of w32 4 number-32 n whole (whole-length ∙ ap (λ (m : ℕ). n * m) four) whole-bytes in
      (ints zs.0, 0, replicate gap 0, refl, λ depth. (subst (λ (m : ℕ). m < 2 ^ 31) (sym zs.1) limit, zs.2), goes-on (length zs.0) (all_signed w32 zs.0) zs.1 zs.3)

  longs-cut : size ≡ 8 → IsCutLeaf 12 s
  longs-cut eight =
      let zs = numbers-of w64 8 number-64 n whole (whole-length ∙ ap (λ (m : ℕ). n * m) eight) whole-bytes in
      (longs zs.0, 0, replicate gap 0, refl, λ depth. (subst (λ (m : ℕ). m < 2 ^ 31) (sym zs.1) limit, zs.2), goes-on (length zs.0) (all_signed w64 zs.0) zs.1 zs.3)

pub cut-leaf : (t : ℕ) (s : List ℕ) (depth : ℕ) → IsCutLeaf t s → IsCutPayload depth t s
cut-leaf t s depth h = (h.0, h.1, h.2, h.3, h.4 depth, h.5)

-- where the elements of an array stop, its payload does
stops-array : (t size : ℕ) (s : List ℕ) (stop : Stop) → IsArray t → (LacksElements size s → IsCutLeaf t s) → StopsAtElements size s stop → StopsInLeaf t s stop
stops-array t size s NoMemory array cut h = tt
stops-array t size s (At left Truncated) array cut h = elim h.1 [
  | inl few ↦ (h.0, inr (array, few))
  | inr lacks ↦ (h.0, inl (cut lacks))
]
stops-array t size s (At left BadLength) array cut h = (h.0, array, h.1)
stops-array t size s (At left BadType) array cut h = absurd h
stops-array t size s (At left TooDeep) array cut h = absurd h
stops-array t size s (At left Trailing) array cut h = absurd h
stops-array t size s (At left RootNotCompound) array cut h = absurd h

pub stops-bytes : (s : List ℕ) (stop : Stop) → IsBytes s → StopsAtElements 1 s stop → StopsInLeaf 7 s stop
stops-bytes s stop h = stops-array 7 1 s stop (inl refl) (λ l. bytes-cut s l.1 l.0 1 l.2 l.3 l.4 h refl)

pub stops-ints : (s : List ℕ) (stop : Stop) → IsBytes s → StopsAtElements 4 s stop → StopsInLeaf 11 s stop
stops-ints s stop h = stops-array 11 4 s stop (inr (inl refl)) (λ l. ints-cut s l.1 l.0 4 l.2 l.3 l.4 h refl)

pub stops-longs : (s : List ℕ) (stop : Stop) → IsBytes s → StopsAtElements 8 s stop → StopsInLeaf 12 s stop
stops-longs s stop h = stops-array 12 8 s stop (inr (inr refl)) (λ l. longs-cut s l.1 l.0 8 l.2 l.3 l.4 h refl)

-- where a leaf's payload stops, the payload does
pub stops-leaf : (t : ℕ) (s : List ℕ) (stop : Stop) (depth : ℕ) → StopsInLeaf t s stop → StopsInPayload depth t s stop
stops-leaf t s NoMemory depth h = tt
stops-leaf t s (At left Truncated) depth h = elim h.1 [
  | inl one ↦ (h.0, inl (cut-leaf t s depth one))
  | inr few ↦ (h.0, inr (array_length, [], s, (few.0, refl), tt, few.1, refl))
]
stops-leaf t s (At left BadLength) depth h =
    (array_length, [], s, (h.1, refl), (h.2.0, h.2.1, h.2.2, h.2.3, h.2.4), h.0, refl)
stops-leaf t s (At left BadType) depth h = absurd h
stops-leaf t s (At left TooDeep) depth h = absurd h
stops-leaf t s (At left Trailing) depth h = absurd h
stops-leaf t s (At left RootNotCompound) depth h = absurd h

-- a text that is cut
pub string-cut : (s : List ℕ) → IsCutText s → IsCutLeaf 8 s
string-cut s h = (text h.0, h.1, h.2, refl, λ depth. h.3, h.4)

-- the parts of an array
pub elements-front : (s row rest : List ℕ) (n count : ℕ) (raw : List ℕ) → s ≡ unsigned w32 n ++ (raw ++ rest) → count ≡ n → row ≡ raw
    → s ≡ (unsigned w32 count ++ row) ++ rest
elements-front s row rest n count raw e c r =
    e ∙ ap (λ (m : ℕ). unsigned w32 m ++ (raw ++ rest)) (sym c) ∙ ap (λ (x : List ℕ). unsigned w32 count ++ (x ++ rest)) (sym r) ∙ sym (append_assoc (unsigned w32 count) row rest)

pub elements-bytes : (s rest raw row : List ℕ) (n : ℕ) → IsBytes s → s ≡ unsigned w32 n ++ (raw ++ rest) → row ≡ raw → IsBytes row
elements-bytes s rest raw row n h e r = subst IsBytes (sym r) (bytes-front raw rest (bytes-back (unsigned w32 n) (raw ++ rest) (subst IsBytes e h)))

-- a number that was read from these bytes
signed_at : (w : Width) (n : ℕ) (raw : List ℕ) (z : ℤ) → n < 2 ^ bits w → unsigned w n ≡ raw → z ≡ cast_signed w n → FitsSigned w z × (signed w z ≡ raw)
unfolding signed_of
signed_at w n raw z h u e = subst (λ (y : ℤ). FitsSigned w y × (signed w y ≡ raw)) (sym e) (let one = signed_of w n raw h u in (one.1, one.2))

pub read-8 : (raw : List ℕ) (z : ℤ) → length raw ≡ 1 → IsBytes raw → z ≡ cast_signed w8 (get_or raw 0 0) → FitsSigned w8 z × (signed w8 z ≡ raw)
read-8 [] z e h r = absurd (omega arith)
read-8 (b ∷ []) z e h r = let low : b < 256 = h 0 in signed_at w8 b (b ∷ []) z (omega arith) (unsigned-8 b low) r
read-8 (b ∷ c ∷ raw) z e h r = absurd (omega arith)

pub read-16 : (raw : List ℕ) (z : ℤ) → length raw ≡ 2 → IsBytes raw → z ≡ cast_signed w16 (big_from 0 2 raw) → FitsSigned w16 z × (signed w16 z ≡ raw)
read-16 raw z e h = let low = big_from-lt 0 2 raw h in signed_at w16 (big_from 0 2 raw) raw z (omega arith) (unsigned-16 raw e h)

pub read-32 : (raw : List ℕ) (z : ℤ) → length raw ≡ 4 → IsBytes raw → z ≡ cast_signed w32 (big_from 0 4 raw) → FitsSigned w32 z × (signed w32 z ≡ raw)
read-32 raw z e h = let low = big_from-lt 0 4 raw h in signed_at w32 (big_from 0 4 raw) raw z (omega arith) (unsigned-32 raw e h)

pub read-64 : (raw : List ℕ) (z : ℤ) → length raw ≡ 8 → IsBytes raw → z ≡ cast_signed w64 (big_from 0 8 raw) → FitsSigned w64 z × (signed w64 z ≡ raw)
read-64 raw z e h = let low = big_from-lt 0 8 raw h in signed_at w64 (big_from 0 8 raw) raw z (omega arith) (unsigned-64 raw e h)

-- one more number of an array
pub row-grows : (w : Width) (zs more : List ℤ) (z : ℤ) (s rest head behind : List ℕ) → all_signed w zs ++ rest ≡ s → more ≡ zs ++ z ∷ [] → signed w z ≡ head
    → rest ≡ head ++ behind → all_signed w more ++ behind ≡ s
row-grows w zs more z s rest head behind e m f g =
    ap (λ (ys : List ℤ). all_signed w ys ++ behind) m ∙ ap (λ (x : List ℕ). x ++ behind) (all_signed-push w zs z) ∙ append_assoc (all_signed w zs) (signed w z) behind
    ∙ ap (λ (x : List ℕ). all_signed w zs ++ (x ++ behind)) f ∙ ap (λ (x : List ℕ). all_signed w zs ++ x) (sym g) ∙ e

pub four_reads : (s : List ℕ) → length s ≡ 4 → get_or s 0 0 ∷ get_or s 1 0 ∷ get_or s 2 0 ∷ get_or s 3 0 ∷ [] ≡ s
four_reads [] e = absurd (omega arith)
four_reads (a ∷ []) e = absurd (omega arith)
four_reads (a ∷ b ∷ []) e = absurd (omega arith)
four_reads (a ∷ b ∷ c ∷ []) e = absurd (omega arith)
four_reads (a ∷ b ∷ c ∷ d ∷ []) e = refl
four_reads (a ∷ b ∷ c ∷ d ∷ x ∷ s) e = absurd (omega arith)

pub eight_reads : (s : List ℕ) → length s ≡ 8
    → get_or s 0 0 ∷ get_or s 1 0 ∷ get_or s 2 0 ∷ get_or s 3 0 ∷ get_or s 4 0 ∷ get_or s 5 0 ∷ get_or s 6 0 ∷ get_or s 7 0 ∷ [] ≡ s
eight_reads [] e = absurd (omega arith)
eight_reads (a ∷ []) e = absurd (omega arith)
eight_reads (a ∷ b ∷ []) e = absurd (omega arith)
eight_reads (a ∷ b ∷ c ∷ []) e = absurd (omega arith)
eight_reads (a ∷ b ∷ c ∷ d ∷ s) e = ap (λ (t : List ℕ). a ∷ b ∷ c ∷ d ∷ t) (four_reads s (omega arith))
