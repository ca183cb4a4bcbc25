-- What stands at the front of bytes, and what bytes that end too early begin.
use Rattle.std.proofs.Common.{◌≡◌, ◌<◌, ◌+◌, ◌-◌, ◌*◌, ◌^◌, ◌%◌, ℕ, zero, suc, List, [], ◌∷◌, ◌++◌, length, get_or, refl, sym, ap, ◌∙◌, subst, arith, length-append, append_assoc}
use Rattle.std.specs.Prelude.{replicate}
use Rattle.std.specs.Int.{Width, w8, w16, w32, w64, cast_signed}
use Rattle.std.proofs.lemmas.List.{length-replicate}
use Rattle.std.proofs.lemmas.Int.{of_z-to_z}
use Rattle.std.proofs.Math.Nat.{mod-eq_of_lt}
use mir.Val.{bits}
use Rattle.std.proofs.lemmas.Nat.{be_bytes_2, be_bytes_4, be_bytes_8}
use Rattle.byteorder.specs.Endian.{big_from}
use Rattle.nbt.specs.Spelling.{unsigned, signed, short_text, AreBytes}
use Rattle.nbt.specs.Reading.{IsCutText}
use Rattle.nbt.proofs.Numbers.{signed-is}

abbrev pub IsBytes : List ℕ → Type 0
IsBytes bs = (i : ℕ) → get_or bs i 0 < 256

pub is-bytes : (bs : List ℕ) → AreBytes bs → IsBytes bs
is-bytes [] h i = omega arith
is-bytes (b ∷ bs) h zero = h.0
is-bytes (b ∷ bs) h (suc i) = is-bytes bs h.1 i

pub are-bytes : (bs : List ℕ) → IsBytes bs → AreBytes bs
are-bytes [] h = tt
are-bytes (b ∷ bs) h = (h 0, are-bytes bs (λ i. h (suc i)))

pub bytes-front : (s t : List ℕ) → IsBytes (s ++ t) → IsBytes s
bytes-front [] t h i = omega arith
bytes-front (a ∷ s) t h zero = h 0
bytes-front (a ∷ s) t h (suc i) = bytes-front s t (λ j. h (suc j)) i

pub bytes-back : (s t : List ℕ) → IsBytes (s ++ t) → IsBytes t
bytes-back [] t h = h
bytes-back (a ∷ s) t h = bytes-back s t (λ j. h (suc j))

pub bytes-zeros : (n : ℕ) → IsBytes (replicate n 0)
bytes-zeros zero i = omega arith
bytes-zeros (suc n) zero = omega arith
bytes-zeros (suc n) (suc i) = bytes-zeros n i

pub zeros : (n : ℕ) → AreBytes (replicate n 0)
zeros zero = tt
zeros (suc n) = (omega arith, zeros n)

pub bytes-append : (s t : List ℕ) → IsBytes s → IsBytes t → IsBytes (s ++ t)
bytes-append [] t hs ht i = ht i
bytes-append (a ∷ s) t hs ht zero = hs 0
bytes-append (a ∷ s) t hs ht (suc i) = bytes-append s t (λ j. hs (suc j)) ht i

pub unsigned-8 : (b : ℕ) → b < 256 → unsigned w8 b ≡ b ∷ []
unfolding unsigned
unsigned-8 b h = let e : b % 256 ≡ b = mod-eq_of_lt h in rw e refl

-- the bytes of a number that was read
pub unsigned-16 : (head : List ℕ) → length head ≡ 2 → IsBytes head → unsigned w16 (big_from 0 2 head) ≡ head
unfolding unsigned
unsigned-16 head n fits = be_bytes_2 head (big_from 0 2 head) n fits (omega arith)

pub unsigned-32 : (head : List ℕ) → length head ≡ 4 → IsBytes head → unsigned w32 (big_from 0 4 head) ≡ head
unfolding unsigned
unsigned-32 head n fits = be_bytes_4 head (big_from 0 4 head) n fits (omega arith)

pub unsigned-64 : (head : List ℕ) → length head ≡ 8 → IsBytes head → unsigned w64 (big_from 0 8 head) ≡ head
unfolding unsigned
unsigned-64 head n fits = be_bytes_8 head (big_from 0 8 head) n fits (omega arith)

-- the same in two's complement
pub signed-cast : (w : Width) (n : ℕ) → n < 2 ^ bits w → signed w (cast_signed w n) ≡ unsigned w n
signed-cast w n h = signed-is w (cast_signed w n) ∙ ap (unsigned w) (of_z-to_z w n h)

-- the list, and what it starts with
pub front-number : (s head rest number : List ℕ) → s ≡ head ++ rest → number ≡ head → s ≡ number ++ rest
front-number s head rest number e f = e ∙ ap (λ (h : List ℕ). h ++ rest) (sym f)

-- zeros fill a list that is too short
pub filled : (s : List ℕ) (n : ℕ) → length s < n → length (s ++ (0 ∷ replicate (n - suc (length s)) 0)) ≡ n
filled s n h = omega (arith, length-append s (0 ∷ replicate (n - suc (length s)) 0), length-replicate {A = ℕ} (n - suc (length s)) 0)

-- the two bytes of a number below 2 ^ 16
two_bytes : (a b n : ℕ) → a < 256 → b < 256 → n ≡ 256 * a + b → unsigned w16 n ≡ a ∷ b ∷ []
two_bytes a b n ha hb e = ap (unsigned w16) (e ∙ worth) ∙ unsigned-16 (a ∷ b ∷ []) refl fits
  where
    worth : 256 * a + b ≡ big_from 0 2 (a ∷ b ∷ [])
    worth = omega arith

    fits : IsBytes (a ∷ b ∷ [])
    fits zero = ha
    fits (suc zero) = hb
    fits (suc (suc i)) = omega arith

-- a text of which the length or the bytes are cut
pub cut-text-length : (s : List ℕ) → IsBytes s → length s < 2 → IsCutText s
unfolding short_text
cut-text-length [] fits h = ([], 0, 0 ∷ [], (omega arith, tt), rw (two_bytes 0 0 0 (omega arith) (omega arith) refl) refl)
cut-text-length (a ∷ []) fits h =
    let many : List ℕ = replicate (256 * a) 0 in
    let full : length many ≡ 256 * a = length-replicate {A = ℕ} (256 * a) 0 in
    let low : a < 256 = fits 0 in
    (many, 0, many, (omega arith, zeros (256 * a)), ap (λ (t : List ℕ). t ++ many) (two_bytes a 0 (length many) low (omega arith) (omega arith)))
cut-text-length (a ∷ b ∷ s) fits h = absurd (omega arith)

pub cut-text-bytes : (s rest : List ℕ) (n : ℕ) → IsBytes s → n < 2 ^ 16 → s ≡ unsigned w16 n ++ rest → length rest < n → IsCutText s
unfolding short_text
cut-text-bytes s rest n all fits e low =
    let whole = rest ++ (0 ∷ replicate (n - suc (length rest)) 0) in
    let full : length whole ≡ n = filled rest n low in
    let held : IsBytes whole = bytes-append rest (0 ∷ replicate (n - suc (length rest)) 0) (bytes-back (unsigned w16 n) rest (subst IsBytes e all)) (bytes-zeros (suc (n - suc (length rest)))) in (
      whole,
      0,
      replicate (n - suc (length rest)) 0,
      (omega arith, are-bytes whole held),
      ap (λ (m : ℕ). unsigned w16 m ++ whole) full ∙ sym (append_assoc (unsigned w16 n) rest _) ∙ ap (λ (t : List ℕ). t ++ (0 ∷ replicate (n - suc (length rest)) 0)) (sym e),
    )

pub text-front : (s rest behind t : List ℕ) (n : ℕ) → s ≡ unsigned w16 n ++ rest → rest ≡ t ++ behind → length t ≡ n → s ≡ short_text t ++ behind
unfolding short_text
text-front s rest behind t n e f len =
    e ∙ ap (λ (m : ℕ). unsigned w16 m ++ rest) (sym len) ∙ ap (λ (r : List ℕ). unsigned w16 (length t) ++ r) f ∙ sym (append_assoc (unsigned w16 (length t)) t behind)
