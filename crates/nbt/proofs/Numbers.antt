-- Numbers, names and texts: no spelling begins another one.
use Rattle.std.proofs.Common.{◌≡◌, ◌<◌, ◌^◌, ℕ, ℤ, List, [], ◌∷◌, ◌++◌, length, refl, sym, ap, ◌∙◌, arith, append_assoc}
use Rattle.std.specs.Prelude.{FitsSigned}
use Rattle.std.specs.List.{AllByRecursion}
use Rattle.std.specs.Int.{Width, w8, w16, w32, w64, w128, cast_unsigned, cast_signed, byte_len, bytes_high_first}
use Rattle.std.proofs.lemmas.Int.{to_z-of_z}
use Rattle.std.proofs.Math.Facts.{Fits-of_z}
use Rattle.std.proofs.Math.Nat.{mod-eq_of_lt}
use Rattle.byteorder.specs.Endian.{big_from}
use Rattle.byteorder.specs.Numbers.{big_from-bytes, length-bytes_high_first}
use Rattle.nbt.specs.Spelling.{unsigned, signed, short_text, all_signed}

-- two lists that go on after parts of one length
pub split_same : (s t x y : List ℕ) → length s ≡ length t → s ++ x ≡ t ++ y → (s ≡ t) × (x ≡ y)
split_same [] [] x y e h = (refl, h)
split_same [] (b ∷ t) x y e h = absurd (omega arith)
split_same (a ∷ s) [] x y e h = absurd (omega arith)
split_same (a ∷ s) (b ∷ t) x y e h =
    let heads : a ≡ b = cc in
    let tails : s ++ x ≡ t ++ y = cc in
    let rest = split_same s t x y (omega arith) tails in
    let one : s ≡ t = rest.0 in
    (cc, rest.1)

pub length-unsigned : (w : Width) (n : ℕ) → length (unsigned w n) ≡ byte_len w
unfolding unsigned
length-unsigned w n = length-bytes_high_first (byte_len w) n

pub length-signed : (w : Width) (z : ℤ) → length (signed w z) ≡ byte_len w
unfolding signed
length-signed w z = length-bytes_high_first (byte_len w) (cast_unsigned w z)

pub signed-is : (w : Width) (z : ℤ) → signed w z ≡ unsigned w (cast_unsigned w z)
unfolding signed unsigned
signed-is w z = refl

module _ (w : Width) (m n : ℕ) (fits_m : m < 256 ^ byte_len w) (fits_n : n < 256 ^ byte_len w) where
  same_bytes : bytes_high_first (byte_len w) m ++ [] ≡ bytes_high_first (byte_len w) n ++ [] → m ≡ n
  same_bytes e =
      sym (mod-eq_of_lt fits_m) ∙ sym (big_from-bytes (byte_len w) m []) ∙ ap (big_from 0 (byte_len w)) e
      ∙ big_from-bytes (byte_len w) n [] ∙ mod-eq_of_lt fits_n

  pub unsigned-same : (x y : List ℕ) → unsigned w m ++ x ≡ unsigned w n ++ y → (m ≡ n) × (x ≡ y)
  unfolding unsigned
  unsigned-same x y e =
      let lengths : length (unsigned w m) ≡ length (unsigned w n) = length-unsigned w m ∙ sym (length-unsigned w n) in
      let parts = split_same (unsigned w m) (unsigned w n) x y lengths e in
      (same_bytes (ap (λ (s : List ℕ). s ++ []) parts.0), parts.1)

bits_fit : (w : Width) (z : ℤ) → FitsSigned w z → cast_unsigned w z < 256 ^ byte_len w
bits_fit w8 z h = let f = Fits-of_z {w = w8} {z = z} h in omega arith
bits_fit w16 z h = let f = Fits-of_z {w = w16} {z = z} h in omega arith
bits_fit w32 z h = let f = Fits-of_z {w = w32} {z = z} h in omega arith
bits_fit w64 z h = let f = Fits-of_z {w = w64} {z = z} h in omega arith
bits_fit w128 z h = let f = Fits-of_z {w = w128} {z = z} h in omega arith

pub signed-same : (w : Width) (a b : ℤ) (x y : List ℕ) → FitsSigned w a → FitsSigned w b → signed w a ++ x ≡ signed w b ++ y → (a ≡ b) × (x ≡ y)
signed-same w a b x y fits_a fits_b e =
    let e' : unsigned w (cast_unsigned w a) ++ x ≡ unsigned w (cast_unsigned w b) ++ y = ap (λ (s : List ℕ). s ++ x) (sym (signed-is w a)) ∙ e ∙ ap (λ (s : List ℕ). s ++ y) (signed-is w b) in
    let parts = unsigned-same w (cast_unsigned w a) (cast_unsigned w b) (bits_fit w a fits_a) (bits_fit w b fits_b) x y e' in
    (sym (to_z-of_z w a fits_a) ∙ ap (cast_signed w) parts.0 ∙ to_z-of_z w b fits_b, parts.1)

-- bytes behind their length
pub counted-same : (w : Width) (s t x y : List ℕ) → length s < 256 ^ byte_len w → length t < 256 ^ byte_len w
    → (unsigned w (length s) ++ s) ++ x ≡ (unsigned w (length t) ++ t) ++ y → (s ≡ t) × (x ≡ y)
counted-same w s t x y hs ht e =
    let e' : unsigned w (length s) ++ (s ++ x) ≡ unsigned w (length t) ++ (t ++ y) = sym (append_assoc _ s x) ∙ e ∙ append_assoc _ t y in
    let parts = unsigned-same w (length s) (length t) hs ht (s ++ x) (t ++ y) e' in
    split_same s t x y parts.0 parts.1

pub text-same : (s t x y : List ℕ) → length s < 2 ^ 16 → length t < 2 ^ 16 → short_text s ++ x ≡ short_text t ++ y → (s ≡ t) × (x ≡ y)
unfolding short_text
text-same s t x y hs ht e = counted-same w16 s t x y (omega arith) (omega arith) e

-- numbers in a row
pub all-same : (w : Width) (ms bs : List ℤ) (x y : List ℕ) → length ms ≡ length bs → AllByRecursion (FitsSigned w) ms → AllByRecursion (FitsSigned w) bs
    → all_signed w ms ++ x ≡ all_signed w bs ++ y → (ms ≡ bs) × (x ≡ y)
all-same w [] [] x y n ha hb e = (refl, e)
all-same w [] (b ∷ bs) x y n ha hb e = absurd (omega arith)
all-same w (a ∷ ms) [] x y n ha hb e = absurd (omega arith)
all-same w (a ∷ ms) (b ∷ bs) x y n ha hb e =
    let e' : signed w a ++ (all_signed w ms ++ x) ≡ signed w b ++ (all_signed w bs ++ y) = sym (append_assoc (signed w a) (all_signed w ms) x) ∙ e ∙ append_assoc (signed w b) (all_signed w bs) y in
    let first = signed-same w a b (all_signed w ms ++ x) (all_signed w bs ++ y) ha.0 hb.0 e' in
    let later = all-same w ms bs x y (omega arith) ha.1 hb.1 first.1 in
    let one : a ≡ b = first.0 in
    let rest : ms ≡ bs = later.0 in
    (cc, later.1)
