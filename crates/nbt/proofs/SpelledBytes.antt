-- What is spelled is bytes.
use Rattle.std.proofs.Common.{◌<◌, ℕ, zero, suc, ℤ, List, [], ◌∷◌, ◌++◌, length, sym, subst, arith}
use Rattle.std.specs.Int.{Width, w8, w16, w32, w64, byte_len, byte_at, bytes_high_first, cast_unsigned}
use Rattle.std.proofs.Math.Nat.{mod-lt}
use Rattle.nbt.specs.Plain.{PlainTree, PlainTrees, PlainFields, PlainRoot, byte, short, int, long, float, double, bytes, text, ints, longs, empty_list, numbers, list, compound, no_trees, tree, no_fields, field}
use Rattle.nbt.specs.Spelling.{unsigned, signed, short_text, all_signed, type_of, count, payload, item_payloads, field_spellings, AreBytes, CanStand, ItemsCanStand, FieldsCanStand, Spells}
use Rattle.nbt.proofs.Unique.{type-range}

joined : (s t : List ℕ) → AreBytes s → AreBytes t → AreBytes (s ++ t)
joined [] t h k = k
joined (b ∷ s) t h k = (h.0, joined s t h.1 k)

byte-low : (i n : ℕ) → byte_at i n < 256
byte-low zero n = mod-lt n (omega arith)
byte-low (suc i) n = mod-lt _ (omega arith)

high-bytes : (k n : ℕ) → AreBytes (bytes_high_first k n)
high-bytes zero n = tt
high-bytes (suc k) n = (byte-low k n, high-bytes k n)

unsigned-bytes : (w : Width) (n : ℕ) → AreBytes (unsigned w n)
unfolding unsigned
unsigned-bytes w n = high-bytes (byte_len w) n

signed-bytes : (w : Width) (z : ℤ) → AreBytes (signed w z)
unfolding signed
signed-bytes w z = high-bytes (byte_len w) (cast_unsigned w z)

row-bytes : (w : Width) (zs : List ℤ) → AreBytes (all_signed w zs)
row-bytes w [] = tt
row-bytes w (z ∷ zs) = joined (signed w z) (all_signed w zs) (signed-bytes w z) (row-bytes w zs)

counted-bytes : (w : Width) (n : ℕ) (bs : List ℕ) → AreBytes bs → AreBytes (unsigned w n ++ bs)
counted-bytes w n bs h = joined (unsigned w n) bs (unsigned-bytes w n) h

text-bytes : (t : List ℕ) → AreBytes t → AreBytes (short_text t)
unfolding short_text
text-bytes t h = counted-bytes w16 (length t) t h

type-byte : (t : PlainTree) → type_of t < 256
type-byte t = let high = (type-range t).1 in omega arith

mutual
  payload-bytes : (depth : ℕ) (t : PlainTree) → CanStand depth t → AreBytes (payload t)
  payload-bytes depth (byte z) h = signed-bytes w8 z
  payload-bytes depth (short z) h = signed-bytes w16 z
  payload-bytes depth (int z) h = signed-bytes w32 z
  payload-bytes depth (long z) h = signed-bytes w64 z
  payload-bytes depth (float raw) h = h.1
  payload-bytes depth (double raw) h = h.1
  payload-bytes depth (bytes bs) h = counted-bytes w32 (length bs) bs h.1
  payload-bytes depth (text bs) h = text-bytes bs h.1
  payload-bytes depth (ints zs) h = counted-bytes w32 (length zs) (all_signed w32 zs) (row-bytes w32 zs)
  payload-bytes depth (longs zs) h = counted-bytes w32 (length zs) (all_signed w64 zs) (row-bytes w64 zs)
  payload-bytes depth (empty_list z) h = (omega arith, signed-bytes w32 z)
  payload-bytes depth (numbers element raw) h = let high = h.2 in (omega arith, counted-bytes w32 _ raw h.6)
  payload-bytes depth (list element items) h = let high = h.2 in (omega arith, counted-bytes w32 (count items) (item_payloads items) (items-bytes (suc depth) element items h.5))
  payload-bytes depth (compound fs) h = joined (field_spellings fs) (0 ∷ []) (fields-bytes (suc depth) fs h.1) (omega arith, tt)

  items-bytes : (depth element : ℕ) (ts : PlainTrees) → ItemsCanStand depth element ts → AreBytes (item_payloads ts)
  items-bytes depth element no_trees h = tt
  items-bytes depth element (tree t ts) h = joined (payload t) (item_payloads ts) (payload-bytes depth t h.1) (items-bytes depth element ts h.2)

  fields-bytes : (depth : ℕ) (fs : PlainFields) → FieldsCanStand depth fs → AreBytes (field_spellings fs)
  fields-bytes depth no_fields h = tt
  fields-bytes depth (field name t fs) h =
      joined (type_of t ∷ (short_text name ++ payload t)) (field_spellings fs) (type-byte t, joined (short_text name) (payload t) (text-bytes name h.0.1) (payload-bytes depth t h.1)) (fields-bytes depth fs h.2)

pub spelled-bytes : (bs : List ℕ) (r : PlainRoot) → Spells bs r → AreBytes bs
spelled-bytes bs r h = subst AreBytes (sym h.1)
    (omega arith, joined (short_text r.name) (payload (compound r.fields)) (text-bytes r.name h.0.0.1) (payload-bytes 0 (compound r.fields) (omega arith, h.0.1)))
