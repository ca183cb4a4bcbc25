-- No spelling begins another one: trees of one type whose payloads go on to one list are equal, and so is what follows.
use Rattle.std.proofs.Common.{◌≡◌, ◌<◌, ◌≤◌, ◌*◌, ◌/◌, ◌^◌, ℕ, suc, ℤ, List, [], ◌∷◌, ◌++◌, length, refl, sym, ap, ◌∙◌, subst, arith, append_assoc}
use Rattle.std.proofs.lemmas.Bool.Decides.{nat_tests}
use Rattle.std.specs.Int.{Width, w8, w16, w32, w64}
use Rattle.std.proofs.Math.Nat.{mul-div_cancel}
use Rattle.nbt.specs.Plain.{PlainTree, byte, short, int, long, float, double, bytes, text, ints, longs, empty_list, numbers, list, compound, PlainTrees, no_trees, tree, PlainFields, no_fields, field, PlainRoot}
use Rattle.nbt.specs.Spelling.{unsigned, short_text, all_signed, type_of, number_size, count, payload, item_payloads, field_spellings, spelling, CanStand, ItemsCanStand, FieldsCanStand, CanBeSpelled, Spells}
use Rattle.nbt.proofs.Numbers.{split_same, unsigned-same, signed-same, counted-same, text-same, all-same}

-- what two equal sums say of their parts
abbrev pub Same : {A : Type 0} → A → A → List ℕ → List ℕ → Type 0
Same a b x y = (a ≡ b) × (x ≡ y)

same-of : {A B : Type 0} (f : A → B) {a b : A} {x y : List ℕ} → Same a b x y → Same (f a) (f b) x y
same-of f s = (ap f s.0, s.1)

-- every tree's type is from 1 to 12
pub type-range : (t : PlainTree) → (1 ≤ type_of t) × (type_of t ≤ 12)
type-range (byte z) = (omega arith, omega arith)
type-range (short z) = (omega arith, omega arith)
type-range (int z) = (omega arith, omega arith)
type-range (long z) = (omega arith, omega arith)
type-range (float z) = (omega arith, omega arith)
type-range (double z) = (omega arith, omega arith)
type-range (bytes z) = (omega arith, omega arith)
type-range (text z) = (omega arith, omega arith)
type-range (ints z) = (omega arith, omega arith)
type-range (longs z) = (omega arith, omega arith)
type-range (empty_list z) = (omega arith, omega arith)
type-range (numbers e z) = (omega arith, omega arith)
type-range (list e z) = (omega arith, omega arith)
type-range (compound z) = (omega arith, omega arith)

array-same : (w : Width) (ms ns : List ℤ) (x y : List ℕ) → length ms < 2 ^ 31 → length ns < 2 ^ 31
    → ((length ms ≡ length ns) → all_signed w ms ++ x ≡ all_signed w ns ++ y → Same ms ns x y)
    → (unsigned w32 (length ms) ++ all_signed w ms) ++ x ≡ (unsigned w32 (length ns) ++ all_signed w ns) ++ y → Same ms ns x y
array-same w ms ns x y ha hb more e =
    let e' : unsigned w32 (length ms) ++ (all_signed w ms ++ x) ≡ unsigned w32 (length ns) ++ (all_signed w ns ++ y) = sym (append_assoc _ (all_signed w ms) x) ∙ e ∙ append_assoc _ (all_signed w ns) y in
    let parts = unsigned-same w32 (length ms) (length ns) (omega arith) (omega arith) (all_signed w ms ++ x) (all_signed w ns ++ y) e' in
    more parts.0 parts.1

pub tail-same : {a b : ℕ} {x y : List ℕ} → a ∷ x ≡ b ∷ y → Same a b x y
tail-same e = (cc, cc)

pub size-positive : (t : ℕ) → 0 < number_size t
size-positive t = grind (arith, nat_tests)

-- how many numbers stand in the raw bytes
pub numbers-count : (t n : ℕ) (raw : List ℕ) → length raw ≡ n * number_size t → length raw / number_size t ≡ n
numbers-count t n raw e = ap (λ (m : ℕ). m / number_size t) e ∙ mul-div_cancel n (size-positive t)

-- a name, a payload and what follows
three : (name : List ℕ) (t : PlainTree) (more z : List ℕ) → ((short_text name ++ payload t) ++ more) ++ z ≡ short_text name ++ (payload t ++ (more ++ z))
three name t more z = append_assoc _ more z ∙ append_assoc (short_text name) (payload t) (more ++ z)

mutual
  pub tree-same : (d d' : ℕ) (a b : PlainTree) (x y : List ℕ) → CanStand d a → CanStand d' b → type_of a ≡ type_of b
      → payload a ++ x ≡ payload b ++ y → Same a b x y
  tree-same d d' (byte a) (byte b) x y ha hb t e = same-of byte (signed-same w8 a b x y ha hb e)
  tree-same d d' (short a) (short b) x y ha hb t e = same-of short (signed-same w16 a b x y ha hb e)
  tree-same d d' (int a) (int b) x y ha hb t e = same-of int (signed-same w32 a b x y ha hb e)
  tree-same d d' (long a) (long b) x y ha hb t e = same-of long (signed-same w64 a b x y ha hb e)
  tree-same d d' (float a) (float b) x y ha hb t e = same-of float (split_same a b x y (ha.0 ∙ sym hb.0) e)
  tree-same d d' (double a) (double b) x y ha hb t e = same-of double (split_same a b x y (ha.0 ∙ sym hb.0) e)
  tree-same d d' (bytes a) (bytes b) x y ha hb t e = let low = ha.0 in let high = hb.0 in same-of bytes (counted-same w32 a b x y (omega arith) (omega arith) e)
  tree-same d d' (text a) (text b) x y ha hb t e = same-of text (text-same a b x y ha.0 hb.0 e)
  tree-same d d' (ints a) (ints b) x y ha hb t e =
      same-of ints (array-same w32 a b x y ha.0 hb.0 (λ n h. all-same w32 a b x y n ha.1 hb.1 h) e)
  tree-same d d' (longs a) (longs b) x y ha hb t e =
      same-of longs (array-same w64 a b x y ha.0 hb.0 (λ n h. all-same w64 a b x y n ha.1 hb.1 h) e)
  tree-same d d' (empty_list a) (empty_list b) x y ha hb t e = same-of empty_list (signed-same w32 a b x y ha.1 hb.1 (tail-same e).1)
  tree-same d d' (empty_list a) (numbers k raw) x y ha hb t e = let heads = (tail-same e).0 in let low = hb.1 in absurd (omega arith)
  tree-same d d' (empty_list a) (list k ts) x y ha hb t e = let heads = (tail-same e).0 in let low = hb.1 in absurd (omega arith)
  tree-same d d' (numbers k raw) (empty_list b) x y ha hb t e = let heads = (tail-same e).0 in let low = ha.1 in absurd (omega arith)
  tree-same d d' (list k ts) (empty_list b) x y ha hb t e = let heads = (tail-same e).0 in let low = ha.1 in absurd (omega arith)
  tree-same d d' (numbers k raw) (list l ts) x y ha hb t e = let heads = (tail-same e).0 in let low = hb.1 in let high = ha.2 in absurd (omega arith)
  tree-same d d' (list l ts) (numbers k raw) x y ha hb t e = let heads = (tail-same e).0 in let low = ha.1 in let high = hb.2 in absurd (omega arith)
  tree-same d d' (numbers k raw) (numbers l more) x y ha hb t e =
      let parts = tail-same e in
      let m = ha.3 in
      let n = hb.3 in
      let e' : unsigned w32 (length raw / number_size k) ++ (raw ++ x) ≡ unsigned w32 (length more / number_size l) ++ (more ++ y) = sym (append_assoc _ raw x) ∙ parts.1 ∙ append_assoc _ more y in
      let had : length raw / number_size k ≡ m = numbers-count k m raw ha.4 in
      let has : length more / number_size l ≡ n = numbers-count l n more hb.4 in
      let low : m < 2 ^ 31 = ha.5 in
      let low' : n < 2 ^ 31 = hb.5 in
      let counted = unsigned-same w32 (length raw / number_size k) (length more / number_size l) (omega arith) (omega arith) (raw ++ x) (more ++ y) e' in
      let one : k ≡ l = parts.0 in
      let many : m ≡ n = sym had ∙ counted.0 ∙ has in
      let lengths : length raw ≡ length more = ha.4 ∙ ap (λ (i : ℕ). i * number_size k) many ∙ ap (λ (i : ℕ). n * number_size i) one ∙ sym hb.4 in
      let later = split_same raw more x y lengths counted.1 in
      let same : raw ≡ more = later.0 in
      (cc, later.1)
  tree-same d d' (list k ms) (list l ns) x y ha hb t e =
      let parts = tail-same e in
      let e' : unsigned w32 (count ms) ++ (item_payloads ms ++ x) ≡ unsigned w32 (count ns) ++ (item_payloads ns ++ y) = sym (append_assoc _ (item_payloads ms) x) ∙ parts.1 ∙ append_assoc _ (item_payloads ns) y in
      let low : count ms < 2 ^ 31 = ha.4 in
      let low' : count ns < 2 ^ 31 = hb.4 in
      let counted = unsigned-same w32 (count ms) (count ns) (omega arith) (omega arith) _ _ e' in
      let one : k ≡ l = parts.0 in
      let stand = subst (λ (i : ℕ). ItemsCanStand (suc d) i ms) one ha.5 in
      let later = items-same (suc d) (suc d') l ms ns x y stand hb.5 counted.0 counted.1 in
      let same : ms ≡ ns = later.0 in
      (cc, later.1)
  tree-same d d' (compound ms) (compound ns) x y ha hb t e =
      let e' : field_spellings ms ++ (0 ∷ x) ≡ field_spellings ns ++ (0 ∷ y) = sym (append_assoc (field_spellings ms) (0 ∷ []) x) ∙ e ∙ append_assoc (field_spellings ns) (0 ∷ []) y in
      same-of compound (fields-same (suc d) (suc d') ms ns x y ha.1 hb.1 e')
  tree-same d d' a b x y ha hb t e = absurd (omega arith)

  pub items-same : (d d' k : ℕ) (ms ns : PlainTrees) (x y : List ℕ) → ItemsCanStand d k ms → ItemsCanStand d' k ns → count ms ≡ count ns
      → item_payloads ms ++ x ≡ item_payloads ns ++ y → Same ms ns x y
  items-same d d' k no_trees no_trees x y ha hb n e = (refl, e)
  items-same d d' k no_trees (tree b ns) x y ha hb n e = absurd (omega arith)
  items-same d d' k (tree a ms) no_trees x y ha hb n e = absurd (omega arith)
  items-same d d' k (tree a ms) (tree b ns) x y ha hb n e =
      let e' : payload a ++ (item_payloads ms ++ x) ≡ payload b ++ (item_payloads ns ++ y) = sym (append_assoc (payload a) (item_payloads ms) x) ∙ e ∙ append_assoc (payload b) (item_payloads ns) y in
      let first = tree-same d d' a b _ _ ha.1 hb.1 (ha.0 ∙ sym hb.0) e' in
      let later = items-same d d' k ms ns x y ha.2 hb.2 (omega arith) first.1 in
      let one : a ≡ b = first.0 in
      let rest : ms ≡ ns = later.0 in
      (cc, later.1)

  pub fields-same : (d d' : ℕ) (ms ns : PlainFields) (x y : List ℕ) → FieldsCanStand d ms → FieldsCanStand d' ns
      → field_spellings ms ++ (0 ∷ x) ≡ field_spellings ns ++ (0 ∷ y) → Same ms ns x y
  fields-same d d' no_fields no_fields x y ha hb e = (refl, (tail-same e).1)
  fields-same d d' no_fields (field n b ns) x y ha hb e = let heads = (tail-same e).0 in let r = type-range b in absurd (omega arith)
  fields-same d d' (field n a ms) no_fields x y ha hb e = let heads = (tail-same e).0 in let r = type-range a in absurd (omega arith)
  fields-same d d' (field m a ms) (field n b ns) x y ha hb e =
      let parts = tail-same e in
      let e' : short_text m ++ (payload a ++ (field_spellings ms ++ (0 ∷ x))) ≡ short_text n ++ (payload b ++ (field_spellings ns ++ (0 ∷ y))) = sym (three m a _ _) ∙ parts.1 ∙ three n b _ _ in
      let names = text-same m n _ _ ha.0.0 hb.0.0 e' in
      let first = tree-same d d' a b _ _ ha.1 hb.1 parts.0 names.1 in
      let later = fields-same d d' ms ns x y ha.2 hb.2 first.1 in
      let called : m ≡ n = names.0 in
      let one : a ≡ b = first.0 in
      let rest : ms ≡ ns = later.0 in
      (cc, later.1)

-- Two roots that can be spelled, whose spellings go on to one list, are equal.
pub root-same : (a b : PlainRoot) (x y : List ℕ) → CanBeSpelled a → CanBeSpelled b → spelling a ++ x ≡ spelling b ++ y → Same a b x y
root-same a b x y ha hb e =
    let e' : short_text a.name ++ (payload (compound a.fields) ++ x) ≡ short_text b.name ++ (payload (compound b.fields) ++ y) = sym (append_assoc (short_text a.name) _ x) ∙ (tail-same e).1 ∙ append_assoc (short_text b.name) _ y in
    let names = text-same a.name b.name _ _ ha.0.0 hb.0.0 e' in
    let inner = tree-same 0 0 (compound a.fields) (compound b.fields) x y (omega arith, ha.1) (omega arith, hb.1) refl names.1 in
    let called : a.name ≡ b.name = names.0 in
    let held : a.fields ≡ b.fields = cc (inner.0) in
    (root-of called held, inner.1)
  where
    root-of : {m n : List ℕ} {f g : PlainFields} → m ≡ n → f ≡ g → ◌≡◌ {A = PlainRoot} (record { name = m; fields = f }) (record { name = n; fields = g })
    root-of p q = cc

-- Bytes spell one root at most.
pub one-root : (file : List ℕ) (a b : PlainRoot) → Spells file a → Spells file b → a ≡ b
one-root file a b ha hb = (root-same a b [] [] ha.0 hb.0 (ap (λ (s : List ℕ). s ++ []) (sym ha.1 ∙ hb.1))).0
