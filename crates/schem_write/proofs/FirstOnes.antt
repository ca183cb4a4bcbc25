-- Texts, each once, and their numbers.
use Rattle.std.proofs.Common.{◌≡◌, ℕ, suc, ◌+◌, ◌<◌, ◌≤◌, List, [], ◌∷◌, ◌++◌, length, Bool, true, false, refl, sym, ap, ◌∙◌, arith, inl, inr, Option, Some, None, cond}
use Rattle.std.specs.Prelude.{nat_lt, not, ◌⊎◌, filter, position, Vec}
use Rattle.std.specs.declared.alloc.Global.{Global}
use Rattle.std.specs.List.{list_any, position_or_len, flat_map}
use Rattle.std.specs.Str.{bytes_eq}
use Rattle.std.proofs.Math.ListN.{get_or}
use Rattle.std.proofs.lemmas.Slice.Eq.{bytes_eq-Decides}
use Rattle.std.proofs.lemmas.List.Folds.{list_any-append}
use Rattle.std.proofs.lemmas.Bool.{cases_Bool, or_parts, false≢true, ltb-true}
use Rattle.std.proofs.lemmas.Bool.Decides.{nat_tests}
use Rattle.std.proofs.lemmas.List.{append-nil, map-append}
use Rattle.std.proofs.lemmas.Grind.{flat_map-append}
use Rattle.std.proofs.lemmas.Map.Views.{any-filter_same}
use Rattle.schem_write.specs.Varint.{varint}
use Rattle.block_table.specs.WrittenText.{state_text}
use Rattle.packed_block.specs.Packed.{unpacked}
use Rattle.schem_write.specs.PaletteTexts.{first_ones, number_in, with_text, IsNumberOf, IsNumber, AreNumbers}
use Rattle.schem_write.specs.Code.{texts_of}

pub text_itself : (t : List ℕ) → bytes_eq t t ≡ true
text_itself t = (bytes_eq-Decides t t).1 refl

pub text_one : (s t : List ℕ) → bytes_eq s t ≡ true → s ≡ t
text_one s t h = (bytes_eq-Decides s t).0 h

text_either : (s t : List ℕ) → bytes_eq s t ≡ false → bytes_eq t s ≡ false
text_either s t h = elim (cases_Bool (bytes_eq t s)) [
  | inl e ↦ absurd (false≢true (sym h ∙ ap (bytes_eq s) (text_one t s e) ∙ text_itself s))
  | inr e ↦ e
]

abbrev has : List ℕ → List (List ℕ) → Bool
has t texts = list_any (bytes_eq t) texts

-- a text that went last has the number that it was to have
pub number-with_text : (t : List ℕ) (texts : List (List ℕ)) → number_in (with_text texts t) t ≡ number_in texts t
number-with_text t texts = elim (cases_Bool (has t texts)) [
  | inl e ↦ rw e refl
  | inr e ↦ rw e (last t texts e)
]
  where
    last : (t : List ℕ) (texts : List (List ℕ)) → has t texts ≡ false → number_in (texts ++ t ∷ []) t ≡ number_in texts t
    last t [] e = rw (text_itself t) refl
    last t (s ∷ texts) e =
        let parts = or_parts (bytes_eq t s) (has t texts) e in
        rw (parts.0, last t texts parts.1) refl

pub has-with_text : (t : List ℕ) (texts : List (List ℕ)) → has t (with_text texts t) ≡ true
has-with_text t texts = elim (cases_Bool (has t texts)) [
  | inl e ↦ rw (e, e) refl
  | inr e ↦ rw e (list_any-append (bytes_eq t) texts (t ∷ []) ∙ rw (e, text_itself t) refl)
]

pub with_text-there : (t : List ℕ) (texts : List (List ℕ)) → has t texts ≡ true → with_text texts t ≡ texts
with_text-there t texts e = rw e refl

-- a text that is there keeps its number
number-append : (t u : List ℕ) (texts : List (List ℕ)) → has t texts ≡ true → number_in (texts ++ u ∷ []) t ≡ number_in texts t
number-append t u [] e = absurd (false≢true e)
number-append t u (s ∷ texts) e = elim (cases_Bool (bytes_eq t s)) [
  | inl f ↦ rw f refl
  | inr f ↦ (let there : has t texts ≡ true = rw f at e in rw (f, number-append t u texts there) refl)
]

still_number : (t u : List ℕ) (number : ℕ) (texts : List (List ℕ)) → IsNumberOf texts t number → IsNumberOf (with_text texts u) t number
still_number t u number texts h = elim (cases_Bool (has u texts)) [
  | inl e ↦ rw e h
  | inr e ↦ rw e (h.0 ∙ sym (number-append t u texts h.1), list_any-append (bytes_eq t) texts (u ∷ []) ∙ rw h.1 refl)
]

still_known : (texts : List (List ℕ)) (u : List ℕ) (code : ℕ) (known : Option ℕ) → IsNumber texts code known → IsNumber (with_text texts u) code known
still_known texts u code None h = tt
still_known texts u code (Some number) h = still_number (state_text (unpacked code)) u number texts h

-- what is known stays right with a text more
pub still_numbers : (texts : List (List ℕ)) (u : List ℕ) (numbers : List (Option ℕ)) → AreNumbers texts numbers → AreNumbers (with_text texts u) numbers
still_numbers texts u numbers h = λ code. still_known texts u code (get_or numbers code None) (h code)

abbrev without : List ℕ → List (List ℕ) → List (List ℕ)
without t texts = filter (λ other. not (bytes_eq other t)) texts

-- what is taken out is no other text
has-without : (d t : List ℕ) (texts : List (List ℕ)) → bytes_eq d t ≡ false → has d (without t texts) ≡ has d texts
has-without d t texts h = any-filter_same (bytes_eq d) (λ other. not (bytes_eq other t)) true
    (λ k e. ap (λ x. not (bytes_eq x t)) (sym (text_one d k e)) ∙ ap not h) texts

-- each text stands among the first ones
pub has-first_ones : (d : List ℕ) (texts : List (List ℕ)) → has d (first_ones texts) ≡ has d texts
has-first_ones d [] = refl
has-first_ones d (t ∷ texts) = elim (cases_Bool (bytes_eq d t)) [
  | inl e ↦ rw e refl
  | inr e ↦ rw (has-without d t (first_ones texts) e, has-first_ones d texts) refl
]

without-append : (t x : List ℕ) (texts : List (List ℕ)) → bytes_eq x t ≡ false → without t (texts ++ x ∷ []) ≡ without t texts ++ x ∷ []
without-append t x [] h = rw h refl
without-append t x (s ∷ texts) h = elim (cases_Bool (bytes_eq s t)) [
  | inl e ↦ rw e (without-append t x texts h)
  | inr e ↦ rw e (ap (λ ts. s ∷ ts) (without-append t x texts h))
]

without-same : (t x : List ℕ) (texts : List (List ℕ)) → bytes_eq x t ≡ true → without t (texts ++ x ∷ []) ≡ without t texts
without-same t x [] h = rw h refl
without-same t x (s ∷ texts) h = elim (cases_Bool (bytes_eq s t)) [
  | inl e ↦ rw e (without-same t x texts h)
  | inr e ↦ rw e (ap (λ ts. s ∷ ts) (without-same t x texts h))
]

-- one text more at the end
pub first_ones-more : (texts : List (List ℕ)) (x : List ℕ) → first_ones (texts ++ x ∷ []) ≡ with_text (first_ones texts) x
first_ones-more [] x = refl
first_ones-more (t ∷ texts) x = elim (cases_Bool (bytes_eq x t)) [
  | inl e ↦ rw (first_ones-more texts x, e) (ap (λ ts. t ∷ ts) (same (cases_Bool (has x (first_ones texts))) e))
  | inr e ↦ rw (first_ones-more texts x, e, has-without x t (first_ones texts) e) (elim (cases_Bool (has x (first_ones texts))) [
    | inl h ↦ rw h refl
    | inr h ↦ rw h (ap (λ ts. t ∷ ts) (without-append t x (first_ones texts) e))
  ])
]
  where
    same : ((has x (first_ones texts) ≡ true) ⊎ (has x (first_ones texts) ≡ false)) → bytes_eq x t ≡ true → without t (with_text (first_ones texts) x) ≡ without t (first_ones texts)
    same (inl h) e = rw h refl
    same (inr h) e = rw h (without-same t x (first_ones texts) e)

-- ---- numbers

-- a text that is there keeps its number
number-kept : (palette : List (List ℕ)) (d x : List ℕ) → has d palette ≡ true → number_in (palette ++ x ∷ []) d ≡ number_in palette d
number-kept [] d x h = absurd (cc)
number-kept (t ∷ palette) d x h = elim (cases_Bool (bytes_eq d t)) [
  | inl e ↦ rw e refl
  | inr e ↦ rw e (ap (λ n. 1 + n) (number-kept palette d x (rw e at h)))
]

number-new : (palette : List (List ℕ)) (d x : List ℕ) → has x palette ≡ false → number_in (palette ++ x ∷ []) x ≡ number_in palette x
number-new [] d x h = rw (text_itself x) refl
number-new (t ∷ palette) d x h = elim (cases_Bool (bytes_eq x t)) [
  | inl e ↦ rw e refl
  | inr e ↦ rw e (ap (λ n. 1 + n) (number-new palette d x (rw e at h)))
]

pub number-here : (palette : List (List ℕ)) (x : List ℕ) → number_in (with_text palette x) x ≡ number_in palette x
number-here palette x = elim (cases_Bool (has x palette)) [
  | inl h ↦ rw h refl
  | inr h ↦ rw h (number-new palette x x h)
]

pub number-stays : (palette : List (List ℕ)) (d x : List ℕ) → has d palette ≡ true → number_in (with_text palette x) d ≡ number_in palette d
number-stays palette d x there = elim (cases_Bool (has x palette)) [
  | inl h ↦ rw h refl
  | inr h ↦ rw h (number-kept palette d x there)
]

-- the cells by the numbers of a palette
abbrev pub cells_by : List (List ℕ) → List (List ℕ) → List ℕ
cells_by palette texts = flat_map (λ text. varint (number_in palette text)) texts

cells-stay : (palette : List (List ℕ)) (x : List ℕ) (texts : List (List ℕ)) → ((d : List ℕ) → has d texts ≡ true → has d palette ≡ true) → cells_by (with_text palette x) texts ≡ cells_by palette texts
cells-stay palette x [] h = refl
cells-stay palette x (t ∷ texts) h =
    let here : number_in (with_text palette x) t ≡ number_in palette t = number-stays palette t x (h t (rw (text_itself t) refl)) in
    let rest : cells_by (with_text palette x) texts ≡ cells_by palette texts = cells-stay palette x texts (λ d e. h d (later d t texts e)) in
    ap (λ n. varint n ++ cells_by (with_text palette x) texts) here ∙ ap (λ bs. varint (number_in palette t) ++ bs) rest
  where
    later : (d t : List ℕ) (texts : List (List ℕ)) → has d texts ≡ true → has d (t ∷ texts) ≡ true
    later d t texts e = elim (cases_Bool (bytes_eq d t)) [ inl f ↦ rw f refl | inr f ↦ rw (f, e) refl ]

-- one cell more
pub cells-more : (texts : List (List ℕ)) (x : List ℕ) → cells_by (first_ones (texts ++ x ∷ [])) (texts ++ x ∷ []) ≡ cells_by (first_ones texts) texts ++ varint (number_in (first_ones texts) x)
cells-more texts x =
    let p : List (List ℕ) = first_ones texts in
    let q : List (List ℕ) = with_text p x in
    let f : List ℕ → List ℕ = λ text. varint (number_in q text) in
    ap (λ (ps : List (List ℕ)). cells_by ps (texts ++ x ∷ [])) (first_ones-more texts x)
    ∙ flat_map-append f texts (x ∷ [])
    ∙ ap (λ bs. cells_by q texts ++ bs) (append-nil (f x))
    ∙ ap (λ bs. bs ++ f x) (cells-stay p x texts (λ d e. has-first_ones d texts ∙ e))
    ∙ ap (λ n. cells_by p texts ++ varint n) (number-here p x)

-- ---- the code's palette, a list of vectors

pub has-texts : (x : List ℕ) (ks : List (Vec ℕ Global)) → list_any (λ k. bytes_eq x k.items) ks ≡ has x (texts_of ks)
has-texts x [] = refl
has-texts x (k ∷ ks) = rw (has-texts x ks) refl

pub number-texts : (x : List ℕ) (ks : List (Vec ℕ Global)) → position_or_len (λ k. bytes_eq x k.items) ks ≡ number_in (texts_of ks) x
number-texts x [] = refl
number-texts x (k ∷ ks) = rw (number-texts x ks) refl

-- a place that was found
pub found-number : {A : Type 0} (p : A → Bool) (xs : List A) (i : ℕ) → Some i ≡ position p xs → i ≡ position_or_len p xs
found-number p xs i h = elim (cases_Bool (nat_lt (position_or_len p xs) (length xs))) [
  | inl e ↦ (let m : Some i ≡ Some (position_or_len p xs) = rw e at h in cc)
  | inr e ↦ absurd (let m : Some i ≡ None = rw e at h in cc)
]

pub found-there : {A : Type 0} (p : A → Bool) (xs : List A) (i : ℕ) → Some i ≡ position p xs → list_any p xs ≡ true
found-there {A = A} p xs i h = elim (cases_Bool (nat_lt (position_or_len p xs) (length xs))) [
  | inl e ↦ there xs (ltb-true (position_or_len p xs) (length xs) e)
  | inr e ↦ absurd (let m : Some i ≡ None = rw e at h in cc)
]
  where
    there : (ys : List A) → position_or_len p ys < length ys → list_any p ys ≡ true
    there [] l = absurd (omega arith)
    there (y ∷ ys) l = elim (cases_Bool (p y)) [
      | inl e ↦ rw e refl
      | inr e ↦ rw e (there ys (let k : 1 + position_or_len p ys < suc (length ys) = rw e at l in omega arith))
    ]

pub not-there : {A : Type 0} (p : A → Bool) (xs : List A) → None ≡ position p xs → list_any p xs ≡ false
not-there {A = A} p xs h = elim (cases_Bool (nat_lt (position_or_len p xs) (length xs))) [
  | inl e ↦ absurd (let m : None ≡ Some (position_or_len p xs) = rw e at h in cc)
  | inr e ↦ none xs (grind (arith, nat_tests, e))
]
  where
    none : (ys : List A) → length ys ≤ position_or_len p ys → list_any p ys ≡ false
    none [] l = refl
    none (y ∷ ys) l = elim (cases_Bool (p y)) [
      | inl e ↦ absurd (let k : suc (length ys) ≤ 0 = rw e at l in omega arith)
      | inr e ↦ rw e (none ys (let k : suc (length ys) ≤ 1 + position_or_len p ys = rw e at l in omega arith))
    ]

pub text-added : (k : Vec ℕ Global) (x : List ℕ) (ks : List (Vec ℕ Global)) → k.items ≡ x → texts_of (cond (list_any (λ y. bytes_eq k.items y.items) ks) ks (ks ++ k ∷ [])) ≡ with_text (texts_of ks) x
text-added k x ks e = elim (cases_Bool (list_any (λ y. bytes_eq k.items y.items) ks)) [
  | inl h ↦ (let there : has x (texts_of ks) ≡ true = ap (λ y. has y (texts_of ks)) (sym e) ∙ sym (has-texts k.items ks) ∙ h in rw (h, there) refl)
  | inr h ↦ (let none : has x (texts_of ks) ≡ false = ap (λ y. has y (texts_of ks)) (sym e) ∙ sym (has-texts k.items ks) ∙ h in
      rw (h, none) (map-append (λ (text : Vec ℕ Global). text.items) ks (k ∷ []) ∙ ap (λ y. texts_of ks ++ y ∷ []) e))
]

length-without : (t : List ℕ) (texts : List (List ℕ)) → length (without t texts) ≤ length texts
length-without t [] = omega arith
length-without t (s ∷ texts) = elim (cases_Bool (bytes_eq s t)) [
  | inl e ↦ (let rest : length (without t texts) ≤ length texts = length-without t texts in rw e (omega arith))
  | inr e ↦ (let rest : length (without t texts) ≤ length texts = length-without t texts in rw e (omega arith))
]

pub length-first_ones : (texts : List (List ℕ)) → length (first_ones texts) ≤ length texts
length-first_ones [] = omega arith
length-first_ones (t ∷ texts) = let rest : length (first_ones texts) ≤ length texts = length-first_ones texts in omega (arith, length-without t (first_ones texts), rest)
