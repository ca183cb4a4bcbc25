-- Lists of what waits, before and after one was written.
use Rattle.std.proofs.Common.{◌≡◌, ◌≢◌, ℕ, zero, suc, ◌+◌, ◌<◌, ◌≤◌, List, [], ◌∷◌, ◌++◌, refl, sym, ap, ◌∙◌, arith, set, map, length, get_or, subst, inl, inr, ◌⊎◌}
use Rattle.std.specs.Prelude.{Vec, reverse}
use Rattle.std.specs.declared.alloc.Global.{Global}
use Rattle.std.proofs.lemmas.List.{length-set}
use Rattle.std.proofs.lemmas.Grind.{reverse_onto}
use Rattle.circuit.specs.Circuit.{Each, Among}
use Rattle.constant_fold.specs.declared.waits.Wait.{Wait}
use Rattle.constant_fold.specs.Tended.{waiting_for, IsAdded, IsEmptied, IsFresh}

pub waiting_for-same : (lists : List (Vec Wait Global)) (source : ℕ) (list : Vec Wait Global) → source < length lists → waiting_for (set lists source list) source ≡ list.items
waiting_for-same [] source list h = absurd (omega arith)
waiting_for-same (l ∷ lists) zero list h = refl
waiting_for-same (l ∷ lists) (suc source) list h = waiting_for-same lists source list (omega arith)

pub waiting_for-other : (lists : List (Vec Wait Global)) (source : ℕ) (list : Vec Wait Global) (other : ℕ) → other ≢ source → waiting_for (set lists source list) other ≡ waiting_for lists other
waiting_for-other [] source list other n = refl
waiting_for-other (l ∷ lists) zero list zero n = absurd (n refl)
waiting_for-other (l ∷ lists) zero list (suc other) n = refl
waiting_for-other (l ∷ lists) (suc source) list zero n = refl
waiting_for-other (l ∷ lists) (suc source) list (suc other) n = waiting_for-other lists source list other (λ e. n (ap (λ k. suc k) e))

pub waiting_for-read : (lists : List (Vec Wait Global)) (source : ℕ) (list : Vec Wait Global) → source < length lists → list ≡ get_or lists source list → waiting_for lists source ≡ list.items
waiting_for-read [] source list h e = absurd (omega arith)
waiting_for-read (l ∷ lists) zero list h e = ap (λ (v : Vec Wait Global). v.items) (sym e)
waiting_for-read (l ∷ lists) (suc source) list h e = waiting_for-read lists source list (omega arith) e

pub waiting_for-more : (lists : List (Vec Wait Global)) (list : Vec Wait Global) → ((source : ℕ) → waiting_for lists source ≡ []) → list.items ≡ [] → (source : ℕ) → waiting_for (lists ++ list ∷ []) source ≡ []
waiting_for-more [] list h e zero = e
waiting_for-more [] list h e (suc source) = refl
waiting_for-more (l ∷ lists) list h e zero = h zero
waiting_for-more (l ∷ lists) list h e (suc source) = waiting_for-more lists list (λ s. h (suc s)) e source

pub added_at : (lists : List (Vec Wait Global)) (source : ℕ) (old new : Vec Wait Global) (wait : Wait) → source < length lists → old ≡ get_or lists source old → new.items ≡ old.items ++ wait ∷ [] →
    IsAdded lists (set lists source new) source wait
added_at lists source old new wait h read e = record {
  here = waiting_for-same lists source new h ∙ e ∙ ap (λ (ws : List Wait). ws ++ wait ∷ []) (sym (waiting_for-read lists source old h read));
  others = λ other n. waiting_for-other lists source new other n;
  size = length-set lists source new;
}

pub emptied_at : (lists : List (Vec Wait Global)) (source : ℕ) (none : Vec Wait Global) → source < length lists → none.items ≡ [] → IsEmptied lists (set lists source none) source
emptied_at lists source none h e = record {
  here = waiting_for-same lists source none h ∙ e;
  others = λ other n. waiting_for-other lists source none other n;
  size = length-set lists source none;
}

-- what is among two lists, one behind the other
pub among_front : {A : Type 0} (xs ys : List A) (x : A) → Among xs x → Among (xs ++ ys) x
among_front [] ys x a = absurd a
among_front (one ∷ xs) ys x a = elim a [ inl e ↦ inl e | inr b ↦ inr (among_front xs ys x b) ]

pub among_back : {A : Type 0} (xs ys : List A) (x : A) → Among ys x → Among (xs ++ ys) x
among_back [] ys x a = a
among_back (one ∷ xs) ys x a = inr (among_back xs ys x a)

pub among_either : {A : Type 0} (xs ys : List A) (x : A) → Among (xs ++ ys) x → Among xs x ⊎ Among ys x
among_either [] ys x a = inr a
among_either (one ∷ xs) ys x a = elim a [
  | inl e ↦ inl (inl e)
  | inr b ↦ elim (among_either xs ys x b) [ inl p ↦ inl (inr p) | inr q ↦ inr q ]
]

pub each_join : {A : Type 0} (P : A → Type 0) (xs ys : List A) → Each P xs → Each P ys → Each P (xs ++ ys)
each_join P [] ys a b = b
each_join P (x ∷ xs) ys a b = (a.0, each_join P xs ys a.1 b)

pub each_front : {A : Type 0} (P : A → Type 0) (xs ys : List A) → Each P (xs ++ ys) → Each P xs
each_front P [] ys e = tt
each_front P (x ∷ xs) ys e = (e.0, each_front P xs ys e.1)

pub each_back : {A : Type 0} (P : A → Type 0) (xs ys : List A) → Each P (xs ++ ys) → Each P ys
each_back P [] ys e = e
each_back P (x ∷ xs) ys e = each_back P xs ys e.1

pub each_so : {A : Type 0} (P Q : A → Type 0) → ((x : A) → P x → Q x) → (xs : List A) → Each P xs → Each Q xs
each_so P Q f [] e = tt
each_so P Q f (x ∷ xs) e = (f x e.0, each_so P Q f xs e.1)

-- the first looks at all these nodes
abbrev pub first_look : ℕ → Wait
first_look key = record { node = key; index = 0 }

each_first : (keys : List ℕ) → Each (λ (wait : Wait). wait.index ≡ 0) (map first_look keys)
each_first [] = tt
each_first (key ∷ keys) = (refl, each_first keys)

among_map : (keys : List ℕ) (key : ℕ) → Among keys key → Among (map first_look keys) (first_look key)
among_map [] key a = absurd a
among_map (one ∷ keys) key a = elim a [ inl e ↦ inl (ap first_look e) | inr b ↦ inr (among_map keys key b) ]

among_get : (keys : List ℕ) (index : ℕ) → index < length keys → Among keys (get_or keys index 0)
among_get [] index h = absurd (omega arith)
among_get (key ∷ keys) zero h = inl refl
among_get (key ∷ keys) (suc index) h = inr (among_get keys index (omega arith))

among_reverse : (keys : List ℕ) (key : ℕ) → Among keys key → Among (reverse keys) key
among_reverse [] key a = absurd a
among_reverse (one ∷ keys) key a = subst (λ (ks : List ℕ). Among ks key) (sym (reverse_onto keys one [])) (elim a [
  | inl e ↦ among_back (reverse keys) (one ∷ []) key (inl e)
  | inr b ↦ among_front (reverse keys) (one ∷ []) key (among_reverse keys key b)
])

pub fresh_waits : (keys : List ℕ) (work : List Wait) (lists : List (Vec Wait Global)) (most : ℕ) → work ≡ map first_look (reverse keys) → ((source : ℕ) → waiting_for lists source ≡ []) → length lists ≡ most + 1 →
    ((index : ℕ) → index < length keys → get_or keys index 0 ≤ most) → IsFresh keys work lists
fresh_waits keys work lists most e empty size below = record {
  all = λ index h. (
    first_look (get_or keys index 0),
    subst (λ (ws : List Wait). Among ws (first_look (get_or keys index 0))) (sym e) (among_map (reverse keys) (get_or keys index 0) (among_reverse keys (get_or keys index 0) (among_get keys index h))),
    refl,
  );
  first = subst (Each (λ (wait : Wait). wait.index ≡ 0)) (sym e) (each_first (reverse keys));
  empty = empty;
  room = λ index h. omega (arith, below index h, size);
}

pub length-more : (lists : List (Vec Wait Global)) (list : Vec Wait Global) → length (lists ++ list ∷ []) ≡ length lists + 1
length-more [] list = refl
length-more (l ∷ lists) list = omega (arith, length-more lists list)
