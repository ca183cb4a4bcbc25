-- What becomes of a list of ticks when one is put in or taken out.
use Rattle.std.proofs.Common.{◌≡◌, ◌≢◌, ℕ, suc, ◌+◌, ◌<◌, ◌≤◌, Bool, true, false, Some, None, List, [], ◌∷◌, length, get_or, cond, not, refl, ap, sym, ◌∙◌, ⊎_elim, subst, arith}
use Rattle.std.specs.List.{All, prefix_len, position, position_or_len, insert, remove}
use Rattle.std.proofs.lemmas.Bool.{cases_lt, lt-ltb, le-ltb, cond-true, cond-false}
use Rattle.std.proofs.lemmas.Bool.Decides.{nat_tests}
use Rattle.std.proofs.lemmas.Grind.{common_steps}
use Rattle.tick_queue.specs.declared.Tick.{Tick}
use Rattle.tick_queue.specs.Ticks.{is_at, is_up_to, put_in, first_at, without_first_at, NoneDueAt, AllInTime}

-- a tick is put in behind those that come before it
pub insert-put_in : {K : Type 0} (t : Tick K) (xs : List (Tick K)) → insert xs (prefix_len (is_up_to t.due t.priority) xs) t ≡ put_in t xs
insert-put_in t [] = refl
insert-put_in t (x ∷ xs) = elim (is_up_to t.due t.priority x) as (λ b. insert (x ∷ xs) (cond b (1 + prefix_len (is_up_to t.due t.priority) xs) 0) t ≡ cond b (x ∷ put_in t xs) (t ∷ x ∷ xs)) [
  | true ↦ grind (arith, common_steps, insert-put_in t xs)
  | false ↦ refl
]

-- at most all come before it
pub prefix_len-le : {X : Type 0} (p : X → Bool) (xs : List X) → prefix_len p xs ≤ length xs
prefix_len-le p [] = omega arith
prefix_len-le p (x ∷ xs) = elim (p x) as (λ b. cond b (1 + prefix_len p xs) 0 ≤ suc (length xs)) [ true ↦ omega (arith, prefix_len-le p xs) | false ↦ omega arith ]

-- where a first tick stands, it is the first, and without it the others are left
pub first_at-place : {K : Type 0} (due priority : ℕ) (xs : List (Tick K)) (d : Tick K) → position_or_len (is_at due priority) xs < length xs → first_at due priority xs ≡ Some (get_or xs (position_or_len (is_at due priority) xs) d).key
first_at-place due priority [] d h = absurd (omega arith)
first_at-place {K} due priority (x ∷ xs) d h = let ih : position_or_len (is_at due priority) xs < length xs → first_at due priority xs ≡ Some (get_or xs (position_or_len (is_at due priority) xs) d).key = first_at-place due priority xs d in
    (elim (is_at due priority x) as (λ b. cond (not b) (1 + position_or_len (is_at due priority) xs) 0 < suc (length xs) → cond b (Some x.key) (first_at due priority xs) ≡ Some (get_or (x ∷ xs) (cond (not b) (1 + position_or_len (is_at due priority) xs) 0) d).key) [
      | true ↦ λ _. refl
      | false ↦ λ below. let here : position_or_len (is_at due priority) xs < length xs = omega arith in grind (arith, common_steps, ih here)
    ]) h

remove-cons : {X : Type 0} (x : X) (xs : List X) (i : ℕ) → remove (x ∷ xs) (1 + i) ≡ x ∷ remove xs i
remove-cons x xs i = let e : 1 + i ≡ suc i = omega arith in rw e refl

pub without-place : {K : Type 0} (due priority : ℕ) (xs : List (Tick K)) → position_or_len (is_at due priority) xs < length xs → remove xs (position_or_len (is_at due priority) xs) ≡ without_first_at due priority xs
without-place due priority [] h = absurd (omega arith)
without-place {K} due priority (x ∷ xs) h = let ih : position_or_len (is_at due priority) xs < length xs → remove xs (position_or_len (is_at due priority) xs) ≡ without_first_at due priority xs = without-place due priority xs in
    (elim (is_at due priority x) as (λ b. cond (not b) (1 + position_or_len (is_at due priority) xs) 0 < suc (length xs) → remove (x ∷ xs) (cond (not b) (1 + position_or_len (is_at due priority) xs) 0) ≡ cond b xs (x ∷ without_first_at due priority xs)) [
      | true ↦ λ _. refl
      | false ↦ λ below. let here : position_or_len (is_at due priority) xs < length xs = omega arith in remove-cons x xs _ ∙ ap (λ l. x ∷ l) (ih here)
    ]) h

-- where there is none, none is first, and all are left
pub first_at-None : {K : Type 0} (due priority : ℕ) (xs : List (Tick K)) → length xs ≤ position_or_len (is_at due priority) xs → first_at due priority xs ≡ None
first_at-None due priority [] h = refl
first_at-None due priority (x ∷ xs) h = let ih : length xs ≤ position_or_len (is_at due priority) xs → first_at due priority xs ≡ None = first_at-None due priority xs in
    (elim (is_at due priority x) as (λ b. suc (length xs) ≤ cond (not b) (1 + position_or_len (is_at due priority) xs) 0 → cond b (Some x.key) (first_at due priority xs) ≡ None) [
      | true ↦ λ below. absurd (omega arith)
      | false ↦ λ below. ih (omega arith)
    ]) h

-- where none is taken, all are left
pub without-None : {K : Type 0} (due priority : ℕ) (xs : List (Tick K)) → first_at due priority xs ≡ None → without_first_at due priority xs ≡ xs
without-None due priority [] h = refl
without-None due priority (x ∷ xs) h = let ih : first_at due priority xs ≡ None → without_first_at due priority xs ≡ xs = without-None due priority xs in
    (elim (is_at due priority x) as (λ b. cond b (Some x.key) (first_at due priority xs) ≡ None → cond b xs (x ∷ without_first_at due priority xs) ≡ x ∷ xs) [
      | true ↦ λ none. (cc)
      | false ↦ λ none. ap (λ l. x ∷ l) (ih none)
    ]) h

-- the same of `position`
pub taken-Some : {K : Type 0} (due priority : ℕ) (xs : List (Tick K)) (i : ℕ) (d : Tick K) → Some i ≡ position (is_at due priority) xs → (Some (get_or xs i d).key ≡ first_at due priority xs) × (remove xs i ≡ without_first_at due priority xs) × (i < length xs)
taken-Some due priority xs i d found = ⊎_elim
    (λ below. let e : position (is_at due priority) xs ≡ Some (position_or_len (is_at due priority) xs) = cond-true _ _ _ (lt-ltb _ _ below) in
    let same : position_or_len (is_at due priority) xs ≡ i = cc in
    (subst (λ n. Some (get_or xs n d).key ≡ first_at due priority xs) same (sym (first_at-place due priority xs d below)), subst (λ n. remove xs n ≡ without_first_at due priority xs) same (without-place due priority xs below), subst (λ n. n < length xs) same below))
    (λ past. let e : position (is_at due priority) xs ≡ None = cond-false _ _ _ (le-ltb _ _ past) in cc)
    (cases_lt (position_or_len (is_at due priority) xs) (length xs))

pub taken-None : {K : Type 0} (due priority : ℕ) (xs : List (Tick K)) → None ≡ position (is_at due priority) xs → (None ≡ first_at due priority xs) × (xs ≡ without_first_at due priority xs)
taken-None due priority xs none = ⊎_elim
    (λ below. let e : position (is_at due priority) xs ≡ Some (position_or_len (is_at due priority) xs) = cond-true _ _ _ (lt-ltb _ _ below) in cc)
    (λ past. let first : first_at due priority xs ≡ None = first_at-None due priority xs past in (sym first, sym (without-None due priority xs first)))
    (cases_lt (position_or_len (is_at due priority) xs) (length xs))

-- how many ticks there are after a step
pub length-put_in : {K : Type 0} (t : Tick K) (xs : List (Tick K)) → length (put_in t xs) ≡ suc (length xs)
length-put_in t [] = refl
length-put_in t (x ∷ xs) = elim (is_up_to t.due t.priority x) as (λ b. length (cond b (x ∷ put_in t xs) (t ∷ x ∷ xs)) ≡ suc (suc (length xs))) [ true ↦ ap suc (length-put_in t xs) | false ↦ refl ]

pub length-without : {K : Type 0} (due priority : ℕ) (xs : List (Tick K)) (key : K) → first_at due priority xs ≡ Some key → suc (length (without_first_at due priority xs)) ≡ length xs
length-without due priority [] key h = (cc)
length-without due priority (x ∷ xs) key h = let ih : first_at due priority xs ≡ Some key → suc (length (without_first_at due priority xs)) ≡ length xs = length-without due priority xs key in
    (elim (is_at due priority x) as (λ b. cond b (Some x.key) (first_at due priority xs) ≡ Some key → suc (length (cond b xs (x ∷ without_first_at due priority xs))) ≡ suc (length xs)) [
      | true ↦ λ _. refl
      | false ↦ λ found. ap suc (ih found)
    ]) h

first_at-later : {K : Type 0} (due priority : ℕ) (x : Tick K) (xs : List (Tick K)) → first_at due priority (x ∷ xs) ≡ None → first_at due priority xs ≡ None
first_at-later {K} due priority x xs = elim (is_at due priority x) as (λ b. cond b (Some x.key) (first_at due priority xs) ≡ None → first_at due priority xs ≡ None) [ true ↦ λ h. (cc) | false ↦ λ h. h ]

-- where no tick can be taken at a time, none is due then
pub none_due-none_taken : {K : Type 0} (time : ℕ) (xs : List (Tick K)) → AllInTime time xs → ((priority : ℕ) → priority ≤ 3 → first_at time priority xs ≡ None) → NoneDueAt time xs
none_due-none_taken time [] all none = tt
none_due-none_taken {K} time (x ∷ xs) all none = (
  λ due. let here : is_at time x.priority x ≡ true = grind (arith, nat_tests) in
      let taken : first_at time x.priority (x ∷ xs) ≡ Some x.key = ap (λ b. cond b (Some x.key) (first_at time x.priority xs)) here in
      let no : first_at time x.priority (x ∷ xs) ≡ None = none x.priority all.0.2 in (cc),
  none_due-none_taken time xs all.1 (λ priority small. first_at-later time priority x xs (none priority small)),
)

-- where each tick is due at another time, none is due at this one
pub none_due_all : {K : Type 0} (time : ℕ) (xs : List (Tick K)) → All (λ x. x.due ≢ time) xs → NoneDueAt time xs
none_due_all time [] all = tt
none_due_all time (x ∷ xs) all = (all 0 x (omega arith), none_due_all time xs (λ k d h. all (suc k) d (omega arith)))
