-- Keys and lists of keys: what holds of each, of each before each later one, and what is among them.
use Rattle.std.proofs.Common.{◌≡◌, ℕ, ◌<◌, ◌≤◌, Bool, true, false, List, [], ◌∷◌, sym, ◌∙◌, subst, arith, ◌≢◌, ◌⊎◌, inl, inr}
use Rattle.std.proofs.lemmas.Bool.{cases_Bool, leb-true, leb-false, false≢true}
use Rattle.std.specs.Prelude.{nat_le, filter}
use Rattle.circuit.specs.Circuit.{Each, EachBefore, Among}
use Rattle.circuit.specs.Keys.{IsTest}
pub use Rattle.circuit.specs.PutLast.{put_last, put_all_last}

-- what a right test tells
pub cases_key : {K : Type 0} {same : K → K → Bool} → IsTest same → (a b : K) → (a ≡ b) ⊎ (a ≢ b)
cases_key {K} {same} t a b = elim (cases_Bool (same a b)) [
  | inl h ↦ inl (t.one a b h)
  | inr h ↦ inr (λ e. false≢true (sym h ∙ subst (λ c. same a c ≡ true) e (t.itself a)))
]

pub is_key : {K : Type 0} {same : K → K → Bool} → IsTest same → (a b : K) → a ≡ b → same a b ≡ true
is_key {K} {same} t a b e = subst (λ c. same a c ≡ true) e (t.itself a)

pub not_key : {K : Type 0} {same : K → K → Bool} → IsTest same → (a b : K) → a ≢ b → same a b ≡ false
not_key {K} {same} t a b n = elim (cases_Bool (same a b)) [ inl h ↦ absurd (n (t.one a b h)) | inr h ↦ h ]

-- one fact of each key for another
pub each_as : {K : Type 0} (P Q : K → Type 0) → ((k : K) → P k → Q k) → (keys : List K) → Each P keys → Each Q keys
each_as P Q f [] e = tt
each_as P Q f (k ∷ keys) e = (f k e.0, each_as P Q f keys e.1)

-- the list rises by one number as it rises by an equal one
pub rising_as : {K : Type 0} (p q : K → ℕ) (keys : List K) → Each (λ k. p k ≡ q k) keys → EachBefore (λ a b. p a ≤ p b) keys → EachBefore (λ a b. q a ≤ q b) keys
rising_as p q [] h e = tt
rising_as {K} p q (one ∷ keys) h e = (both keys h.1 e.0, rising_as p q keys h.1 e.1)
  where
    both : (keys : List K) → Each (λ k. p k ≡ q k) keys → Each (λ b. p one ≤ p b) keys → Each (λ b. q one ≤ q b) keys
    both [] a b = tt
    both (k ∷ keys) a b = ((let x : p one ≡ q one = h.0 in let y : p k ≡ q k = a.0 in let z : p one ≤ p k = b.0 in omega arith), both keys a.1 b.1)

each_put_last : {K : Type 0} (P : K → Type 0) (priority : K → ℕ) (key : K) (keys : List K) → P key → Each P keys → Each P (put_last priority key keys)
each_put_last P priority key [] p e = (p, tt)
each_put_last P priority key (one ∷ keys) p e = elim (cases_Bool (nat_le (priority one) (priority key))) [
  | inl h ↦ rw h (e.0, each_put_last P priority key keys p e.1)
  | inr h ↦ rw h (p, e)
]

among_put_last : {K : Type 0} (priority : K → ℕ) (key : K) (keys : List K) (k : K) → (k ≡ key) ⊎ Among keys k → Among (put_last priority key keys) k
among_put_last priority key [] k a = a
among_put_last priority key (one ∷ keys) k a = elim (cases_Bool (nat_le (priority one) (priority key))) [
  | inl h ↦ rw h (elim a [
    | inl e ↦ inr (among_put_last priority key keys k (inl e))
    | inr b ↦ elim b [ inl e ↦ inl e | inr c ↦ inr (among_put_last priority key keys k (inr c)) ]
  ])
  | inr h ↦ rw h a
]

once_put_last : {K : Type 0} (priority : K → ℕ) (key : K) (keys : List K) → Each (λ k. k ≢ key) keys → EachBefore (λ a b. a ≢ b) keys → EachBefore (λ a b. a ≢ b) (put_last priority key keys)
once_put_last priority key [] n e = (tt, tt)
once_put_last priority key (one ∷ keys) n e = elim (cases_Bool (nat_le (priority one) (priority key))) [
  | inl h ↦ rw h (each_put_last (λ b. one ≢ b) priority key keys n.0 e.0, once_put_last priority key keys n.1 e.1)
  | inr h ↦ rw h (each_as (λ k. k ≢ key) (λ k. key ≢ k) (λ k d q. d (sym q)) (one ∷ keys) n, e)
]

rising_put_last : {K : Type 0} (priority : K → ℕ) (key : K) (keys : List K) → EachBefore (λ a b. priority a ≤ priority b) keys → EachBefore (λ a b. priority a ≤ priority b) (put_last priority key keys)
rising_put_last priority key [] e = (tt, tt)
rising_put_last priority key (one ∷ keys) e = elim (cases_Bool (nat_le (priority one) (priority key))) [
  | inl h ↦ rw h (each_put_last (λ b. priority one ≤ priority b) priority key keys (leb-true (priority one) (priority key) h) e.0, rising_put_last priority key keys e.1)
  | inr h ↦ rw h
      (let below : priority key < priority one = leb-false (priority one) (priority key) h in
      ((omega arith, each_as (λ b. priority one ≤ priority b) (λ b. priority key ≤ priority b) (λ k q. omega arith) keys e.0), e))
]

pub each_put_all_last : {K : Type 0} (P : K → Type 0) (priority : K → ℕ) (more keys : List K) → Each P more → Each P keys → Each P (put_all_last priority more keys)
each_put_all_last P priority [] keys p e = e
each_put_all_last P priority (one ∷ more) keys p e = each_put_all_last P priority more (put_last priority one keys) p.1 (each_put_last P priority one keys p.0 e)

pub among_put_all_last : {K : Type 0} (priority : K → ℕ) (more keys : List K) (k : K) → Among more k ⊎ Among keys k → Among (put_all_last priority more keys) k
among_put_all_last priority [] keys k a = elim a [ inl h ↦ absurd h | inr h ↦ h ]
among_put_all_last priority (one ∷ more) keys k a = among_put_all_last priority more (put_last priority one keys) k
    (elim a [
      | inl h ↦ elim h [ inl e ↦ inr (among_put_last priority one keys k (inl e)) | inr b ↦ inl b ]
      | inr h ↦ inr (among_put_last priority one keys k (inr h))
    ])

pub once_put_all_last : {K : Type 0} (priority : K → ℕ) (more keys : List K) → EachBefore (λ a b. a ≢ b) more → Each (λ m. Each (λ k. k ≢ m) keys) more →
    EachBefore (λ a b. a ≢ b) keys → EachBefore (λ a b. a ≢ b) (put_all_last priority more keys)
once_put_all_last priority [] keys m n e = e
once_put_all_last {K} priority (one ∷ more) keys m n e = once_put_all_last priority more (put_last priority one keys) m.1
    (both more m.0 n.1) (once_put_last priority one keys n.0 e)
  where
    both : (more : List K) → Each (λ k. one ≢ k) more → Each (λ m. Each (λ k. k ≢ m) keys) more → Each (λ m. Each (λ k. k ≢ m) (put_last priority one keys)) more
    both [] a b = tt
    both (m ∷ more) a b = (each_put_last (λ k. k ≢ m) priority one keys a.0 b.0, both more a.1 b.1)

pub rising_put_all_last : {K : Type 0} (priority : K → ℕ) (more keys : List K) → EachBefore (λ a b. priority a ≤ priority b) keys → EachBefore (λ a b. priority a ≤ priority b) (put_all_last priority more keys)
rising_put_all_last priority [] keys e = e
rising_put_all_last priority (one ∷ more) keys e = rising_put_all_last priority more (put_last priority one keys) (rising_put_last priority one keys e)

-- the keys that pass a test
pub each_filter : {K : Type 0} (P Q : K → Type 0) (test : K → Bool) → ((k : K) → P k → test k ≡ true → Q k) → (keys : List K) → Each P keys → Each Q (filter test keys)
each_filter P Q test f [] e = tt
each_filter P Q test f (k ∷ keys) e = elim (cases_Bool (test k)) [
  | inl h ↦ rw h (f k e.0 h, each_filter P Q test f keys e.1)
  | inr h ↦ rw h (each_filter P Q test f keys e.1)
]

pub among_filter : {K : Type 0} (test : K → Bool) (keys : List K) (k : K) → Among keys k → test k ≡ true → Among (filter test keys) k
among_filter test [] k a h = absurd a
among_filter test (one ∷ keys) k a h = elim a [
  | inl e ↦ (let here : test one ≡ true = subst (λ j. test j ≡ true) e h in rw here (inl e))
  | inr b ↦ elim (cases_Bool (test one)) [ inl e ↦ rw e (inr (among_filter test keys k b h)) | inr e ↦ rw e (among_filter test keys k b h) ]
]

pub once_filter : {K : Type 0} (test : K → Bool) (keys : List K) → EachBefore (λ a b. a ≢ b) keys → EachBefore (λ a b. a ≢ b) (filter test keys)
once_filter test [] e = tt
once_filter test (one ∷ keys) e = elim (cases_Bool (test one)) [
  | inl h ↦ rw h (each_filter (λ k. one ≢ k) (λ k. one ≢ k) test (λ k n t. n) keys e.0, once_filter test keys e.1)
  | inr h ↦ rw h (once_filter test keys e.1)
]
