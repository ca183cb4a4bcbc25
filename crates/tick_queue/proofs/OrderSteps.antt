-- What keeps the ticks of a queue in order and within their time.
use Rattle.std.proofs.Common.{◌≡◌, ℕ, ◌+◌, true, false, List, [], ◌∷◌, eqb, leb, ltb, cond, IsTrue, ◌&&◌, ◌||◌, refl, arith}
use Rattle.std.proofs.lemmas.Bool.Decides.{nat_tests}
use Rattle.tick_queue.specs.declared.Tick.{Tick}
use Rattle.tick_queue.specs.Ticks.{is_at, is_up_to, put_in, without_first_at, NoneDueAt, IsInTime, AllInTime, IsUpToAll, IsInOrder}

-- of two ticks one is up to the other
up_to-total : (a p b q : ℕ) → (ltb a b || ((eqb a b) && leb p q)) ≡ false → (ltb b a || ((eqb b a) && leb q p)) ≡ true
up_to-total a p b q h = grind (arith, nat_tests)

up_to-trans : (a p b q c r : ℕ) → (ltb a b || ((eqb a b) && leb p q)) ≡ true → (ltb b c || ((eqb b c) && leb q r)) ≡ true → (ltb a c || ((eqb a c) && leb p r)) ≡ true
up_to-trans a p b q c r h k = grind (arith, nat_tests)

IsUpToAll-trans : {K : Type 0} (a b : Tick K) (xs : List (Tick K)) → IsTrue (is_up_to b.due b.priority a) → IsUpToAll b xs → IsUpToAll a xs
IsUpToAll-trans a b [] h all = tt
IsUpToAll-trans a b (x ∷ xs) h all = (up_to-trans a.due a.priority b.due b.priority x.due x.priority h all.0, IsUpToAll-trans a b xs h all.1)

IsUpToAll-put_in : {K : Type 0} (a t : Tick K) (xs : List (Tick K)) → IsTrue (is_up_to t.due t.priority a) → IsUpToAll a xs → IsUpToAll a (put_in t xs)
IsUpToAll-put_in a t [] h all = (h, tt)
IsUpToAll-put_in a t (x ∷ xs) h all = let ih : IsUpToAll a (put_in t xs) = IsUpToAll-put_in a t xs h all.1 in
    elim (is_up_to t.due t.priority x) as (λ b. IsUpToAll a (cond b (x ∷ put_in t xs) (t ∷ x ∷ xs))) [ true ↦ (all.0, ih) | false ↦ (h, all) ]

pub IsInOrder-put_in : {K : Type 0} (t : Tick K) (xs : List (Tick K)) → IsInOrder xs → IsInOrder (put_in t xs)
IsInOrder-put_in t [] order = (tt, tt)
IsInOrder-put_in t (x ∷ xs) order = let ih : IsInOrder (put_in t xs) = IsInOrder-put_in t xs order.1 in
    (elim (is_up_to t.due t.priority x) as (λ b. is_up_to t.due t.priority x ≡ b → IsInOrder (cond b (x ∷ put_in t xs) (t ∷ x ∷ xs))) [
      | true ↦ λ before. (IsUpToAll-put_in x t xs before order.0, ih)
      | false ↦ λ behind. let first : IsTrue (is_up_to x.due x.priority t) = up_to-total x.due x.priority t.due t.priority behind in ((first, IsUpToAll-trans t x xs first order.0), order)
    ]) refl

pub AllInTime-put_in : {K : Type 0} (time : ℕ) (t : Tick K) (xs : List (Tick K)) → IsInTime time t → AllInTime time xs → AllInTime time (put_in t xs)
AllInTime-put_in time t [] h all = (h, tt)
AllInTime-put_in time t (x ∷ xs) h all = let ih : AllInTime time (put_in t xs) = AllInTime-put_in time t xs h all.1 in
    elim (is_up_to t.due t.priority x) as (λ b. AllInTime time (cond b (x ∷ put_in t xs) (t ∷ x ∷ xs))) [ true ↦ (all.0, ih) | false ↦ (h, all) ]

IsUpToAll-without : {K : Type 0} (due priority : ℕ) (a : Tick K) (xs : List (Tick K)) → IsUpToAll a xs → IsUpToAll a (without_first_at due priority xs)
IsUpToAll-without due priority a [] all = tt
IsUpToAll-without due priority a (x ∷ xs) all = let ih : IsUpToAll a (without_first_at due priority xs) = IsUpToAll-without due priority a xs all.1 in
    elim (is_at due priority x) as (λ b. IsUpToAll a (cond b xs (x ∷ without_first_at due priority xs))) [ true ↦ all.1 | false ↦ (all.0, ih) ]

pub IsInOrder-without : {K : Type 0} (due priority : ℕ) (xs : List (Tick K)) → IsInOrder xs → IsInOrder (without_first_at due priority xs)
IsInOrder-without due priority [] order = tt
IsInOrder-without due priority (x ∷ xs) order = let ih : IsInOrder (without_first_at due priority xs) = IsInOrder-without due priority xs order.1 in
    elim (is_at due priority x) as (λ b. IsInOrder (cond b xs (x ∷ without_first_at due priority xs))) [ true ↦ order.1 | false ↦ (IsUpToAll-without due priority x xs order.0, ih) ]

pub AllInTime-without : {K : Type 0} (time due priority : ℕ) (xs : List (Tick K)) → AllInTime time xs → AllInTime time (without_first_at due priority xs)
AllInTime-without time due priority [] all = tt
AllInTime-without time due priority (x ∷ xs) all = let ih : AllInTime time (without_first_at due priority xs) = AllInTime-without time due priority xs all.1 in
    elim (is_at due priority x) as (λ b. AllInTime time (cond b xs (x ∷ without_first_at due priority xs))) [ true ↦ all.1 | false ↦ (all.0, ih) ]

-- where no tick is due now, all are within the next time
pub AllInTime-later : {K : Type 0} (time : ℕ) (xs : List (Tick K)) → NoneDueAt time xs → AllInTime time xs → AllInTime (time + 1) xs
AllInTime-later time [] none all = tt
AllInTime-later time (x ∷ xs) none all = let not_now : x.due ≡ time → ⊥ = none.0 in ((omega arith, omega arith, all.0.2), AllInTime-later time xs none.1 all.1)
