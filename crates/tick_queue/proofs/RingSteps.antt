-- What becomes of the ticks of a ring when one slot changes, and when time goes on.
use Rattle.std.proofs.Common.{◌≡◌, ◌≢◌, ℕ, zero, suc, ◌+◌, ◌/◌, ◌%◌, ◌<◌, ◌≤◌, true, false, Some, None, List, [], ◌∷◌, ◌++◌, map, length, cond, refl, ap, sym, ◌∙◌, subst, ⊎_elim, inl, inr, ◌⊎◌, arith, append_assoc}
use Rattle.std.proofs.lemmas.Bool.{cases_lt}
use Rattle.std.proofs.lemmas.Bool.Decides.{nat_tests}
use Rattle.tick_queue.specs.declared.Tick.{Tick}
use Rattle.tick_queue.specs.Ticks.{is_at, is_up_to, put_in, first_at, without_first_at, NoneDueAt}
use Rattle.tick_queue.specs.Ring.{tick_of_rank, ticks_of_ranks}

-- ticks of ranks whose slots are the same
ranks-same : {K : Type 0} (old new : ℕ → List K) (rank count : ℕ) → ((r : ℕ) → rank ≤ r → r < rank + count → new r ≡ old r) → ticks_of_ranks new rank count ≡ ticks_of_ranks old rank count
ranks-same old new rank zero same = refl
ranks-same old new rank (suc count) same =
    let first : new rank ≡ old rank = same rank (omega arith) (omega arith) in
    let rest : ticks_of_ranks new (suc rank) count ≡ ticks_of_ranks old (suc rank) count = ranks-same old new (suc rank) count (λ r from to. same r (omega arith) (omega arith)) in
    ap (λ ks. map (tick_of_rank rank) ks ++ ticks_of_ranks new (suc rank) count) first ∙ ap (λ ts. map (tick_of_rank rank) (old rank) ++ ts) rest

-- the test of a tick by ranks
up_to-true : {K : Type 0} (low high : ℕ) (key : K) → low ≤ high → is_up_to (high / 4) (high % 4) (tick_of_rank low key) ≡ true
up_to-true low high key h = grind (arith, nat_tests)

up_to-false : {K : Type 0} (low high : ℕ) (key : K) → low < high → is_up_to (low / 4) (low % 4) (tick_of_rank high key) ≡ false
up_to-false low high key h = grind (arith, nat_tests)

at-true : {K : Type 0} (rank : ℕ) (key : K) → is_at (rank / 4) (rank % 4) (tick_of_rank rank key) ≡ true
at-true rank key = grind (arith, nat_tests)

at-false : {K : Type 0} (rank other : ℕ) (key : K) → rank ≢ other → is_at (rank / 4) (rank % 4) (tick_of_rank other key) ≡ false
at-false rank other key h = grind (arith, nat_tests)

-- a tick is put in behind those of a rank that is no more
put_in-behind : {K : Type 0} (low high : ℕ) (key : K) (keys : List K) (more : List (Tick K)) → low ≤ high → put_in (tick_of_rank high key) (map (tick_of_rank low) keys ++ more) ≡ map (tick_of_rank low) keys ++ put_in (tick_of_rank high key) more
put_in-behind low high key [] more h = refl
put_in-behind low high key (k ∷ ks) more h =
    ap (λ b. cond b (tick_of_rank low k ∷ put_in (tick_of_rank high key) (map (tick_of_rank low) ks ++ more)) (tick_of_rank high key ∷ tick_of_rank low k ∷ map (tick_of_rank low) ks ++ more)) (up_to-true low high k h)
    ∙ ap (λ ts. tick_of_rank low k ∷ ts) (put_in-behind low high key ks more h)

-- and before those of a higher rank
put_in-along : {K : Type 0} (low high : ℕ) (key : K) (keys : List K) (more : List (Tick K)) → low < high → put_in (tick_of_rank low key) more ≡ tick_of_rank low key ∷ more → put_in (tick_of_rank low key) (map (tick_of_rank high) keys ++ more) ≡ tick_of_rank low key ∷ (map (tick_of_rank high) keys ++ more)
put_in-along low high key [] more h rest = rest
put_in-along low high key (k ∷ ks) more h rest =
    ap (λ b. cond b (tick_of_rank high k ∷ put_in (tick_of_rank low key) (map (tick_of_rank high) ks ++ more)) (tick_of_rank low key ∷ tick_of_rank high k ∷ map (tick_of_rank high) ks ++ more)) (up_to-false low high k h)

put_in-before : {K : Type 0} (keys : ℕ → List K) (low : ℕ) (key : K) (rank count : ℕ) → low < rank → put_in (tick_of_rank low key) (ticks_of_ranks keys rank count) ≡ tick_of_rank low key ∷ ticks_of_ranks keys rank count
put_in-before keys low key rank zero h = refl
put_in-before keys low key rank (suc count) h = put_in-along low rank key (keys rank) (ticks_of_ranks keys (suc rank) count) h (put_in-before keys low key (suc rank) count (omega arith))

map-push : {A B : Type 0} (f : A → B) (xs : List A) (x : A) (more : List B) → map f (xs ++ x ∷ []) ++ more ≡ map f xs ++ (f x ∷ more)
map-push f [] x more = refl
map-push f (y ∷ ys) x more = ap (λ l. f y ∷ l) (map-push f ys x more)

-- a key put behind the others of its slot
pub ranks-put : {K : Type 0} (old new : ℕ → List K) (at : ℕ) (key : K) (rank count : ℕ) → rank ≤ at → at < rank + count → new at ≡ old at ++ key ∷ [] → ((r : ℕ) → rank ≤ r → r < rank + count → r ≢ at → new r ≡ old r) → ticks_of_ranks new rank count ≡ put_in (tick_of_rank at key) (ticks_of_ranks old rank count)
ranks-put old new at key rank zero from to pushed same = absurd (omega arith)
ranks-put {K} old new at key rank (suc count) from to pushed same =
    let Rest : ℕ → List (Tick K) = λ r. ticks_of_ranks old r count in
    ⊎_elim
    (λ (below : rank < at).
    let rest : ticks_of_ranks new (suc rank) count ≡ put_in (tick_of_rank at key) (ticks_of_ranks old (suc rank) count) = ranks-put old new at key (suc rank) count (omega arith) (omega arith) pushed (λ r a b n. same r (omega arith) (omega arith) n) in
    let first : new rank ≡ old rank = same rank (omega arith) (omega arith) (λ e. omega arith) in
    ap (λ ks. map (tick_of_rank rank) ks ++ ticks_of_ranks new (suc rank) count) first
    ∙ ap (λ ts. map (tick_of_rank rank) (old rank) ++ ts) rest
    ∙ sym (put_in-behind rank at key (old rank) (ticks_of_ranks old (suc rank) count) (omega arith)))
    (λ (past : at ≤ rank).
    let here : at ≡ rank = omega arith in
    let rest : ticks_of_ranks new (suc rank) count ≡ ticks_of_ranks old (suc rank) count = ranks-same old new (suc rank) count (λ r a b. same r (omega arith) (omega arith) (λ e. omega arith)) in
    let first : new rank ≡ old rank ++ key ∷ [] = subst (λ r. new r ≡ old r ++ key ∷ []) here pushed in
    subst (λ q. ticks_of_ranks new rank (suc count) ≡ put_in (tick_of_rank q key) (ticks_of_ranks old rank (suc count))) (sym here)
    (ap (λ ks. map (tick_of_rank rank) ks ++ ticks_of_ranks new (suc rank) count) first
    ∙ ap (λ ts. map (tick_of_rank rank) (old rank ++ key ∷ []) ++ ts) rest
    ∙ map-push (tick_of_rank rank) (old rank) key (ticks_of_ranks old (suc rank) count)
    ∙ sym (put_in-behind rank rank key (old rank) (ticks_of_ranks old (suc rank) count) (omega arith) ∙ ap (λ ts. map (tick_of_rank rank) (old rank) ++ ts) (put_in-before old rank key (suc rank) count (omega arith)))))
    (cases_lt rank at)

-- two numbers are equal or not
same_or_not : (m n : ℕ) → (m ≡ n) ⊎ (m ≢ n)
same_or_not m n = ⊎_elim (λ (below : m < n). inr (λ e. omega arith)) (λ (above : n ≤ m). ⊎_elim (λ (over : n < m). inr (λ e. omega arith)) (λ (under : m ≤ n). inl (omega arith)) (cases_lt n m)) (cases_lt m n)

-- no tick of another rank is taken
first_at-past : {K : Type 0} (at rank : ℕ) (keys : List K) (more : List (Tick K)) → at ≢ rank → first_at (at / 4) (at % 4) (map (tick_of_rank rank) keys ++ more) ≡ first_at (at / 4) (at % 4) more
first_at-past at rank [] more other = refl
first_at-past at rank (k ∷ ks) more other =
    ap (λ b. cond b (Some k) (first_at (at / 4) (at % 4) (map (tick_of_rank rank) ks ++ more))) (at-false at rank k other) ∙ first_at-past at rank ks more other

without-past : {K : Type 0} (at rank : ℕ) (keys : List K) (more : List (Tick K)) → at ≢ rank → without_first_at (at / 4) (at % 4) (map (tick_of_rank rank) keys ++ more) ≡ map (tick_of_rank rank) keys ++ without_first_at (at / 4) (at % 4) more
without-past at rank [] more other = refl
without-past at rank (k ∷ ks) more other =
    ap (λ b. cond b (map (tick_of_rank rank) ks ++ more) (tick_of_rank rank k ∷ without_first_at (at / 4) (at % 4) (map (tick_of_rank rank) ks ++ more))) (at-false at rank k other)
    ∙ ap (λ ts. tick_of_rank rank k ∷ ts) (without-past at rank ks more other)

-- where a slot is empty, no tick of its rank is taken
pub ranks-none : {K : Type 0} (keys : ℕ → List K) (at rank count : ℕ) → keys at ≡ [] → first_at (at / 4) (at % 4) (ticks_of_ranks keys rank count) ≡ None
ranks-none keys at rank zero empty = refl
ranks-none {K} keys at rank (suc count) empty =
    let rest : first_at (at / 4) (at % 4) (ticks_of_ranks keys (suc rank) count) ≡ None = ranks-none keys at (suc rank) count empty in
    ⊎_elim
    (λ (here : at ≡ rank).
    let nothing : keys rank ≡ [] = subst (λ r. keys r ≡ []) here empty in
    ap (λ ks. first_at (at / 4) (at % 4) (map (tick_of_rank rank) ks ++ ticks_of_ranks keys (suc rank) count)) nothing ∙ rest)
    (λ (other : at ≢ rank). first_at-past at rank (keys rank) (ticks_of_ranks keys (suc rank) count) other ∙ rest)
    (same_or_not at rank)

-- the first key of a slot is that of the first tick of its rank
pub ranks-take : {K : Type 0} (old new : ℕ → List K) (at : ℕ) (key : K) (rank count : ℕ) → rank ≤ at → at < rank + count → old at ≡ key ∷ new at → ((r : ℕ) → rank ≤ r → r < rank + count → r ≢ at → new r ≡ old r) → (first_at (at / 4) (at % 4) (ticks_of_ranks old rank count) ≡ Some key) × (ticks_of_ranks new rank count ≡ without_first_at (at / 4) (at % 4) (ticks_of_ranks old rank count))
ranks-take old new at key rank zero from to took same = absurd (omega arith)
ranks-take {K} old new at key rank (suc count) from to took same =
    ⊎_elim
    (λ (here : at ≡ rank).
    let rest : ticks_of_ranks new (suc rank) count ≡ ticks_of_ranks old (suc rank) count = ranks-same old new (suc rank) count (λ r a b. same r (omega arith) (omega arith) (λ e. omega arith)) in
    let first : old rank ≡ key ∷ new rank = subst (λ r. old r ≡ key ∷ new r) here took in
    subst (λ q. (first_at (q / 4) (q % 4) (ticks_of_ranks old rank (suc count)) ≡ Some key) × (ticks_of_ranks new rank (suc count) ≡ without_first_at (q / 4) (q % 4) (ticks_of_ranks old rank (suc count)))) (sym here) (
      ap (λ ks. first_at (rank / 4) (rank % 4) (map (tick_of_rank rank) ks ++ ticks_of_ranks old (suc rank) count)) first
          ∙ ap (λ b. cond b (Some key) (first_at (rank / 4) (rank % 4) (map (tick_of_rank rank) (new rank) ++ ticks_of_ranks old (suc rank) count))) (at-true rank key),
      ap (λ ts. map (tick_of_rank rank) (new rank) ++ ts) rest
          ∙ sym (ap (λ ks. without_first_at (rank / 4) (rank % 4) (map (tick_of_rank rank) ks ++ ticks_of_ranks old (suc rank) count)) first
          ∙ ap (λ b. cond b (map (tick_of_rank rank) (new rank) ++ ticks_of_ranks old (suc rank) count) (tick_of_rank rank key ∷ without_first_at (rank / 4) (rank % 4) (map (tick_of_rank rank) (new rank) ++ ticks_of_ranks old (suc rank) count))) (at-true rank key)),
    ))
    (λ (other : at ≢ rank).
    let rest : (first_at (at / 4) (at % 4) (ticks_of_ranks old (suc rank) count) ≡ Some key) × (ticks_of_ranks new (suc rank) count ≡ without_first_at (at / 4) (at % 4) (ticks_of_ranks old (suc rank) count)) = ranks-take old new at key (suc rank) count (omega arith) (omega arith) took (λ r a b n. same r (omega arith) (omega arith) n) in
    let first : new rank ≡ old rank = same rank (omega arith) (omega arith) (λ e. other (sym e)) in (
      first_at-past at rank (old rank) (ticks_of_ranks old (suc rank) count) other ∙ rest.0,
      ap (λ ks. map (tick_of_rank rank) ks ++ ticks_of_ranks new (suc rank) count) first
          ∙ ap (λ ts. map (tick_of_rank rank) (old rank) ++ ts) rest.1
          ∙ sym (without-past at rank (old rank) (ticks_of_ranks old (suc rank) count) other),
    ))
    (same_or_not at rank)

-- where no tick is due at a time, the slots of its ranks are empty
none_due-past : {K : Type 0} (time rank : ℕ) (keys : List K) (more : List (Tick K)) → NoneDueAt time (map (tick_of_rank rank) keys ++ more) → NoneDueAt time more
none_due-past time rank [] more none = none
none_due-past time rank (k ∷ ks) more none = none_due-past time rank ks more none.1

none_due-here : {K : Type 0} (time rank : ℕ) (keys : List K) (more : List (Tick K)) → rank / 4 ≡ time → NoneDueAt time (map (tick_of_rank rank) keys ++ more) → keys ≡ []
none_due-here time rank [] more at none = refl
none_due-here time rank (k ∷ ks) more at none = absurd (none.0 at)

pub ranks-none_due : {K : Type 0} (keys : ℕ → List K) (time at rank count : ℕ) → at / 4 ≡ time → rank ≤ at → at < rank + count → NoneDueAt time (ticks_of_ranks keys rank count) → keys at ≡ []
ranks-none_due keys time at rank zero due from to none = absurd (omega arith)
ranks-none_due keys time at rank (suc count) due from to none =
    ⊎_elim
    (λ (here : at ≡ rank). subst (λ r. keys r ≡ []) (sym here) (none_due-here time rank (keys rank) (ticks_of_ranks keys (suc rank) count) (subst (λ r. r / 4 ≡ time) here due) none))
    (λ (other : at ≢ rank). ranks-none_due keys time at (suc rank) count due (omega arith) (omega arith) (none_due-past time rank (keys rank) (ticks_of_ranks keys (suc rank) count) none))
    (same_or_not at rank)

-- empty slots have no ticks
pub ranks-empty : {K : Type 0} (keys : ℕ → List K) (rank count : ℕ) → ((r : ℕ) → rank ≤ r → r < rank + count → keys r ≡ []) → ticks_of_ranks keys rank count ≡ []
ranks-empty keys rank zero empty = refl
ranks-empty keys rank (suc count) empty =
    ap (λ ks. map (tick_of_rank rank) ks ++ ticks_of_ranks keys (suc rank) count) (empty rank (omega arith) (omega arith)) ∙ ranks-empty keys (suc rank) count (λ r from to. empty r (omega arith) (omega arith))

-- the ticks of some ranks and of those after them
pub ranks-split : {K : Type 0} (keys : ℕ → List K) (rank next count more : ℕ) → next ≡ rank + count → ticks_of_ranks keys rank (count + more) ≡ ticks_of_ranks keys rank count ++ ticks_of_ranks keys next more
ranks-split keys rank next zero more e = let here : next ≡ rank = omega arith in let all : 0 + more ≡ more = omega arith in ap (ticks_of_ranks keys rank) all ∙ ap (λ r. ticks_of_ranks keys r more) (sym here)
ranks-split keys rank next (suc count) more e =
    let all : suc count + more ≡ suc (count + more) = omega arith in
    ap (ticks_of_ranks keys rank) all
    ∙ ap (λ ts. map (tick_of_rank rank) (keys rank) ++ ts) (ranks-split keys (suc rank) next count more (omega arith))
    ∙ sym (append_assoc (map (tick_of_rank rank) (keys rank)) (ticks_of_ranks keys (suc rank) count) (ticks_of_ranks keys next more))

-- a slot holds no more keys than there are ticks
map-length : {A B : Type 0} (f : A → B) (xs : List A) (more : List B) → length xs + length more ≡ length (map f xs ++ more)
map-length f [] more = omega arith
map-length f (x ∷ xs) more = omega (arith, map-length f xs more)

pub ranks-length : {K : Type 0} (keys : ℕ → List K) (at rank count : ℕ) → rank ≤ at → at < rank + count → length (keys at) ≤ length (ticks_of_ranks keys rank count)
ranks-length keys at rank zero from to = absurd (omega arith)
ranks-length keys at rank (suc count) from to =
    let sum : length (keys rank) + length (ticks_of_ranks keys (suc rank) count) ≡ length (map (tick_of_rank rank) (keys rank) ++ ticks_of_ranks keys (suc rank) count) = map-length (tick_of_rank rank) (keys rank) (ticks_of_ranks keys (suc rank) count) in
    ⊎_elim
    (λ (here : at ≡ rank). let e : length (keys at) ≡ length (keys rank) = ap (λ r. length (keys r)) here in omega arith)
    (λ (other : at ≢ rank). let ih : length (keys at) ≤ length (ticks_of_ranks keys (suc rank) count) = ranks-length keys at (suc rank) count (omega arith) (omega arith) in omega arith)
    (same_or_not at rank)
