-- What a call of a ring does to its ticks.
use Rattle.std.proofs.Common.{◌≡◌, ◌≢◌, ℕ, zero, suc, ◌+◌, ◌-◌, ◌*◌, ◌/◌, ◌%◌, ◌<◌, ◌≤◌, Some, None, Option, List, [], ◌∷◌, ◌++◌, length, get_or, refl, ap, sym, ◌∙◌, subst, arith, get_or-set_same, get_or-set_other, append-nil, map}
use Rattle.std.specs.Option.{option_to_list}
use Rattle.std.proofs.lemmas.List.{set-get_or}
use Rattle.std.proofs.Math.ListN.{set}
use Rattle.tick_queue.specs.declared.Tick.{Tick}
use Rattle.tick_queue.specs.Ticks.{put_in, first_at, without_first_at, NoneDueAt}
use Rattle.tick_queue.specs.Ring.{keys_at, tick_of_rank, ticks_of_ranks, ring_ticks}
use Rattle.tick_queue.proofs.TickSteps.{without-None, length-put_in, length-without}
use Rattle.tick_queue.proofs.RingSteps.{ranks-put, ranks-none, ranks-take, ranks-none_due, ranks-empty, ranks-split, ranks-length}

-- a tick by its rank
tick_is : {K : Type 0} (due priority : ℕ) (key : K) → priority ≤ 3 → tick_of_rank (4 * due + priority) key ≡ record { due = due; priority = priority; key = key }
tick_is due priority key h =
    let d : (4 * due + priority) / 4 ≡ due = omega arith in
    let p : (4 * due + priority) % 4 ≡ priority = omega arith in
    let D : ℕ → Tick _ = λ n. record { due = n; priority = (4 * due + priority) % 4; key = key } in
    let P : ℕ → Tick _ = λ n. record { due = due; priority = n; key = key } in
    ap D d ∙ ap P p

any_default : {A : Type 0} (xs : List A) (i : ℕ) (d e : A) → i < length xs → get_or xs i d ≡ get_or xs i e
any_default [] i d e h = absurd (omega arith)
any_default (x ∷ xs) zero d e h = refl
any_default (x ∷ xs) (suc i) d e h = any_default xs i d e (omega arith)

keys-set : {K : Type 0} (slots : List (List K)) (rank i : ℕ) (keys : List K) → rank % 64 ≡ i → i < length slots → keys_at (set slots i keys) rank ≡ keys
keys-set slots rank i keys e h = ap (λ n. get_or (set slots i keys) n []) e ∙ get_or-set_same slots i keys [] h

keys-unset : {K : Type 0} (slots : List (List K)) (rank i : ℕ) (keys : List K) → rank % 64 ≢ i → keys_at (set slots i keys) rank ≡ keys_at slots rank
keys-unset slots rank i keys other = get_or-set_other slots i (rank % 64) keys [] other

-- a slot of the ring holds no more keys than the ring has ticks
pub ring-slot_length : {K : Type 0} (time : ℕ) (slots : List (List K)) (due priority i : ℕ) → i ≡ (4 * due + priority) % 64 → time ≤ due → due ≤ time + 15 → priority ≤ 3 → length (get_or slots i []) ≤ length (ring_ticks time slots)
unfolding ring_ticks
ring-slot_length time slots due priority i e from to small =
    let h : length (keys_at slots (4 * due + priority)) ≤ length (ticks_of_ranks (keys_at slots) (4 * time) 64) = ranks-length (keys_at slots) (4 * due + priority) (4 * time) 64 (omega arith) (omega arith) in
    subst (λ n. length (get_or slots n []) ≤ length (ticks_of_ranks (keys_at slots) (4 * time) 64)) (sym e) h

-- two ranks of the ring have different slots
other_slot : (time at r : ℕ) → 4 * time ≤ at → at < 4 * time + 64 → 4 * time ≤ r → r < 4 * time + 64 → r ≢ at → r % 64 ≢ at % 64
other_slot time at r a b c d other e = other (omega arith)

ring-put : {K : Type 0} (time : ℕ) (slots : List (List K)) (due priority : ℕ) (key : K) (i : ℕ) → length slots ≡ 64 → i ≡ (4 * due + priority) % 64 → time ≤ due → due ≤ time + 15 → priority ≤ 3 → ring_ticks time (set slots i (get_or slots i [] ++ key ∷ [])) ≡ put_in (record { due = due; priority = priority; key = key }) (ring_ticks time slots)
unfolding ring_ticks
ring-put {K} time slots due priority key i full e from to small =
    let at : ℕ = 4 * due + priority in
    let within : i < length slots = omega arith in
    let new : List (List K) = set slots i (get_or slots i [] ++ key ∷ []) in
    let pushed : keys_at new at ≡ keys_at slots at ++ key ∷ [] = keys-set slots at i (get_or slots i [] ++ key ∷ []) (sym e) within ∙ ap (λ n. get_or slots n [] ++ key ∷ []) e in
    let put : ticks_of_ranks (keys_at new) (4 * time) 64 ≡ put_in (tick_of_rank at key) (ticks_of_ranks (keys_at slots) (4 * time) 64) =
    ranks-put (keys_at slots) (keys_at new) at key (4 * time) 64 (omega arith) (omega arith) pushed (λ r a b n. keys-unset slots r i (get_or slots i [] ++ key ∷ []) (λ s. other_slot time at r (omega arith) (omega arith) a b n (s ∙ e))) in
    put ∙ ap (λ t. put_in t (ticks_of_ranks (keys_at slots) (4 * time) 64)) (tick_is due priority key small)

pub ring-none : {K : Type 0} (time : ℕ) (slots : List (List K)) (priority i : ℕ) → i ≡ (4 * time + priority) % 64 → priority ≤ 3 → get_or slots i [] ≡ [] → first_at time priority (ring_ticks time slots) ≡ None
unfolding ring_ticks
ring-none {K} time slots priority i e small empty =
    let d : (4 * time + priority) / 4 ≡ time = omega arith in
    let p : (4 * time + priority) % 4 ≡ priority = omega arith in
    let none : first_at ((4 * time + priority) / 4) ((4 * time + priority) % 4) (ticks_of_ranks (keys_at slots) (4 * time) 64) ≡ None = ranks-none (keys_at slots) (4 * time + priority) (4 * time) 64 (subst (λ n. get_or slots n [] ≡ []) e empty) in
    subst (λ n. first_at time n (ticks_of_ranks (keys_at slots) (4 * time) 64) ≡ None) p (subst (λ n. first_at n ((4 * time + priority) % 4) (ticks_of_ranks (keys_at slots) (4 * time) 64) ≡ None) d none)

pub ring-some : {K : Type 0} (time : ℕ) (slots : List (List K)) (priority i : ℕ) (key : K) (keys : List K) → length slots ≡ 64 → i ≡ (4 * time + priority) % 64 → priority ≤ 3 → get_or slots i [] ≡ key ∷ keys → (first_at time priority (ring_ticks time slots) ≡ Some key) × (ring_ticks time (set slots i keys) ≡ without_first_at time priority (ring_ticks time slots))
unfolding ring_ticks
ring-some {K} time slots priority i key keys full e small held =
    let at : ℕ = 4 * time + priority in
    let within : i < length slots = omega arith in
    let d : at / 4 ≡ time = omega arith in
    let p : at % 4 ≡ priority = omega arith in
    let new : List (List K) = set slots i keys in
    let took : keys_at slots at ≡ key ∷ keys_at new at = subst (λ n. get_or slots n [] ≡ key ∷ keys) e held ∙ ap (λ ks. key ∷ ks) (sym (keys-set slots at i keys (sym e) within)) in
    let taken : (first_at (at / 4) (at % 4) (ticks_of_ranks (keys_at slots) (4 * time) 64) ≡ Some key) × (ticks_of_ranks (keys_at new) (4 * time) 64 ≡ without_first_at (at / 4) (at % 4) (ticks_of_ranks (keys_at slots) (4 * time) 64)) =
    ranks-take (keys_at slots) (keys_at new) at key (4 * time) 64 (omega arith) (omega arith) took (λ r a b n. keys-unset slots r i keys (λ s. other_slot time at r (omega arith) (omega arith) a b n (s ∙ e))) in
    let Taken : ℕ → ℕ → Type 0 = λ due prio. (first_at due prio (ticks_of_ranks (keys_at slots) (4 * time) 64) ≡ Some key) × (ticks_of_ranks (keys_at new) (4 * time) 64 ≡ without_first_at due prio (ticks_of_ranks (keys_at slots) (4 * time) 64)) in
    subst (λ n. Taken time n) p (subst (λ n. Taken n (at % 4)) d taken)

-- what a take from a slot does, whether it holds a key or not
pub ring-take : {K : Type 0} (time : ℕ) (slots new : List (List K)) (priority i : ℕ) (taken : Option K) (keys : List K) → length slots ≡ 64 → i ≡ (4 * time + priority) % 64 → priority ≤ 3 → get_or slots i [] ≡ option_to_list taken ++ keys → (taken ≡ None → keys ≡ []) → new ≡ set slots i keys → (taken ≡ first_at time priority (ring_ticks time slots)) × (ring_ticks time new ≡ without_first_at time priority (ring_ticks time slots)) × (length (ring_ticks time new) + length (option_to_list taken) ≡ length (ring_ticks time slots))
ring-take {K} time slots new priority i None keys full e small held none is =
    let empty : keys ≡ [] = none refl in
    let nothing : get_or slots i [] ≡ [] = held ∙ empty in
    let same : new ≡ slots = is ∙ ap (λ ks. set slots i ks) (sym held) ∙ set-get_or slots i [] in
    let first : first_at time priority (ring_ticks time slots) ≡ None = ring-none time slots priority i e small nothing in
    let ticks : ring_ticks time new ≡ ring_ticks time slots = ap (ring_ticks time) same in
    let count : length (ring_ticks time new) ≡ length (ring_ticks time slots) = ap length ticks in
    (sym first, ticks ∙ sym (without-None time priority (ring_ticks time slots) first), omega arith)
ring-take {K} time slots new priority i (Some key) keys full e small held none is =
    let taken : (first_at time priority (ring_ticks time slots) ≡ Some key) × (ring_ticks time (set slots i keys) ≡ without_first_at time priority (ring_ticks time slots)) = ring-some time slots priority i key keys full e small held in
    let ticks : ring_ticks time new ≡ without_first_at time priority (ring_ticks time slots) = ap (ring_ticks time) is ∙ taken.1 in
    let count : length (ring_ticks time new) ≡ length (without_first_at time priority (ring_ticks time slots)) = ap length ticks in
    let less : suc (length (without_first_at time priority (ring_ticks time slots))) ≡ length (ring_ticks time slots) = length-without time priority (ring_ticks time slots) key taken.0 in
    (sym taken.0, ticks, omega arith)

-- the slots that are passed come round again 16 later
pub ring-advance : {K : Type 0} (time : ℕ) (slots : List (List K)) → NoneDueAt time (ring_ticks time slots) → ring_ticks (time + 1) slots ≡ ring_ticks time slots
unfolding ring_ticks
ring-advance {K} time slots none =
    let keys : ℕ → List K = keys_at slots in
    let next : ℕ = 4 * time + 4 in
    let passed : (r : ℕ) → 4 * time ≤ r → r < 4 * time + 4 → keys r ≡ [] = λ r a b. let due : r / 4 ≡ time = omega arith in ranks-none_due keys time r (4 * time) 64 due a (omega arith) none in
    let later : (r : ℕ) → 4 * time + 64 ≤ r → r < 4 * time + 64 + 4 → keys r ≡ [] = λ r a b. let back : r % 64 ≡ (r - 64) % 64 = omega arith in ap (λ n. get_or slots n []) back ∙ passed (r - 64) (omega arith) (omega arith) in
    let old : ticks_of_ranks keys (4 * time) 64 ≡ ticks_of_ranks keys next 60 = ranks-split keys (4 * time) next 4 60 (omega arith) ∙ ap (λ ts. ts ++ ticks_of_ranks keys next 60) (ranks-empty keys (4 * time) 4 passed) in
    let new : ticks_of_ranks keys next 64 ≡ ticks_of_ranks keys next 60 ++ [] = ranks-split keys next (4 * time + 64) 60 4 (omega arith) ∙ ap (λ ts. ticks_of_ranks keys next 60 ++ ts) (ranks-empty keys (4 * time + 64) 4 later) in
    let start : 4 * (time + 1) ≡ next = omega arith in
    ap (λ r. ticks_of_ranks keys r 64) start ∙ new ∙ append-nil (ticks_of_ranks keys next 60) ∙ sym old

-- one rank more is listed
pub ring-list : {K : Type 0} (time place : ℕ) (slots : List (List K)) (all more : List (Tick K)) → all ≡ ticks_of_ranks (keys_at slots) (4 * time) place → more ≡ all ++ map (λ key. record { due = time + place / 4; priority = place % 4; key = key }) (get_or slots ((4 * (time + place / 4) + place % 4) % 64) []) → more ≡ ticks_of_ranks (keys_at slots) (4 * time) (place + 1)
ring-list {K} time place slots all more before after =
    let rank : ℕ = 4 * time + place in
    let r : 4 * (time + place / 4) + place % 4 ≡ rank = omega arith in
    let d : time + place / 4 ≡ rank / 4 = omega arith in
    let p : place % 4 ≡ rank % 4 = omega arith in
    let Listed : ℕ → ℕ → ℕ → List (Tick K) = λ due priority at. map (λ key. record { due = due; priority = priority; key = key }) (get_or slots (at % 64) []) in
    let here : Listed (time + place / 4) (place % 4) (4 * (time + place / 4) + place % 4) ≡ Listed (rank / 4) (rank % 4) rank =
    ap (λ n. Listed n (place % 4) (4 * (time + place / 4) + place % 4)) d ∙ ap (λ n. Listed (rank / 4) n (4 * (time + place / 4) + place % 4)) p ∙ ap (λ n. Listed (rank / 4) (rank % 4) n) r in
    after ∙ ap (λ ts. ts ++ Listed (time + place / 4) (place % 4) (4 * (time + place / 4) + place % 4)) before ∙ ap (λ ts. ticks_of_ranks (keys_at slots) (4 * time) place ++ ts) (here ∙ sym (append-nil (Listed (rank / 4) (rank % 4) rank))) ∙ sym (ranks-split (keys_at slots) (4 * time) rank place 1 refl)

pub ring-listed : {K : Type 0} (time : ℕ) (slots : List (List K)) → ticks_of_ranks (keys_at slots) (4 * time) 64 ≡ ring_ticks time slots
unfolding ring_ticks
ring-listed time slots = refl

-- a ring whose slots are empty has no tick
pub ring-empty : {K : Type 0} (time : ℕ) (slots : List (List K)) → ((i : ℕ) → get_or slots i [] ≡ []) → ring_ticks time slots ≡ []
unfolding ring_ticks
ring-empty time slots empty = ranks-empty (keys_at slots) (4 * time) 64 (λ r _ _. empty (r % 64))

-- what an added tick does to a ring
pub ring-add : {K : Type 0} (time : ℕ) (slots new : List (List K)) (t : Tick K) (i : ℕ) → length slots ≡ 64 → i ≡ (4 * t.due + t.priority) % 64 → time < t.due → t.due ≤ time + 15 → t.priority ≤ 3 → new ≡ set slots i (get_or slots i [] ++ t.key ∷ []) → (ring_ticks time new ≡ put_in t (ring_ticks time slots)) × (length (ring_ticks time new) ≡ suc (length (ring_ticks time slots)))
ring-add time slots new t i full e later soon small is =
    let put : ring_ticks time new ≡ put_in t (ring_ticks time slots) = ap (ring_ticks time) is ∙ ring-put time slots t.due t.priority t.key i full e (omega arith) soon small in
    (put, ap length put ∙ length-put_in t (ring_ticks time slots))
