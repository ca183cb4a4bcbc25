-- Keys of places are in the order of places.
use Rattle.std.proofs.Common.{◌≡◌, ℤ, pos, negsuc, Bool, true, false, List, [], ◌∷◌, map, refl, sym, ◌∙◌, ap, inl, inr, ◌⊎◌, arith}
use Rattle.std.specs.Prelude.{◌||◌, nat_lt, int_lt}
use Rattle.std.specs.declared.cmp.Ordering.{Ordering}
use Rattle.std.specs.declared.cmp.Ordering.TheVariants.{Less, Equal, Greater}
use Rattle.std.specs.Ordering.{int_cmp, ordering_then, is_eq}
use Rattle.std.specs.List.{list_any}
use Rattle.std.specs.List.Sorted.{IsStrictlySortedBy}
use Rattle.std.specs.BTreeMap.{is_at}
use Rattle.std.specs.BTreeSet.{insert_key}
use Rattle.std.proofs.lemmas.Bool.{cases_order, lt-ltb, le-ltb, eq-eqb, ne_eqb, and_right, and_from}
use Rattle.circuit.specs.declared.Pos.{Pos}
use Rattle.build.specs.Place.{same_int, same_place, is_before}
use Rattle.build.specs.Marks.{is_marked, with_mark, is_rising}
use Rattle.build.specs.MarkKeys.{place_of_key}

-- how keys are compared
abbrev pub key_cmp : ℤ × ℤ × ℤ → ℤ × ℤ × ℤ → Ordering
key_cmp k x = ordering_then (ordering_then (int_cmp k.0 x.0) (int_cmp k.1 x.1)) (int_cmp k.2 x.2)

-- what the tests say of two numbers that compare so
record IsCompared (a b : ℤ) (order : Ordering) (before after same : Bool) : Type 0 where
  pub order_is : int_cmp a b ≡ order
  pub before_is : int_lt a b ≡ before
  pub after_is : int_lt b a ≡ after
  pub same_is : same_int a b ≡ same
  pub same_back : same_int b a ≡ same

abbrev AreCompared : ℤ → ℤ → Type 0
AreCompared a b = IsCompared a b Less true false false ⊎ (IsCompared a b Equal false false true ⊎ IsCompared a b Greater false true false)

compared : (a b : ℤ) → AreCompared a b
compared (pos a) (pos b) = elim (cases_order a b) [
  | inl e ↦ inr (inl (let before : nat_lt a b ≡ false = le-ltb a b (omega arith) in let after : nat_lt b a ≡ false = le-ltb b a (omega arith) in
      record { order_is = rw (before, after) refl; before_is = before; after_is = after; same_is = eq-eqb a b e; same_back = eq-eqb b a (sym e) }))
  | inr o ↦ elim o [
    | inl l ↦ inl (let before : nat_lt a b ≡ true = lt-ltb a b l in
        record { order_is = rw before refl; before_is = before; after_is = le-ltb b a (omega arith); same_is = ne_eqb a b (λ e. omega arith); same_back = ne_eqb b a (λ e. omega arith) })
    | inr g ↦ inr (inr (let before : nat_lt a b ≡ false = le-ltb a b (omega arith) in let after : nat_lt b a ≡ true = lt-ltb b a g in
        record { order_is = rw (before, after) refl; before_is = before; after_is = after; same_is = ne_eqb a b (λ e. omega arith); same_back = ne_eqb b a (λ e. omega arith) }))
  ]
]
compared (pos a) (negsuc b) = inr (inr (record { order_is = refl; before_is = refl; after_is = refl; same_is = refl; same_back = refl }))
compared (negsuc a) (pos b) = inl (record { order_is = refl; before_is = refl; after_is = refl; same_is = refl; same_back = refl })
compared (negsuc a) (negsuc b) = elim (cases_order b a) [
  | inl e ↦ inr (inl (let before : nat_lt b a ≡ false = le-ltb b a (omega arith) in let after : nat_lt a b ≡ false = le-ltb a b (omega arith) in
      record { order_is = rw (before, after) refl; before_is = before; after_is = after; same_is = eq-eqb a b (sym e); same_back = eq-eqb b a e }))
  | inr o ↦ elim o [
    | inl l ↦ inl (let before : nat_lt b a ≡ true = lt-ltb b a l in
        record { order_is = rw before refl; before_is = before; after_is = le-ltb a b (omega arith); same_is = ne_eqb a b (λ e. omega arith); same_back = ne_eqb b a (λ e. omega arith) })
    | inr g ↦ inr (inr (let before : nat_lt b a ≡ false = le-ltb b a (omega arith) in let after : nat_lt a b ≡ true = lt-ltb a b g in
        record { order_is = rw (before, after) refl; before_is = before; after_is = after; same_is = ne_eqb a b (λ e. omega arith); same_back = ne_eqb b a (λ e. omega arith) }))
  ]
]

-- what the tests say of the places of two keys that compare so
record IsKeyCompared (k x : ℤ × ℤ × ℤ) (order : Ordering) (before after same : Bool) : Type 0 where
  pub order_is : key_cmp k x ≡ order
  pub before_is : is_before (place_of_key k) (place_of_key x) ≡ before
  pub after_is : is_before (place_of_key x) (place_of_key k) ≡ after
  pub same_is : same_place (place_of_key k) (place_of_key x) ≡ same

abbrev AreKeysCompared : ℤ × ℤ × ℤ → ℤ × ℤ × ℤ → Type 0
AreKeysCompared k x = IsKeyCompared k x Less true false false ⊎ (IsKeyCompared k x Equal false false true ⊎ IsKeyCompared k x Greater false true false)

keys_compared : (k x : ℤ × ℤ × ℤ) → AreKeysCompared k x
keys_compared k x = elim (compared k.0 x.0) [
  | inl l ↦ inl (record {
    order_is = rw l.order_is refl;
    before_is = rw l.before_is refl;
    after_is = rw (l.after_is, l.same_back) refl;
    same_is = rw l.same_is (and_right (same_int k.2 x.2) false refl);
  })
  | inr o ↦ elim o [
    | inl s ↦ elim (compared k.1 x.1) [
      | inl l ↦ inl (record {
        order_is = rw (s.order_is, l.order_is) refl;
        before_is = rw (s.before_is, s.same_is, l.before_is) refl;
        after_is = rw (s.after_is, s.same_back, l.after_is, l.same_back) refl;
        same_is = rw (s.same_is, l.same_is) (and_right (same_int k.2 x.2) false refl);
      })
      | inr p ↦ elim p [
        | inl t ↦ elim (compared k.2 x.2) [
          | inl l ↦ inl (record {
            order_is = rw (s.order_is, t.order_is, l.order_is) refl;
            before_is = rw (s.before_is, s.same_is, t.before_is, t.same_is, l.before_is) refl;
            after_is = rw (s.after_is, s.same_back, t.after_is, t.same_back, l.after_is) refl;
            same_is = rw l.same_is refl;
          })
          | inr q ↦ elim q [
            | inl u ↦ inr (inl (record {
              order_is = rw (s.order_is, t.order_is, u.order_is) refl;
              before_is = rw (s.before_is, s.same_is, t.before_is, t.same_is, u.before_is) refl;
              after_is = rw (s.after_is, s.same_back, t.after_is, t.same_back, u.after_is) refl;
              same_is = rw (u.same_is, s.same_is, t.same_is) refl;
            }))
            | inr h ↦ inr (inr (record {
              order_is = rw (s.order_is, t.order_is, h.order_is) refl;
              before_is = rw (s.before_is, s.same_is, t.before_is, t.same_is, h.before_is) refl;
              after_is = rw (s.after_is, s.same_back, t.after_is, t.same_back, h.after_is) refl;
              same_is = rw h.same_is refl;
            }))
          ]
        ]
        | inr h ↦ inr (inr (record {
          order_is = rw (s.order_is, h.order_is) refl;
          before_is = rw (s.before_is, s.same_is, h.before_is, h.same_is) refl;
          after_is = rw (s.after_is, s.same_back, h.after_is) refl;
          same_is = rw (s.same_is, h.same_is) (and_right (same_int k.2 x.2) false refl);
        }))
      ]
    ]
    | inr h ↦ inr (inr (record {
      order_is = rw h.order_is refl;
      before_is = rw (h.before_is, h.same_is) refl;
      after_is = rw h.after_is refl;
      same_is = rw h.same_is (and_right (same_int k.2 x.2) false refl);
    }))
  ]
]

-- a key that is put in is a place that is marked
pub places-insert_key : (keys : List (ℤ × ℤ × ℤ)) (k : ℤ × ℤ × ℤ) → map place_of_key (insert_key key_cmp keys k) ≡ with_mark (place_of_key k) (map place_of_key keys)
places-insert_key [] k = refl
places-insert_key (x ∷ keys) k = elim (keys_compared k x) [
  | inl l ↦ rw (l.order_is, l.after_is, l.same_is) refl
  | inr o ↦ elim o [
    | inl s ↦ rw (s.order_is, s.after_is, s.same_is) refl
    | inr h ↦ rw (h.order_is, h.after_is) (ap (λ (marks : List Pos). place_of_key x ∷ marks) (places-insert_key keys k))
  ]
]

before : (k x : ℤ × ℤ × ℤ) → key_cmp k x ≡ Less → is_before (place_of_key k) (place_of_key x) ≡ true
before k x e = elim (keys_compared k x) [
  | inl l ↦ l.before_is
  | inr o ↦ elim o [
    | inl s ↦ let f : Less ≡ Equal = sym e ∙ s.order_is in absurd (cc)
    | inr h ↦ let f : Less ≡ Greater = sym e ∙ h.order_is in absurd (cc)
  ]
]

-- keys in order are places in order
pub rising-from_keys : (keys : List (ℤ × ℤ × ℤ)) → IsStrictlySortedBy key_cmp keys → is_rising (map place_of_key keys) ≡ true
unfolding IsStrictlySortedBy
rising-from_keys [] h = refl
rising-from_keys (k ∷ []) h = refl
rising-from_keys (k ∷ (x ∷ keys)) h =
    and_from (is_before (place_of_key k) (place_of_key x)) (is_rising (map place_of_key (x ∷ keys))) (before k x h.0.0) (rising-from_keys (x ∷ keys) h.1)

same : (k x : ℤ × ℤ × ℤ) → is_eq (key_cmp k x) ≡ same_place (place_of_key k) (place_of_key x)
same k x = elim (keys_compared k x) [
  | inl l ↦ rw (l.order_is, l.same_is) refl
  | inr o ↦ elim o [
    | inl s ↦ rw (s.order_is, s.same_is) refl
    | inr h ↦ rw (h.order_is, h.same_is) refl
  ]
]

-- a key is there where its place is marked
pub marked-from_keys : (keys : List (ℤ × ℤ × ℤ)) (k : ℤ × ℤ × ℤ) → list_any (is_at (key_cmp k)) keys ≡ is_marked (map place_of_key keys) (place_of_key k)
marked-from_keys [] k = refl
marked-from_keys (x ∷ keys) k =
    ap (λ (here : Bool). here || list_any (is_at (key_cmp k)) keys) (same k x)
    ∙ ap (λ (later : Bool). same_place (place_of_key k) (place_of_key x) || later) (marked-from_keys keys k)
