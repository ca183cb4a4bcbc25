-- What becomes of the counts of all nodes when a table is changed or added.
use Rattle.std.proofs.Common.{cond, ne_eqb, ◌≡◌, ◌≢◌, ℕ, zero, suc, ◌+◌, ◌<◌, ◌≤◌, ◌-◌, Bool, true, false, List, [], ◌∷◌, ◌++◌, length, length-append, get_or, set, map, refl, sym, ap, ◌∙◌, subst, arith, inl, inr}
use Rattle.std.specs.Prelude.{◌==◌, ◌&&◌, ◌⊎◌}
use Rattle.std.proofs.lemmas.Bool.{cases_Bool, cases_eq, cases_lt, eqb-true, eq-eqb, lt-ltb, le-ltb, false≢true}
use Rattle.std.proofs.lemmas.List.{get_or-set_same, get_or-set_other, get_or_past, get_or-map, length-map, map-append, ext_get_or}
use Rattle.std.proofs.lemmas.List.FromFn.{get_or-map-range_with_len, length-map-range_with_len}
use Rattle.graph.specs.declared.Group.{Group}
use Rattle.graph.specs.declared.Group.TheVariants.{Back, Side}
use Rattle.graph.specs.Links.{is_group}
use Rattle.link_counts.specs.declared.counts.Counts.{Counts}
use Rattle.link_counts.specs.declared.tables.Place.{Place}
use Rattle.link_counts.specs.Counted.{one_if, count_at, no_counts, tally}
use Rattle.link_counts.specs.Tabled.{no_place, number_in, number_of, with_number, lone_counts, table_at, counts_by, counts_in, IsTabled, IsShifted, IsLone, IsAllotted}

pub same_default : {A : Type 0} (xs : List A) (n : ℕ) (a b : A) → n < length xs → get_or xs n a ≡ get_or xs n b
same_default [] n a b h = absurd (omega arith)
same_default (x ∷ xs) zero a b h = refl
same_default (x ∷ xs) (suc n) a b h = same_default xs n a b (omega arith)

length-set : {A : Type 0} (xs : List A) (i : ℕ) (x : A) → length (set xs i x) ≡ length xs
length-set [] i x = refl
length-set (y ∷ xs) zero x = refl
length-set (y ∷ xs) (suc i) x = ap suc (length-set xs i x)

same_group : (a b : Group) → is_group a b ≡ true → a ≡ b
same_group Back Back h = refl
same_group Side Side h = refl
same_group Back Side h = absurd (false≢true h)
same_group Side Back h = absurd (false≢true h)

group_itself : (a : Group) → is_group a a ≡ true
group_itself Back = refl
group_itself Side = refl

-- ---- what a number tells

-- the counts of at most one link
lone_at : (number strength : ℕ) → strength < 16 → get_or (lone_counts number) strength 0 ≡ one_if ((strength + 1) == number)
unfolding lone_counts
lone_at number strength small = get_or-map-range_with_len (λ s. one_if ((s + 1) == number)) 0 16 strength strength 0 small (omega arith)

lone_long : (number : ℕ) → length (lone_counts number) ≡ 16
unfolding lone_counts
lone_long number = length-map-range_with_len (λ s. one_if ((s + 1) == number)) 0 16

lone_counted : (number strength : ℕ) → number < 17 → get_or (lone_counts number) strength 0 ≡ one_if ((strength + 1) == number)
lone_counted number strength small = elim (cases_lt strength 16) [
  | inl below ↦ lone_at number strength below
  | inr past ↦ get_or_past (lone_counts number) strength 0 (omega (arith, past, lone_long number)) ∙ sym (ap one_if (ne_eqb (strength + 1) number (λ e. omega (arith, e, past, small))))
]

pub is_lone : (table : List ℕ) (number : ℕ) → length table ≡ 16 → IsLone table 16 number → lone_counts number ≡ table
is_lone table number wide lone =
    ext_get_or 0 (lone_counts number) table (lone_long number ∙ sym wide) (λ i below. let small : i < 16 = omega (arith, below, lone_long number) in lone_at number i small ∙ sym (lone.counts i small))

small_number : (tables : List (List ℕ)) (number : ℕ) → number < 17 → counts_by tables number ≡ lone_counts number
small_number tables number small = rw (lt-ltb number 17 small) refl

large_number : (tables : List (List ℕ)) (number : ℕ) → 17 ≤ number → counts_by tables number ≡ table_at tables (number - 17)
large_number tables number large = rw (le-ltb number 17 large) refl

-- a number below 17 tells the same of any tables, and one of a table that stays too
same_counts : (old new : List (List ℕ)) (number : ℕ) → (17 ≤ number → table_at new (number - 17) ≡ table_at old (number - 17)) → counts_by new number ≡ counts_by old number
same_counts old new number stays = elim (cases_lt number 17) [
  | inl small ↦ small_number new number small ∙ sym (small_number old number small)
  | inr large ↦ large_number new number large ∙ stays large ∙ sym (large_number old number large)
]

count_in : (tables : List (List ℕ)) (place : Place) (group : Group) (strength : ℕ) → count_at (counts_in tables place) group strength ≡ get_or (counts_by tables (number_in place group)) strength 0
count_in tables place Back strength = refl
count_in tables place Side strength = refl

count_none : (group : Group) (strength : ℕ) → count_at no_counts group strength ≡ 0
count_none Back strength = refl
count_none Side strength = refl

number_none : (group : Group) → number_in no_place group ≡ 0
number_none Back = refl
number_none Side = refl

-- ---- the counts by the numbers

-- the number of a node, by its place
pub number_is : (places : List Place) (tables : List (List ℕ)) (counts : List Counts) (key : ℕ) (group : Group) (place : Place) (number : ℕ) → map (counts_in tables) places ≡ counts → key < length counts → place ≡ get_or places key place →
    number ≡ number_in place group → number ≡ number_of places key group
number_is places tables counts key group place number view inside here is =
    let below : key < length places = omega (arith, ap (λ (l : List Counts). length l) view, inside, length-map places (counts_in tables)) in
    is ∙ ap (λ (p : Place). number_in p group) (here ∙ same_default places key place no_place below)

pub tally_is : (places : List Place) (tables : List (List ℕ)) (key : ℕ) (group : Group) (strength : ℕ) → tally (map (counts_in tables) places) key group strength ≡ get_or (counts_by tables (number_of places key group)) strength 0
tally_is places tables key group strength = elim (cases_lt key (length places)) [
  | inl inside ↦ ap (λ (c : Counts). count_at c group strength) (get_or-map (counts_in tables) places key no_place no_counts inside) ∙ count_in tables (get_or places key no_place) group strength
  | inr past ↦
      (let beyond : length (map (counts_in tables) places) ≤ key = omega (arith, length-map places (counts_in tables), past) in
      let none : number_of places key group ≡ 0 = ap (λ (p : Place). number_in p group) (get_or_past places key no_place past) ∙ number_none group in
      let zero_is : get_or (counts_by tables 0) strength 0 ≡ 0 = ap (λ l. get_or l strength 0) (small_number tables 0 (omega arith)) ∙ lone_counted 0 strength (omega arith) ∙ ap one_if (ne_eqb (strength + 1) 0 (λ e. omega (arith, e))) in
      ap (λ (c : Counts). count_at c group strength) (get_or_past (map (counts_in tables) places) key no_counts beyond) ∙ count_none group strength
      ∙ sym (ap (λ n. get_or (counts_by tables n) strength 0) none ∙ zero_is))
]

-- ---- one link brings another strength

module _ (places : List Place) (tables : List (List ℕ)) (tabled : IsTabled places tables) (key : ℕ) (group : Group) (from to : ℕ) where
  abbrev number : ℕ
  number = number_of places key group

  -- that of a table is changed
  module _ (table : List ℕ) (large : 17 ≤ number_of places key group) (wide : length table ≡ 16) (shifted : IsShifted (counts_by tables (number_of places key group)) from to table) where
    abbrev after : List (List ℕ)
    after = set tables (number - 17) table

    inside : number - 17 < length tables
    inside = omega (arith, large, tabled.below key group)

    here : table_at after (number - 17) ≡ table
    here = get_or-set_same tables (number - 17) table [] inside

    there : (other : ℕ) → other ≢ number - 17 → table_at after other ≡ table_at tables other
    there other n = get_or-set_other tables (number - 17) other table [] n

    pub shifted_tabled : IsTabled places after
    shifted_tabled = record {
      wide = λ other below. elim (cases_eq other (number - 17)) [
        | inl e ↦ ap (λ n. length (table_at after n)) e ∙ ap (λ l. length l) here ∙ wide
        | inr n ↦ ap (λ l. length l) (there other n) ∙ tabled.wide other (omega (arith, below, length-set tables (number - 17) table))
      ];
      below = λ other second. omega (arith, tabled.below other second, length-set tables (number - 17) table);
      apart = tabled.apart;
    }

    pub shifted_tally : (other : ℕ) (second : Group) (at : ℕ) →
        get_or (counts_by after (number_of places other second)) at 0 + one_if ((key == other) && (is_group second group && (from == at))) ≡ get_or (counts_by tables (number_of places other second)) at 0 + one_if ((key == other) && (is_group second group && (to == at)))
    shifted_tally other second at = elim (cases_eq (number_of places other second) number) [
      | inl e ↦
          (let mine = tabled.apart key other group second (sym e) large in
          let group_is : is_group second group ≡ true = subst (λ g. is_group g group ≡ true) mine.1 (group_itself group) in
          let new : counts_by after (number_of places other second) ≡ table = ap (counts_by after) e ∙ large_number after number large ∙ here in
          let old : counts_by tables (number_of places other second) ≡ counts_by tables number = ap (counts_by tables) e in
          rw (eq-eqb key other mine.0, group_is) (omega (arith, ap (λ l. get_or l at 0) new, ap (λ l. get_or l at 0) old, shifted at)))
      | inr n ↦
          (let same : get_or (counts_by after (number_of places other second)) at 0 ≡ get_or (counts_by tables (number_of places other second)) at 0 =
          ap (λ l. get_or l at 0) (same_counts tables after (number_of places other second) (λ big. there (number_of places other second - 17) (λ e. n (omega (arith, e, big, large))))) in
          elim (cases_Bool (key == other)) [
            | inl k ↦ elim (cases_Bool (is_group second group)) [
              | inl g ↦ absurd (n (ap (λ j. number_of places j second) (sym (eqb-true key other k)) ∙ ap (number_of places key) (same_group second group g)))
              | inr g ↦ rw (k, g) (omega (arith, same))
            ]
            | inr k ↦ rw k (omega (arith, same))
          ])
    ]

  -- that of one link is another number
  module _ (below_key : key < length places) (small : number_of places key group < 17) (some : 0 < get_or (counts_by tables (number_of places key group)) from 0) (low : to < 16) where
    abbrev moved : List Place
    moved = set places key (with_number (get_or places key no_place) group (to + 1))

    was : number ≡ from + 1
    was = elim (cases_eq (from + 1) number) [
      | inl e ↦ sym e
      | inr n ↦ absurd (let none : get_or (counts_by tables number) from 0 ≡ 0 = ap (λ l. get_or l from 0) (small_number tables number small) ∙ lone_counted number from small ∙ ap one_if (ne_eqb (from + 1) number n) in omega (arith, some, none))
    ]

    number_same : (place : Place) (one : Group) (n : ℕ) → number_in (with_number place one n) one ≡ n
    number_same place Back n = refl
    number_same place Side n = refl

    number_other : (place : Place) (one two : Group) (n : ℕ) → is_group two one ≡ false → number_in (with_number place one n) two ≡ number_in place two
    number_other place Back Side n h = refl
    number_other place Side Back n h = refl
    number_other place Back Back n h = absurd (false≢true (sym h))
    number_other place Side Side n h = absurd (false≢true (sym h))

    number_here : (second : Group) → number_of moved key second ≡ number_in (with_number (get_or places key no_place) group (to + 1)) second
    number_here second = ap (λ (p : Place). number_in p second) (get_or-set_same places key (with_number (get_or places key no_place) group (to + 1)) no_place below_key)

    -- the number of the group is that of the new strength, and each other number stays
    renumbered : (other : ℕ) (second : Group) → ((key ≡ other) × (group ≡ second) × (number_of moved other second ≡ to + 1)) ⊎ ((((key == other) && is_group second group) ≡ false) × (number_of moved other second ≡ number_of places other second))
    renumbered other second = elim (cases_eq key other) [
      | inl k ↦ elim (cases_Bool (is_group second group)) [
        | inl g ↦ inl (k, sym (same_group second group g), ap (λ j. number_of moved j second) (sym k) ∙ number_here second ∙ ap (number_in (with_number (get_or places key no_place) group (to + 1))) (same_group second group g) ∙ number_same (get_or places key no_place) group (to + 1))
        | inr g ↦ inr (rw (eq-eqb key other k) g, ap (λ j. number_of moved j second) (sym k) ∙ number_here second ∙ number_other (get_or places key no_place) group second (to + 1) g ∙ ap (λ j. number_of places j second) k)
      ]
      | inr n ↦ inr (rw (ne_eqb key other n) refl, ap (λ (p : Place). number_in p second) (get_or-set_other places key other (with_number (get_or places key no_place) group (to + 1)) no_place (λ e. n (sym e))))
    ]

    large_stays : (other : ℕ) (second : Group) → 17 ≤ number_of moved other second → number_of moved other second ≡ number_of places other second
    large_stays other second large = elim (renumbered other second) [
      | inl e ↦ absurd (omega (arith, e.2, large, low))
      | inr e ↦ e.1
    ]

    pub moved_tabled : IsTabled moved tables
    moved_tabled = record {
      wide = tabled.wide;
      below = λ other second. elim (renumbered other second) [
        | inl e ↦ omega (arith, e.2, low)
        | inr e ↦ omega (arith, e.1, tabled.below other second)
      ];
      apart = λ one other first second e large.
          let left : number_of moved one first ≡ number_of places one first = large_stays one first large in
          let right : number_of moved other second ≡ number_of places other second = large_stays other second (omega (arith, e, large)) in
          tabled.apart one other first second (sym left ∙ e ∙ right) (omega (arith, left, large));
    }

    one_same : (a b : ℕ) → one_if ((a + 1) == (b + 1)) ≡ one_if (b == a)
    one_same a b = elim (cases_eq b a) [
      | inl e ↦ rw (eq-eqb b a e, eq-eqb (a + 1) (b + 1) (omega (arith, e))) refl
      | inr n ↦ rw (ne_eqb b a n, ne_eqb (a + 1) (b + 1) (λ e. n (omega (arith, e)))) refl
    ]

    aside : (a b c : Bool) → (a && b) ≡ false → (a && (b && c)) ≡ false
    aside true true c h = absurd (false≢true (sym h))
    aside true false c h = refl
    aside false b c h = refl

    pub moved_tally : (other : ℕ) (second : Group) (at : ℕ) →
        get_or (counts_by tables (number_of moved other second)) at 0 + one_if ((key == other) && (is_group second group && (from == at))) ≡ get_or (counts_by tables (number_of places other second)) at 0 + one_if ((key == other) && (is_group second group && (to == at)))
    moved_tally other second at = elim (renumbered other second) [
      | inl e ↦
          (let group_is : is_group second group ≡ true = subst (λ g. is_group g group ≡ true) e.1 (group_itself group) in
          let new : get_or (counts_by tables (number_of moved other second)) at 0 ≡ one_if (to == at) =
          ap (λ n. get_or (counts_by tables n) at 0) e.2 ∙ ap (λ l. get_or l at 0) (small_number tables (to + 1) (omega (arith, low))) ∙ lone_counted (to + 1) at (omega (arith, low)) ∙ one_same at to in
          let number_old : number_of places other second ≡ from + 1 = ap (λ j. number_of places j second) (sym e.0) ∙ ap (number_of places key) (sym e.1) ∙ was in
          let bound : from + 1 < 17 = omega (arith, was, small) in
          let old : get_or (counts_by tables (number_of places other second)) at 0 ≡ one_if (from == at) =
          ap (λ n. get_or (counts_by tables n) at 0) number_old ∙ ap (λ l. get_or l at 0) (small_number tables (from + 1) bound) ∙ lone_counted (from + 1) at bound ∙ one_same at from in
          rw (eq-eqb key other e.0, group_is) (omega (arith, new, old)))
      | inr e ↦
          (let same : get_or (counts_by tables (number_of moved other second)) at 0 ≡ get_or (counts_by tables (number_of places other second)) at 0 = ap (λ n. get_or (counts_by tables n) at 0) e.1 in
          let left : one_if ((key == other) && (is_group second group && (from == at))) ≡ 0 = ap one_if (aside (key == other) (is_group second group) (from == at) e.0) in
          let right : one_if ((key == other) && (is_group second group && (to == at))) ≡ 0 = ap one_if (aside (key == other) (is_group second group) (to == at) e.0) in
          omega (arith, same, left, right))
    ]

-- ---- one node more

-- What became of the tables when a number was given.
record Allotted (old : List (List ℕ)) (table : List ℕ) (number : ℕ) (new : List (List ℕ)) : Type 0 where
  pub here : counts_by new number ≡ table
  pub stays : (other : ℕ) → other < length old → table_at new other ≡ table_at old other
  pub longer : length old ≤ length new
  pub inside : number < length new + 17
  pub fresh : 17 ≤ number → (number ≡ length old + 17) × (length old < length new)
  pub wide : (other : ℕ) → other < length new → length (table_at new other) ≡ 16

at_end : {A : Type 0} (xs : List A) (x d : A) → get_or (xs ++ x ∷ []) (length xs) d ≡ x
at_end [] x d = refl
at_end (y ∷ xs) x d = at_end xs x d

at_other : {A : Type 0} (xs : List A) (x : A) (k : ℕ) (d : A) → k ≢ length xs → get_or (xs ++ x ∷ []) k d ≡ get_or xs k d
at_other [] x zero d n = absurd (n refl)
at_other [] x (suc k) d n = refl
at_other (y ∷ xs) x zero d n = refl
at_other (y ∷ xs) x (suc k) d n = at_other xs x k d (λ e. n (ap suc e))

allotted : (old : List (List ℕ)) (table : List ℕ) (number : ℕ) (new : List (List ℕ)) → ((other : ℕ) → other < length old → length (table_at old other) ≡ 16) → length table ≡ 16 → IsAllotted old table number new → Allotted old table number new
allotted old table number new wide sixteen (inl e) =
    let small : number < 17 = omega (arith, e.0.small) in
    record {
      here = small_number new number small ∙ is_lone table number sixteen e.0;
      stays = λ other below. ap (λ (l : List (List ℕ)). table_at l other) e.1;
      longer = omega (arith, ap (λ (l : List (List ℕ)). length l) e.1);
      inside = omega (arith, small);
      fresh = λ large. absurd (omega (arith, small, large));
      wide = λ other below. ap (λ (l : List (List ℕ)). length (table_at l other)) e.1 ∙ wide other (omega (arith, below, ap (λ (l : List (List ℕ)). length l) e.1));
    }
allotted old table number new wide sixteen (inr e) = record {
  here = large_number new number (omega (arith, e.0)) ∙ at_new (number - 17) (omega (arith, e.0));
  stays = at_old;
  longer = omega (arith, long);
  inside = omega (arith, e.0, long);
  fresh = λ large. (e.0, omega (arith, long));
  wide = λ other below. elim (cases_eq other (length old)) [
    | inl is ↦ ap (λ l. length l) (at_new other is) ∙ sixteen
    | inr n ↦ ap (λ l. length l) (at_old other (omega (arith, below, long, n))) ∙ wide other (omega (arith, below, long, n))
  ];
}
  where
    long : length new ≡ length old + 1
    long = omega (arith, ap (λ (l : List (List ℕ)). length l) e.1, length-append old (table ∷ []))

    at_old : (other : ℕ) → other < length old → table_at new other ≡ table_at old other
    at_old other below = ap (λ (l : List (List ℕ)). table_at l other) e.1 ∙ at_other old table other [] (λ is. omega arith)

    at_new : (other : ℕ) → other ≡ length old → table_at new other ≡ table
    at_new other is = ap (λ (l : List (List ℕ)). table_at l other) e.1 ∙ ap (λ n. get_or (old ++ table ∷ []) n []) is ∙ at_end old table []

-- the counts of one node more
pub tally-push : (counts : List Counts) (c : Counts) (key : ℕ) (group : Group) (strength : ℕ) → tally (counts ++ c ∷ []) key group strength ≡ cond (length counts == key) (count_at c group strength) (tally counts key group strength)
tally-push counts c key group strength = elim (cases_eq (length counts) key) [
  | inl e ↦ rw (eq-eqb (length counts) key e) (ap (λ k. tally (counts ++ c ∷ []) k group strength) (sym e) ∙ ap (λ (x : Counts). count_at x group strength) (at_end counts c no_counts))
  | inr n ↦ rw (ne_eqb (length counts) key n) (ap (λ (x : Counts). count_at x group strength) (at_other counts c key no_counts (λ e. n (sym e))))
]

-- the nodes before are as they were
allotted_tabled : (places : List Place) (old : List (List ℕ)) (table : List ℕ) (number : ℕ) (new : List (List ℕ)) → IsTabled places old → Allotted old table number new → IsTabled places new
allotted_tabled places old table number new tabled a = record {
  wide = a.wide;
  below = λ key group. omega (arith, tabled.below key group, a.longer);
  apart = tabled.apart;
}

pub tabled_more : (places : List Place) (old : List (List ℕ)) (table : List ℕ) (number : ℕ) (new : List (List ℕ)) → IsTabled places old → length table ≡ 16 → IsAllotted old table number new → IsTabled places new
tabled_more places old table number new tabled wide allot = allotted_tabled places old table number new tabled (allotted old table number new tabled.wide wide allot)

module _ (places : List Place) (tables mid after : List (List ℕ)) (counts : Counts) (back side : ℕ) (tabled : IsTabled places tables) (back_wide : length counts.back ≡ 16) (side_wide : length counts.side ≡ 16)
    (first : IsAllotted tables counts.back back mid) (second : IsAllotted mid counts.side side after) where
  a : Allotted tables counts.back back mid
  a = allotted tables counts.back back mid tabled.wide back_wide first

  b : Allotted mid counts.side side after
  b = allotted mid counts.side side after a.wide side_wide second

  abbrev place : Place
  place = record { back = back; side = side }

  abbrev more : List Place
  more = places ++ place ∷ []

  stays : (other : ℕ) → other < length tables → table_at after other ≡ table_at tables other
  stays other below = b.stays other (omega (arith, below, a.longer)) ∙ a.stays other below

  -- the number of a group of the node is that of a new table, if it is that of a table
  new_number : (group : Group) → 17 ≤ number_in place group → length tables + 17 ≤ number_in place group
  new_number Back n = omega (arith, (a.fresh n).0)
  new_number Side n = omega (arith, (b.fresh n).0, a.longer)

  within : (group : Group) → number_in place group < length after + 17
  within Back = omega (arith, a.inside, b.longer)
  within Side = b.inside

  back_first : 17 ≤ back → back ≡ side → ⊥
  back_first large e = omega (arith, e, large, (a.fresh large).0, (a.fresh large).1, (b.fresh (subst (λ n. 17 ≤ n) e large)).0)

  two_groups : (group other : Group) → number_in place group ≡ number_in place other → 17 ≤ number_in place group → group ≡ other
  two_groups Back Back e n = refl
  two_groups Side Side e n = refl
  two_groups Back Side e n = absurd (back_first n e)
  two_groups Side Back e n = absurd (back_first (subst (λ m. 17 ≤ m) e n) (sym e))

  more_here : (key : ℕ) (group : Group) → key ≡ length places → number_of more key group ≡ number_in place group
  more_here key group e = ap (λ k. number_of more k group) e ∙ ap (λ (p : Place). number_in p group) (at_end places place no_place)

  more_there : (key : ℕ) (group : Group) → key ≢ length places → number_of more key group ≡ number_of places key group
  more_there key group n = ap (λ (p : Place). number_in p group) (at_other places place key no_place n)

  pub pushed_tabled : IsTabled more after
  pushed_tabled = record {
    wide = b.wide;
    below = λ key group. elim (cases_eq key (length places)) [
      | inl e ↦ omega (arith, more_here key group e, within group)
      | inr n ↦ omega (arith, more_there key group n, tabled.below key group, a.longer, b.longer)
    ];
    apart = λ key other group two e own. elim (cases_eq key (length places)) [
      | inl k ↦
          (let mine : 17 ≤ number_in place group = omega (arith, own, more_here key group k) in
          elim (cases_eq other (length places)) [
            | inl o ↦ (k ∙ sym o, two_groups group two (sym (more_here key group k) ∙ e ∙ more_here other two o) mine)
            | inr o ↦ absurd (omega (arith, new_number group mine, sym (more_here key group k) ∙ e ∙ more_there other two o, tabled.below other two))
          ])
      | inr k ↦ elim (cases_eq other (length places)) [
        | inl o ↦
            (let same : number_of places key group ≡ number_in place two = sym (more_there key group k) ∙ e ∙ more_here other two o in
            let its : 17 ≤ number_in place two = omega (arith, own, more_there key group k, same) in
            absurd (omega (arith, new_number two its, same, tabled.below key group)))
        | inr o ↦ tabled.apart key other group two (sym (more_there key group k) ∙ e ∙ more_there other two o) (omega (arith, own, more_there key group k))
      ]
    ];
  }

  stay_counts : (number : ℕ) → number < length tables + 17 → counts_by after number ≡ counts_by tables number
  stay_counts number below = same_counts tables after number (λ large. stays (number - 17) (omega (arith, below, large)))

  old_counts : map (counts_in after) places ≡ map (counts_in tables) places
  old_counts = ext_get_or no_counts (map (counts_in after) places) (map (counts_in tables) places) (length-map places (counts_in after) ∙ sym (length-map places (counts_in tables)))
      (λ i below.
      let inside : i < length places = omega (arith, below, length-map places (counts_in after)) in
      get_or-map (counts_in after) places i no_place no_counts inside ∙ same (get_or places i no_place) (tabled.below i Back) (tabled.below i Side) ∙ sym (get_or-map (counts_in tables) places i no_place no_counts inside))
    where
      same : (p : Place) → p.back < length tables + 17 → p.side < length tables + 17 → counts_in after p ≡ counts_in tables p
      same p one two = λ i. record { back = stay_counts p.back one i; side = stay_counts p.side two i }

  pub pushed_counts : map (counts_in after) more ≡ map (counts_in tables) places ++ counts ∷ []
  pushed_counts =
      let back_stays : counts_by after back ≡ counts_by mid back = same_counts mid after back (λ large. b.stays (back - 17) (omega (arith, large, (a.fresh large).0, (a.fresh large).1))) in
      let here : counts_in after place ≡ counts = λ i. record { back = (back_stays ∙ a.here) i; side = b.here i } in
      map-append (counts_in after) places (place ∷ []) ∙ ap (λ l. l ++ counts_in after place ∷ []) old_counts ∙ ap (λ c. map (counts_in tables) places ++ c ∷ []) here

-- ---- the calls

module _ (places : List Place) (tables : List (List ℕ)) (counts : List Counts) (key : ℕ) (group : Group) (place : Place) (number : ℕ) (tabled : IsTabled places tables) (view : map (counts_in tables) places ≡ counts)
    (inside : key < length counts) (here : place ≡ get_or places key place) (is : number ≡ number_in place group) where
  at : number ≡ number_of places key group
  at = number_is places tables counts key group place number view inside here is

  below_key : key < length places
  below_key = omega (arith, ap (λ (l : List Counts). length l) view, inside, length-map places (counts_in tables))

  tally_by : (strength : ℕ) → tally counts key group strength ≡ get_or (counts_by tables number) strength 0
  tally_by strength = ap (λ l. tally l key group strength) (sym view) ∙ tally_is places tables key group strength ∙ ap (λ n. get_or (counts_by tables n) strength 0) (sym at)

  -- the number of at most one link
  pub tally_lone : number < 17 → (strength : ℕ) → tally counts key group strength ≡ one_if ((strength + 1) == number)
  tally_lone small strength = tally_by strength ∙ ap (λ l. get_or l strength 0) (small_number tables number small) ∙ lone_counted number strength small

  pub lone_some : number < 17 → (strength : ℕ) → 0 < number → strength + 1 ≡ number → 0 < tally counts key group strength
  lone_some small strength some e = omega (arith, tally_lone small strength, ap one_if (eq-eqb (strength + 1) number e))

  pub lone_none : number < 17 → (strength : ℕ) → number < strength + 1 → tally counts key group strength ≡ 0
  lone_none small strength above = tally_lone small strength ∙ ap one_if (ne_eqb (strength + 1) number (λ e. omega (arith, e, above)))

  -- the number of a table
  pub table_inside : 17 ≤ number → number - 17 < length tables
  table_inside large = omega (arith, large, at, tabled.below key group)

  module _ (large : 17 ≤ number) (table : List ℕ) (found : table ≡ get_or tables (number - 17) table) where
    table_is : table ≡ counts_by tables number
    table_is = found ∙ same_default tables (number - 17) table [] (table_inside large) ∙ sym (large_number tables number large)

    pub tally_here : (strength : ℕ) → tally counts key group strength ≡ get_or table strength 0
    tally_here strength = tally_by strength ∙ ap (λ l. get_or l strength 0) (sym table_is)

    module _ (from to : ℕ) (new : List ℕ) (wide : length new ≡ 16) (shifted : IsShifted table from to new) where
      large_here : 17 ≤ number_of places key group
      large_here = subst (λ n. 17 ≤ n) at large

      shifts : IsShifted (counts_by tables (number_of places key group)) from to new
      shifts = subst (λ n. IsShifted (counts_by tables n) from to new) at (subst (λ l. IsShifted l from to new) table_is shifted)

      pub tabled_after : IsTabled places (set tables (number - 17) new)
      tabled_after = subst (λ n. IsTabled places (set tables (n - 17) new)) (sym at) (shifted_tabled places tables tabled key group from to new large_here wide shifts)

      pub tally_after : (other : ℕ) (second : Group) (at : ℕ) →
          tally (map (counts_in (set tables (number - 17) new)) places) other second at + one_if ((key == other) && (is_group second group && (from == at))) ≡ tally counts other second at + one_if ((key == other) && (is_group second group && (to == at)))
      tally_after other second s =
          let after : tally (map (counts_in (set tables (number - 17) new)) places) other second s ≡ get_or (counts_by (set tables (number - 17) new) (number_of places other second)) s 0 = tally_is places (set tables (number - 17) new) other second s in
          let before : tally counts other second s ≡ get_or (counts_by tables (number_of places other second)) s 0 = ap (λ l. tally l other second s) (sym view) ∙ tally_is places tables other second s in
          let same : get_or (counts_by (set tables (number - 17) new) (number_of places other second)) s 0 ≡ get_or (counts_by (set tables (number_of places key group - 17) new) (number_of places other second)) s 0 =
          ap (λ n. get_or (counts_by (set tables (n - 17) new) (number_of places other second)) s 0) at in
          omega (arith, after, before, same, shifted_tally places tables tabled key group from to new large_here wide shifts other second s)

  -- one link that brings another strength
  module _ (small : number < 17) (from to : ℕ) (some : 0 < tally counts key group from) (low : to < 16) where
    small_here : number_of places key group < 17
    small_here = subst (λ n. n < 17) at small

    some_here : 0 < get_or (counts_by tables (number_of places key group)) from 0
    some_here = subst (λ n. 0 < get_or (counts_by tables n) from 0) at (omega (arith, some, tally_by from))

    abbrev next : List Place
    next = set places key (with_number (get_or places key no_place) group (to + 1))

    tabled_moved : IsTabled next tables
    tabled_moved = moved_tabled places tables tabled key group from to below_key small_here some_here low

    tally_moved : (other : ℕ) (second : Group) (at : ℕ) →
        tally (map (counts_in tables) next) other second at + one_if ((key == other) && (is_group second group && (from == at))) ≡ tally counts other second at + one_if ((key == other) && (is_group second group && (to == at)))
    tally_moved other second s =
        let after : tally (map (counts_in tables) next) other second s ≡ get_or (counts_by tables (number_of next other second)) s 0 = tally_is next tables other second s in
        let before : tally counts other second s ≡ get_or (counts_by tables (number_of places other second)) s 0 = ap (λ l. tally l other second s) (sym view) ∙ tally_is places tables other second s in
        omega (arith, after, before, moved_tally places tables tabled key group from to below_key small_here some_here low other second s)

    module _ (changed : Place) (new_place : changed ≡ with_number place group (to + 1)) where
      next_is : next ≡ set places key changed
      next_is = ap (set places key) (sym (new_place ∙ ap (λ (p : Place). with_number p group (to + 1)) (here ∙ same_default places key place no_place below_key)))

      pub tabled_next : IsTabled (set places key changed) tables
      tabled_next = subst (λ (l : List Place). IsTabled l tables) next_is tabled_moved

      pub tally_next : (other : ℕ) (second : Group) (at : ℕ) →
          tally (map (counts_in tables) (set places key changed)) other second at + one_if ((key == other) && (is_group second group && (from == at))) ≡ tally counts other second at + one_if ((key == other) && (is_group second group && (to == at)))
      tally_next other second s = omega (arith, ap (λ (l : List Place). tally (map (counts_in tables) l) other second s) next_is, tally_moved other second s)
