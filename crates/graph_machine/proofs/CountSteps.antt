-- Counts of strengths: what they say of a reading, and what becomes of them when one output changes.
use Rattle.std.proofs.Common.{◌≡◌, ◌≢◌, ℕ, zero, suc, ◌+◌, ◌-◌, ◌<◌, ◌≤◌, ◌^◌, max, Bool, true, false, cond, List, [], ◌∷◌, ◌++◌, length, length-take, get_or, take, refl, sym, ap, ◌∙◌, arith, inl, inr}
use Rattle.std.specs.Prelude.{◌==◌, ◌&&◌, count_by}
use Rattle.std.proofs.lemmas.Bool.{cases_Bool, cases_eq, cases_lt, and_parts, eqb-true, eq-eqb, ne_eqb}
use Rattle.std.proofs.lemmas.List.Sums.{sum_by-cons, sum_by_more, sum_by_more_le, count_by-le-length}
use Rattle.graph.specs.declared.Group.{Group}
use Rattle.graph.specs.declared.Group.TheVariants.{Back, Side}
use Rattle.graph.specs.declared.Link.{Link}
use Rattle.graph.specs.Links.{is_group, of_group}
use Rattle.graph.specs.Readings.{share, reading}
use Rattle.graph_machine.specs.declared.links.OutLink.{OutLink}
use Rattle.link_counts.specs.declared.counts.Counts.{Counts}
use Rattle.link_counts.specs.Counted.{one_if, tally}
use Rattle.graph_machine.specs.Counted.{is_strength, brings, hits, comes, row}

pub row_more : (xs : List (List OutLink)) → ((from : ℕ) → row xs from ≡ []) → (from : ℕ) → row (xs ++ [] ∷ []) from ≡ []
row_more [] h zero = refl
row_more [] h (suc from) = refl
row_more (x ∷ xs) h zero = h 0
row_more (x ∷ xs) h (suc from) = row_more xs (λ k. h (suc k)) from

-- one more is counted
pub count_cons : {A : Type 0} (p : A → Bool) (x : A) (xs : List A) → count_by p (x ∷ xs) ≡ one_if (p x) + count_by p xs
count_cons p x xs = sum_by-cons (λ y. one_if (p y)) x xs

one_where : (b : Bool) → b ≡ true → one_if b ≡ 1
one_where b h = rw h refl

none_where : (b : Bool) → b ≡ false → one_if b ≡ 0
none_where b h = rw h refl

-- ---- a reading by its counts

share-brings : (given : ℕ → ℕ) (group : Group) (link : Link) → 0 < share given group link → brings given group (share given group link) link ≡ true
share-brings given group link h = elim (cases_Bool (of_group group link)) [
  | inl e ↦ rw (e, eq-eqb (given link.from - link.weight) (given link.from - link.weight) refl) refl
  | inr e ↦ (let none : 0 < 0 = rw e at h in absurd (omega arith))
]

brings-share : (given : ℕ → ℕ) (group : Group) (strength : ℕ) (link : Link) → brings given group strength link ≡ true → share given group link ≡ strength
brings-share given group strength link h =
    let parts = and_parts (of_group group link) ((given link.from - link.weight) == strength) h in
    rw parts.0 (eqb-true (given link.from - link.weight) strength parts.1)

share-le : (given : ℕ → ℕ) (top : ℕ) (group : Group) (link : Link) → ((key : ℕ) → given key ≤ top) → share given group link ≤ top
share-le given top group link small = elim (cases_Bool (of_group group link)) [
  | inl e ↦ rw e (omega (arith, small link.from))
  | inr e ↦ rw e (omega arith)
]

-- where no link brings more, the reading is at most so much
pub reading_at_most : (given : ℕ → ℕ) (group : Group) (most : ℕ) (links : List Link) → ((key : ℕ) → given key < 16) →
    ((strength : ℕ) → most < strength → strength < 16 → count_by (brings given group strength) links ≡ 0) → reading given group links ≤ most
reading_at_most given group most [] small none = omega arith
reading_at_most given group most (link ∷ links) small none =
    let rest = reading_at_most given group most links small (λ strength more few. omega (arith, none strength more few, count_cons (brings given group strength) link links)) in
    let here : share given group link ≤ most = elim (cases_lt most (share given group link)) [
      | inl more ↦
          (let below : share given group link ≤ 15 = share-le given 15 group link (λ key. omega (arith, small key)) in
          let one : one_if (brings given group (share given group link) link) ≡ 1 = one_where _ (share-brings given group link (omega arith)) in
          absurd (omega (arith, one, none (share given group link) more (omega arith), count_cons (brings given group (share given group link)) link links)))
      | inr less ↦ less
    ] in omega arith

-- where a link brings so much, it is at least that
pub reading_at_least : (given : ℕ → ℕ) (group : Group) (strength : ℕ) (links : List Link) → 0 < count_by (brings given group strength) links → strength ≤ reading given group links
reading_at_least given group strength [] some = absurd (omega arith)
reading_at_least given group strength (link ∷ links) some = elim (cases_Bool (brings given group strength link)) [
  | inl e ↦ (let here : share given group link ≡ strength = brings-share given group strength link e in omega arith)
  | inr e ↦
      (let left : 0 < count_by (brings given group strength) links = omega (arith, some, count_cons (brings given group strength) link links, none_where _ e) in
      let rest = reading_at_least given group strength links left in omega arith)
]

pub reading_is : (given : ℕ → ℕ) (group : Group) (greatest : ℕ) (links : List Link) → ((key : ℕ) → given key < 16) → (0 < greatest → 0 < count_by (brings given group greatest) links) →
    ((strength : ℕ) → greatest < strength → strength < 16 → count_by (brings given group strength) links ≡ 0) → greatest ≡ reading given group links
reading_is given group greatest links small some none = elim (cases_lt 0 greatest) [
  | inl above ↦ omega (arith, reading_at_most given group greatest links small none, reading_at_least given group greatest links (some above))
  | inr nothing ↦ omega (arith, reading_at_most given group greatest links small none)
]

-- ---- one output changes

abbrev comes_one : (Group → ℕ → Bool) → ℕ → Link → Bool
comes_one test from link = (link.from == from) && test link.group link.weight

-- the links that bring a strength, before and after
pub counts_change : (given new : ℕ → ℕ) (key : ℕ) (group : Group) (strength : ℕ) (links : List Link) → ((other : ℕ) → other ≢ key → new other ≡ given other) →
    count_by (brings given group strength) links + comes (is_strength (new key) group strength) key links ≡ count_by (brings new group strength) links + comes (is_strength (given key) group strength) key links
counts_change given new key group strength [] same = refl
counts_change given new key group strength (link ∷ links) same =
    let rest = counts_change given new key group strength links same in
    let here : one_if (brings given group strength link) + one_if (comes_one (is_strength (new key) group strength) key link) ≡ one_if (brings new group strength link) + one_if (comes_one (is_strength (given key) group strength) key link) =
    elim (cases_eq link.from key) [
      | inl e ↦
          (let was : brings given group strength link ≡ is_strength (given key) group strength link.group link.weight = ap (λ k. is_strength (given k) group strength link.group link.weight) e in
          let is : brings new group strength link ≡ is_strength (new key) group strength link.group link.weight = ap (λ k. is_strength (new k) group strength link.group link.weight) e in
          rw (eq-eqb link.from key e) (omega (arith, ap one_if was, ap one_if is)))
      | inr n ↦
          (let is : brings new group strength link ≡ brings given group strength link = ap (λ o. is_strength o group strength link.group link.weight) (same link.from n) in
          rw (ne_eqb link.from key n) (omega (arith, ap one_if is)))
    ] in
    omega (
      arith,
      rest,
      here,
      count_cons (brings given group strength) link links,
      count_cons (brings new group strength) link links,
      count_cons (comes_one (is_strength (new key) group strength) key) link links,
      count_cons (comes_one (is_strength (given key) group strength) key) link links,
    )

-- those that come from a key are among all
pub comes-le : (given : ℕ → ℕ) (key : ℕ) (group : Group) (strength : ℕ) (links : List Link) → comes (is_strength (given key) group strength) key links ≤ count_by (brings given group strength) links
comes-le given key group strength [] = omega arith
comes-le given key group strength (link ∷ links) =
    let rest = comes-le given key group strength links in
    let here : one_if (comes_one (is_strength (given key) group strength) key link) ≤ one_if (brings given group strength link) =
    elim (cases_eq link.from key) [
      | inl e ↦
          (let was : brings given group strength link ≡ is_strength (given key) group strength link.group link.weight = ap (λ k. is_strength (given k) group strength link.group link.weight) e in
          rw (eq-eqb link.from key e) (omega (arith, ap one_if was)))
      | inr n ↦ rw (ne_eqb link.from key n) (omega arith)
    ] in
    omega (arith, rest, here, count_cons (brings given group strength) link links, count_cons (comes_one (is_strength (given key) group strength) key) link links)

-- where no link comes from the key, the reading stays
pub reading_stays : (given new : ℕ → ℕ) (key : ℕ) (group : Group) (links : List Link) → ((other : ℕ) → other ≢ key → new other ≡ given other) → count_by (λ (link : Link). link.from == key) links ≡ 0 →
    reading new group links ≡ reading given group links
reading_stays given new key group [] same none = refl
reading_stays given new key group (link ∷ links) same none =
    let counted = count_cons (λ (l : Link). l.from == key) link links in
    elim (cases_eq link.from key) [
      | inl e ↦ absurd (omega (arith, none, counted, one_where _ (eq-eqb link.from key e)))
      | inr n ↦
          (let left : count_by (λ (l : Link). l.from == key) links ≡ 0 = omega (arith, none, counted) in
          let rest = reading_stays given new key group links same left in
          ap (λ o. max (cond (of_group group link) (o - link.weight) 0) (reading new group links)) (same link.from n) ∙ ap (max (share given group link)) rest)
    ]

-- ---- along the links out of a node

is_group-self : (group : Group) → is_group group group ≡ true
is_group-self Back = refl
is_group-self Side = refl

abbrev hits_one : (Group → ℕ → Bool) → ℕ → OutLink → Bool
hits_one test to link = (link.to == to) && test link.group link.weight

hits_more : (test : Group → ℕ → Bool) (to : ℕ) (links : List OutLink) (i : ℕ) (link : OutLink) → i < length links → link ≡ get_or links i link →
    hits test to (take (i + 1) links) ≡ hits test to (take i links) + one_if (hits_one test to link)
hits_more test to links i link inside here = sum_by_more (λ l. one_if (hits_one test to l)) links i link inside ∙ ap (λ l. hits test to (take i links) + one_if (hits_one test to l)) (sym here)

-- so many links were gone along, and the strengths that they bring were moved
abbrev pub Moved : List OutLink → ℕ → ℕ → List Counts → List Counts → Type 0
Moved links old new before now = (key : ℕ) (group : Group) (strength : ℕ) →
    tally now key group strength + hits (is_strength old group strength) key links ≡ tally before key group strength + hits (is_strength new group strength) key links

-- one link more
pub moved_more : (links : List OutLink) (old new : ℕ) (before now after : List Counts) (i : ℕ) (link : OutLink) → i < length links → link ≡ get_or links i link →
    ((other : ℕ) (second : Group) (at : ℕ) → tally after other second at + one_if ((link.to == other) && (is_group second link.group && ((old - link.weight) == at))) ≡ tally now other second at + one_if ((link.to == other) && (is_group second link.group && ((new - link.weight) == at)))) →
    Moved (take i links) old new before now → Moved (take (i + 1) links) old new before after
moved_more links old new before now after i link inside here shifted so_far key group strength =
    omega (
      arith,
      hits_more (is_strength old group strength) key links i link inside here,
      hits_more (is_strength new group strength) key links i link inside here,
      shifted key group strength,
      so_far key group strength,
    )

-- the next link is still counted by its old strength
pub some_left : (links : List OutLink) (old new : ℕ) (before now : List Counts) (i : ℕ) (link : OutLink) → i < length links → link ≡ get_or links i link →
    hits (is_strength old link.group (old - link.weight)) link.to links ≤ tally before link.to link.group (old - link.weight) → Moved (take i links) old new before now →
    0 < tally now link.to link.group (old - link.weight)
some_left links old new before now i link inside here enough so_far =
    let test : Group → ℕ → Bool = is_strength old link.group (old - link.weight) in
    let one : one_if (hits_one test link.to (get_or links i link)) ≡ 1 =
    ap (λ l. one_if (hits_one test link.to l)) (sym here) ∙ rw (eq-eqb link.to link.to refl, is_group-self link.group, eq-eqb (old - link.weight) (old - link.weight) refl) refl in
    let all = sum_by_more_le (λ l. one_if (hits_one test link.to l)) links i link inside in
    omega (arith, one, all, enough, so_far link.to link.group (old - link.weight))

-- and few are counted by its new one
pub few_left : (links : List OutLink) (old new : ℕ) (before now : List Counts) (i key : ℕ) (group : Group) (strength : ℕ) → i < length links → length links ≤ 2 ^ 31 →
    tally before key group strength < 2 ^ 31 → Moved (take i links) old new before now → tally now key group strength + 1 < 2 ^ 32
few_left links old new before now i key group strength inside short small so_far =
    omega (arith, inside, short, small, so_far key group strength, count_by-le-length (hits_one (is_strength new group strength) key) (take i links), length-take i links)
