-- What one link brings to a reading, and what a reading is without it.
use Rattle.std.proofs.Common.{◌≡◌, ◌≢◌, ℕ, zero, suc, ◌+◌, ◌-◌, ◌<◌, ◌≤◌, max, Bool, true, false, List, [], ◌∷◌, Some, refl, sym, ap, ◌∙◌, arith, cond, length, get_or, drop, drop-cons, add-one}
use Rattle.std.specs.Prelude.{slice_get, remove}
use Rattle.graph.specs.declared.Group.{Group}
use Rattle.graph.specs.declared.Link.{Link}
use Rattle.graph.specs.Links.{is_group, of_group}
use Rattle.graph.specs.Readings.{share, reading}

-- a link that weighs as much as its source gives brings nothing
share-none : (given : ℕ → ℕ) (group : Group) (link : Link) → given link.from ≤ link.weight → share given group link ≡ 0
share-none given group link h = by_test (of_group group link)
  where
    by_test : (b : Bool) → cond b (given link.from - link.weight) 0 ≡ 0
    by_test true = omega arith
    by_test false = refl

-- a reading is the greater of what one link brings and of what the others bring
pub reading-split : (given : ℕ → ℕ) (group : Group) (links : List Link) (index : ℕ) (link : Link) → slice_get links index ≡ Some link →
    reading given group links ≡ max (share given group link) (reading given group (remove links index))
reading-split given group [] index link e = cc
reading-split given group (l ∷ links) zero link e = let h : l ≡ link = cc in rw h refl
reading-split given group (l ∷ links) (suc index) link e = omega (arith, reading-split given group links index link e)

-- A link that brings no more than the others can go.
pub reading-without : (given : ℕ → ℕ) (group : Group) (links : List Link) (index : ℕ) (link : Link) → slice_get links index ≡ Some link →
    share given group link ≤ reading given group (remove links index) → reading given group (remove links index) ≡ reading given group links
reading-without given group links index link e h = omega (arith, reading-split given group links index link e)

-- So can one that weighs as much as its source gives.
pub reading-without_heavy : (given : ℕ → ℕ) (group : Group) (links : List Link) (index : ℕ) (link : Link) → slice_get links index ≡ Some link →
    given link.from ≤ link.weight → reading given group (remove links index) ≡ reading given group links
reading-without_heavy given group links index link e heavy = reading-without given group links index link e (omega (arith, share-none given group link heavy))

-- a link beside a lighter one with the same ends and group brings no more
pub share-lighter : (given : ℕ → ℕ) (group : Group) (a b : Link) → a.from ≡ b.from → a.group ≡ b.group → b.weight ≤ a.weight → share given group a ≤ share given group b
share-lighter given group a b from same lighter = rw (from, same) (by_test (is_group group b.group))
  where
    by_test : (t : Bool) → cond t (given b.from - a.weight) 0 ≤ cond t (given b.from - b.weight) 0
    by_test true = omega arith
    by_test false = omega arith

pub share_le-reading : (given : ℕ → ℕ) (group : Group) (links : List Link) (index : ℕ) (link : Link) → slice_get links index ≡ Some link → share given group link ≤ reading given group links
share_le-reading given group [] index link e = cc
share_le-reading given group (l ∷ links) zero link e = let h : l ≡ link = cc in rw h (omega arith)
share_le-reading given group (l ∷ links) (suc index) link e = omega (arith, share_le-reading given group links index link e)

-- each other link brings its share to what is left
pub share_le-without : (given : ℕ → ℕ) (group : Group) (links : List Link) (index other : ℕ) (link : Link) → other ≢ index → slice_get links other ≡ Some link →
    share given group link ≤ reading given group (remove links index)
share_le-without given group [] index other link n e = cc
share_le-without given group (l ∷ links) zero zero link n e = absurd (n refl)
share_le-without given group (l ∷ links) zero (suc other) link n e = share_le-reading given group links other link e
share_le-without given group (l ∷ links) (suc index) zero link n e = let h : l ≡ link = cc in rw h (omega arith)
share_le-without given group (l ∷ links) (suc index) (suc other) link n e = omega (arith, share_le-without given group links index other link (λ h. n (ap (λ k. suc k) h)) e)

-- Where more is given, no less is read.
pub reading-more : (less more : ℕ → ℕ) → ((key : ℕ) → less key ≤ more key) → (group : Group) (links : List Link) → reading less group links ≤ reading more group links
reading-more less more h group [] = omega arith
reading-more less more h group (link ∷ links) = omega (arith, one, reading-more less more h group links)
  where
    by_test : (t : Bool) → cond t (less link.from - link.weight) 0 ≤ cond t (more link.from - link.weight) 0
    by_test true = omega (arith, h link.from)
    by_test false = omega arith

    one : share less group link ≤ share more group link
    one = by_test (of_group group link)

-- Where each source gives the same, the same is read.
pub reading-same : (one two : ℕ → ℕ) (group : Group) (links : List Link) → ((index : ℕ) (link : Link) → slice_get links index ≡ Some link → one link.from ≡ two link.from) →
    reading one group links ≡ reading two group links
reading-same one two group [] h = refl
reading-same one two group (link ∷ links) h =
    let first : share one group link ≡ share two group link = ap (λ n. cond (of_group group link) (n - link.weight) 0) (h 0 link refl) in
    omega (arith, first, reading-same one two group links (λ index. h (suc index)))

-- What the links before brought, with what the others bring, is the reading. So it is with one link more before.
pub reading-next : (given : ℕ → ℕ) (group : Group) (links : List Link) (index most whole : ℕ) (link : Link) → index < length links → link ≡ get_or links index link →
    max most (reading given group (drop index links)) ≡ whole → max (max most (share given group link)) (reading given group (drop (index + 1) links)) ≡ whole
reading-next given group links index most whole link h is e =
    let here : reading given group (drop index links) ≡ max (share given group link) (reading given group (drop (index + 1) links)) =
    ap (reading given group) (drop-cons links index link h) ∙ ap (λ (l : Link). max (share given group l) (reading given group (drop (suc index) links))) (sym is) ∙ ap (λ n. max (share given group link) (reading given group (drop n links))) (sym (add-one index)) in
    omega (arith, here, e)

pub reading-last : (given : ℕ → ℕ) (group : Group) (links : List Link) (index most whole : ℕ) → length links ≤ index → max most (reading given group (drop index links)) ≡ whole → most ≡ whole
reading-last given group links index most whole h e =
    let none : reading given group (drop index links) ≡ 0 = ap (reading given group) (drop_all links index h) in omega (arith, none, e)
  where
    drop_all : (links : List Link) (index : ℕ) → length links ≤ index → drop index links ≡ []
    drop_all [] zero h = refl
    drop_all [] (suc index) h = refl
    drop_all (l ∷ links) zero h = absurd (omega arith)
    drop_all (l ∷ links) (suc index) h = drop_all links index (omega arith)
