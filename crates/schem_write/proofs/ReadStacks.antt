-- The items that are written, read back as a strength.
use Rattle.std.proofs.Common.{◌≡◌, ◌≢◌, ℕ, zero, suc, ◌+◌, ◌-◌, ◌*◌, ◌/◌, ◌%◌, ◌<◌, ◌≤◌, List, [], ◌∷◌, ◌++◌, map, false, Option, Some, refl, ap, ◌∙◌, arith, inl, inr}
use Rattle.std.specs.Prelude.{nat_eq, nat_lt, replicate, codes}
use Rattle.std.specs.List.{AllByRecursion, filter_map}
use Rattle.std.proofs.Math.Nat.{mul_assoc, add-mul-div_right, div-eq_of_lt}
use Rattle.std.proofs.lemmas.Bool.{cases_Bool}
use Rattle.std.proofs.lemmas.List.Sums.{sum_by-cons}
use Rattle.std.proofs.lemmas.Bool.Decides.{nat_tests}
use Rattle.nbt.specs.Plain.{PlainTree, trees_of}
use Rattle.item_table.specs.declared.ItemCount.{ItemCount}
use Rattle.item_table.specs.Stacks.{stack_size_of, stacked_by_sixteen, unstacked}
use Rattle.item_table.specs.Strength.{strength_of, strength_by, stacked_sum, stacked}
use Rattle.schematic.specs.Fields.{fields_in}
use Rattle.schematic.specs.Entities.{trees_in, item_of}
use Rattle.schematic.proofs.Counting.{trees_back}
use Rattle.schem_write.specs.Stacks.{items_for, stacks_of, stack_tree, stack_trees}

stone-size : stack_size_of (codes "minecraft:stone") ≡ 64
unfolding stack_size_of stacked_by_sixteen unstacked
stone-size = refl

abbrev stone : ℕ → ItemCount
stone n = record { count = n; size = 64 }

stack-back : (slot n : ℕ) → 1 ≤ n → item_of (fields_in (Some (stack_tree slot n))) ≡ Some (stone n)
unfolding item_of
stack-back slot n h = let some : nat_lt n 1 ≡ false = grind (arith, nat_tests) in rw (some, stone-size) refl

stacks-back : (slot : ℕ) (counts : List ℕ) → AllByRecursion (λ n. 1 ≤ n) counts → filter_map (λ t. item_of (fields_in (Some t))) (stack_trees slot counts) ≡ map stone counts
stacks-back slot [] h = refl
stacks-back slot (n ∷ counts) h = rw (stack-back slot n h.0, stacks-back (slot + 1) counts h.1) refl

abbrev total : List ℕ → ℕ
total [] = 0
total (n ∷ counts) = n + total counts

stones-sum : (counts : List ℕ) → stacked_sum (map stone counts) ≡ total counts
stones-sum [] = refl
stones-sum (n ∷ counts) = let one : n * 64 / 64 ≡ n = omega arith in sum_by-cons stacked (stone n) (map stone counts) ∙ ap (λ m. m + stacked_sum (map stone counts)) one ∙ ap (λ m. n + m) (stones-sum counts)

whole-some : (k : ℕ) (rest : List ℕ) → AllByRecursion (λ n. 1 ≤ n) rest → AllByRecursion (λ n. 1 ≤ n) (replicate k 64 ++ rest)
whole-some zero rest h = h
whole-some (suc k) rest h = (omega arith, whole-some k rest h)

total-whole : (k : ℕ) (rest : List ℕ) → total (replicate k 64 ++ rest) ≡ 64 * k + total rest
total-whole zero rest = omega arith
total-whole (suc k) rest = omega (arith, total-whole k rest)

all-some : (n : ℕ) → AllByRecursion (λ m. 1 ≤ m) (stacks_of n)
unfolding stacks_of
all-some n = elim (cases_Bool (nat_eq (n % 64) 0)) [
  | inl e ↦ rw e (whole-some (n / 64) [] tt)
  | inr e ↦ (let some : n % 64 ≢ 0 = grind (arith, nat_tests, e) in rw e (whole-some (n / 64) (n % 64 ∷ []) (omega arith, tt)))
]

total-stacks : (n : ℕ) → total (stacks_of n) ≡ n
unfolding stacks_of
total-stacks n = elim (cases_Bool (nat_eq (n % 64) 0)) [
  | inl e ↦ (let none : n % 64 ≡ 0 = grind (arith, nat_tests, e) in rw e (omega (arith, total-whole (n / 64) [])))
  | inr e ↦ rw e (omega (arith, total-whole (n / 64) (n % 64 ∷ [])))
]

-- the sum that a strength takes gives this strength
quotient : (d k s : ℕ) → 1 ≤ d → (k * d) ≤ s → s < (k + 1) * d → s / d ≡ k
quotient d k s h l m = div-unique d k s h l m
  where
    div-unique : (d k s : ℕ) → 1 ≤ d → k * d ≤ s → s < (k + 1) * d → s / d ≡ k
    div-unique d k s h l m =
        let rest : s - k * d < d = omega arith in
        ap (λ n. n / d) (whole l) ∙ add-mul-div_right (s - k * d) k (omega arith) ∙ ap (λ n. n + k) (div-eq_of_lt rest) ∙ omega arith
      where
        whole : k * d ≤ s → s ≡ (s - k * d) + k * d
        whole q = omega arith

pub strength-back : (slots level : ℕ) → 1 ≤ slots → 1 ≤ level → level ≤ 15 → strength_by slots (items_for slots level) ≡ level
strength-back slots level h l m =
    let d : ℕ = 64 * slots in
    let a : ℕ = (level - 1) * 64 * slots in
    let n : ℕ = items_for slots level in
    let some : nat_eq n 0 ≡ false = grind (arith, nat_tests) in
    let same : a ≡ (level - 1) * d = mul_assoc (level - 1) 64 slots in
    let next : ((level - 1) + 1) * d ≡ a + d = omega (arith, same) in
    let low : (level - 1) * d ≤ 14 * n = omega (arith, same) in
    let high : 14 * n < ((level - 1) + 1) * d = omega (arith, next) in
    let part : 14 * n / d ≡ level - 1 = quotient d (level - 1) (14 * n) (omega arith) low high in
    rw (some, part) (omega arith)

pub items-back : (slots level : ℕ) → 1 ≤ slots → 1 ≤ level → level ≤ 15 →
    strength_of slots (filter_map (λ t. item_of (fields_in (Some t))) (trees_in (trees_of (stack_trees 0 (stacks_of (items_for slots level)))))) ≡ level
unfolding strength_of
items-back slots level h l m =
    let n : ℕ = items_for slots level in
    let f : PlainTree → Option ItemCount = λ t. item_of (fields_in (Some t)) in
    ap (λ ts. strength_by slots (stacked_sum (filter_map f ts))) (trees_back (stack_trees 0 (stacks_of n)))
    ∙ ap (λ is. strength_by slots (stacked_sum is)) (stacks-back 0 (stacks_of n) (all-some n))
    ∙ ap (strength_by slots) (stones-sum (stacks_of n) ∙ total-stacks n)
    ∙ strength-back slots level h l m
