-- Stacks of items.
use Rattle.std.proofs.Common.{◌≡◌, ℕ, suc, ◌+◌, ◌-◌, ◌/◌, ◌%◌, ◌<◌, ◌≤◌, List, [], ◌∷◌, ◌++◌, false, refl, sym, ap, ◌∙◌, arith, inl, inr}
use Rattle.std.specs.Prelude.{min, nat_eq, nat_lt}
use Rattle.std.proofs.lemmas.Bool.{cases_Bool}
use Rattle.std.proofs.lemmas.Bool.Decides.{nat_tests}
use Rattle.std.proofs.lemmas.List.{append_assoc, append-nil}
use Rattle.block_table.specs.declared.Block.TheVariants.{Container}
use Rattle.block_table.specs.StateText.{namespace}
use Rattle.block_table.specs.Table.{name_at}
use Rattle.block_table.specs.WrittenText.{state_text}
use Rattle.nbt.specs.Plain.{PlainTree}
use Rattle.schem_write.specs.Stacks.{stacks_of, stack_tree, stack_trees}

pub stacks-none : stacks_of 0 ≡ []
unfolding stacks_of
stacks-none = refl

-- the first stack
pub stacks-more : (n : ℕ) → 0 < n → stacks_of n ≡ min n 64 ∷ stacks_of (n - min n 64)
unfolding stacks_of
stacks-more n h = elim (cases_Bool (nat_lt n 64)) [
  | inl e ↦ (let low : n < 64 = grind (arith, nat_tests, e) in
      let none : n / 64 ≡ 0 = omega arith in
      let all : n % 64 ≡ n = omega arith in
      let some : nat_eq n 0 ≡ false = grind (arith, nat_tests) in
      let least : min n 64 ≡ n = omega arith in
      let rest : n - n ≡ 0 = omega arith in
      rw (none, all, some, least, rest) refl)
  | inr e ↦ (let high : 64 ≤ n = grind (arith, nat_tests, e) in
      let one : n / 64 ≡ suc ((n - 64) / 64) = omega arith in
      let rest : n % 64 ≡ (n - 64) % 64 = omega arith in
      let least : min n 64 ≡ 64 = omega arith in
      rw (one, rest, least) refl)
]

-- one stack more in the list
pub stack-next : (done next whole : List PlainTree) (slot left count rest : ℕ) (t : PlainTree) → 0 < left → count ≡ min left 64 → rest ≡ left - count → t ≡ stack_tree slot count → next ≡ done ++ t ∷ [] →
    done ++ stack_trees slot (stacks_of left) ≡ whole → next ++ stack_trees (slot + 1) (stacks_of rest) ≡ whole
stack-next done next whole slot left count rest t h k r e n w =
    let first : stacks_of left ≡ count ∷ stacks_of rest = stacks-more left h ∙ ap (λ m. m ∷ stacks_of (left - m)) (sym k) ∙ ap (λ m. count ∷ stacks_of m) (sym r) in
    ap (λ xs. xs ++ stack_trees (slot + 1) (stacks_of rest)) n
    ∙ append_assoc done (t ∷ []) (stack_trees (slot + 1) (stacks_of rest))
    ∙ ap (λ u. done ++ (u ∷ stack_trees (slot + 1) (stacks_of rest))) e
    ∙ sym (ap (λ counts. done ++ stack_trees slot counts) first)
    ∙ w

-- a container keeps no property
pub container-text : (name : ℕ) → state_text (Container name) ≡ namespace ++ name_at name
unfolding state_text
container-text name = ap (λ (t : List ℕ). namespace ++ t) (append-nil (name_at name))
