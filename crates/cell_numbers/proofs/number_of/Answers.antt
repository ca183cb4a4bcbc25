use Rattle.std.proofs.Common.{◌≡◌, ℕ, ◌*◌, ◌^◌, ◌%◌, ◌-◌, ◌+◌, ◌<◌, bit_and, Some, count_ones, refl, sym, ◌∙◌, ap, inl, inr, arith}
use Rattle.std.specs.Int.{bit_at}
use Rattle.std.proofs.lemmas.Nat.{one_shl, and_mask}
use Rattle.std.proofs.lemmas.Nat.Bits.{and_pow}
use Rattle.std.proofs.Math.Pow.{pow_pos}
use Rattle.cell_numbers.proofs.Found.{bit_cases}
use Rattle.cell_numbers.proofs.number_of.Goals as goal

masked : (n k : ℕ) → k < 32 → bit_and n (1 * 2 ^ k % 2 ^ 32) ≡ bit_at n k * 2 ^ k
masked n k h = ap (bit_and n) (one_shl k 32 h) ∙ and_pow n k

pub returns-then-word-mask-eq0 : goal.returns-then-word-mask-eq0
returns-then-word-mask-eq0 c = elim (bit_cases c.args.word.bits c.args.bit) [
  | inl e ↦ rw e refl
  | inr e ↦ absurd (let none : 1 * 2 ^ c.args.bit ≡ 0 = ap (λ (b : ℕ). b * 2 ^ c.args.bit) (sym e) ∙ sym (masked c.args.word.bits c.args.bit c.requires) ∙ c.if-word-mask-eq0.true in
      omega (arith, none, pow_pos c.args.bit))
]

pub returns-else-word-mask-eq0 : goal.returns-else-word-mask-eq0
returns-else-word-mask-eq0 c = elim (bit_cases c.args.word.bits c.args.bit) [
  | inl e ↦ absurd (c.if-word-mask-eq0.false (masked c.args.word.bits c.args.bit c.requires ∙ ap (λ (b : ℕ). b * 2 ^ c.args.bit) e ∙ omega arith))
  | inr e ↦ rw e (ap (λ (n : ℕ). Some (c.args.word.before + count_ones n)) (ap (λ (m : ℕ). bit_and c.args.word.bits (m - 1)) (one_shl c.args.bit 32 c.requires) ∙ and_mask c.args.word.bits c.args.bit))
]
