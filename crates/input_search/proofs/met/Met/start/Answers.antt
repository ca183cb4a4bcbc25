use Rattle.std.proofs.Common.{◌≡◌, ℕ, zero, suc, ◌+◌, ◌-◌, ◌≤◌, Bool, false, List, [], ◌∷◌, ◌++◌, map, length, take, refl, ap, ◌∙◌, arith}
use Rattle.std.specs.Prelude.{◌==◌, All, replicate, vec_len}
use Rattle.std.proofs.lemmas.Bool.Decides.{nat_tests}
use Rattle.std.proofs.lemmas.List.Elements.{All-head, All-tail}
use Rattle.input_search.proofs.met.Met.start.Goals as goal

later : (t turn : ℕ) → t ≤ turn → (t == (turn + 1)) ≡ false
later t turn h = grind (arith, nat_tests, h)

none_met : (turns : List ℕ) (turn : ℕ) → All (λ t. t ≤ turn) turns → map (λ t. t == (turn + 1)) turns ≡ replicate (length turns) false
none_met [] turn h = refl
none_met (t ∷ turns) turn h = λ j. later t turn (All-head (λ t. t ≤ turn) t turns h) j ∷ none_met turns turn (All-tail (λ t. t ≤ turn) t turns h) j

zeros_unmet : (n : ℕ) → map (λ t. t == 1) (replicate n 0) ≡ replicate n false
zeros_unmet zero = refl
zeros_unmet (suc n) = ap (λ (met : List Bool). false ∷ met) (zeros_unmet n)

filled : (n k : ℕ) (before after : List ℕ) → before ≡ [] → k ≡ 0 → after ≡ take n before ++ replicate (n - k) 0 → map (λ t. t == 1) after ≡ replicate n false
filled n k before after e f g = ap (map (λ t. t == 1)) (g ∙ (λ j. take n (e j) ++ replicate (n - f j) 0) ∙ none n) ∙ zeros_unmet n
  where
    none : (n : ℕ) → ◌≡◌ {A = List ℕ} (take n [] ++ replicate (n - 0) 0) (replicate n 0)
    none zero = refl
    none (suc n) = let e : suc n - 0 ≡ suc n = omega arith in ap (λ (k : ℕ). replicate k 0) e

pub returns-then-self-lt4294967295 : goal.returns-then-self-lt4294967295
returns-then-self-lt4294967295 c =
    let size : length c.self.inside.turns.items ≡ c.args.count = omega arith in
    none_met c.self.inside.turns.items c.self.inside.turn c.self.invariant ∙ ap (λ (n : ℕ). replicate n false) size

pub returns-in_ok-resize : goal.returns-in_ok-resize
returns-in_ok-resize c = filled c.args.count (vec_len c.clear.new.self) c.clear.new.self.items c.resize.new.self.items c.clear.ensures.items c.clear.ensures.len c.in_ok-resize.ensures.items
