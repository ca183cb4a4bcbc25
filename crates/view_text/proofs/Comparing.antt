-- Lists that are alike as far as they were compared.
use Rattle.std.proofs.Common.{◌≡◌, ℕ, ◌+◌, ◌-◌, ◌≤◌, ◌++◌, Bool, false, List, take, drop, sym, ap, ◌∙◌, arith}
use Rattle.std.proofs.Math.Bool.{not}
use Rattle.std.proofs.Math.Seq.{take-add}
use Rattle.std.proofs.lemmas.Bool.{not-false}
use Rattle.std.proofs.lemmas.Slice.Eq.{bytes_eq-Decides}
use Rattle.std.specs.Str.{bytes_eq}

-- so far, and in the part behind it too
pub alike_up_to : (xs ys shown : List ℕ) (from end : ℕ) (differ : Bool) → from ≤ end → take from xs ≡ take from ys → shown ≡ xs →
    differ ≡ not (bytes_eq (take (end - from) (drop from shown)) (take (end - from) (drop from ys))) → differ ≡ false → take end xs ≡ take end ys
alike_up_to xs ys shown from end differ order before is told same =
    let part : take (end - from) (drop from shown) ≡ take (end - from) (drop from ys) =
    (bytes_eq-Decides (take (end - from) (drop from shown)) (take (end - from) (drop from ys))).0 (not-false (bytes_eq (take (end - from) (drop from shown)) (take (end - from) (drop from ys))) (sym told ∙ same)) in
    let whole : from + (end - from) ≡ end = omega arith in
    ap (λ (n : ℕ). take n xs) (sym whole)
    ∙ take-add from (end - from) xs
    ∙ ap (λ (list : List ℕ). list ++ take (end - from) (drop from xs)) before
    ∙ ap (λ (list : List ℕ). take from ys ++ take (end - from) (drop from list)) (sym is)
    ∙ ap (λ (list : List ℕ). take from ys ++ list) part
    ∙ sym (take-add from (end - from) ys)
    ∙ ap (λ (n : ℕ). take n ys) whole
