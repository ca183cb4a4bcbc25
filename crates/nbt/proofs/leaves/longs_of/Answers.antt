use Rattle.std.proofs.Common.{◌≡◌, ◌++◌, ◌∷◌, [], List, ℕ, ap, sym, ◌∙◌, subst, length, take, arith, rules, length-append}
use Rattle.std.specs.Prelude.{FitsSigned}
use Rattle.std.specs.List.{AllByRecursion}
use Rattle.std.specs.Int.{w64}
use Rattle.std.proofs.lemmas.List.{take-append-drop}
use Rattle.nbt.specs.Spelling.{all_signed}
use Rattle.nbt.proofs.Fronts.{IsBytes, bytes-front, bytes-back}
use Rattle.nbt.proofs.Elements.{read-64, row-grows, all-push}
use Rattle.nbt.proofs.leaves.longs_of.Goals as goal

pub loop-preserved : goal.loop-preserved
loop-preserved c =
    let kept = c.loop.invariant in
    let rest = c.loop.rest.now in
    let head = c.split_at.result.0.now in
    let behind = c.split_at.result.1.now in
    let whole : rest ≡ head ++ behind = sym (ap (λ (x : List ℕ). x ++ behind) c.split_at.ensures.front ∙ ap (λ (x : List ℕ). take 8 rest ++ x) c.split_at.ensures.back ∙ take-append-drop 8 rest) in
    let all : IsBytes c.args.bytes.now = λ i. omega (arith, c.type_inv.bytes i) in
    let later : IsBytes rest = bytes-back (all_signed w64 c.loop.items.items) rest (subst IsBytes (sym kept.0) all) in
    let fits : IsBytes head = bytes-front head behind (subst IsBytes whole later) in
    let number = read-64 head c.read_i64.result c.split_at.ensures.front_len fits c.read_i64.ensures in
    let pushed : c.push.new.self.items ≡ c.loop.items.items ++ c.read_i64.result ∷ [] = search rules in
    let left = kept.1 in
    let count = c.loop-test.true in (
      row-grows w64 c.loop.items.items c.push.new.self.items c.read_i64.result c.args.bytes.now rest head behind kept.0 pushed number.1 whole,
      omega (arith, c.split_at.ensures.back_len, kept.1, c.loop-test.true),
      subst (AllByRecursion (FitsSigned w64)) (sym pushed) (all-push (FitsSigned w64) c.loop.items.items c.read_i64.result kept.2 number.0),
      omega (arith, ap length pushed, length-append c.loop.items.items (c.read_i64.result ∷ []), kept.3),
    )
