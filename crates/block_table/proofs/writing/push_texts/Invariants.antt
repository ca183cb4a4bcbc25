use Rattle.std.proofs.Common.{◌≡◌, ◌++◌, ℕ, List, map, drop}
use Rattle.block_table.specs.WrittenText.{joined}
use Rattle.block_table.proofs.writing.push_texts.Given as goal

abbrev pub invariant-loop-text : goal.invariant-loop-text
invariant-loop-text l =
    (l.out.items ++ joined (map (λ text. text.now) (drop l.text-index l.texts)) ≡ l.initial.out.items ++ joined (map (λ text. text.now) l.texts))
    × ((said : List ℕ) × (l.out.items ≡ l.initial.out.items ++ said))
