-- A test of names behind references.
use Rattle.std.proofs.Common.{◌≡◌, ℕ, List, [], ◌∷◌, map, Bor, refl}
use Rattle.std.specs.List.{list_any}
use Rattle.std.specs.Str.{bytes_eq}
use Rattle.item_table.specs.Stacks.{is_among}

pub any_of_texts : (name : List ℕ) (listed : List (Bor (List ℕ))) → list_any (λ text. bytes_eq text.now name) listed ≡ is_among name (map (λ text. text.now) listed)
any_of_texts name [] = refl
any_of_texts name (text ∷ listed) = rw (any_of_texts name listed) refl
