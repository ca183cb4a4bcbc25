-- The fire lines of a list, written one after the other.
use Rattle.std.proofs.Common.{◌≡◌, ℕ, ◌+◌, ◌<◌, List, ◌∷◌, ◌++◌, length, get_or, drop, drop-cons, add-one, refl, ap, subst, Option}
use Rattle.std.specs.List.{flat_map}
use Rattle.rp_io.specs.Causes.{appended, PartWay, WrotePrefix}
use Rattle.rp_io.proofs.Written.{part_more, part_stopped}

drop_more : {A : Type 0} (xs : List A) (i : ℕ) (d : A) → i < length xs → drop i xs ≡ get_or xs i d ∷ drop (i + 1) xs
drop_more xs i d inside = rw (add-one, drop-cons xs i d)

module _ {A : Type 0} (f : A → List ℕ) (xs : List A) (i : ℕ) (d : A) (inside : i < length xs) (before mid now : Option (List ℕ)) (part : PartWay before mid (flat_map f xs) (flat_map f (drop i xs))) where
  here : PartWay before mid (flat_map f xs) (f (get_or xs i d) ++ flat_map f (drop (i + 1) xs))
  here = subst (λ (left : List A). PartWay before mid (flat_map f xs) (flat_map f left)) (drop_more xs i d inside) part

  -- one more was written
  pub lines_more : now ≡ appended mid (f (get_or xs i d)) → PartWay before now (flat_map f xs) (flat_map f (drop (i + 1) xs))
  lines_more wrote = part_more before mid now (flat_map f xs) (f (get_or xs i d)) (flat_map f (drop (i + 1) xs)) here wrote

  -- the sink failed in the next one
  pub lines_stopped : WrotePrefix mid now (f (get_or xs i d)) → WrotePrefix before now (flat_map f xs)
  lines_stopped wrote = part_stopped before mid now (flat_map f xs) (f (get_or xs i d)) (flat_map f (drop (i + 1) xs)) here wrote
