-- What was met after one list more.
use Rattle.std.proofs.Common.{◌≡◌, ℕ, ◌+◌, ◌<◌, Bool, true, false, not, List, [], ◌∷◌, ◌++◌, length, get_or, take, refl, sym, ◌∙◌, ap}
use Rattle.std.specs.Prelude.{◌&&◌, ◌||◌}
use Rattle.std.specs.List.{flat_map}
use Rattle.std.proofs.Math.Dec.{eqb}
use Rattle.std.proofs.lemmas.List.{take_more, append-nil}
use Rattle.std.proofs.lemmas.List.Concat.{flat_map-append}
use Rattle.std.proofs.lemmas.List.Folds.{list_any-append}
use Rattle.input_search.specs.CellLists.{has_cell}
use Rattle.input_search.specs.Rows.{is_met, has_met, Gathers, GathersCells}

one_more : (f : ℕ → List ℕ) (xs : List ℕ) (i : ℕ) → i < length xs → flat_map f (take (i + 1) xs) ≡ flat_map f (take i xs) ++ f (get_or xs i 0)
one_more f xs i h =
    ap (flat_map f) (take_more xs i 0 h) ∙ flat_map-append f (take i xs) (get_or xs i 0 ∷ [])
    ∙ ap (λ (ys : List ℕ). flat_map f (take i xs) ++ ys) (append-nil (f (get_or xs i 0)))

has_more : (f : ℕ → List ℕ) (xs : List ℕ) (i : ℕ) → i < length xs → (k : ℕ) → has_cell (flat_map f (take (i + 1) xs)) k ≡ (has_cell (flat_map f (take i xs)) k || has_cell (f (get_or xs i 0)) k)
has_more f xs i h k = ap (λ (ys : List ℕ). has_cell ys k) (one_more f xs i h) ∙ list_any-append (eqb k) (flat_map f (take i xs)) (f (get_or xs i 0))

either : (o a x : Bool) → ((o || a) || x) ≡ (o || (a || x))
either true a x = refl
either false a x = refl

new_ones : (p o a x : Bool) → ((p || (a && not o)) || (x && not (o || a))) ≡ (p || ((a || x) && not o))
new_ones true o a x = refl
new_ones false true true true = refl
new_ones false true true false = refl
new_ones false true false true = refl
new_ones false true false false = refl
new_ones false false true x = refl
new_ones false false false x = refl

pub gathers_more : (f : ℕ → List ℕ) (xs : List ℕ) (i : ℕ) (old mid new : List Bool) (before between after : List ℕ) → i < length xs
    → Gathers (flat_map f (take i xs)) old mid before between → Gathers (f (get_or xs i 0)) mid new between after → Gathers (flat_map f (take (i + 1) xs)) old new before after
gathers_more f xs i old mid new before between after h g one = record {
  size = one.size ∙ g.size;
  met = λ k.
      one.met k ∙ ap (λ (t : Bool). t || has_cell (f (get_or xs i 0)) k) (g.met k) ∙ either (is_met old k) (has_cell (flat_map f (take i xs)) k) (has_cell (f (get_or xs i 0)) k)
      ∙ ap (λ (t : Bool). is_met old k || t) (sym (has_more f xs i h k));
  found = λ k.
      one.found k ∙ (λ j. g.found k j || (has_cell (f (get_or xs i 0)) k && not (g.met k j)))
      ∙ new_ones (has_cell before k) (is_met old k) (has_cell (flat_map f (take i xs)) k) (has_cell (f (get_or xs i 0)) k)
      ∙ ap (λ (t : Bool). has_cell before k || (t && not (is_met old k))) (sym (has_more f xs i h k));
}

pub cells_more : (listed : List ℕ) (f : ℕ → List ℕ) (xs : List ℕ) (i : ℕ) (old mid new : List Bool) (before between after : List ℕ) → i < length xs
    → GathersCells listed (flat_map f (take i xs)) old mid before between → GathersCells listed (f (get_or xs i 0)) mid new between after → GathersCells listed (flat_map f (take (i + 1) xs)) old new before after
cells_more listed f xs i old mid new before between after h g one = record {
  size = one.size ∙ g.size;
  met = λ k.
      one.met k ∙ ap (λ (t : Bool). t || has_cell (f (get_or xs i 0)) k) (g.met k) ∙ either (has_met listed old k) (has_cell (flat_map f (take i xs)) k) (has_cell (f (get_or xs i 0)) k)
      ∙ ap (λ (t : Bool). has_met listed old k || t) (sym (has_more f xs i h k));
  found = λ k.
      one.found k ∙ (λ j. g.found k j || (has_cell (f (get_or xs i 0)) k && not (g.met k j)))
      ∙ new_ones (has_cell before k) (has_met listed old k) (has_cell (flat_map f (take i xs)) k) (has_cell (f (get_or xs i 0)) k)
      ∙ ap (λ (t : Bool). has_cell before k || (t && not (has_met listed old k))) (sym (has_more f xs i h k));
}
