-- The places of the box are the keys of a world's components, each once.
use Rattle.std.proofs.Common.{◌≡◌, ◌≢◌, ℕ, zero, suc, ◌+◌, ◌<◌, ◌≤◌, true, List, Some, refl, map, sym, ap, subst, ◌∙◌, arith, inl, inr}
use Rattle.std.specs.Prelude.{is_some}
use Rattle.std.specs.List.{range_with_len}
use Rattle.std.proofs.lemmas.Bool.{cases_eq}
use Rattle.block_table.specs.declared.Block.{Block}
use Rattle.block_table.specs.declared.Block.TheVariants.{Air}
use Rattle.circuit.specs.declared.Pos.{Pos}
use Rattle.circuit.specs.declared.Component.{Component}
use Rattle.circuit.specs.Circuit.{Each, EachBefore, Among}
use Rattle.circuit.specs.Keys.{IsListed}
use Rattle.build.specs.Plan.{Plan, volume, places, place_of, cell_of, in_box}
use Rattle.build.specs.Places.{inside, place-cell, cell-place, cell_below, in_box-not_outside}
use Rattle.build.specs.Marks.{is_marked}
use Rattle.build.specs.Roles.{role_of, role_at}
use Rattle.power_rules.specs.World.{world_circuit}

among_range : (f : ℕ → Pos) (a n i : ℕ) → a ≤ i → i < a + n → Among (map f (range_with_len a n)) (f i)
among_range f a zero i low high = absurd (omega arith)
among_range f a (suc n) i low high = elim (cases_eq i a) [
  | inl e ↦ inl (ap f e)
  | inr apart ↦ inr (among_range f (a + 1) n i (omega arith) (omega arith))
]

apart_range : (f : ℕ → Pos) → ((i j : ℕ) → f i ≡ f j → i ≡ j) → (a b n : ℕ) → a < b → Each (λ p. f a ≢ p) (map f (range_with_len b n))
apart_range f one a b zero h = tt
apart_range f one a b (suc n) h = ((λ e. let same : a ≡ b = one a b e in absurd (omega arith)), apart_range f one a (b + 1) n (omega arith))

once_range : (f : ℕ → Pos) → ((i j : ℕ) → f i ≡ f j → i ≡ j) → (a n : ℕ) → EachBefore (λ p q. p ≢ q) (map f (range_with_len a n))
once_range f one a zero = tt
once_range f one a (suc n) = (apart_range f one a (a + 1) n (omega arith), once_range f one (a + 1) n)

-- a component is in the box
component_inside : (b : Plan) (marks : List Pos) (p : Pos) (component : Component) → role_at b marks p ≡ Some component → in_box b p ≡ true
unfolding role_at
component_inside b marks p component there = in_box-not_outside b b.blocks Air (λ (k : Block). is_some (role_of (is_marked marks p) k)) p refl (ap is_some there)

pub world_listed : (b : Plan) (marks : List Pos) → IsListed (world_circuit b marks) (places b)
world_listed b marks = record {
  all = λ p component there.
      let i = inside b p (component_inside b marks p component there) in
      subst (Among (places b)) (place-cell b p i) (among_range (place_of b) 0 (volume b) (cell_of b p) (omega arith) (omega (arith, cell_below b p i)));
  once = once_range (place_of b) (λ i j e. sym (cell-place b i) ∙ ap (cell_of b) e ∙ cell-place b j) 0 (volume b);
}
