-- Numbers of nodes by cells, one node more.
use Rattle.std.proofs.Common.{◌≡◌, ℕ, ◌+◌, ◌<◌, true, List, [], ◌∷◌, ◌++◌, All, Option, Some, None, refl, sym, ◌∙◌, ap, subst, inl, inr, arith, length-append}
use Rattle.std.specs.Prelude.{is_some, AllPairs}
use Rattle.std.specs.Option.{option_map_or}
use Rattle.std.proofs.lemmas.Bool.{cases_eq}
use Rattle.std.proofs.lemmas.List.{get_or_append_left, get_or_push, get_or_default}
use Rattle.std.proofs.lemmas.List.Elements.{All-from_get_or}
use Rattle.circuit.specs.declared.Pos.{Pos}
use Rattle.build.specs.Plan.{Plan, in_box, cell_of}
use Rattle.graph.specs.Graph.{Nodes, node_at}
use Rattle.cell_numbers.specs.Numbers.{number_in}
use Rattle.cell_numbers.proofs.Rising.{number-back}
use Rattle.input_search.specs.Numbers.{node_place, IsSpread, AreThere, AreNodeCells, AreRanks}

pub record Placed (o : Option Pos) : Type 0 where
  pub place : Pos
  pub is : o ≡ Some place

pub placed : (o : Option Pos) → is_some o ≡ true → Placed o
placed None e = absurd (cc)
placed (Some p) e = record { place = p; is = refl }

module _ (b : Plan) (g : Nodes) (spread : IsSpread b g) (n : ℕ) (cells : List ℕ) (there : AreThere g n) (listed : AreNodeCells b g n cells) where
  pub all_below : (p : Pos) → node_place (node_at g n) ≡ Some p → All (λ cell. cell < cell_of b p) cells
  all_below p e = All-from_get_or (λ cell. cell < cell_of b p) cells 0 (λ key h.
      let less : key < n = omega (arith, listed.whole) in
      let q : Placed (node_place (node_at g key)) = placed (node_place (node_at g key)) (there key less) in
      let rises : cell_of b q.place < cell_of b p = spread.rise key n q.place p less q.is e in
      subst (λ (cell : ℕ). cell < cell_of b p) (sym (listed.each key q.place less q.is)) rises)

  rising : AllPairs (λ i j. i < j) cells
  rising i j d h k =
      let second : j < n = omega (arith, listed.whole) in
      let first : i < n = omega arith in
      let p : Placed (node_place (node_at g i)) = placed (node_place (node_at g i)) (there i first) in
      let q : Placed (node_place (node_at g j)) = placed (node_place (node_at g j)) (there j second) in
      let rises : cell_of b p.place < cell_of b q.place = spread.rise i j p.place q.place h p.is q.is in
      omega (arith, rises, listed.each i p.place first p.is, listed.each j q.place second q.is, get_or_default cells i d 0 (omega (arith, listed.whole)), get_or_default cells j d 0 k)

  pub ranks : AreRanks b g n cells
  ranks key p h e =
      let here : in_box b p ≡ true = spread.inside key p e in
      let is : number_in cells (cell_of b p) ≡ Some key = ap (number_in cells) (sym (listed.each key p h e)) ∙ number-back cells rising key 0 (omega (arith, listed.whole)) in
      rw here (ap (λ (o : Option ℕ). option_map_or (λ (k : ℕ). k) o 0) is)

pub one_more : (b : Plan) (g : Nodes) (n : ℕ) (cells : List ℕ) (p : Pos) → node_place (node_at g n) ≡ Some p → AreNodeCells b g n cells → AreNodeCells b g (n + 1) (cells ++ cell_of b p ∷ [])
one_more b g n cells p e listed = record {
  whole = omega (arith, length-append cells (cell_of b p ∷ []), listed.whole);
  each = λ key q h f. elim (cases_eq key n) [
    | inl same ↦
        (let both : ◌≡◌ {A = Option Pos} (Some p) (Some q) = sym e ∙ ap (λ (k : ℕ). node_place (node_at g k)) (sym same) ∙ f in
        let one : p ≡ q = cc in
        get_or_push cells (cell_of b p) 0 key (listed.whole ∙ sym same) ∙ ap (cell_of b) one)
    | inr apart ↦ (let less : key < n = omega arith in get_or_append_left cells (cell_of b p ∷ []) 0 key (omega (arith, listed.whole)) ∙ listed.each key q less f)
  ];
}

pub none_listed : (b : Plan) (g : Nodes) → AreNodeCells b g 0 []
none_listed b g = record { whole = refl; each = λ key p h e. absurd (omega arith) }
