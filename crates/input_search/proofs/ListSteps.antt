-- The links of one node more.
use Rattle.std.proofs.Common.{◌≡◌, ℕ, ◌+◌, ◌<◌, List, [], ◌∷◌, ◌++◌, Vec, Global, length, get_or, map, sym, ◌∙◌, ap, subst, inl, inr, arith}
use Rattle.std.proofs.lemmas.Bool.{cases_eq}
use Rattle.std.proofs.Math.ListN.{get_or-append}
use Rattle.std.proofs.Math.Seq.{get_or-append_seam}
use Rattle.std.proofs.lemmas.List.{map-append, length-map}
use Rattle.graph.specs.declared.Link.{Link}
use Rattle.graph.specs.Graph.{Nodes, node_at}
use Rattle.build.specs.Plan.{Plan}
use Rattle.input_search.specs.Numbers.{node_place, AreLinks, AreLists}

pub lists_more : (b : Plan) (g : Nodes) (numbers : List ℕ) (n : ℕ) (lists next : List (Vec Link Global)) (one : Vec Link Global) → length lists ≡ n
    → AreLists b g numbers n (map (λ (list : Vec Link Global). list.items) lists) → AreLinks b numbers (node_place (node_at g n)) one.items → next ≡ lists ++ one ∷ []
    → AreLists b g numbers (n + 1) (map (λ (list : Vec Link Global). list.items) next)
lists_more b g numbers n lists next one whole before here added key h =
    let items : List (Vec Link Global) → List (List Link) = map (λ (list : Vec Link Global). list.items) in
    let is : items next ≡ items lists ++ one.items ∷ [] = ap items added ∙ map-append (λ (list : Vec Link Global). list.items) lists (one ∷ []) in
    let Fits : List Link → Type 0 = AreLinks b numbers (node_place (node_at g key)) in
    let size : length (items lists) ≡ n = length-map lists (λ (list : Vec Link Global). list.items) ∙ whole in
    elim (cases_eq key n) [
      | inl same ↦
          let last : get_or (items next) key [] ≡ one.items = ap (λ (ls : List (List Link)). get_or ls key []) is ∙ ap (λ (k : ℕ). get_or (items lists ++ one.items ∷ []) k []) (same ∙ sym size) ∙ get_or-append_seam (items lists) one.items [] [] in
          subst Fits (sym last) (subst (λ (k : ℕ). AreLinks b numbers (node_place (node_at g k)) one.items) (sym same) here)
      | inr apart ↦
          let less : key < n = omega arith in
          let within : key < length (items lists) = omega arith in
          let front : get_or (items next) key [] ≡ get_or (items lists) key [] = ap (λ (ls : List (List Link)). get_or ls key []) is ∙ get_or-append (items lists) (one.items ∷ []) [] key within in
          subst Fits (sym front) (before key less)
    ]
