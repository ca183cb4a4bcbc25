-- A node that is read, and its places among those before.
use Rattle.std.proofs.Common.{◌≡◌, ℕ, Bool, true, false, List, ◌∷◌, map, Option, Some, None, refl, sym, ap, ap₂, ◌∙◌}
use Rattle.std.specs.Prelude.{not, codes, if◌then◌else◌}
use Rattle.circuit.specs.declared.Pos.{Pos}
use Rattle.graph.specs.Graph.{Node}
use Rattle.report.specs.declared.GraphKind.TheVariants.{Field, Range, Place}
use Rattle.report.specs.declared.GraphRefusal.TheVariants.{Node as NodeAt}
use Rattle.serde_json.specs.Data.{Data}
use Rattle.serde_json.specs.Find.{get}
use Rattle.graph_file.specs.declared.entries.NodeEntry.{NodeEntry}
use Rattle.graph_file.specs.declared.entries.Spot.{Spot}
use Rattle.graph_file.specs.Entries.{plain_place, plain_entry, with_also}
use Rattle.graph_file.specs.GraphFile.{is_node, is_repeated, node_cause}
use Rattle.graph_file.specs.Ranged.{if_so}
use Rattle.graph_file.specs.Reading.{bare_of, also_in, node_with, node_of}
use Rattle.graph_file.specs.Steps.{read_cause}
use Rattle.graph_file.proofs.SpotSteps.{none_so, some_so}

-- ---- what the value says

pub no_bare : (index : ℕ) (d : Data) → None ≡ bare_of d → read_cause index (node_of d) ≡ Some (NodeAt index Field)
no_bare index d h = sym (ap (λ (bare : Option Node). read_cause index (node_with bare (also_in (get (codes "also") d)))) h)

pub no_also : (index : ℕ) (d : Data) → None ≡ also_in (get (codes "also") d) → read_cause index (node_of d) ≡ Some (NodeAt index Field)
no_also index d h = sym (ap (λ (also : Option (List Pos)). read_cause index (node_with (bare_of d) also)) h) ∙ by_bare (bare_of d)
  where
    by_bare : (bare : Option Node) → read_cause index (node_with bare None) ≡ Some (NodeAt index Field)
    by_bare None = refl
    by_bare (Some node) = refl

pub node_said : (d : Data) (entry : NodeEntry) (spots : List Spot) → Some (plain_entry entry) ≡ bare_of d → Some (map plain_place spots) ≡ also_in (get (codes "also") d) → node_of d ≡ Some (with_also entry spots)
node_said d entry spots bare also = sym (ap₂ node_with bare also)

pub out_of_range : (index : ℕ) (d : Data) (node : Node) → node_of d ≡ Some node → None ≡ if_so (is_node node) node → read_cause index (node_of d) ≡ Some (NodeAt index Range)
out_of_range index d node said h = ap (read_cause index) said ∙ by_test (is_node node) (none_so (is_node node) node h)
  where
    by_test : (b : Bool) → b ≡ false → (if b then None else Some (NodeAt index Range)) ≡ Some (NodeAt index Range)
    by_test true e = absurd (cc)
    by_test false e = refl

pub in_range : (index : ℕ) (d : Data) (node found : Node) → node_of d ≡ Some node → Some found ≡ if_so (is_node node) node → (node_of d ≡ Some found) × (read_cause index (node_of d) ≡ None)
in_range index d node found said h =
    let both = some_so (is_node node) node found h in (
      said ∙ ap (λ (n : Node). Some n) (sym both.1),
      ap (read_cause index) said ∙ rw both.0 refl,
    )

-- ---- its places

fine : (index : ℕ) (node : Node) → read_cause index (Some node) ≡ None → is_node node ≡ true
fine index node h = by_test (is_node node) h
  where
    by_test : (b : Bool) → (if b then None else Some (NodeAt index Range)) ≡ None → b ≡ true
    by_test true e = refl
    by_test false e = absurd (cc)

pub place_taken : (index : ℕ) (seen : Pos → Bool) (found : Option Node) (node : Node) → found ≡ Some node → read_cause index found ≡ None → false ≡ not (is_repeated seen (node.pos ∷ node.also)) →
    node_cause index seen found ≡ Some (NodeAt index Place)
place_taken index seen found node said good twice =
    ap (node_cause index seen) said ∙ rw (fine index node (sym (ap (read_cause index) said) ∙ good), sure (is_repeated seen (node.pos ∷ node.also)) twice) refl
  where
    sure : (b : Bool) → false ≡ not b → b ≡ true
    sure true e = refl
    sure false e = absurd (cc)

pub place_free : (index : ℕ) (seen : Pos → Bool) (found : Option Node) (node : Node) → found ≡ Some node → read_cause index found ≡ None → true ≡ not (is_repeated seen (node.pos ∷ node.also)) →
    node_cause index seen found ≡ None
place_free index seen found node said good once =
    ap (node_cause index seen) said ∙ rw (fine index node (sym (ap (read_cause index) said) ∙ good), sure (is_repeated seen (node.pos ∷ node.also)) once) refl
  where
    sure : (b : Bool) → true ≡ not b → b ≡ false
    sure true e = absurd (cc)
    sure false e = refl
