-- The links of a compiled graph stand in their groups.
use Rattle.std.proofs.Common.{◌≡◌, List, [], ◌∷◌, ◌++◌, map, filter, Option, Some, None, refl, ap, ap₂, ◌∙◌, subst, cond}
use Rattle.circuit.specs.declared.Pos.{Pos}
use Rattle.build.specs.Plan.{Plan, block_at}
use Rattle.graph.specs.declared.Group.{Group}
use Rattle.graph.specs.declared.Group.TheVariants.{Back, Side}
use Rattle.graph.specs.declared.Link.{Link}
use Rattle.graph.specs.Edits.{renamed_link}
use Rattle.graph.specs.Graph.{Node, Nodes}
use Rattle.graph.specs.Links.{is_group, of_group, in_groups, IsInGroups}
use Rattle.graph.specs.RawNodes.{node_places}
use Rattle.graph.proofs.GroupSteps.{in_groups-remove, in_groups-renamed}
use Rattle.input_search.specs.Links.{back_links_of, side_links_of}
use Rattle.input_search.specs.Raw.{link_of, links_of}
use Rattle.compiler.specs.declared.Keep.{Keep}
use Rattle.compiler.specs.Compiled.{prunes, Compiled}
use Rattle.compiler.proofs.BuildPlaces.{raw_entries}
use Rattle.compiler.proofs.EachNode.{EachEntry, IsKept, steps_keep}

abbrev IsGrouped : Option Node → Type 0
IsGrouped None = Unit {0}
IsGrouped (Some node) = in_groups node.links ≡ node.links

groups_kept : IsKept IsGrouped
groups_kept = record {
  nothing = tt;
  unlinked = λ node index h. in_groups-remove node.links index h;
  folds = λ node value h. refl;
  stands = λ node other same h k. h;
  renames = λ node keep gone h. in_groups-renamed keep gone node.links ∙ ap (map (renamed_link keep gone)) h;
}

-- what a group has of a link and of others
passed : (group : Group) (link : Link) (rest : List Link) (own : Group) → link.group ≡ own → cond (of_group group link) (link ∷ rest) rest ≡ cond (is_group group own) (link ∷ rest) rest
passed group link rest own e = ap (λ it. cond (is_group group it) (link ∷ rest) rest) e

-- links of the back and then of the side
module _ {A : Type 0} (back side : A → Link) (is_back : (x : A) → (back x).group ≡ Back) (is_side : (x : A) → (side x).group ≡ Side) where
  no_back : (sides : List A) → filter (of_group Back) (map side sides) ≡ []
  no_back [] = refl
  no_back (x ∷ sides) = passed Back (side x) (filter (of_group Back) (map side sides)) Side (is_side x) ∙ no_back sides

  all_sides : (sides : List A) → filter (of_group Side) (map side sides) ≡ map side sides
  all_sides [] = refl
  all_sides (x ∷ sides) = passed Side (side x) (filter (of_group Side) (map side sides)) Side (is_side x) ∙ ap (λ rest. side x ∷ rest) (all_sides sides)

  grouped : (backs sides : List A) → in_groups (map back backs ++ map side sides) ≡ map back backs ++ map side sides
  grouped [] sides = λ i. no_back sides i ++ all_sides sides i
  grouped (x ∷ backs) sides =
      ap₂ (λ front behind. front ++ behind)
      (passed Back (back x) (filter (of_group Back) (map back backs ++ map side sides)) Back (is_back x))
      (passed Side (back x) (filter (of_group Side) (map back backs ++ map side sides)) Back (is_back x))
      ∙ ap (λ rest. back x ∷ rest) (grouped backs sides)

links_grouped : (b : Plan) (places : List Pos) (p : Pos) → in_groups (links_of b places p) ≡ links_of b places p
unfolding links_of
links_grouped b places p = grouped (link_of places Back) (link_of places Side) (λ x. refl) (λ x. refl) (back_links_of b p (block_at b p)) (side_links_of b p (block_at b p))

pub compiled_grouped : (b : Plan) (marks : List Pos) (keep : Keep) (g : Nodes) → Compiled b marks keep g → IsInGroups g
compiled_grouped b marks keep g c key node there = subst IsGrouped there (each key)
  where
    each : EachEntry IsGrouped g
    each = steps_keep IsGrouped groups_kept (prunes keep) c.steps (raw_entries IsGrouped b marks tt (λ p h. links_grouped b (node_places b marks) p))
