-- Where the nodes of a compiled graph stand in its build, and what stands there.
use Rattle.std.proofs.Common.{◌≡◌, ◌≢◌, ℕ, suc, true, false, List, [], ◌∷◌, ◌++◌, Option, Some, None, Bool, refl, sym, ◌∙◌, subst}
use Rattle.block_table.specs.declared.Block.{Block}
use Rattle.block_table.specs.declared.Block.TheVariants.{Air, Wire as WireBlock}
use Rattle.circuit.specs.declared.Component.{Component}
use Rattle.circuit.specs.declared.Pos.{Pos}
use Rattle.circuit.specs.Circuit.{Each}
use Rattle.circuit.specs.KeySteps.{each_as}
use Rattle.build.specs.Marks.{is_marked}
use Rattle.build.specs.Near.{near_inside}
use Rattle.build.specs.Places.{in_box-not_outside}
use Rattle.build.specs.Plan.{Plan, IsWhole, IsNear, in_box, block_at}
use Rattle.build.specs.Roles.{role_of as block_role, role_at}
use Rattle.graph.specs.declared.Kind.{Kind}
use Rattle.graph.specs.declared.Kind.TheVariants.{Constant}
use Rattle.graph.specs.Graph.{Node, Nodes, node_at}
use Rattle.graph.specs.GraphCircuit.{role_of}
use Rattle.graph.specs.RawNodes.{has_node, kind_of, bare_node, node_places}
use Rattle.graph.specs.Sound.{places_at, places_of}
use Rattle.input_search.specs.Raw.{linked_node, raw}
use Rattle.input_search.proofs.RawLaws.{At_place, each-among, node-here}
use Rattle.input_search.proofs.RawWorld.{kind-role, node_place-has}
use Rattle.input_search.proofs.Shown.{taken}
use Rattle.compiler.specs.declared.Keep.{Keep}
use Rattle.compiler.specs.Compiled.{prunes, Compiled}
use Rattle.compiler.specs.NodePlace.{IsNodePlace}
use Rattle.compiler.specs.PlaceOrder.{IsPlaceOf}
use Rattle.compiler.proofs.EachNode.{EachEntry, IsKept, steps_keep}

-- ---- places by the kinds of their nodes

each_both : (P : Pos → Type 0) (xs ys : List Pos) → Each P xs → Each P ys → Each P (xs ++ ys)
each_both P [] ys e f = f
each_both P (x ∷ xs) ys e f = (e.0, each_both P xs ys e.1 f)

-- each place of the node is so, by its kind
abbrev EachPlace : (Kind → Pos → Type 0) → Option Node → Type 0
EachPlace P None = Unit {0}
EachPlace P (Some node) = Each (P node.kind) (places_at (Some node))

places_kept : (P : Kind → Pos → Type 0) → ((kind : Kind) (p : Pos) → P kind p → P Constant p) → IsKept (EachPlace P)
places_kept P folds = record {
  nothing = tt;
  unlinked = λ node index e. e;
  folds = λ node value e. each_as (P node.kind) (P Constant) (folds node.kind) (places_at (Some node)) e;
  stands = λ node other same e f. each_both (P node.kind) (places_at (Some node)) (places_at (Some other)) e (subst (λ kind. Each (P kind) (places_at (Some other))) (sym same) f);
  renames = λ node keep gone e. e;
}

-- ---- the raw graph

-- what holds of each of its nodes
pub raw_entries : (P : Option Node → Type 0) (b : Plan) (marks : List Pos) → P None →
    ((p : Pos) → has_node b marks p ≡ true → P (Some (linked_node b marks (node_places b marks) p))) → EachEntry P (raw b marks)
raw_entries P b marks none h key = by_entry (node_at (raw b marks) key) refl
  where
    by_entry : (entry : Option Node) → node_at (raw b marks) key ≡ entry → P entry
    by_entry None e = none
    by_entry (Some node) e =
        let r : At_place (linked_node b marks (node_places b marks)) (node_places b marks) key node = node-here b marks key node e in
        subst (λ (n : Node). P (Some n)) (sym r.stands) (h r.place (node_place-has b marks r.place r.is_in))

linked_place : (P : Kind → Pos → Type 0) (b : Plan) (marks all : List Pos) (p : Pos) → P (kind_of b p (block_at b p)) p → EachPlace P (Some (linked_node b marks all p))
unfolding bare_node
linked_place P b marks all p h = (h, tt)

compiled_kept : (P : Kind → Pos → Type 0) → ((kind : Kind) (p : Pos) → P kind p → P Constant p) → (b : Plan) (marks : List Pos) (keep : Keep) (g : Nodes) →
    ((p : Pos) → has_node b marks p ≡ true → P (kind_of b p (block_at b p)) p) → Compiled b marks keep g → EachEntry (EachPlace P) g
compiled_kept P folds b marks keep g begins c =
    steps_keep (EachPlace P) (places_kept P folds) (prunes keep) c.steps
    (raw_entries (EachPlace P) b marks tt (λ p h. linked_place P b marks (node_places b marks) p (begins p h)))

-- ---- where they stand

node_inside : (b : Plan) (marks : List Pos) (p : Pos) → has_node b marks p ≡ true → in_box b p ≡ true
unfolding has_node
node_inside b marks p h = in_box-not_outside b b.blocks Air (taken (is_marked marks p)) p refl h

each_place : (P : Pos → Type 0) (g : Nodes) → ((key : ℕ) → EachPlace (λ kind. P) (node_at g key)) → Each P (places_of g)
each_place P [] h = tt
each_place P (None ∷ g) h = each_place P g (λ key. h (suc key))
each_place P (Some node ∷ g) h = each_both P (places_at (Some node)) (places_of g) (h 0) (each_place P g (λ key. h (suc key)))

pub compiled_stands : (b : Plan) (marks : List Pos) (keep : Keep) (g : Nodes) → Compiled b marks keep g → Each (IsNodePlace b marks) (places_of g)
compiled_stands b marks keep g c =
    each_place (IsNodePlace b marks) g
    (compiled_kept (λ kind. IsNodePlace b marks) (λ kind p h. h) b marks keep g (λ p h. record { inside = node_inside b marks p h; node = h }) c)

pub compiled_near : (b : Plan) → IsWhole b → (marks : List Pos) (keep : Keep) (g : Nodes) → Compiled b marks keep g → Each (IsNear 0) (places_of g)
compiled_near b whole marks keep g c =
    each_as (IsNodePlace b marks) (IsNear 0) (λ p h. near_inside b p (record { width = whole.narrow; height = whole.low; depth = whole.shallow }) h.inside) (places_of g)
    (compiled_stands b marks keep g c)

-- ---- what stands there

abbrev IsPart : Plan → List Pos → Kind → Pos → Type 0
IsPart b marks kind p = kind ≢ Constant → role_at b marks p ≡ role_of kind

raw_part : (b : Plan) (marks : List Pos) (p : Pos) → has_node b marks p ≡ true → role_at b marks p ≡ role_of (kind_of b p (block_at b p))
unfolding has_node role_at
raw_part b marks p h = sym (kind-role b p (block_at b p) (is_marked marks p) h)

pub compiled_parts : (b : Plan) (marks : List Pos) (keep : Keep) (g : Nodes) → Compiled b marks keep g → (key : ℕ) (p : Pos) (s : IsPlaceOf g key p) → role_at b marks p ≡ role_of s.node.kind
compiled_parts b marks keep g c key p s =
    let each : EachPlace (IsPart b marks) (node_at g key) = compiled_kept (IsPart b marks) (λ kind q h n. absurd (n refl)) b marks keep g (λ q h n. raw_part b marks q h) c key in
    let here : EachPlace (IsPart b marks) (Some s.node) = subst (EachPlace (IsPart b marks)) s.there each in
    each-among (IsPart b marks s.node.kind) (places_at (Some s.node)) p here s.stands s.moves

-- a block that is a component is the same where it is marked
marked_part : (marked : Bool) (k : Block) (component : Component) → block_role marked k ≡ Some component → block_role true k ≡ Some component
marked_part true k component h = h
marked_part false (WireBlock north east south west power) component h = absurd (cc)
marked_part false _ component h = h

place_part : (b : Plan) (marks : List Pos) (p : Pos) (component : Component) → role_at b marks p ≡ Some component → block_role true (block_at b p) ≡ Some component
unfolding role_at
place_part b marks p component h = marked_part (is_marked marks p) (block_at b p) component h

constant_of : (kind : Kind) → role_of kind ≡ None → kind ≡ Constant
constant_of Constant e = refl
constant_of _ e = absurd (cc)

pub compiled_blocks : (b : Plan) (marks : List Pos) (keep : Keep) (g : Nodes) → Compiled b marks keep g → (key : ℕ) (p : Pos) (s : IsPlaceOf g key p) → block_role true (block_at b p) ≡ role_of s.node.kind
compiled_blocks b marks keep g c key p s = by_part (role_of s.node.kind) refl (compiled_parts b marks keep g c key p s)
  where
    by_part : (role : Option Component) → role_of s.node.kind ≡ role → role_at b marks p ≡ role → block_role true (block_at b p) ≡ role_of s.node.kind
    by_part None e h = absurd (s.moves (constant_of s.node.kind e))
    by_part (Some component) e h = place_part b marks p component h ∙ sym e
