-- Stored nodes seen as plain data.
use Rattle.std.proofs.Common.{◌≡◌, ℕ, zero, suc, ◌<◌, ◌≤◌, ◌^◌, List, [], ◌∷◌, Option, Some, None, refl, sym, ap, ◌∙◌, map, length, get_or, arith}
use Rattle.std.specs.Prelude.{option_map}
use Rattle.node_arena.specs.Items.{keys_from}
use Rattle.graph.specs.declared.Node.{Node as StoredNode}
use Rattle.graph.specs.Graph.{Node, Nodes, node_at, links_into}
use Rattle.graph.specs.Stored.{plain, plain_nodes, IsStored}

-- the keys that hold something are those that hold its image
pub keys-map : {A B : Type 0} (f : A → B) (from : ℕ) (entries : List (Option A)) → keys_from from (map (option_map f) entries) ≡ keys_from from entries
keys-map f from [] = refl
keys-map f from (None ∷ entries) = keys-map f (suc from) entries
keys-map f from (Some x ∷ entries) = ap (λ keys. from ∷ keys) (keys-map f (suc from) entries)

-- what stands under a key, as plain data
pub node_at-plain : (entries : List (Option StoredNode)) (key : ℕ) → node_at (plain_nodes entries) key ≡ option_map plain (get_or entries key None)
node_at-plain [] key = refl
node_at-plain (n ∷ entries) zero = refl
node_at-plain (n ∷ entries) (suc key) = node_at-plain entries key

-- what is there stands at an index
pub below_length : {A : Type 0} (g : List (Option A)) (key : ℕ) (x : A) → get_or g key None ≡ Some x → key < length g
below_length [] key x h = absurd (cc)
below_length (n ∷ g) zero x h = omega arith
below_length (n ∷ g) (suc key) x h = omega (arith, below_length g key x h)

-- no node has too many links to be counted
pub links_into-le : (g : Nodes) → IsStored g → (key : ℕ) → links_into (node_at g key) ≤ 2 ^ 32
links_into-le g stored key = by_entry (node_at g key) (stored.few key)
  where
    by_entry : (entry : Option Node) → ((node : Node) → entry ≡ Some node → length node.links ≤ 2 ^ 32) → links_into entry ≤ 2 ^ 32
    by_entry None h = omega arith
    by_entry (Some node) h = h node refl

-- what was read of an arena is the node under the key
pub entry_is : (entries : List (Option StoredNode)) (number key : ℕ) (read : Option StoredNode) → read ≡ get_or entries key None → key ≡ number → option_map plain read ≡ node_at (plain_nodes entries) number
entry_is entries number key read e k = ap (option_map plain) (e ∙ ap (λ n. get_or entries n None) k) ∙ sym (node_at-plain entries number)
