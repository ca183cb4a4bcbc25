-- The keys of a graph are told apart, and listed once each.
use Rattle.std.proofs.Common.{◌≡◌, ◌≢◌, ℕ, zero, suc, ◌+◌, ◌<◌, [], ◌∷◌, Option, Some, None, refl, subst, arith, inl, inr}
use Rattle.std.specs.Prelude.{◌==◌}
use Rattle.std.proofs.lemmas.Bool.{eqb-true, eq-eqb}
use Rattle.node_arena.specs.Items.{keys_from, keys_of}
use Rattle.circuit.specs.declared.Component.{Component}
use Rattle.circuit.specs.Circuit.{Each, EachBefore, Among}
use Rattle.circuit.specs.Keys.{IsTest, IsListed}
use Rattle.graph.specs.Graph.{Node, Nodes, node_at, Lives}
use Rattle.graph.specs.Edits.{IsClosed}
use Rattle.graph.specs.GraphCircuit.{role_at, graph_circuit}

pub test_of_keys : IsTest (λ (a : ℕ) (b : ℕ). a == b)
test_of_keys = record { itself = λ a. eq-eqb a a refl; one = λ a b. eqb-true a b }

pub among_keys : (from key : ℕ) (g : Nodes) (node : Node) → node_at g key ≡ Some node → Among (keys_from from g) (from + key)
among_keys from key [] node h = absurd (cc)
among_keys from zero (None ∷ g) node h = absurd (cc)
among_keys from zero (Some n ∷ g) node h = inl (omega arith)
among_keys from (suc key) (None ∷ g) node h = subst (Among (keys_from (suc from) g)) (omega arith) (among_keys (suc from) key g node h)
among_keys from (suc key) (Some n ∷ g) node h = inr (subst (Among (keys_from (suc from) g)) (omega arith) (among_keys (suc from) key g node h))

keys_above : (low from : ℕ) (g : Nodes) → low < from → Each (λ key. low ≢ key) (keys_from from g)
keys_above low from [] h = tt
keys_above low from (None ∷ g) h = keys_above low (suc from) g (omega arith)
keys_above low from (Some n ∷ g) h = ((λ e. absurd (omega arith)), keys_above low (suc from) g (omega arith))

keys_once : (from : ℕ) (g : Nodes) → EachBefore (λ a b. a ≢ b) (keys_from from g)
keys_once from [] = tt
keys_once from (None ∷ g) = keys_once (suc from) g
keys_once from (Some n ∷ g) = (keys_above from (suc from) g (omega arith), keys_once (suc from) g)

pub graph_is_listed : (g : Nodes) → IsListed (graph_circuit g) (keys_of g)
graph_is_listed g = record { all = λ key component e. by_entry key component (node_at g key) refl e; once = keys_once 0 g }
  where
    by_entry : (key : ℕ) (component : Component) (entry : Option Node) → node_at g key ≡ entry → role_at entry ≡ Some component → Among (keys_of g) key
    by_entry key component None e role = absurd (cc)
    by_entry key component (Some node) e role = subst (Among (keys_of g)) (omega arith) (among_keys 0 key g node e)

-- all keys together are closed
keys_live : (from : ℕ) (more whole : Nodes) → ((key : ℕ) (node : Node) → node_at more key ≡ Some node → node_at whole (from + key) ≡ Some node) → Each (Lives whole) (keys_from from more)
keys_live from [] whole h = tt
keys_live from (None ∷ more) whole h = keys_live (suc from) more whole (λ key node e. subst (λ k. node_at whole k ≡ Some node) (omega arith) (h (suc key) node e))
keys_live from (Some n ∷ more) whole h = (
  (let e : node_at whole (from + 0) ≡ Some n = h 0 n refl in let s : from + 0 ≡ from = omega arith in let here : node_at whole from ≡ Some n = subst (λ k. node_at whole k ≡ Some n) s e in rw here refl),
  keys_live (suc from) more whole (λ key node e. subst (λ k. node_at whole k ≡ Some node) (omega arith) (h (suc key) node e)),
)

keys_beyond : (low from : ℕ) (g : Nodes) → low < from → Each (λ key. low < key) (keys_from from g)
keys_beyond low from [] h = tt
keys_beyond low from (None ∷ g) h = keys_beyond low (suc from) g (omega arith)
keys_beyond low from (Some n ∷ g) h = (h, keys_beyond low (suc from) g (omega arith))

keys_rise : (from : ℕ) (g : Nodes) → EachBefore (λ a b. a < b) (keys_from from g)
keys_rise from [] = tt
keys_rise from (None ∷ g) = keys_rise (suc from) g
keys_rise from (Some n ∷ g) = (keys_beyond from (suc from) g (omega arith), keys_rise (suc from) g)

pub all_keys_closed : (g : Nodes) → IsClosed g (keys_of g)
all_keys_closed g = record {
  live = keys_live 0 g g (λ key node e. subst (λ k. node_at g k ≡ Some node) (omega arith) e);
  rise = keys_rise 0 g;
  closed = λ key index link has among. subst (Among (keys_of g)) (omega arith) (among_keys 0 key g has.node has.there);
}
