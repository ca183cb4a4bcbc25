-- A text of all nodes, one after another.
use Rattle.std.proofs.Common.{◌≡◌, ℕ, ◌+◌, ◌<◌, List, ◌++◌, None, refl, sym, ap, ◌∙◌, drop, length, append_assoc, add-one}
use Rattle.std.proofs.Math.Seq.{drop-cons}
use Rattle.graph.specs.Graph.{Node, Nodes, node_at}
use Rattle.graph.specs.GraphText.{entry_text, texts_from}

-- the first of those that are left comes first
pub texts_next : (text : ℕ → Node → List ℕ) (g : Nodes) (key : ℕ) → key < length g → texts_from text key (drop key g) ≡ entry_text text key (node_at g key) ++ texts_from text (key + 1) (drop (key + 1) g)
texts_next text g key h = rw (add-one, drop-cons g key None h) refl

-- so a text that has this one more has the others after it
pub texts_more : (text : ℕ → Node → List ℕ) (g : Nodes) (key : ℕ) (begun all more : List ℕ) → key < length g → begun ++ texts_from text key (drop key g) ≡ all →
    more ≡ begun ++ entry_text text key (node_at g key) → more ++ texts_from text (key + 1) (drop (key + 1) g) ≡ all
texts_more text g key begun all more h e m =
    ap (λ xs. xs ++ texts_from text (key + 1) (drop (key + 1) g)) m ∙ append_assoc begun (entry_text text key (node_at g key)) (texts_from text (key + 1) (drop (key + 1) g))
    ∙ ap (λ xs. begun ++ xs) (sym (texts_next text g key h)) ∙ e
