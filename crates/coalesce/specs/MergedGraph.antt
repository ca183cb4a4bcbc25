-- What stands under each key after a merge.
use Rattle.std.proofs.Common.{◌≡◌, ◌≢◌, ℕ, List, [], ◌∷◌, Option, Some, None, refl, sym, ap, ◌∙◌, subst, map, set, inl, inr}
use Rattle.std.specs.Prelude.{option_map}
use Rattle.graph.specs.declared.Group.{Group}
use Rattle.graph.specs.declared.Group.TheVariants.{Back, Side}
use Rattle.graph.specs.declared.Link.{Link}
use Rattle.graph.specs.Graph.{Node, Nodes, node_at}
use Rattle.graph.specs.Readings.{reading}
use Rattle.graph.specs.GraphCircuit.{readings_at}
use Rattle.graph.specs.Edits.{change, renamed, renamed_link, standing_for, merge}
use Rattle.std.specs.Prelude.{◌==◌, if◌then◌else◌}
use Rattle.std.proofs.lemmas.Bool.{cases_eq, eq-eqb, ne_eqb}
use Rattle.graph.specs.AtKeys.{at_other, at_dropped, at_changed, at_mapped}

-- nothing stands under the key that went
pub at_gone : (g : Nodes) (keep gone : ℕ) → node_at (merge g keep gone) gone ≡ None
at_gone g keep gone =
    at_mapped (option_map (renamed keep gone)) refl (set (change (standing_for (node_at g gone)) g keep) gone None) gone
    ∙ ap (option_map (renamed keep gone)) (at_dropped (change (standing_for (node_at g gone)) g keep) gone)

-- The node of another key, which may stand for further places, with its links renamed.
abbrev pub stood : Nodes → ℕ → ℕ → ℕ → Option Node
stood g keep gone key = if key == keep then option_map (standing_for (node_at g gone)) (node_at g key) else node_at g key

pub at_kept : (g : Nodes) (keep gone key : ℕ) → key ≢ gone → node_at (merge g keep gone) key ≡ option_map (renamed keep gone) (stood g keep gone key)
at_kept g keep gone key n =
    at_mapped (option_map (renamed keep gone)) refl (set (change (standing_for (node_at g gone)) g keep) gone None) key
    ∙ ap (option_map (renamed keep gone)) (at_other (change (standing_for (node_at g gone)) g keep) gone None key n ∙ here)
  where
    here : node_at (change (standing_for (node_at g gone)) g keep) key ≡ stood g keep gone key
    here = elim (cases_eq key keep) [
      | inl e ↦ rw (eq-eqb key keep e) (subst (λ k. node_at (change (standing_for (node_at g gone)) g keep) k ≡ option_map (standing_for (node_at g gone)) (node_at g k)) (sym e) (at_changed (standing_for (node_at g gone)) g keep))
      | inr d ↦ rw (ne_eqb key keep d) (at_other g keep _ key d)
    ]

-- What doesn't look at links and further places sees no difference.
pub record IsBlind {A : Type 0} (f : Option Node → A) : Type 0 where
  pub links : (node : Node) (links : List Link) → f (Some (record node { links = links })) ≡ f (Some node)
  pub also : (node other : Node) → f (Some (standing_for (Some other) node)) ≡ f (Some node)

blind_standing : {A : Type 0} (f : Option Node → A) → IsBlind f → (other entry : Option Node) → f (option_map (standing_for other) entry) ≡ f entry
blind_standing f blind other None = refl
blind_standing f blind None (Some node) = refl
blind_standing f blind (Some other) (Some node) = blind.also node other

blind_stood : {A : Type 0} (f : Option Node → A) → IsBlind f → (g : Nodes) (keep gone key : ℕ) → f (stood g keep gone key) ≡ f (node_at g key)
blind_stood f blind g keep gone key = elim (cases_eq key keep) [
  | inl e ↦ rw (eq-eqb key keep e) (blind_standing f blind (node_at g gone) (node_at g key))
  | inr n ↦ rw (ne_eqb key keep n) refl
]

blind_renamed : {A : Type 0} (f : Option Node → A) → IsBlind f → (keep gone : ℕ) (entry : Option Node) → f (option_map (renamed keep gone) entry) ≡ f entry
blind_renamed f blind keep gone None = refl
blind_renamed f blind keep gone (Some node) = blind.links node (map (renamed_link keep gone) node.links)

pub blind_at : {A : Type 0} (f : Option Node → A) → IsBlind f → (g : Nodes) (keep gone key : ℕ) → key ≢ gone → f (node_at (merge g keep gone) key) ≡ f (node_at g key)
blind_at f blind g keep gone key n = ap f (at_kept g keep gone key n) ∙ blind_renamed f blind keep gone (stood g keep gone key) ∙ blind_stood f blind g keep gone key

-- Where both names give the same, a node reads by renamed links what it reads by its own.
reading-renamed : (keep gone : ℕ) (given2 given1 : ℕ → ℕ) → given1 gone ≡ given1 keep → ((k : ℕ) → k ≢ gone → given2 k ≡ given1 k) → keep ≢ gone → (group : Group) (links : List Link) →
    reading given2 group (map (renamed_link keep gone) links) ≡ reading given1 group links
reading-renamed keep gone given2 given1 twin same n group [] = refl
reading-renamed keep gone given2 given1 twin same n group (link ∷ links) =
    let here : given2 (if link.from == gone then keep else link.from) ≡ given1 link.from = elim (cases_eq link.from gone) [
      | inl e ↦ rw (eq-eqb link.from gone e) (same keep n ∙ sym twin ∙ ap given1 (sym e))
      | inr d ↦ rw (ne_eqb link.from gone d) (same link.from d)
    ] in
    rw (here, reading-renamed keep gone given2 given1 twin same n group links) refl

readings-renamed : (keep gone : ℕ) (given2 given1 : ℕ → ℕ) → given1 gone ≡ given1 keep → ((k : ℕ) → k ≢ gone → given2 k ≡ given1 k) → keep ≢ gone → (entry : Option Node) →
    readings_at given2 (option_map (renamed keep gone) entry) ≡ readings_at given1 entry
readings-renamed keep gone given2 given1 twin same n None = refl
readings-renamed keep gone given2 given1 twin same n (Some node) =
    rw (reading-renamed keep gone given2 given1 twin same n Back node.links, reading-renamed keep gone given2 given1 twin same n Side node.links) refl

readings_standing : (given : ℕ → ℕ) (other entry : Option Node) → readings_at given (option_map (standing_for other) entry) ≡ readings_at given entry
readings_standing given other None = refl
readings_standing given None (Some node) = refl
readings_standing given (Some other) (Some node) = refl

pub readings_kept : (g : Nodes) (keep gone : ℕ) (given2 given1 : ℕ → ℕ) → keep ≢ gone → given1 gone ≡ given1 keep → ((k : ℕ) → k ≢ gone → given2 k ≡ given1 k) → (key : ℕ) → key ≢ gone →
    readings_at given2 (node_at (merge g keep gone) key) ≡ readings_at given1 (node_at g key)
readings_kept g keep gone given2 given1 n twin same key m =
    ap (readings_at given2) (at_kept g keep gone key m) ∙ readings-renamed keep gone given2 given1 twin same n (stood g keep gone key)
    ∙ elim (cases_eq key keep) [
      | inl e ↦ rw (eq-eqb key keep e) (readings_standing given1 (node_at g gone) (node_at g key))
      | inr d ↦ rw (ne_eqb key keep d) refl
    ]
