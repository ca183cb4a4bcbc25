-- At each place of a sound graph stands one node, so that its kind answers for all nodes.
use Rattle.std.proofs.Common.{◌≡◌, ◌≢◌, ℕ, zero, suc, ◌≤◌, Bool, true, false, cond, List, [], ◌∷◌, ◌++◌, drop, Option, Some, None, refl, sym, ap, ◌∙◌, arith, inl, inr}
use Rattle.std.specs.Prelude.{◌&&◌, ◌||◌}
use Rattle.std.specs.List.{list_any}
use Rattle.std.proofs.Math.Path.{fun_ext}
use Rattle.std.proofs.lemmas.Bool.{cases_Bool}
use Rattle.circuit.specs.declared.Click.{Click}
use Rattle.circuit.specs.declared.Pos.{Pos}
use Rattle.circuit.specs.Circuit.{Each, EachBefore}
use Rattle.graph.specs.Clicks.{answers, answers_at, is_same_place, is_wire, is_wire_at as is_wire_entry}
use Rattle.graph.specs.declared.Kind.{Kind}
use Rattle.graph.specs.Graph.{Node, Nodes, node_at}
use Rattle.graph.specs.Sound.{IsSound, places_of}
use Rattle.graph_file.specs.Placed.{with_kind, kind_at, kind_answers, kind_takes, is_wire_kind}
use Rattle.graph_file.specs.Targets.{is_weighable, takes_click, is_wire_at}
use Rattle.graph_file.proofs.SeenSteps.{place_one}

-- ---- from the last key to the first

pub kind_step : (key : ℕ) (g : Nodes) (place : Pos) → kind_at (drop key g) place ≡ with_kind (node_at g key) place (kind_at (drop (suc key) g) place)
kind_step zero [] place = refl
kind_step (suc key) [] place = refl
kind_step zero (entry ∷ g) place = refl
kind_step (suc key) (entry ∷ g) place = kind_step key g place

kind_none : (g : Nodes) → ((key : ℕ) → node_at g key ≡ None) → (place : Pos) → kind_at g place ≡ None
kind_none [] none place = refl
kind_none (None ∷ g) none place = kind_none g (λ key. none (suc key)) place
kind_none (Some node ∷ g) none place = absurd (let n = none 0 in cc)

pub kind_past : (count : ℕ) (g : Nodes) → ((key : ℕ) → count ≤ key → node_at g key ≡ None) → (place : Pos) → kind_at (drop count g) place ≡ None
kind_past zero g past place = kind_none g (λ key. past key (omega arith)) place
kind_past (suc count) [] past place = refl
kind_past (suc count) (entry ∷ g) past place = kind_past count g (λ key h. past (suc key) (omega arith)) place

-- ---- one node answers for all

each_right : (P : Pos → Type 0) (xs ys : List Pos) → Each P (xs ++ ys) → Each P ys
each_right P [] ys e = e
each_right P (x ∷ xs) ys e = each_right P xs ys e.1

before_right : (R : Pos → Pos → Type 0) (xs ys : List Pos) → EachBefore R (xs ++ ys) → EachBefore R ys
before_right R [] ys e = e
before_right R (x ∷ xs) ys e = before_right R xs ys e.1

-- a test of entries that asks for the place and for something of the kind
record IsTest (test : Option Node → Bool) (place : Pos) (of_kind : Kind → Bool) : Type 0 where
  none : test None ≡ false
  some : (node : Node) → test (Some node) ≡ (is_same_place node.pos place && of_kind node.kind)

abbrev found_kind : (Kind → Bool) → Option Kind → Bool
found_kind of_kind None = false
found_kind of_kind (Some kind) = of_kind kind

none_there : (test : Option Node → Bool) (place : Pos) (of_kind : Kind → Bool) → IsTest test place of_kind → (p : Pos) → p ≡ place → (g : Nodes) → Each (λ q. p ≢ q) (places_of g) → list_any test g ≡ false
none_there test place of_kind is p here [] apart = refl
none_there test place of_kind is p here (None ∷ g) apart = rw is.none (none_there test place of_kind is p here g apart)
none_there test place of_kind is p here (Some node ∷ g) apart = elim (cases_Bool (is_same_place node.pos place)) [
  | inl same ↦ absurd (apart.0 (here ∙ sym (place_one node.pos place same)))
  | inr differ ↦ (let first : test (Some node) ≡ false = is.some node ∙ ap (λ b. b && of_kind node.kind) differ in rw first (none_there test place of_kind is p here g (each_right (λ q. p ≢ q) node.also (places_of g) apart.1)))
]

or_false : (b : Bool) → (b || false) ≡ b
or_false true = refl
or_false false = refl

one_answers : (test : Option Node → Bool) (place : Pos) (of_kind : Kind → Bool) → IsTest test place of_kind → (g : Nodes) → EachBefore (λ a b. a ≢ b) (places_of g) → found_kind of_kind (kind_at g place) ≡ list_any test g
one_answers test place of_kind is [] apart = refl
one_answers test place of_kind is (None ∷ g) apart = rw is.none (one_answers test place of_kind is g apart)
one_answers test place of_kind is (Some node ∷ g) apart = elim (cases_Bool (is_same_place node.pos place)) [
  | inl same ↦ (
      let others : list_any test g ≡ false = none_there test place of_kind is node.pos (place_one node.pos place same) g (each_right (λ q. node.pos ≢ q) node.also (places_of g) apart.0) in
      let first : test (Some node) ≡ of_kind node.kind = is.some node ∙ ap (λ b. b && of_kind node.kind) same in
      ap (λ b. found_kind of_kind (cond b (Some node.kind) (kind_at g place))) same ∙ sym (or_false (of_kind node.kind)) ∙ ap (λ b. b || false) (sym first) ∙ ap (λ b. test (Some node) || b) (sym others)
      )
  | inr differ ↦ (
      let first : test (Some node) ≡ false = is.some node ∙ ap (λ b. b && of_kind node.kind) differ in
      ap (λ b. found_kind of_kind (cond b (Some node.kind) (kind_at g place))) differ ∙ one_answers test place of_kind is g (before_right (λ a b. a ≢ b) node.also (places_of g) apart.1) ∙ ap (λ b. b || list_any test g) (sym first)
      )
]

answers_found : (found : Option Kind) (click : Click) → kind_answers found click ≡ found_kind (λ kind. answers kind click) found
answers_found None click = refl
answers_found (Some kind) click = refl

wire_found : (found : Option Kind) → is_wire_kind found ≡ found_kind is_wire found
wire_found None = refl
wire_found (Some kind) = refl

pub takes_placed : (g : Nodes) → IsSound g → (find : Pos → Option Kind) → ((place : Pos) → find place ≡ kind_at g place) → (λ (place : Pos) (click : Click). kind_takes (find place) click) ≡ takes_click g
takes_placed g sound find is = fun_ext (λ place. fun_ext (λ click. at place click))
  where
    at : (place : Pos) (click : Click) → kind_takes (find place) click ≡ takes_click g place click
    at place click =
        ap (λ found. kind_takes found click) (is place)
        ∙ ap (λ b. is_weighable click && b) (answers_found (kind_at g place) click ∙ one_answers (λ entry. answers_at entry place click) place (λ kind. answers kind click) (record { none = refl; some = λ node. refl }) g sound.apart)

pub wire_placed : (g : Nodes) → IsSound g → (find : Pos → Option Kind) → ((place : Pos) → find place ≡ kind_at g place) → (λ (place : Pos). is_wire_kind (find place)) ≡ is_wire_at g
wire_placed g sound find is = fun_ext at
  where
    at : (place : Pos) → is_wire_kind (find place) ≡ is_wire_at g place
    at place = ap is_wire_kind (is place) ∙ wire_found (kind_at g place) ∙ one_answers (λ entry. is_wire_entry entry place) place is_wire (record { none = refl; some = λ node. refl }) g sound.apart
