-- What the counts and the links of a started machine say of its graph.
use Rattle.std.proofs.Common.{◌≡◌, ℕ, zero, suc, ◌<◌, ◌≤◌, Bool, true, false, List, [], ◌∷◌, length, set, map, Option, Some, None, refl, sym, ap, ◌∙◌, subst, arith, inl, inr}
use Rattle.std.proofs.Math.Path.{fun_ext}
use Rattle.std.specs.Prelude.{◌==◌, ◌&&◌, count_by}
use Rattle.std.proofs.lemmas.Bool.{cases_eq, cases_lt, ne_eqb}
use Rattle.std.proofs.lemmas.List.{get_or-set_same, get_or-set_other}
use Rattle.std.proofs.Math.ListN.{get_or-map}
use Rattle.circuit.specs.declared.Readings.{Readings}
use Rattle.graph.specs.declared.Group.{Group}
use Rattle.graph.specs.declared.Group.TheVariants.{Back, Side}
use Rattle.graph.specs.declared.Link.{Link}
use Rattle.graph.specs.declared.Kind.{Kind}
use Rattle.graph.specs.declared.Kind.TheVariants.{Lever, Button, Plate, Weighted, Torch, Repeater, Comparator, Lamp, Trapdoor, Note, Wire, Constant}
use Rattle.graph.specs.Graph.{Node, Nodes, node_at}
use Rattle.graph.specs.Readings.{reading, back_of}
use Rattle.graph.specs.GraphCircuit.{readings_at}
use Rattle.link_counts.specs.declared.counts.Counts.{Counts}
use Rattle.graph_machine.specs.declared.links.OutLink.{OutLink}
use Rattle.graph_machine.specs.declared.net.Part.{Part}
use Rattle.graph_machine.specs.declared.net.Brief.{Brief}
use Rattle.graph_machine.specs.Outgoing.{links_at, links_from}
use Rattle.link_counts.specs.Counted.{one_if, count_at, tally}
use Rattle.graph_machine.specs.Counted.{is_strength, brings, IsCounted, row, hits, comes, IsTurned}
use Rattle.graph_machine.specs.Wired.{given, part_at, rule_of, back_by, brief_by, targets_of, targets_in, IsWired, IsTarget, AreTargets, IsGreatest, ReadsBy}
use Rattle.graph_machine.proofs.CountSteps.{count_cons, reading_is, counts_change, comes-le, Moved}

-- the greatest strength that is counted is the reading
greatest_is : (given : ℕ → ℕ) (group : Group) (links : List Link) (counts : Counts) (strength : ℕ) → ((key : ℕ) → given key < 16) →
    ((s : ℕ) → s < 16 → count_at counts group s ≡ count_by (brings given group s) links) → IsGreatest counts group strength → strength ≡ reading given group links
greatest_is given group links counts strength small counted greatest = reading_is given group strength links small
    (λ some. subst (λ n. 0 < n) (counted strength greatest.small) (greatest.some some))
    (λ other above below. sym (counted other below) ∙ greatest.none other above below)

-- the rule gives the back reading
rule_is : (kind : Kind) (power : ℕ) → back_by (rule_of kind) power ≡ back_of kind power
rule_is (Comparator subtract (Some direct) far) power = refl
rule_is (Comparator subtract None (Some far)) power = refl
rule_is (Comparator subtract None None) power = refl
rule_is Lever power = refl
rule_is (Button delay) power = refl
rule_is Plate power = refl
rule_is Weighted power = refl
rule_is Torch power = refl
rule_is (Repeater delay) power = refl
rule_is Lamp power = refl
rule_is Trapdoor power = refl
rule_is Note power = refl
rule_is Wire power = refl
rule_is Constant power = refl

-- nothing is counted where no link is
greatest_none : (counts : Counts) (group : Group) (strength : ℕ) → ((s : ℕ) → s < 16 → count_at counts group s ≡ 0) → IsGreatest counts group strength → strength ≡ 0
greatest_none counts group strength none greatest = elim (cases_lt 0 strength) [
  | inl above ↦ absurd (omega (arith, greatest.some above, none strength greatest.small))
  | inr nothing ↦ omega arith
]

pub readings_are : (given : ℕ → ℕ) (entry : Option Node) (brief : Brief) (counts : Counts) (readings : Readings) → ((key : ℕ) → given key < 16) → brief ≡ brief_by (part_at entry) →
    ((group : Group) (s : ℕ) → s < 16 → count_at counts group s ≡ count_by (brings given group s) (links_at entry)) → ReadsBy brief counts readings → readings ≡ readings_at given entry
readings_are given None brief counts readings small here counted by =
    let power : by.power ≡ 0 = greatest_none counts Back by.power (counted Back) by.greatest in
    let side : readings.side ≡ 0 = greatest_none counts Side readings.side (counted Side) by.side in
    let back : readings.back ≡ 0 = by.back ∙ ap (λ (b : Brief). back_by b.back by.power) here ∙ power in
    λ i. record { back = back i; side = side i }
readings_are given (Some node) brief counts readings small here counted by =
    let power = greatest_is given Back node.links counts by.power small (counted Back) by.greatest in
    let side = greatest_is given Side node.links counts readings.side small (counted Side) by.side in
    let back : readings.back ≡ back_of node.kind (reading given Back node.links) = by.back ∙ ap (λ (b : Brief). back_by b.back by.power) here ∙ rule_is node.kind by.power ∙ ap (back_of node.kind) power in
    λ i. record { back = back i; side = side i }

module _ (g : Nodes) (parts : List (Option Part)) (briefs : List Brief) (outs : List ℕ) (counts : List Counts) (rows : List (List OutLink)) (wired : IsWired g parts briefs outs counts rows) where
  -- the links that go out of a key are counted
  pub enough : (from key : ℕ) (group : Group) (strength old : ℕ) → strength < 16 → old ≡ given outs from → hits (is_strength old group strength) key (row rows from) ≤ tally counts key group strength
  enough from key group strength old small here =
      let hit : hits (is_strength old group strength) key (row rows from) ≡ comes (is_strength (given outs from) group strength) from (links_at (node_at g key)) =
      ap (λ o. hits (is_strength o group strength) key (row rows from)) here ∙ wired.turned.same (is_strength (given outs from) group strength) from key in
      omega (arith, hit, comes-le (given outs) from group strength (links_at (node_at g key)), wired.counted.each key group strength small)

  -- what a key gives is below 16
  given_small : (from out : ℕ) → from < length outs → out < 16 → (key : ℕ) → given (set outs from out) key < 16
  given_small from out inside small key = elim (cases_eq key from) [
    | inl e ↦ subst (λ n. n < 16) (sym (ap (given (set outs from out)) e ∙ get_or-set_same outs from out 0 inside)) small
    | inr n ↦ subst (λ m. m < 16) (sym (get_or-set_other outs from key out 0 n)) (wired.small key)
  ]

  -- the counts after they were moved
  counted_after : (from out old : ℕ) (after : List Counts) → from < length outs → old ≡ given outs from → Moved (row rows from) old out counts after → IsCounted g (given (set outs from out)) after
  counted_after from out old after inside here moved = record {
    each = λ key group strength small.
        let links : List Link = links_at (node_at g key) in
        let new_here : given (set outs from out) from ≡ out = get_or-set_same outs from out 0 inside in
        let change = counts_change (given outs) (given (set outs from out)) from group strength links (λ other n. get_or-set_other outs from other out 0 n) in
        let was : hits (is_strength old group strength) key (row rows from) ≡ comes (is_strength (given outs from) group strength) from links =
        ap (λ o. hits (is_strength o group strength) key (row rows from)) here ∙ wired.turned.same (is_strength (given outs from) group strength) from key in
        let is : hits (is_strength out group strength) key (row rows from) ≡ comes (is_strength (given (set outs from out) from) group strength) from links =
        ap (λ o. hits (is_strength o group strength) key (row rows from)) (sym new_here) ∙ wired.turned.same (is_strength (given (set outs from out) from) group strength) from key in
        omega (arith, change, was, is, moved key group strength, wired.counted.each key group strength small);
  }

  length-set : {A : Type 0} (xs : List A) (i : ℕ) (x : A) → length (set xs i x) ≡ length xs
  length-set [] i x = refl
  length-set (y ∷ xs) zero x = refl
  length-set (y ∷ xs) (suc i) x = ap suc (length-set xs i x)

  pub wired_after : (from out old : ℕ) (after : List Counts) → from < length outs → out < 16 → old ≡ given outs from → length after ≡ length counts → Moved (row rows from) old out counts after →
      IsWired g parts briefs (set outs from out) after rows
  wired_after from out old after inside small here whole moved =
      let long = length-set outs from out in
      record {
        kept = wired.kept;
        brief = wired.brief;
        parts_whole = wired.parts_whole ∙ sym long;
        briefs_whole = wired.briefs_whole ∙ sym long;
        counts_whole = whole ∙ wired.counts_whole ∙ sym long;
        rows_whole = wired.rows_whole ∙ sym long;
        small = given_small from out inside small;
        counted = counted_after from out old after inside here moved;
        turned = wired.turned;
        few = wired.few;
        few_keys = omega (arith, long, wired.few_keys);
      }

-- a link that is there leads to a target
hit_is_target : (links : List OutLink) (to : ℕ) → 0 < hits (λ group weight. true) to links → IsTarget (targets_of links) to
hit_is_target [] to some = absurd (omega arith)
hit_is_target (link ∷ links) to some = elim (cases_eq link.to to) [
  | inl e ↦ record { index = 0; inside = omega arith; here = e }
  | inr n ↦
      (let none : one_if ((link.to == to) && true) ≡ 0 = rw (ne_eqb link.to to n) refl in
      let left : 0 < hits (λ group weight. true) to links = omega (arith, some, none, count_cons (λ (l : OutLink). (l.to == to) && true) link links) in
      let rest = hit_is_target links to left in
      record { index = suc rest.index; inside = omega (arith, rest.inside); here = rest.here })
]

and_true : (b : Bool) → b && true ≡ b
and_true true = refl
and_true false = refl

pub targets-row : (rows : List (List OutLink)) (from : ℕ) → targets_in (map targets_of rows) from ≡ targets_of (row rows from)
targets-row rows from = get_or-map targets_of rows from []

-- the targets are all nodes that have a link from the key
pub all_targets : (g : Nodes) (rows : List (List OutLink)) → IsTurned g rows → (from : ℕ) → AreTargets g (targets_in (map targets_of rows) from) from
all_targets g rows turned from key =
    let all : links_from from (node_at g key) ≡ hits (λ group weight. true) key (row rows from) =
    ap (λ (p : Link → Bool). count_by p (links_at (node_at g key))) (fun_ext (λ (l : Link). sym (and_true (l.from == from)))) ∙ sym (turned.same (λ group weight. true) from key) in
    elim (cases_lt 0 (links_from from (node_at g key))) [
      | inl some ↦ inl (subst (λ l. IsTarget l key) (sym (targets-row rows from)) (hit_is_target (row rows from) key (omega arith)))
      | inr none ↦ inr (omega arith)
    ]
