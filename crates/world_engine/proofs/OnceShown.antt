-- No thing is shown by two outputs.
use Rattle.std.proofs.Common.{◌≡◌, ◌≢◌, ℕ, zero, suc, ◌+◌, ◌<◌, ◌≤◌, List, [], ◌∷◌, length, get_or, Option, Some, None, refl, sym, ◌∙◌, ap, subst, inl, inr, ◌⊎◌, arith}
use Rattle.std.specs.List.{filter_map}
use Rattle.std.proofs.lemmas.List.{get_or_past, length-map}
use Rattle.std.proofs.lemmas.Bool.{cases_lt}
use Rattle.circuit.specs.declared.Pos.{Pos}
use Rattle.circuit.specs.Circuit.{Each, EachBefore}
use Rattle.build.specs.declared.OutPlace.{OutPlace}
use Rattle.build.specs.declared.OutKind.{OutKind}
use Rattle.build.specs.Plan.{Plan, places}
use Rattle.build.specs.Places.{length-places}
use Rattle.build.specs.Outputs.{out_place, shown_at, outputs}
use Rattle.power_rules.proofs.Listed.{world_listed}
use Rattle.wire_net.specs.Laws.{nat_same}
use Rattle.wiring.specs.Things.{Numbered, IsNumbered, spot}
use Rattle.world_engine.specs.Outlets.{Outlet, Blank, Level, Value, outlet_at, outlet_under, outlets_of}
use Rattle.world_engine.specs.Screens.{number_in, nth_outlet, ArePlaced, ArePlacedBelow, IsPut}
use Rattle.world_engine.proofs.Shown.{level_there, value_there, outlet_of_output, no_output}

-- ---- no place is shown twice

abbrev put_front : {X : Type 0} → Option X → List X → List X
put_front None xs = xs
put_front (Some x) xs = x ∷ xs

module _ (b : Plan) (marks : List Pos) where
  abbrev found : List Pos → List OutPlace
  found ps = filter_map (shown_at b marks) ps

  -- what is found at a place stands there
  each_put : (P : Pos → Type 0) (p : Pos) (kind : Option OutKind) (rest : List OutPlace) → P p → Each (λ (o : OutPlace). P o.pos) rest → Each (λ (o : OutPlace). P o.pos) (put_front (out_place p kind) rest)
  each_put P p None rest here there = there
  each_put P p (Some kind) rest here there = (here, there)

  once_put : (p : Pos) (kind : Option OutKind) (rest : List OutPlace) → Each (λ (o : OutPlace). p ≢ o.pos) rest → EachBefore (λ (o q : OutPlace). o.pos ≢ q.pos) rest →
      EachBefore (λ (o q : OutPlace). o.pos ≢ q.pos) (put_front (out_place p kind) rest)
  once_put p None rest apart once = once
  once_put p (Some kind) rest apart once = (apart, once)

  found-more : (p : Pos) (ps : List Pos) → found (p ∷ ps) ≡ put_front (shown_at b marks p) (found ps)
  found-more p ps = elim (option_cases (shown_at b marks p)) [ inl e ↦ rw e refl | inr e ↦ rw e.1 refl ]
    where
      option_cases : (o : Option OutPlace) → (o ≡ None) ⊎ ((x : OutPlace) × (o ≡ Some x))
      option_cases None = inl refl
      option_cases (Some x) = inr (x, refl)

  each_found : (P : Pos → Type 0) (ps : List Pos) → Each P ps → Each (λ (o : OutPlace). P o.pos) (found ps)
  each_found P [] h = tt
  each_found P (p ∷ ps) h = subst (Each (λ (o : OutPlace). P o.pos)) (sym (found-more p ps)) (each_put P p _ (found ps) h.0 (each_found P ps h.1))

  once_found : (ps : List Pos) → EachBefore (λ p q. p ≢ q) ps → EachBefore (λ (o q : OutPlace). o.pos ≢ q.pos) (found ps)
  once_found [] h = tt
  once_found (p ∷ ps) h = subst (EachBefore (λ (o q : OutPlace). o.pos ≢ q.pos)) (sym (found-more p ps)) (once_put p _ (found ps) (each_found (λ q. p ≢ q) ps h.0) (once_found ps h.1))

  length_found : (ps : List Pos) → length (found ps) ≤ length ps
  length_found [] = omega arith
  length_found (p ∷ ps) = subst (λ (os : List OutPlace). length os ≤ suc (length ps)) (sym (found-more p ps)) (longer (shown_at b marks p) (length_found ps))
    where
      longer : (o : Option OutPlace) → length (found ps) ≤ length ps → length (put_front o (found ps)) ≤ suc (length ps)
      longer None h = omega (arith, h)
      longer (Some x) h = omega (arith, h)

each_at : (P : OutPlace → Type 0) (os : List OutPlace) (i : ℕ) (d : OutPlace) → i < length os → Each P os → P (get_or os i d)
each_at P [] i d inside h = absurd (omega arith)
each_at P (o ∷ os) zero d inside h = h.0
each_at P (o ∷ os) (suc i) d inside h = each_at P os i d (omega arith) h.1

one_index : (os : List OutPlace) (i j : ℕ) (d : OutPlace) → EachBefore (λ (o q : OutPlace). o.pos ≢ q.pos) os → i < length os → j < length os → (get_or os i d).pos ≡ (get_or os j d).pos → i ≡ j
one_index [] i j d once h k e = absurd (omega arith)
one_index (o ∷ os) zero zero d once h k e = refl
one_index (o ∷ os) zero (suc j) d once h k e = absurd (each_at (λ (q : OutPlace). o.pos ≢ q.pos) os j d (omega arith) once.0 e)
one_index (o ∷ os) (suc i) zero d once h k e = absurd (each_at (λ (q : OutPlace). o.pos ≢ q.pos) os i d (omega arith) once.0 (sym e))
one_index (o ∷ os) (suc i) (suc j) d once h k e = ap suc (one_index os i j d once.1 (omega arith) (omega arith) e)

outputs_once : (b : Plan) (marks : List Pos) → EachBefore (λ (o q : OutPlace). o.pos ≢ q.pos) (outputs b marks)
unfolding outputs
outputs_once b marks = once_found b marks (places b) (world_listed b marks).once

length_outputs : (b : Plan) (marks : List Pos) → length (outputs b marks) ≤ length (places b)
unfolding outputs
length_outputs b marks = length_found b marks (places b)

-- ---- and no thing

module _ (m : Numbered) (w : IsNumbered m) (outlets : List Outlet) (is : outlets ≡ outlets_of m) where
  pub outlets_few : length outlets ≤ 16777216
  outlets_few = omega (arith, ap (λ (os : List Outlet). length os) is, length-map (outputs m.plan m.marks) (outlet_under m), length_outputs m.plan m.marks, length-places m.plan, w.whole.small)

  abbrev place_under : ℕ → Pos
  place_under i = (get_or (outputs m.plan m.marks) i no_output).pos

  there : (p : Pos) (o : Outlet) (n : ℕ) → o ≡ outlet_at m p → number_in o ≡ Some n → (n < length m.spots) × (spot m n ≡ p)
  there p Blank n e h = absurd (cc)
  there p (Level k) n e h = let same : k ≡ n = cc in subst (λ (x : ℕ). (x < length m.spots) × (spot m x ≡ p)) same (level_there m w p k e)
  there p (Value k) n e h = let same : k ≡ n = cc in subst (λ (x : ℕ). (x < length m.spots) × (spot m x ≡ p)) same (value_there m w p k e)

  shown_inside : (i n : ℕ) → number_in (nth_outlet outlets i) ≡ Some n → i < length outlets
  shown_inside i n h = elim (cases_lt i (length outlets)) [
    | inl l ↦ l
    | inr past ↦ (let clash : None ≡ Some n = sym (ap number_in (get_or_past outlets i Blank past)) ∙ h in absurd (cc))
  ]

  pub shown_there : (i n : ℕ) → number_in (nth_outlet outlets i) ≡ Some n → (n < length m.spots) × (spot m n ≡ place_under i)
  shown_there i n h = there (place_under i) (nth_outlet outlets i) n (outlet_of_output m outlets i (nth_outlet outlets i) is (shown_inside i n h) refl) h

  shown_once : (i j n : ℕ) → number_in (nth_outlet outlets i) ≡ Some n → number_in (nth_outlet outlets j) ≡ Some n → i ≡ j
  shown_once i j n h k =
      let long : length outlets ≡ length (outputs m.plan m.marks) = ap (λ (os : List Outlet). length os) is ∙ length-map (outputs m.plan m.marks) (outlet_under m) in
      one_index (outputs m.plan m.marks) i j no_output (outputs_once m.plan m.marks) (omega (arith, long, shown_inside i n h)) (omega (arith, long, shown_inside j n k))
      (sym (shown_there i n h).1 ∙ (shown_there j n k).1)

  pub placed_next : (i : ℕ) (old new : List ℕ) → ArePlacedBelow outlets i old → IsPut (nth_outlet outlets i) i old new → ArePlacedBelow outlets (i + 1) new
  placed_next i old new below put = record {
    each = λ j n low has. elim (nat_same j i) [
      | inl e ↦ put.there n (subst (λ (k : ℕ). number_in (nth_outlet outlets k) ≡ Some n) e has) ∙ sym e
      | inr apart ↦ put.others n (λ h. apart (shown_once j i n has h)) ∙ below.each j n (omega arith) has
    ];
  }

  pub placed_all : (i : ℕ) (places : List ℕ) → length outlets ≤ i → length places ≡ length m.spots → ArePlacedBelow outlets i places → ArePlaced outlets places
  placed_all i places past whole below = record {
    each = λ j n has. (omega (arith, (shown_there j n has).0, whole), below.each j n (let l = shown_inside j n has in omega (arith, l)) has);
  }
