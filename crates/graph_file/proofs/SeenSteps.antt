-- Places that are seen one after another.
use Rattle.std.proofs.Common.{◌≡◌, Bool, true, false, List, [], ◌∷◌, refl, sym, ap, ◌∙◌, inl, inr}
use Rattle.std.specs.Prelude.{not, ◌||◌, ◌&&◌}
use Rattle.std.specs.Bool.{MatchBool}
use Rattle.std.specs.List.{list_any}
use Rattle.std.specs.List.Sorted.{IsPermutation}
use Rattle.std.specs.Ordering.{int_eq}
use Rattle.std.proofs.Math.Path.{fun_ext}
use Rattle.std.proofs.lemmas.Bool.{cases_Bool, and_parts}
use Rattle.std.proofs.lemmas.Bool.Decides.{Decides-int_eq}
use Rattle.std.proofs.lemmas.List.Sorted.{list_any-IsPermutation}
use Rattle.circuit.specs.declared.Pos.{Pos}
use Rattle.graph.specs.Clicks.{is_same_place}
use Rattle.graph_file.specs.GraphFile.{with_place, is_repeated, with_places}
use Rattle.graph_file.specs.Steps.{has_place}

pub any_alike : (E F : Pos → Bool) → ((q : Pos) → E q ≡ F q) → (places : List Pos) → list_any E places ≡ list_any F places
any_alike E F h [] = refl
any_alike E F h (p ∷ places) = rw (h p, any_alike E F h places) refl

pub place_one : (p q : Pos) → is_same_place p q ≡ true → p ≡ q
place_one p q h =
    let a = and_parts (int_eq p.x q.x) (int_eq p.y q.y && int_eq p.z q.z) h in
    let b = and_parts (int_eq p.y q.y) (int_eq p.z q.z) a.1 in
    λ i. record { x = (Decides-int_eq p.x q.x).0 a.0 i; y = (Decides-int_eq p.y q.y).0 b.0 i; z = (Decides-int_eq p.z q.z).0 b.1 i }

known : (old : List Pos) (q p : Pos) → is_same_place q p ≡ true → has_place old p ≡ true → has_place old q ≡ true
known old q p e h = ap (has_place old) (place_one q p e) ∙ h

double : (b : Bool) → false ≡ not b → b ≡ true
double true e = refl
double false e = absurd (cc)

at_each : (old new : List Pos) (p : Pos) (added : Bool) → added ≡ not (has_place old p) → MatchBool added (IsPermutation (p ∷ old) new) (new ≡ old) →
    (q : Pos) → has_place new q ≡ (is_same_place q p || has_place old q)
at_each old new p true e h q = sym (list_any-IsPermutation (is_same_place q) (p ∷ old) new h)
at_each old new p false e h q = elim (cases_Bool (is_same_place q p)) [
  | inl same ↦ rw (h, same) (known old q p same (double (has_place old p) e))
  | inr differ ↦ rw (h, differ) refl
]

-- a place put among others, or known already
pub put_place : (old new : List Pos) (p : Pos) (added : Bool) → added ≡ not (has_place old p) → MatchBool added (IsPermutation (p ∷ old) new) (new ≡ old) → has_place new ≡ with_place p (has_place old)
put_place old new p added e h = fun_ext (at_each old new p added e h)

-- ---- one place more

by_new : (b : Bool) (p : Pos) (seen : Pos → Bool) (rest : List Pos) → true ≡ not b → (b || is_repeated (with_place p seen) rest) ≡ is_repeated (with_place p seen) rest
by_new true p seen rest h = absurd (cc)
by_new false p seen rest h = refl

pub repeated_more : (seen after : Pos → Bool) (p : Pos) (all rest : List Pos) (whole added : Bool) → all ≡ p ∷ rest → added ≡ not (seen p) → added ≡ true → after ≡ with_place p seen → is_repeated seen all ≡ whole → is_repeated after rest ≡ whole
repeated_more seen after p all rest whole added split new is_new then_seen so_far =
    ap (λ s. is_repeated s rest) then_seen ∙ sym (by_new (seen p) p seen rest (sym is_new ∙ new)) ∙ sym (ap (is_repeated seen) split) ∙ so_far

pub seen_more : (seen after : Pos → Bool) (p : Pos) (all rest : List Pos) (whole : Pos → Bool) → all ≡ p ∷ rest → after ≡ with_place p seen → with_places all seen ≡ whole → with_places rest after ≡ whole
seen_more seen after p all rest whole split then_seen so_far = ap (with_places rest) then_seen ∙ sym (ap (λ ps. with_places ps seen) split) ∙ so_far

by_old : (b : Bool) (p : Pos) (seen : Pos → Bool) (rest : List Pos) → false ≡ not b → (b || is_repeated (with_place p seen) rest) ≡ true
by_old true p seen rest h = refl
by_old false p seen rest h = absurd (cc)

pub repeated_here : (seen : Pos → Bool) (p : Pos) (all rest : List Pos) (whole added : Bool) → all ≡ p ∷ rest → added ≡ not (seen p) → added ≡ false → is_repeated seen all ≡ whole → false ≡ not whole
repeated_here seen p all rest whole added split new is_old so_far =
    let t : whole ≡ true = sym so_far ∙ ap (is_repeated seen) split ∙ by_old (seen p) p seen rest (sym is_old ∙ new) in
    sym (ap not t)
