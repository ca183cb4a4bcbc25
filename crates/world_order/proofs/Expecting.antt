-- How a text begins, by the tests that the code makes.
use Rattle.std.proofs.Common.{◌≡◌, ℕ, true, false, nat_eq, List, [], ◌∷◌, ◌++◌, refl, sym, ◌∙◌, ap, ap₂, subst, Err, Result}
use Rattle.std.specs.List.{starts_with}
use Rattle.std.proofs.lemmas.Bool.{and_parts, false≢true, eqb-true, eq-eqb}
use Rattle.report.specs.declared.OrderKind.{OrderKind}
use Rattle.world_order.specs.BadLine.{StartsWith}

pub starts_from : (line rest : List ℕ) → starts_with nat_eq rest line ≡ true → StartsWith rest line
starts_from [] rest h = (rest, refl)
starts_from (l ∷ line) [] h = absurd (false≢true h)
starts_from (l ∷ line) (r ∷ rest) h =
    let p = and_parts (nat_eq l r) (starts_with nat_eq rest line) h in
    let s = starts_from line rest p.1 in
    (s.0, ap₂ (λ one more. one ∷ more) (sym (eqb-true l r p.0)) s.1)

pub starts_itself : (line more : List ℕ) → starts_with nat_eq (line ++ more) line ≡ true
starts_itself [] more = refl
starts_itself (l ∷ line) more = rw (eq-eqb l l refl) (starts_itself line more)

pub starts_not : (line rest : List ℕ) → starts_with nat_eq rest line ≡ false → StartsWith rest line → ⊥
starts_not line rest h s = false≢true (sym h ∙ ap (λ x. starts_with nat_eq x line) s.1 ∙ starts_itself line s.0)

abbrev pub the_err : {T : Type 0} → OrderKind → Result T OrderKind
the_err kind = Err kind

-- what is told is the one kind
pub told_kind : {T : Type 0} (P : OrderKind → Type 0) (is : OrderKind) → P is → (kind : OrderKind) → the_err {T = T} is ≡ Err kind → P kind
told_kind P is here kind e = let same : is ≡ kind = cc in subst P same here
