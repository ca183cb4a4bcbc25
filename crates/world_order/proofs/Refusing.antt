-- The bad line that is told.
use Rattle.std.proofs.Common.{◌≡◌, ℕ, ◌+◌, List, take, drop, sym, subst}
use Rattle.std.specs.Prelude.{count_by, Result, Err}
use Rattle.std.proofs.lemmas.List.{take-append-drop}
use Rattle.build.specs.Plan.{Plan}
use Rattle.report.specs.declared.OrderKind.{OrderKind}
use Rattle.script.specs.Acts.{Meaning}
use Rattle.world_order.specs.declared.Checked.{Checked}
use Rattle.world_order.specs.declared.OrderRefusal.{OrderRefusal}
use Rattle.world_order.specs.declared.OrderRefusal.TheVariants.{At}
use Rattle.world_order.specs.declared.front.Bad.{Bad}
use Rattle.world_order.specs.BadLine.{IsBadLine}
use Rattle.world_order.specs.OrderText.{is_break}
use Rattle.world_order.specs.Reading.{IsBadFrom}

abbrev the_refusal : ℕ → ℕ → OrderKind → Result Checked OrderRefusal
the_refusal line tick kind = Err (At line tick kind)

pub told_refusal : (P : ℕ → ℕ → OrderKind → Type 0) (l t : ℕ) (k : OrderKind) → P l t k → (line tick : ℕ) (kind : OrderKind) → the_refusal l t k ≡ Err (At line tick kind) → P line tick kind
told_refusal P l t k p line tick kind e =
    let a : l ≡ line = cc in
    let b : t ≡ tick = cc in
    let d : k ≡ kind = cc in
    subst (λ (n : ℕ). P n tick kind) a (subst (λ (n : ℕ). P l n kind) b (subst (λ (x : OrderKind). P l t x) d p))

pub bad_line : (plan b : Plan) (script : Meaning) (text : List ℕ) (bad : Bad) (line : ℕ) → plan ≡ b → IsBadFrom plan script text bad → line ≡ count_by is_break (take bad.at text) + 1 → IsBadLine b script text line bad.tick bad.kind
bad_line plan b script text bad line e h number = subst (λ (p : Plan). IsBadLine p script text line bad.tick bad.kind) e (record {
  front = take bad.at text;
  rest = drop bad.at text;
  due = h.due;
  is = sym (take-append-drop bad.at text);
  stands = h.stands;
  number = number;
  has = h.is.has;
  first = h.is.first;
})
