-- One appending after another.
use Rattle.std.proofs.Common.{ℕ, List, [], ◌++◌, refl, sym, ◌∙◌, ap, arith, append_assoc, length-append}
use Rattle.std.proofs.lemmas.List.{append-nil}
use Rattle.report.specs.RoomyText.{RoomyText, Appends}

pub Appends-then : {a b c : RoomyText} {x y : List ℕ} → Appends a b x → Appends b c y → Appends a c (x ++ y)
Appends-then {a} {b} {c} {x} {y} one two = record {
  bytes = two.bytes ∙ ap (λ (bytes : List ℕ). bytes ++ y) one.bytes ∙ append_assoc a.bytes x y;
  spare = omega (arith, one.spare, two.spare, length-append x y);
  room = two.room ∙ one.room;
}

pub Appends-nothing : (a : RoomyText) → Appends a a []
Appends-nothing a = record { bytes = sym (append-nil a.bytes); spare = omega arith; room = refl }
