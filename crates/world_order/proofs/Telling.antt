-- Which kind is told of a line, and that none comes before it.
use Rattle.std.proofs.Common.{◌≡◌, ◌≢◌, ◌↔◌, ℕ, ◌<◌, true, false, List, [], ◌++◌, refl, sym, ◌∙◌, ap, subst, arith}
use Rattle.std.specs.Prelude.{codes}
use Rattle.std.proofs.lemmas.Bool.{false≢true}
use Rattle.circuit.specs.declared.Pos.{Pos}
use Rattle.circuit.specs.Circuit.{State, IsDue, Among, fire_all, view}
use Rattle.build.specs.Plan.{Plan}
use Rattle.power_rules.specs.World.{world_circuit}
use Rattle.power_rules.proofs.Joining.{test_of_places}
use Rattle.report.specs.declared.Cause.TheVariants.{Tick}
use Rattle.report.specs.declared.OrderKind.{OrderKind}
use Rattle.report.specs.declared.OrderKind.TheVariants.{Short, Differs, Form, NotDue, Twice, Priority, Left, Trailing}
use Rattle.report.specs.FireLine.{fire_line}
use Rattle.report.specs.Trailers.{world_trailer}
use Rattle.report.specs.ViewLine.{view_line}
use Rattle.world_order.specs.Begun.{Begins, IsLeft}
use Rattle.world_order.specs.LineForms.{IsNotLine}
use Rattle.world_order.specs.BadLine.{Names, Due, Line, Firing, Counted, End, Past, HasKind, begins_with, is_fire, is_unended, rank}
use Rattle.world_order.specs.Reading.{IsKind, IsNotFiring}
use Rattle.world_order.proofs.Begun.{due_before, due_after}
use Rattle.world_order.proofs.Texts.{same_place}

-- nothing comes before the first kind
short_first : (b : Plan) (marks : List Pos) (due : Due) (rest : List ℕ) → HasKind b marks due rest Short → IsKind b marks due rest Short
short_first b marks due rest h = record { has = h; first = λ other l. absurd (omega arith) }

clash : (rest : List ℕ) → is_unended rest ≡ false → is_unended rest ≡ true → ⊥
clash rest ended open_end = false≢true (sym ended ∙ open_end)

-- ---- a line that has to stand there

line_before : (b : Plan) (marks : List Pos) (line rest : List ℕ) → is_unended rest ≡ false → (other : OrderKind) → rank other < rank Differs → HasKind b marks (Line line) rest other → ⊥
line_before b marks line rest ended Short l h = clash rest ended h
line_before b marks line rest ended Form l h = h
line_before b marks line rest ended Twice l h = h
line_before b marks line rest ended NotDue l h = h
line_before b marks line rest ended Priority l h = h
line_before b marks line rest ended Left l h = h
line_before b marks line rest ended Differs l h = absurd (omega arith)
line_before b marks line rest ended Trailing l h = absurd (omega arith)

pub kind_of_line : (b : Plan) (marks : List Pos) (line rest : List ℕ) (kind : OrderKind) → IsNotLine rest line kind → IsKind b marks (Line line) rest kind
kind_of_line b marks line rest Short h = short_first b marks (Line line) rest h
kind_of_line b marks line rest Differs h = record { has = h.1; first = line_before b marks line rest h.0 }
kind_of_line b marks line rest Form h = absurd h
kind_of_line b marks line rest Twice h = absurd h
kind_of_line b marks line rest NotDue h = absurd h
kind_of_line b marks line rest Priority h = absurd h
kind_of_line b marks line rest Left h = absurd h
kind_of_line b marks line rest Trailing h = absurd h

-- ---- behind the last view

end_before : (b : Plan) (marks : List Pos) (rest : List ℕ) → is_unended rest ≡ false → (other : OrderKind) → rank other < rank Differs → HasKind b marks End rest other → ⊥
end_before b marks rest ended Short l h = clash rest ended h
end_before b marks rest ended Form l h = h
end_before b marks rest ended Twice l h = h
end_before b marks rest ended NotDue l h = h
end_before b marks rest ended Priority l h = h
end_before b marks rest ended Left l h = h
end_before b marks rest ended Differs l h = absurd (omega arith)
end_before b marks rest ended Trailing l h = absurd (omega arith)

pub kind_of_end : (b : Plan) (marks : List Pos) (rest : List ℕ) (kind : OrderKind) → IsNotLine rest world_trailer kind → IsKind b marks End rest kind
kind_of_end b marks rest Short h = short_first b marks End rest h
kind_of_end b marks rest Differs h = record { has = h.1; first = end_before b marks rest h.0 }
kind_of_end b marks rest Form h = absurd h
kind_of_end b marks rest Twice h = absurd h
kind_of_end b marks rest NotDue h = absurd h
kind_of_end b marks rest Priority h = absurd h
kind_of_end b marks rest Left h = absurd h
kind_of_end b marks rest Trailing h = absurd h

counted_before : (b : Plan) (marks : List Pos) (rest : List ℕ) → is_unended rest ≡ false → (other : OrderKind) → rank other < rank Differs → HasKind b marks Counted rest other → ⊥
counted_before b marks rest ended Short l h = clash rest ended h
counted_before b marks rest ended Form l h = h
counted_before b marks rest ended Twice l h = h
counted_before b marks rest ended NotDue l h = h
counted_before b marks rest ended Priority l h = h
counted_before b marks rest ended Left l h = h
counted_before b marks rest ended Differs l h = absurd (omega arith)
counted_before b marks rest ended Trailing l h = absurd (omega arith)

pub kind_of_counts : (b : Plan) (marks : List Pos) (rest : List ℕ) (kind : OrderKind) → begins_with (codes "nodes ") rest ≡ false → IsNotLine rest world_trailer kind → IsKind b marks Counted rest kind
kind_of_counts b marks rest Short none h = short_first b marks Counted rest h
kind_of_counts b marks rest Differs none h = record { has = (none, h.1); first = counted_before b marks rest h.0 }
kind_of_counts b marks rest Form none h = absurd h
kind_of_counts b marks rest Twice none h = absurd h
kind_of_counts b marks rest NotDue none h = absurd h
kind_of_counts b marks rest Priority none h = absurd h
kind_of_counts b marks rest Left none h = absurd h
kind_of_counts b marks rest Trailing none h = absurd h

pub kind_of_broken : (b : Plan) (marks : List Pos) (rest : List ℕ) (kind : OrderKind) → kind ≡ Short → is_unended rest ≡ true → IsKind b marks Counted rest kind
kind_of_broken b marks rest kind is h = subst (IsKind b marks Counted rest) (sym is) (short_first b marks Counted rest h)

past_before : (b : Plan) (marks : List Pos) (rest : List ℕ) → (other : OrderKind) → rank other < rank Trailing → HasKind b marks Past rest other → ⊥
past_before b marks rest Short l h = h
past_before b marks rest Form l h = h
past_before b marks rest Twice l h = h
past_before b marks rest NotDue l h = h
past_before b marks rest Priority l h = h
past_before b marks rest Left l h = h
past_before b marks rest Differs l h = h
past_before b marks rest Trailing l h = absurd (omega arith)

pub kind_of_more : (b : Plan) (marks : List Pos) (rest : List ℕ) (kind : OrderKind) → kind ≡ Trailing → rest ≢ [] → IsKind b marks Past rest kind
kind_of_more b marks rest kind is some =
    subst (IsKind b marks Past rest) (sym is) (record { has = (refl, some); first = past_before b marks rest })

-- ---- in a tick

names_fire : (rest : List ℕ) (place : Pos) → Names rest place → is_fire rest ≡ true
unfolding fire_line
names_fire rest place n = ap is_fire n.text

same_named : (rest : List ℕ) (p q : Pos) → Names rest p → Names rest q → p ≡ q
same_named rest p q m n = (same_place p q m.numbers n.numbers m.more n.more (sym m.text ∙ n.text)).0

module _ (b : Plan) (marks : List Pos) (s : State Pos) (fired : List Pos) (begun : Begins (world_circuit b marks) s fired) (now : State Pos) (after : now ≡ fire_all (world_circuit b marks) s fired) where
  left_due : (place : Pos) → IsLeft (world_circuit b marks) s fired place → IsDue (world_circuit b marks) now place
  left_due place l = subst (λ (t : State Pos). IsDue (world_circuit b marks) t place) (sym after) (due_after (world_circuit b marks) test_of_places s fired place l).0

  due_left : (place : Pos) → IsDue (world_circuit b marks) now place → IsLeft (world_circuit b marks) s fired place
  due_left place d = due_before (world_circuit b marks) test_of_places s fired begun place (subst (λ (t : State Pos). IsDue (world_circuit b marks) t place) after d)

  same_priority : (place : Pos) → IsDue (world_circuit b marks) now place → (now.cells place).priority ≡ (s.cells place).priority
  same_priority place d =
      ap (λ (t : State Pos). (t.cells place).priority) after ∙ (due_after (world_circuit b marks) test_of_places s fired place (due_left place d)).1

  less : (p q : Pos) → IsDue (world_circuit b marks) now p → IsDue (world_circuit b marks) now q → (now.cells p).priority < (now.cells q).priority → (s.cells p).priority < (s.cells q).priority
  less p q d e l = omega (arith, same_priority p d, same_priority q e, l)

  module _ (Fired : Pos → Type 0) (told : (key : Pos) → Fired key ↔ Among fired key) (rest : List ℕ) where
    before_twice : is_unended rest ≡ false → (place : Pos) → Names rest place → (other : OrderKind) → rank other < rank Twice → HasKind b marks (Firing s fired) rest other → ⊥
    before_twice ended place n Short l h = clash rest ended h
    before_twice ended place n Form l h = h.1 place n
    before_twice ended place n Twice l h = absurd (omega arith)
    before_twice ended place n NotDue l h = absurd (omega arith)
    before_twice ended place n Priority l h = absurd (omega arith)
    before_twice ended place n Left l h = absurd (omega arith)
    before_twice ended place n Differs l h = absurd (omega arith)
    before_twice ended place n Trailing l h = absurd (omega arith)

    not_twice : (place : Pos) → Names rest place → (Fired place → ⊥) → HasKind b marks (Firing s fired) rest Twice → ⊥
    not_twice place n fresh h = fresh ((told place).1 (subst (Among fired) (same_named rest h.0 place h.1 n) h.2))

    before_due : is_unended rest ≡ false → (place : Pos) → Names rest place → (Fired place → ⊥) → (other : OrderKind) → rank other < rank NotDue → HasKind b marks (Firing s fired) rest other → ⊥
    before_due ended place n fresh Short l h = clash rest ended h
    before_due ended place n fresh Form l h = h.1 place n
    before_due ended place n fresh Twice l h = not_twice place n fresh h
    before_due ended place n fresh NotDue l h = absurd (omega arith)
    before_due ended place n fresh Priority l h = absurd (omega arith)
    before_due ended place n fresh Left l h = absurd (omega arith)
    before_due ended place n fresh Differs l h = absurd (omega arith)
    before_due ended place n fresh Trailing l h = absurd (omega arith)

    before_priority : is_unended rest ≡ false → (place : Pos) → Names rest place → (Fired place → ⊥) → IsDue (world_circuit b marks) now place →
        (other : OrderKind) → rank other < rank Priority → HasKind b marks (Firing s fired) rest other → ⊥
    before_priority ended place n fresh due Short l h = clash rest ended h
    before_priority ended place n fresh due Form l h = h.1 place n
    before_priority ended place n fresh due Twice l h = not_twice place n fresh h
    before_priority ended place n fresh due NotDue l h = h.2 (subst (IsLeft (world_circuit b marks) s fired) (same_named rest place h.0 n h.1) (due_left place due))
    before_priority ended place n fresh due Priority l h = absurd (omega arith)
    before_priority ended place n fresh due Left l h = absurd (omega arith)
    before_priority ended place n fresh due Differs l h = absurd (omega arith)
    before_priority ended place n fresh due Trailing l h = absurd (omega arith)

    form_first : is_unended rest ≡ false → (other : OrderKind) → rank other < rank Form → HasKind b marks (Firing s fired) rest other → ⊥
    form_first ended Short l h = clash rest ended h
    form_first ended Form l h = absurd (omega arith)
    form_first ended Twice l h = absurd (omega arith)
    form_first ended NotDue l h = absurd (omega arith)
    form_first ended Priority l h = absurd (omega arith)
    form_first ended Left l h = absurd (omega arith)
    form_first ended Differs l h = absurd (omega arith)
    form_first ended Trailing l h = absurd (omega arith)

    pub kind_of_firing : is_fire rest ≡ true → (kind : OrderKind) → IsNotFiring (world_circuit b marks) now Fired rest kind → IsKind b marks (Firing s fired) rest kind
    kind_of_firing fire Short h = short_first b marks (Firing s fired) rest h
    kind_of_firing fire Form h = record { has = (fire, h.1); first = form_first h.0 }
    kind_of_firing fire Twice h = record { has = (h.1.0, h.1.1, (told h.1.0).0 h.1.2); first = before_twice h.0 h.1.0 h.1.1 }
    kind_of_firing fire NotDue h = record { has = (h.1.0, h.1.1, λ l. h.1.3 (left_due h.1.0 l)); first = before_due h.0 h.1.0 h.1.1 h.1.2 }
    kind_of_firing fire Priority h = record {
      has = (h.1.0, h.1.1, h.1.4.0, due_left h.1.4.0 h.1.4.1, less h.1.4.0 h.1.0 h.1.4.1 h.1.3 h.1.4.2);
      first = before_priority h.0 h.1.0 h.1.1 h.1.2 h.1.3;
    }
    kind_of_firing fire Left h = absurd h
    kind_of_firing fire Differs h = absurd h
    kind_of_firing fire Trailing h = absurd h

  no_name : (rest : List ℕ) → is_fire rest ≡ false → (place : Pos) → Names rest place → ⊥
  no_name rest none place n = false≢true (sym none ∙ names_fire rest place n)

  before_left : (rest : List ℕ) → is_unended rest ≡ false → is_fire rest ≡ false → (other : OrderKind) → rank other < rank Left → HasKind b marks (Firing s fired) rest other → ⊥
  before_left rest ended none Short l h = clash rest ended h
  before_left rest ended none Form l h = false≢true (sym none ∙ h.0)
  before_left rest ended none Twice l h = no_name rest none h.0 h.1
  before_left rest ended none NotDue l h = no_name rest none h.0 h.1
  before_left rest ended none Priority l h = no_name rest none h.0 h.1
  before_left rest ended none Left l h = absurd (omega arith)
  before_left rest ended none Differs l h = absurd (omega arith)
  before_left rest ended none Trailing l h = absurd (omega arith)

  pub kind_of_left : (rest : List ℕ) → is_unended rest ≡ false → is_fire rest ≡ false → (place : Pos) → IsDue (world_circuit b marks) now place → IsKind b marks (Firing s fired) rest Left
  kind_of_left rest ended none place due = record { has = (none, place, due_left place due); first = before_left rest ended none }

  pub kind_of_short : (rest : List ℕ) → is_unended rest ≡ true → IsKind b marks (Firing s fired) rest Short
  kind_of_short rest h = short_first b marks (Firing s fired) rest h

  before_view : (rest : List ℕ) → is_unended rest ≡ false → is_fire rest ≡ false → ((place : Pos) → IsDue (world_circuit b marks) now place → ⊥) →
      (other : OrderKind) → rank other < rank Differs → HasKind b marks (Firing s fired) rest other → ⊥
  before_view rest ended none quiet Short l h = clash rest ended h
  before_view rest ended none quiet Form l h = false≢true (sym none ∙ h.0)
  before_view rest ended none quiet Twice l h = no_name rest none h.0 h.1
  before_view rest ended none quiet NotDue l h = no_name rest none h.0 h.1
  before_view rest ended none quiet Priority l h = no_name rest none h.0 h.1
  before_view rest ended none quiet Left l h = quiet h.1 (left_due h.1 h.2)
  before_view rest ended none quiet Differs l h = absurd (omega arith)
  before_view rest ended none quiet Trailing l h = absurd (omega arith)

  pub kind_of_view : (rest : List ℕ) → is_fire rest ≡ false → ((place : Pos) → IsDue (world_circuit b marks) now place → ⊥) →
      (line : List ℕ) → line ≡ view_line s.time Tick (view (world_circuit b marks) (fire_all (world_circuit b marks) s fired)) → (kind : OrderKind) → IsNotLine rest line kind → IsKind b marks (Firing s fired) rest kind
  kind_of_view rest none quiet line is Short h = short_first b marks (Firing s fired) rest h
  kind_of_view rest none quiet line is Differs h = record { has = (none, λ starts. h.1 (starts.0, starts.1 ∙ ap (λ x. x ++ starts.0) (sym is))); first = before_view rest h.0 none quiet }
  kind_of_view rest none quiet line is Form h = absurd h
  kind_of_view rest none quiet line is Twice h = absurd h
  kind_of_view rest none quiet line is NotDue h = absurd h
  kind_of_view rest none quiet line is Priority h = absurd h
  kind_of_view rest none quiet line is Left h = absurd h
  kind_of_view rest none quiet line is Trailing h = absurd h
