-- What a click means for the cells of things.
use Rattle.std.proofs.Common.{◌≡◌, ℕ, Some, None, refl, sym, ap, ◌∙◌}
use Rattle.circuit.specs.declared.Pos.{Pos}
use Rattle.circuit.specs.declared.Click.{Click}
use Rattle.circuit.specs.declared.Cell.{Cell}
use Rattle.circuit.specs.declared.Component.{Component}
use Rattle.circuit.specs.Component.{clicked}
use Rattle.circuit.specs.Circuit.{put, attend, with_value, Clicks}
use Rattle.circuit.specs.Taken.{Takes}
use Rattle.circuit.proofs.Runs.{clicked_where_taken}
use Rattle.build.specs.Roles.{role_at}
use Rattle.cell_counts.specs.Held.{Holding}
use Rattle.replay_engine.specs.Things.{Numbered, IsNumbered, number_at, held, nothing}
use Rattle.replay_engine.specs.Running.{circuit_of, state_of}
use Rattle.replay_engine.proofs.Held.{number_role}

-- where nothing stands, no click is taken
pub refused_nothing : (m : Numbered) → IsNumbered m → (p : Pos) (click : Click) → number_at m p ≡ None → Takes (circuit_of m) p click → ⊥
refused_nothing m w p click none takes =
    let there : role_at m.plan m.marks p ≡ Some takes.component = ap (role_at m.plan m.marks) (sym takes.place) ∙ takes.there in
    let n = number_role m w p takes.component there in
    let clash : None ≡ Some n.0 = sym none ∙ n.1 in absurd (cc)

pub refused_none : (m : Numbered) (p : Pos) (click : Click) → role_at m.plan m.marks p ≡ None → Takes (circuit_of m) p click → ⊥
refused_none m p click none takes =
    let there : role_at m.plan m.marks p ≡ Some takes.component = ap (role_at m.plan m.marks) (sym takes.place) ∙ takes.there in
    let clash : None ≡ Some takes.component = sym none ∙ there in absurd (cc)

pub refused_click : (m : Numbered) (p : Pos) (click : Click) (component : Component) (value : ℕ) → role_at m.plan m.marks p ≡ Some component → clicked component click value ≡ None →
    Takes (circuit_of m) p click → ⊥
refused_click m p click component value there none takes =
    let same : Some takes.component ≡ Some component = sym takes.there ∙ ap (role_at m.plan m.marks) takes.place ∙ there in
    let one : takes.component ≡ component = cc in
    let some = clicked_where_taken takes.component click value takes.taken in
    let clash : None ≡ Some some.0 = sym none ∙ ap (λ (x : Component). clicked x click value) (sym one) ∙ some.1 in absurd (cc)

pub taken_click : (m : Numbered) (p : Pos) (click : Click) (component : Component) (value : ℕ) (old new : Holding) (cell : Cell) → role_at m.plan m.marks p ≡ Some component →
    cell ≡ held m old.cells nothing p → clicked component click cell.value ≡ Some value →
    state_of m new ≡ attend (circuit_of m) (put (circuit_of m) (state_of m old) p (with_value cell value)) →
    Clicks (circuit_of m) p click (state_of m old) (state_of m new)
taken_click m p click component value old new cell there here takes after = record {
  key = p;
  component = component;
  value = value;
  there = there;
  place = refl;
  takes = ap (λ (c : Cell). clicked component click c.value) (sym here) ∙ takes;
  after = after ∙ ap (λ (c : Cell). attend (circuit_of m) (put (circuit_of m) (state_of m old) p (with_value c value))) here;
}
