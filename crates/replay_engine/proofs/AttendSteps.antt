-- A thing attends, and holds what follows.
use Rattle.std.proofs.Common.{◌≡◌, ℕ, Bool, List, Option, Some, None, set, sym, ap, ◌∙◌, subst}
use Rattle.std.proofs.lemmas.List.{length-set}
use Rattle.circuit.specs.declared.Pos.{Pos}
use Rattle.circuit.specs.declared.Cell.{Cell}
use Rattle.circuit.specs.declared.Component.{Component}
use Rattle.circuit.specs.declared.Readings.{Readings}
use Rattle.circuit.specs.Component.{attended}
use Rattle.circuit.specs.Circuit.{attended_at}
use Rattle.build.specs.Roles.{role_at, first_at}
use Rattle.cell_counts.specs.Held.{Holding, CanFollow, cell_of}
use Rattle.replay_engine.specs.Things.{Numbered, IsNumbered, number_at, held, nothing}
use Rattle.replay_engine.specs.Numbers.{held-there}
use Rattle.replay_engine.specs.Running.{Attends, IsHolding, after_attending, reads_of}
use Rattle.replay_engine.proofs.Attending.{within-attends}
use Rattle.replay_engine.proofs.Follow.{delays_small, attended_follows}

pub hold_follows : (m : Numbered) → IsNumbered m → (h : Holding) (powers : List ℕ) (p : Pos) (n : ℕ) (cell : Cell) → number_at m p ≡ Some n → cell ≡ after_attending m h.time (reads_of m h.cells powers) p (held m h.cells nothing p) →
    CanFollow h.time (cell_of h.cells n) cell
hold_follows m w h powers p n cell there is =
    subst (λ (c : Cell). CanFollow h.time c cell) (held-there m h.cells nothing p n there)
    (subst (CanFollow h.time (held m h.cells nothing p)) (sym is)
    (attended_follows h.time (role_at m.plan m.marks p) (first_at m.plan p) (reads_of m h.cells powers) p (held m h.cells nothing p) (delays_small m w p)))

pub set_holding : (m : Numbered) (h : Holding) (powers : List ℕ) (n : ℕ) (cell : Cell) (D : Pos → Type 0) → IsHolding m h → Attends m h.time powers h.cells (set h.cells n cell) D →
    IsHolding m (record { time = h.time; cells = set h.cells n cell })
set_holding m h powers n cell D holding a = record {
  whole = length-set h.cells n cell ∙ holding.whole;
  within = within-attends m h.time powers h.cells (set h.cells n cell) D a holding.within;
  early = holding.early;
}

attended_by : (time : ℕ) (role : Option Component) (first : Bool) (reads : Pos → Readings) (p : Pos) (component : Component) (cell : Cell) → role ≡ Some component → attended time component first (reads p) cell ≡ attended_at time role first reads p cell
attended_by time None first reads p component cell e = absurd (cc)
attended_by time (Some c) first reads p component cell e = let same : c ≡ component = cc in ap (λ (x : Component). attended time x first (reads p) cell) (sym same)

-- what a component made of the cell of its number is what its place holds after it has attended
pub attended_there : (m : Numbered) (h : Holding) (powers : List ℕ) (p : Pos) (n : ℕ) (component : Component) (cell : Cell) → number_at m p ≡ Some n → role_at m.plan m.marks p ≡ Some component →
    cell ≡ attended h.time component (first_at m.plan p) (reads_of m h.cells powers p) (cell_of h.cells n) → cell ≡ after_attending m h.time (reads_of m h.cells powers) p (held m h.cells nothing p)
attended_there m h powers p n component cell there role is =
    is
    ∙ attended_by h.time (role_at m.plan m.marks p) (first_at m.plan p) (reads_of m h.cells powers) p component (cell_of h.cells n) role
    ∙ ap (λ (c : Cell). after_attending m h.time (reads_of m h.cells powers) p c) (sym (held-there m h.cells nothing p n there))
