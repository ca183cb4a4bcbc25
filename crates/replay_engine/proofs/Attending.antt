-- Attending one place after another is attending all at once.
use Rattle.std.proofs.Common.{◌≡◌, ℕ, ◌≤◌, Bool, List, Option, Some, None, refl, sym, ◌∙◌, ap, subst, inl, inr, ◌⊎◌, arith}
use Rattle.std.specs.Prelude.{◌==◌}
use Rattle.std.proofs.Math.Path.{fun_ext}
use Rattle.circuit.specs.declared.Pos.{Pos}
use Rattle.circuit.specs.declared.Component.{Component}
use Rattle.circuit.specs.declared.Component.TheVariants.{Lamp, Trapdoor, Note}
use Rattle.circuit.specs.declared.Readings.{Readings}
use Rattle.circuit.specs.declared.Cell.{Cell}
use Rattle.circuit.specs.Component.{top, out, goal, is_on, attended_value}
use Rattle.circuit.specs.Circuit.{out_at, attended_at, attend}
use Rattle.circuit.proofs.Settled.{attended-settled, settled_attended}
use Rattle.circuit.proofs.Bounded.{cond_le}
use Rattle.build.specs.Roles.{role_at, first_at, base_at}
use Rattle.power_rules.specs.Readings.{readings_at}
use Rattle.power_rules.specs.RightWires.{level_with, levels, wire_powers}
use Rattle.replay_engine.specs.Things.{Numbered, IsNumbered, held, nothing, state_by}
use Rattle.replay_engine.specs.WireThings.{things_levels}
use Rattle.replay_engine.specs.Given.{given-le}
use Rattle.replay_engine.specs.Running.{circuit_of, given_by, reads_of, ArePowers, AreStill, AreWithin, after_attending, Attends}

out-attended : (component : Component) (aim value : ℕ) → out component (attended_value component aim value) ≡ out component value
out-attended Lamp aim value = refl
out-attended Trapdoor aim value = refl
out-attended Note aim value = refl
out-attended _ aim value = refl

out_at-after : (time : ℕ) (role : Option Component) (first : Bool) (base : ℕ) (reads : Pos → Readings) (p : Pos) (cell : Cell) →
    out_at role base (attended_at time role first reads p cell) ≡ out_at role base cell
out_at-after time None first base reads p cell = refl
out_at-after time (Some component) first base reads p cell = out-attended component (goal component (reads p)) cell.value

-- who has attended has no more to do, at whatever time
attended_at-again : (later time : ℕ) (role : Option Component) (first : Bool) (reads : Pos → Readings) (p : Pos) (cell : Cell) →
    attended_at later role first reads p (attended_at time role first reads p cell) ≡ attended_at time role first reads p cell
attended_at-again later time None first reads p cell = refl
attended_at-again later time (Some component) first reads p cell =
    attended-settled later component first (reads p) (attended_at time (Some component) first reads p cell) (settled_attended time component first (reads p) cell)

-- attending doesn't change what is given, and so not what is read
pub given-attends : (m : Numbered) (time : ℕ) (powers : List ℕ) (old new : List Cell) (D : Pos → Type 0) → Attends m time powers old new D → given_by m new ≡ given_by m old
given-attends m time powers old new D a = fun_ext (λ p. one p (a.each p))
  where
    role : Pos → Option Component
    role p = role_at m.plan m.marks p

    one : (p : Pos) → (held m new nothing p ≡ held m old nothing p) ⊎ (held m new nothing p ≡ after_attending m time (reads_of m old powers) p (held m old nothing p)) →
        out_at (role_at m.plan m.marks p) (base_at m.plan p) (held m new nothing p) ≡ out_at (role_at m.plan m.marks p) (base_at m.plan p) (held m old nothing p)
    one p (inl e) = ap (λ (c : Cell). out_at (role_at m.plan m.marks p) (base_at m.plan p) c) e
    one p (inr e) = ap (λ (c : Cell). out_at (role_at m.plan m.marks p) (base_at m.plan p) c) e
        ∙ out_at-after time (role_at m.plan m.marks p) (first_at m.plan p) (base_at m.plan p) (reads_of m old powers) p (held m old nothing p)

reads-attends : (m : Numbered) (time : ℕ) (powers : List ℕ) (old new : List Cell) (D : Pos → Type 0) → Attends m time powers old new D → reads_of m new powers ≡ reads_of m old powers
reads-attends m time powers old new D a = ap (λ (g : Pos → ℕ). readings_at m.plan (level_with m.plan g (held m powers 0))) (given-attends m time powers old new D a)

-- nothing is done
pub attends-none : (m : Numbered) (time : ℕ) (powers : List ℕ) (cells : List Cell) → Attends m time powers cells cells (λ p. ⊥)
attends-none m time powers cells = record { each = λ p. inl refl; done = λ p h. absurd h }

pub attends-fewer : (m : Numbered) (time : ℕ) (powers : List ℕ) (old new : List Cell) (D E : Pos → Type 0) → ((p : Pos) → E p → D p) → Attends m time powers old new D → Attends m time powers old new E
attends-fewer m time powers old new D E h a = record { each = a.each; done = λ p e. a.done p (h p e) }

-- some attend, and then some more
pub attends-then : (m : Numbered) (time : ℕ) (powers : List ℕ) (a b c : List Cell) (D E : Pos → Type 0) → Attends m time powers a b D → Attends m time powers b c E →
    Attends m time powers a c (λ p. D p ⊎ E p)
attends-then m time powers a b c D E f g = record { each = λ p. both p (f.each p) (g.each p); done = λ p h. last p h }
  where
    A : Pos → Cell → Cell
    A p cell = after_attending m time (reads_of m a powers) p cell

    twice : (p : Pos) (cell : Cell) → A p (A p cell) ≡ A p cell
    twice p cell = attended_at-again time time (role_at m.plan m.marks p) (first_at m.plan p) (reads_of m a powers) p cell

    same : (p : Pos) (cell : Cell) → after_attending m time (reads_of m b powers) p cell ≡ A p cell
    same p cell = ap (λ (r : Pos → Readings). after_attending m time r p cell) (reads-attends m time powers a b D f)

    from_first : (p : Pos) → (held m b nothing p ≡ held m a nothing p) ⊎ (held m b nothing p ≡ A p (held m a nothing p)) →
        held m c nothing p ≡ after_attending m time (reads_of m b powers) p (held m b nothing p) → held m c nothing p ≡ A p (held m a nothing p)
    from_first p (inl e) h = h ∙ same p (held m b nothing p) ∙ ap (A p) e
    from_first p (inr e) h = h ∙ same p (held m b nothing p) ∙ ap (A p) e ∙ twice p (held m a nothing p)

    both : (p : Pos) → (held m b nothing p ≡ held m a nothing p) ⊎ (held m b nothing p ≡ A p (held m a nothing p)) →
        (held m c nothing p ≡ held m b nothing p) ⊎ (held m c nothing p ≡ after_attending m time (reads_of m b powers) p (held m b nothing p)) →
        (held m c nothing p ≡ held m a nothing p) ⊎ (held m c nothing p ≡ A p (held m a nothing p))
    both p (inl e) (inl h) = inl (h ∙ e)
    both p (inr e) (inl h) = inr (h ∙ e)
    both p e (inr h) = inr (from_first p e h)

    kept : (p : Pos) → D p → (held m c nothing p ≡ held m b nothing p) ⊎ (held m c nothing p ≡ after_attending m time (reads_of m b powers) p (held m b nothing p)) →
        held m c nothing p ≡ A p (held m a nothing p)
    kept p d (inl h) = h ∙ f.done p d
    kept p d (inr h) = from_first p (inr (f.done p d)) h

    last : (p : Pos) → D p ⊎ E p → held m c nothing p ≡ A p (held m a nothing p)
    last p (inl d) = kept p d (g.each p)
    last p (inr e) = from_first p (f.each p) (g.done p e)

-- ---- all have attended

-- what is read by right powers is what the world reads
pub reads-right : (m : Numbered) → IsNumbered m → (cells : List Cell) (powers : List ℕ) → AreWithin m cells → ArePowers m cells powers →
    reads_of m cells powers ≡ readings_at m.plan (levels m.plan (given_by m cells) (wire_powers m.plan (given_by m cells)))
reads-right m w cells powers within right = ap (λ (l : Pos → ℕ). readings_at m.plan l) (things_levels m w (given_by m cells) powers (given-le m cells within) right)

-- where each place has attended or needn't, all have
pub each-attended : (m : Numbered) (time : ℕ) (powers : List ℕ) (old new : List Cell) (D : Pos → Type 0) → Attends m time powers old new D →
    ((p : Pos) → D p ⊎ (after_attending m time (reads_of m old powers) p (held m old nothing p) ≡ held m old nothing p)) →
    (p : Pos) → held m new nothing p ≡ after_attending m time (reads_of m old powers) p (held m old nothing p)
each-attended m time powers old new D a rest p = mine (rest p)
  where
    still : (held m new nothing p ≡ held m old nothing p) ⊎ (held m new nothing p ≡ after_attending m time (reads_of m old powers) p (held m old nothing p)) →
        after_attending m time (reads_of m old powers) p (held m old nothing p) ≡ held m old nothing p →
        held m new nothing p ≡ after_attending m time (reads_of m old powers) p (held m old nothing p)
    still (inl e) quiet = e ∙ sym quiet
    still (inr e) quiet = e

    mine : D p ⊎ (after_attending m time (reads_of m old powers) p (held m old nothing p) ≡ held m old nothing p) →
        held m new nothing p ≡ after_attending m time (reads_of m old powers) p (held m old nothing p)
    mine (inl d) = a.done p d
    mine (inr quiet) = still (a.each p) quiet

pub all-attended : (m : Numbered) → IsNumbered m → (time : ℕ) (powers : List ℕ) (old new : List Cell) (D : Pos → Type 0) → AreWithin m old → ArePowers m old powers → Attends m time powers old new D →
    ((p : Pos) → D p ⊎ (after_attending m time (reads_of m old powers) p (held m old nothing p) ≡ held m old nothing p)) →
    state_by m time new ≡ attend (circuit_of m) (state_by m time old)
all-attended m w time powers old new D within right a rest = λ i. record { time = time; cells = λ p. cell p i }
  where
    reads : Pos → Readings
    reads = readings_at m.plan (levels m.plan (given_by m old) (wire_powers m.plan (given_by m old)))

    cell : (p : Pos) → held m new nothing p ≡ after_attending m time reads p (held m old nothing p)
    cell p = each-attended m time powers old new D a rest p ∙ ap (λ (r : Pos → Readings). after_attending m time r p (held m old nothing p)) (reads-right m w old powers within right)

-- and then all are still
pub still-attended : (m : Numbered) (time : ℕ) (powers : List ℕ) (old new : List Cell) (D : Pos → Type 0) → Attends m time powers old new D →
    ((p : Pos) → D p ⊎ (after_attending m time (reads_of m old powers) p (held m old nothing p) ≡ held m old nothing p)) → AreStill m new powers
still-attended m time powers old new D a rest = record { each = λ p later. here p later }
  where
    here : (p : Pos) (later : ℕ) → after_attending m later (reads_of m new powers) p (held m new nothing p) ≡ held m new nothing p
    here p later =
        let all : held m new nothing p ≡ after_attending m time (reads_of m old powers) p (held m old nothing p) = each-attended m time powers old new D a rest p in
        ap (λ (r : Pos → Readings). after_attending m later r p (held m new nothing p)) (reads-attends m time powers old new D a)
        ∙ ap (λ (c : Cell). after_attending m later (reads_of m old powers) p c) all
        ∙ attended_at-again later time (role_at m.plan m.marks p) (first_at m.plan p) (reads_of m old powers) p (held m old nothing p)
        ∙ sym all

-- ---- within bounds

attended_value-le : (component : Component) (r : Readings) (value : ℕ) → value ≤ top component → attended_value component (goal component r) value ≤ top component
attended_value-le Lamp r value q = cond_le (value == 0) (is_on r.back) value 1 (cond_le _ 1 0 1 (omega arith) (omega arith)) q
attended_value-le Trapdoor r value q = cond_le _ 1 0 1 (omega arith) (omega arith)
attended_value-le Note r value q = cond_le _ 1 0 1 (omega arith) (omega arith)
attended_value-le _ r value q = q

after-le : (time : ℕ) (role : Option Component) (first : Bool) (reads : Pos → Readings) (p : Pos) (cell : Cell) →
    ((component : Component) → role ≡ Some component → cell.value ≤ top component) → (component : Component) → role ≡ Some component → (attended_at time role first reads p cell).value ≤ top component
after-le time None first reads p cell h component e = absurd (cc)
after-le time (Some c) first reads p cell h component e =
    let same : c ≡ component = cc in
    subst (λ (x : Component). (attended_at time (Some c) first reads p cell).value ≤ top x) same (attended_value-le c (reads p) cell.value (h c refl))

pub within-attends : (m : Numbered) (time : ℕ) (powers : List ℕ) (old new : List Cell) (D : Pos → Type 0) → Attends m time powers old new D → AreWithin m old → AreWithin m new
within-attends m time powers old new D a w p component there = one (a.each p)
  where
    one : (held m new nothing p ≡ held m old nothing p) ⊎ (held m new nothing p ≡ after_attending m time (reads_of m old powers) p (held m old nothing p)) → (held m new nothing p).value ≤ top component
    one (inl e) = rw e (w p component there)
    one (inr e) = rw e (after-le time (role_at m.plan m.marks p) (first_at m.plan p) (reads_of m old powers) p (held m old nothing p) (w p) component there)
