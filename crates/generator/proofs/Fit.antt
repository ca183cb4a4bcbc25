-- The build takes each click.
use Rattle.std.proofs.Common.{◌≡◌, ℕ, zero, suc, ◌+◌, ◌*◌, ◌/◌, ◌≤◌, ◌<◌, Bool, true, false, List, [], ◌∷◌, ◌++◌, refl, sym, ◌∙◌, ap, subst, arith}
use Rattle.block_table.specs.declared.Block.{Block}
use Rattle.circuit.specs.declared.Act.{Act}
use Rattle.circuit.specs.declared.Act.TheVariants.{Click as ClickAct, Ticks}
use Rattle.circuit.specs.declared.Click.{Click}
use Rattle.circuit.specs.declared.Click.TheVariants.{Use}
use Rattle.circuit.specs.declared.Pos.{Pos}
use Rattle.script.specs.Clickable.{block_takes, takes_click, is_wire_at}
use Rattle.script.specs.Fit.{EachClickTaken, IsFit}
use Rattle.generator.specs.UnitCells.{unit_cells, unit_block}
use Rattle.generator.specs.Made.{is_odd, place_at, use_at, act_if, unit_acts, clicks_on, made_build, made_script}
use Rattle.generator.proofs.Units.{block_at-made}
use Rattle.generator.proofs.Clicks.{clicks_on-more}

taken-append : (takes : Pos → Click → Bool) (acts more : List Act) → EachClickTaken takes acts → EachClickTaken takes more → EachClickTaken takes (acts ++ more)
taken-append takes [] more h k = k
taken-append takes (ClickAct place click ∷ acts) more h k = (h.0, taken-append takes acts more h.1 k)
taken-append takes (Ticks n ∷ acts) more h k = taken-append takes acts more h k

taken_if : (takes : Pos → Click → Bool) (wanted : Bool) (x y z : ℕ) → takes (place_at x y z) Use ≡ true → EachClickTaken takes (act_if wanted (use_at x y z))
taken_if takes true x y z h = (h, tt)
taken_if takes false x y z h = tt

-- a click on a lever of a unit
lever_takes : (n i x y z X : ℕ) → X ≡ 4 * i + x → i < n → x < 4 → y < 3 → z < 10 → block_takes (unit_block x y z) Use ≡ true → takes_click (made_build n) (place_at X y z) Use ≡ true
lever_takes n i x y z X e hi hx hy hz lever = ap (λ (block : Block). block_takes block Use) (block_at-made n i x y z X e hi hx hy hz) ∙ lever

first_lever : block_takes (unit_block 0 0 0) Use ≡ true
unfolding unit_block unit_cells
first_lever = refl

second_lever : block_takes (unit_block 2 0 0) Use ≡ true
unfolding unit_block unit_cells
second_lever = refl

twins_lever : block_takes (unit_block 1 2 5) Use ≡ true
unfolding unit_block unit_cells
twins_lever = refl

unit_taken : (n i : ℕ) → i < n → EachClickTaken (takes_click (made_build n)) (unit_acts i)
unfolding unit_acts
unit_taken n i h =
    let takes = takes_click (made_build n) in
    let one = act_if (is_odd i) (use_at (4 * i) 0 0) in
    let two = act_if (is_odd (i / 2)) (use_at (4 * i + 2) 0 0) in
    let three = act_if (is_odd i) (use_at (4 * i + 1) 2 5) in
    taken-append takes one (two ++ three)
    (taken_if takes (is_odd i) (4 * i) 0 0 (lever_takes n i 0 0 0 (4 * i) (omega arith) h (omega arith) (omega arith) (omega arith) first_lever))
    (taken-append takes two three
    (taken_if takes (is_odd (i / 2)) (4 * i + 2) 0 0 (lever_takes n i 2 0 0 (4 * i + 2) refl h (omega arith) (omega arith) (omega arith) second_lever))
    (taken_if takes (is_odd i) (4 * i + 1) 2 5 (lever_takes n i 1 2 5 (4 * i + 1) refl h (omega arith) (omega arith) (omega arith) twins_lever)))

clicks_taken : (n m : ℕ) → m ≤ n → EachClickTaken (takes_click (made_build n)) (clicks_on m)
clicks_taken n zero h = tt
clicks_taken n (suc m) h =
    let e : m + 1 ≡ suc m = omega arith in
    subst (λ (k : ℕ). EachClickTaken (takes_click (made_build n)) (clicks_on k)) e
    (subst (λ (acts : List Act). EachClickTaken (takes_click (made_build n)) acts) (sym (clicks_on-more m))
    (taken-append (takes_click (made_build n)) (clicks_on m) (unit_acts m) (clicks_taken n m (omega arith)) (unit_taken n m (omega arith))))

pub script_fit : (n : ℕ) → IsFit (takes_click (made_build n)) (is_wire_at (made_build n)) (made_script n)
unfolding made_script
script_fit n = record {
  clicks = taken-append (takes_click (made_build n)) (clicks_on n) (Ticks 8 ∷ []) (clicks_taken n n (omega arith)) tt;
  marks = refl;
}
