-- Clicks are few, and no ticks.
use Rattle.std.proofs.Common.{◌≡◌, ℕ, zero, suc, ◌+◌, ◌*◌, ◌/◌, ◌≤◌, Bool, true, false, List, [], ◌∷◌, ◌++◌, length, refl, ◌∙◌, ap, arith, append_assoc, length-append}
use Rattle.std.specs.List.{flat_map, range_with_len}
use Rattle.std.proofs.lemmas.Grind.{flat_map-append}
use Rattle.std.proofs.lemmas.List.{append-nil}
use Rattle.std.proofs.lemmas.List.Sums.{sum_by-append}
use Rattle.circuit.specs.declared.Act.{Act}
use Rattle.script.specs.Acts.{Meaning, ticks_of, ticks_in}
use Rattle.generator.specs.Made.{is_odd, use_at, act_if, unit_acts, clicks_on, with_acts}

range_more : (a n : ℕ) → range_with_len a (n + 1) ≡ range_with_len a n ++ (a + n) ∷ []
range_more a n = let e : n + 1 ≡ suc n = omega arith in ap (range_with_len a) e ∙ at_end a n
  where
    at_end : (a n : ℕ) → range_with_len a (suc n) ≡ range_with_len a n ++ (a + n) ∷ []
    at_end a zero = let e : a ≡ a + 0 = omega arith in ap (λ (k : ℕ). k ∷ []) e
    at_end a (suc n) = let e : a + 1 + n ≡ a + suc n = omega arith in ap (λ (xs : List ℕ). a ∷ xs) (at_end (a + 1) n ∙ ap (λ (k : ℕ). range_with_len (a + 1) n ++ k ∷ []) e)

-- the clicks on one unit more
pub clicks_on-more : (n : ℕ) → clicks_on (n + 1) ≡ clicks_on n ++ unit_acts n
clicks_on-more n =
    let e : 0 + n ≡ n = omega arith in
    ap (flat_map unit_acts) (range_more 0 n)
    ∙ flat_map-append unit_acts (range_with_len 0 n) ((0 + n) ∷ [])
    ∙ ap (λ (acts : List Act). clicks_on n ++ acts) (append-nil (unit_acts (0 + n)))
    ∙ ap (λ (k : ℕ). clicks_on n ++ unit_acts k) e

length-act_if : (wanted : Bool) (act : Act) → length (act_if wanted act) ≤ 1
length-act_if true act = omega arith
length-act_if false act = omega arith

-- a unit has three levers
pub length-unit_acts : (i : ℕ) → length (unit_acts i) ≤ 3
unfolding unit_acts
length-unit_acts i =
    let one = act_if (is_odd i) (use_at (4 * i) 0 0) in
    let two = act_if (is_odd (i / 2)) (use_at (4 * i + 2) 0 0) in
    let three = act_if (is_odd i) (use_at (4 * i + 1) 2 5) in
    omega (arith, length-append one (two ++ three), length-append two three, length-act_if (is_odd i) (use_at (4 * i) 0 0), length-act_if (is_odd (i / 2)) (use_at (4 * i + 2) 0 0), length-act_if (is_odd i) (use_at (4 * i + 1) 2 5))

pub ticks_in-act_if : (wanted : Bool) (x y z : ℕ) → ticks_in (act_if wanted (use_at x y z)) ≡ 0
ticks_in-act_if true x y z = refl
ticks_in-act_if false x y z = refl

pub ticks_in-unit_acts : (i : ℕ) → ticks_in (unit_acts i) ≡ 0
unfolding unit_acts
ticks_in-unit_acts i =
    let one = act_if (is_odd i) (use_at (4 * i) 0 0) in
    let two = act_if (is_odd (i / 2)) (use_at (4 * i + 2) 0 0) in
    let three = act_if (is_odd i) (use_at (4 * i + 1) 2 5) in
    omega (arith, sum_by-append ticks_of one (two ++ three), sum_by-append ticks_of two three, ticks_in-act_if (is_odd i) (4 * i) 0 0, ticks_in-act_if (is_odd (i / 2)) (4 * i + 2) 0 0, ticks_in-act_if (is_odd i) (4 * i + 1) 2 5)

pub length-clicks_on : (n : ℕ) → length (clicks_on n) ≤ 3 * n
length-clicks_on zero = omega arith
length-clicks_on (suc n) =
    let e : suc n ≡ n + 1 = omega arith in
    let more : length (clicks_on (suc n)) ≡ length (clicks_on n ++ unit_acts n) = ap (λ (k : ℕ). length (clicks_on k)) e ∙ ap length (clicks_on-more n) in
    omega (arith, more, length-append (clicks_on n) (unit_acts n), length-clicks_on n, length-unit_acts n)

pub ticks_in-clicks_on : (n : ℕ) → ticks_in (clicks_on n) ≡ 0
ticks_in-clicks_on zero = refl
ticks_in-clicks_on (suc n) =
    let e : suc n ≡ n + 1 = omega arith in
    let more : ticks_in (clicks_on (suc n)) ≡ ticks_in (clicks_on n ++ unit_acts n) = ap (λ (k : ℕ). ticks_in (clicks_on k)) e ∙ ap ticks_in (clicks_on-more n) in
    omega (arith, more, sum_by-append ticks_of (clicks_on n) (unit_acts n), ticks_in-clicks_on n, ticks_in-unit_acts n)

-- acts are added one list after another
pub with_acts-three : (a b c d : Meaning) (one two three : List Act) → b ≡ with_acts a one → c ≡ with_acts b two → d ≡ with_acts c three → d ≡ with_acts a (one ++ (two ++ three))
with_acts-three a b c d one two three e f g =
    let all : ((a.acts ++ one) ++ two) ++ three ≡ a.acts ++ (one ++ (two ++ three)) = append_assoc (a.acts ++ one) two three ∙ append_assoc a.acts one (two ++ three) in
    g
    ∙ ap (λ (s : Meaning). with_acts s three) f
    ∙ ap (λ (s : Meaning). with_acts (with_acts s two) three) e
    ∙ ap (λ (acts : List Act). record a { acts = acts }) all
