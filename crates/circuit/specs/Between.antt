-- Attending in a state between two others changes nothing that isn't changed at the end.
use Rattle.std.proofs.Common.{◌≡◌, ℕ, ◌+◌, ◌≤◌, Bool, true, false, not, ◌&&◌, refl, sym, ap, ◌∙◌, subst₂, arith, cond, ◌≢◌, ◌⊎◌, inl, inr}
use Rattle.std.proofs.lemmas.Bool.{eqb-true, eqb-false, ne_eqb, cases_Bool, and_parts, not-true, false≢true, ltb-false, le-ltb}
use Rattle.std.proofs.lemmas.Bool.Decides.{nat_tests}
use Rattle.std.specs.Prelude.{nat_lt, ◌==◌}
use Rattle.circuit.specs.declared.Component.{Component}
use Rattle.circuit.specs.declared.Component.TheVariants.{Lever, Button, Plate, Weighted, Torch, Repeater, Comparator, Lamp, Trapdoor, Note, Wire}
use Rattle.circuit.specs.declared.Readings.{Readings}
use Rattle.circuit.specs.declared.Cell.{Cell}
use Rattle.circuit.specs.Component.{is_on, compared, goal, locked, delay_of, priority_of, attended_value, asks, gets_tick, attended}
use Rattle.circuit.specs.Settled.{IsSettled, attended-settled, settled_attended, delay_above}

-- y lies between x and z
abbrev pub Between : ℕ → ℕ → ℕ → Type 0
Between x y z = ((x ≤ y) × (y ≤ z)) ⊎ ((z ≤ y) × (y ≤ x))

is_on_le : (x y : ℕ) → x ≤ y → is_on x ≤ is_on y
is_on_le x y h = grind (arith, nat_tests)

torch_le : (x y : ℕ) → x ≤ y → cond (nat_lt 0 y) 0 1 ≤ cond (nat_lt 0 x) 0 1
torch_le x y h = grind (arith, nat_tests)

compared_back_le : (subtract : Bool) (x y side : ℕ) → x ≤ y → compared subtract x side ≤ compared subtract y side
compared_back_le true x y side h = omega arith
compared_back_le false x y side h = grind (arith, nat_tests)

compared_side_le : (subtract : Bool) (back x y : ℕ) → x ≤ y → compared subtract back y ≤ compared subtract back x
compared_side_le true back x y h = omega arith
compared_side_le false back x y h = grind (arith, nat_tests)

between_up : (f : ℕ → ℕ) → ((x y : ℕ) → x ≤ y → f x ≤ f y) → (x y z : ℕ) → Between x y z → Between (f x) (f y) (f z)
between_up f up x y z b = elim b [ inl h ↦ inl (up x y h.0, up y z h.1) | inr h ↦ inr (up z y h.0, up y x h.1) ]

between_down : (f : ℕ → ℕ) → ((x y : ℕ) → x ≤ y → f y ≤ f x) → (x y z : ℕ) → Between x y z → Between (f x) (f y) (f z)
between_down f down x y z b = elim b [ inl h ↦ inr (down y z h.1, down x y h.0) | inr h ↦ inl (down y x h.1, down z y h.0) ]

between_same : (x : ℕ) → Between x x x
between_same x = inl (omega arith, omega arith)

-- Goals are monotone in the reading of one group while the other stays.
pub goal_back_between : (component : Component) (x y z side : ℕ) → Between x y z →
    Between (goal component (record { back = x; side = side })) (goal component (record { back = y; side = side })) (goal component (record { back = z; side = side }))
goal_back_between Torch x y z side b = between_down (λ n. cond (nat_lt 0 n) 0 1) torch_le x y z b
goal_back_between (Repeater delay) x y z side b = between_up is_on is_on_le x y z b
goal_back_between (Comparator subtract) x y z side b = between_up (λ n. compared subtract n side) (λ p q. compared_back_le subtract p q side) x y z b
goal_back_between Lamp x y z side b = between_up is_on is_on_le x y z b
goal_back_between Trapdoor x y z side b = between_up is_on is_on_le x y z b
goal_back_between Note x y z side b = between_up is_on is_on_le x y z b
goal_back_between _ x y z side b = between_same 0

pub goal_side_between : (component : Component) (back x y z : ℕ) → Between x y z →
    Between (goal component (record { back = back; side = x })) (goal component (record { back = back; side = y })) (goal component (record { back = back; side = z }))
goal_side_between (Comparator subtract) back x y z b = between_down (λ n. compared subtract back n) (λ p q. compared_side_le subtract back p q) x y z b
goal_side_between Torch back x y z b = between_same _
goal_side_between _ back x y z b = between_same _

-- what a node at rest makes of readings between two others
pub record Passing (component : Component) (mid last : Readings) (cell : Cell) : Type 0 where
  pub tick : gets_tick component mid cell ≡ true → gets_tick component last cell ≡ true
  pub value : attended_value component (goal component last) (attended_value component (goal component mid) cell.value) ≡ attended_value component (goal component last) cell.value
  pub wants : asks component (goal component last) (attended_value component (goal component mid) cell.value) ≡ asks component (goal component last) cell.value
  pub urgent : (first : Bool) → priority_of component first (attended_value component (goal component mid) cell.value) ≡ priority_of component first cell.value

pub attended_passing : (time : ℕ) (component : Component) (first : Bool) (mid last : Readings) (cell : Cell) → Passing component mid last cell →
    attended time component first last (attended time component first mid cell) ≡ attended time component first last cell
attended_passing time component first mid last cell p = elim (cases_Bool (gets_tick component mid cell)) [
  | inl e ↦ rw (e, p.value, p.tick e, ne_eqb (time + delay_of component) 0 (omega (arith, delay_above component))) refl
  | inr e ↦ rw (e, p.value, p.wants, p.urgent first) refl
]

-- a goal between two others of a node that is at rest at the first
pub record Aims (component : Component) (rest mid last : Readings) : Type 0 where
  pub goals : Between (goal component rest) (goal component mid) (goal component last)
  -- where nothing locks it in between, nothing locks it at both ends, or its goal in between is that of an end where nothing locks it
  pub locks : locked component mid ≡ false → ((locked component rest ≡ false) × (locked component last ≡ false)) ⊎
      (((locked component last ≡ false) × (goal component mid ≡ goal component last)) ⊎ ((locked component rest ≡ false) × (goal component mid ≡ goal component rest)))

wants_value : (v g m l : ℕ) → Between g m l → not (v == g) ≡ false → not (v == m) ≡ true → not (v == l) ≡ true
wants_value v g m l b h k = grind (arith, nat_tests)

wants_lamp : (v g m l : ℕ) → Between g m l → (not (v == 0) && (g == 0)) ≡ false → (not (v == 0) && (m == 0)) ≡ true → (not (v == 0) && (l == 0)) ≡ true
wants_lamp v g m l b h k = grind (arith, nat_tests)

asks_between : (component : Component) (v g m l : ℕ) → Between g m l → asks component g v ≡ false → asks component m v ≡ true → asks component l v ≡ true
asks_between Torch v g m l b h k = wants_value v g m l b h k
asks_between (Repeater delay) v g m l b h k = wants_value v g m l b h k
asks_between (Comparator subtract) v g m l b h k = wants_value v g m l b h k
asks_between (Button delay) v g m l b h k = wants_value v g m l b h k
asks_between Lamp v g m l b h k = wants_lamp v g m l b h k
asks_between _ v g m l b h k = absurd (false≢true k)

tick_between : (component : Component) (rest mid last : Readings) (cell : Cell) → Aims component rest mid last →
    gets_tick component rest cell ≡ false → gets_tick component mid cell ≡ true → gets_tick component last cell ≡ true
tick_between component rest mid last cell a h k =
    let p = and_parts (cell.due == 0) (not (locked component mid) && asks component (goal component mid) cell.value) k in
    let q = and_parts (not (locked component mid)) (asks component (goal component mid) cell.value) p.1 in
    elim (a.locks (not-true (locked component mid) q.0)) [
      | inl l ↦ (let calm : asks component (goal component rest) cell.value ≡ false = rw (p.0, l.0) at h in
          rw (p.0, l.1) (asks_between component cell.value (goal component rest) (goal component mid) (goal component last) a.goals calm q.1))
      | inr o ↦ elim o [
        | inl l ↦ rw (p.0, l.0, ← l.1) q.1
        | inr l ↦ (let calm : asks component (goal component rest) cell.value ≡ false = rw (p.0, l.0) at h in
            absurd (false≢true (sym calm ∙ (rw l.1 at q.1))))
      ]
    ]

is_on_one : (x : ℕ) → is_on x ≤ 1
is_on_one x = grind (arith, nat_tests)

lamp_between : (v g m l : ℕ) → Between g m l → m ≤ 1 → l ≤ 1 → cond (v == 0) g v ≡ v →
    (cond (cond (v == 0) m v == 0) l (cond (v == 0) m v) ≡ cond (v == 0) l v) × ((not (cond (v == 0) m v == 0) && (l == 0)) ≡ (not (v == 0) && (l == 0)))
lamp_between v g m l b p q h = elim (cases_Bool (v == 0)) [
  | inl e ↦ (let zero : v ≡ 0 = eqb-true v 0 e in let rests : g ≡ v = rw e at h in
      rw e (elim (cases_Bool (m == 0)) [
        | inl f ↦ rw f (refl, refl)
        | inr f ↦ (let on : m ≢ 0 = eqb-false m 0 f in let same : m ≡ l = elim b [ inl c ↦ omega arith | inr c ↦ omega arith ] in
            rw f (same, ne_eqb l 0 (omega arith)))
      ]))
  | inr e ↦ simp e (refl, refl)
]

pub passing_between : (component : Component) (rest mid last : Readings) (cell : Cell) → Aims component rest mid last →
    gets_tick component rest cell ≡ false → attended_value component (goal component rest) cell.value ≡ cell.value → Passing component mid last cell
passing_between Lamp rest mid last cell a quiet still =
    let two = lamp_between cell.value (goal Lamp rest) (goal Lamp mid) (goal Lamp last) a.goals (is_on_one mid.back) (is_on_one last.back) still in
    record { tick = tick_between Lamp rest mid last cell a quiet; value = two.0; wants = two.1; urgent = λ first. refl }
passing_between Lever rest mid last cell a quiet still = record { tick = tick_between Lever rest mid last cell a quiet; value = refl; wants = refl; urgent = λ first. refl }
passing_between (Button delay) rest mid last cell a quiet still = record { tick = tick_between (Button delay) rest mid last cell a quiet; value = refl; wants = refl; urgent = λ first. refl }
passing_between Plate rest mid last cell a quiet still = record { tick = tick_between Plate rest mid last cell a quiet; value = refl; wants = refl; urgent = λ first. refl }
passing_between Weighted rest mid last cell a quiet still = record { tick = tick_between Weighted rest mid last cell a quiet; value = refl; wants = refl; urgent = λ first. refl }
passing_between Torch rest mid last cell a quiet still = record { tick = tick_between Torch rest mid last cell a quiet; value = refl; wants = refl; urgent = λ first. refl }
passing_between (Repeater delay) rest mid last cell a quiet still = record { tick = tick_between (Repeater delay) rest mid last cell a quiet; value = refl; wants = refl; urgent = λ first. refl }
passing_between (Comparator subtract) rest mid last cell a quiet still = record { tick = tick_between (Comparator subtract) rest mid last cell a quiet; value = refl; wants = refl; urgent = λ first. refl }
passing_between Trapdoor rest mid last cell a quiet still = record { tick = tick_between Trapdoor rest mid last cell a quiet; value = refl; wants = refl; urgent = λ first. refl }
passing_between Note rest mid last cell a quiet still = record { tick = tick_between Note rest mid last cell a quiet; value = refl; wants = refl; urgent = λ first. refl }
passing_between Wire rest mid last cell a quiet still = record { tick = tick_between Wire rest mid last cell a quiet; value = refl; wants = refl; urgent = λ first. refl }

pub aims_back : (component : Component) (x y z side : ℕ) → Between x y z →
    Aims component (record { back = x; side = side }) (record { back = y; side = side }) (record { back = z; side = side })
aims_back component x y z side b = record { goals = goal_back_between component x y z side b; locks = locks component }
  where
    locks : (component : Component) → locked component (record { back = y; side = side }) ≡ false → ((locked component (record { back = x; side = side }) ≡ false) × (locked component (record { back = z; side = side }) ≡ false)) ⊎
        (((locked component (record { back = z; side = side }) ≡ false) × (goal component (record { back = y; side = side }) ≡ goal component (record { back = z; side = side }))) ⊎ ((locked component (record { back = x; side = side }) ≡ false) × (goal component (record { back = y; side = side }) ≡ goal component (record { back = x; side = side }))))
    locks (Repeater delay) h = inl (h, h)
    locks Torch h = inl (refl, refl)
    locks _ h = inl (refl, refl)

pub aims_side : (component : Component) (back x y z : ℕ) → Between x y z →
    Aims component (record { back = back; side = x }) (record { back = back; side = y }) (record { back = back; side = z })
aims_side component back x y z b = record { goals = goal_side_between component back x y z b; locks = locks component }
  where
    locks : (component : Component) → locked component (record { back = back; side = y }) ≡ false → ((locked component (record { back = back; side = x }) ≡ false) × (locked component (record { back = back; side = z }) ≡ false)) ⊎
        (((locked component (record { back = back; side = z }) ≡ false) × (goal component (record { back = back; side = y }) ≡ goal component (record { back = back; side = z }))) ⊎ ((locked component (record { back = back; side = x }) ≡ false) × (goal component (record { back = back; side = y }) ≡ goal component (record { back = back; side = x }))))
    locks (Repeater delay) h = elim b [
      | inl c ↦ inr (inr (le-ltb 0 x (let none : y ≤ 0 = ltb-false 0 y h in omega arith), refl))
      | inr c ↦ inr (inl (le-ltb 0 z (let none : y ≤ 0 = ltb-false 0 y h in omega arith), refl))
    ]
    locks Torch h = inl (refl, refl)
    locks _ h = inl (refl, refl)

-- how the readings of a node may change when one of two twins fires, and then the other
pub data Path3 (rest mid last : Readings) : Type 0 where
  Early : mid ≡ last → Path3 rest mid last
  Late : mid ≡ rest → Path3 rest mid last
  BackOnly : mid.side ≡ rest.side → last.side ≡ rest.side → Between rest.back mid.back last.back → Path3 rest mid last
  SideOnly : mid.back ≡ rest.back → last.back ≡ rest.back → Between rest.side mid.side last.side → Path3 rest mid last

-- A node at rest that attends in between and at the end is as if it attended at the end alone.
pub attended_twice : (time : ℕ) (component : Component) (first : Bool) (rest mid last : Readings) (cell : Cell) → Path3 rest mid last →
    IsSettled component rest cell → attended time component first last (attended time component first mid cell) ≡ attended time component first last cell
attended_twice time component first rest mid last cell (Early e) s =
    rw e (attended-settled time component first last (attended time component first last cell) (settled_attended time component first last cell))
attended_twice time component first rest mid last cell (Late e) s = ap (λ (r : Readings). attended time component first last (attended time component first r cell)) e ∙ ap (attended time component first last) (attended-settled time component first rest cell s)
attended_twice time component first rest mid last cell (BackOnly m l b) s =
    attended_passing time component first mid last cell
    (passing_between component rest mid last cell
    (let a = aims_back component rest.back mid.back last.back rest.side b in subst₂ (λ (x : ℕ) (y : ℕ). Aims component rest (record { back = mid.back; side = x }) (record { back = last.back; side = y })) (sym m) (sym l) a) s.quiet s.still)
attended_twice time component first rest mid last cell (SideOnly m l b) s =
    attended_passing time component first mid last cell
    (passing_between component rest mid last cell
    (let a = aims_side component rest.back rest.side mid.side last.side b in subst₂ (λ (x : ℕ) (y : ℕ). Aims component rest (record { back = x; side = mid.side }) (record { back = y; side = last.side })) (sym m) (sym l) a) s.quiet s.still)
