-- Sweeps that go on from another pair, and what twins are left of a node while it has its turn.
use Rattle.std.proofs.Common.{◌≡◌, ◌≢◌, ℕ, suc, ◌+◌, ◌<◌, ◌≤◌, Bool, true, false, List, Ok, refl, sym, ◌∙◌, subst, arith, length, get_or, inl, inr, ◌⊎◌}
use Rattle.std.specs.List.Sorted.{IsNonDecreasing}
use Rattle.std.specs.BTreeSet.{BTreeSet}
use Rattle.std.proofs.lemmas.Bool.{cases_eq, cases_lt}
use Rattle.circuit.specs.Circuit.{Among}
use Rattle.graph.specs.Graph.{Nodes}
use Rattle.graph.specs.Edits.{merge}
use Rattle.graph.specs.Sound.{IsSound}
use Rattle.graph.specs.Steps.{AreTwins, Coalesces}
use Rattle.pass_frame.specs.Frame.{Reaches, Stays, Goes, IsDone}
use Rattle.pass_frame.specs.Rounds.{Rounds}
use Rattle.pass_frame.proofs.FrameSteps.{reaches_append}
use Rattle.coalesce.specs.CoalesceLaws.{coalesce_sound}
use Rattle.coalesce.specs.MergeKeeps.{twins_before}
use Rattle.coalesce.specs.Sweeps.{IsBefore, AreFirst, Sweep, Ends, Takes, SweepsOnce}
use Rattle.coalesce.specs.Tried.{TriedPair}
use Rattle.coalesce.specs.Waiting.{Waits, IsNext, TwinsWait}
use Rattle.coalesce.proofs.FanSteps.{among_at, item_at}
use Rattle.coalesce.proofs.TriedSteps.{gone_apart, one_more_tried}

-- no twins stand from the pair (a, b) on and before the later pair (x, y)
pub record Skips (g : Nodes) (a b x y : ℕ) : Type 0 where
  pub later : (c d : ℕ) → IsBefore c d a b → IsBefore c d x y
  pub none : (c d : ℕ) → c < d → AreTwins g c d → IsBefore c d x y → IsBefore c d a b

pub sweep_past : (g end : Nodes) (a b x y : ℕ) → Skips g a b x y → Sweep x y g end → Sweep a b g end
sweep_past g end a b x y s (Ends h) = Ends (λ c d less w. s.none c d less w (h c d less w))
sweep_past g end a b x y s (Takes f r) = Takes (record {
  earlier = f.earlier;
  twins = f.twins;
  from = λ before. f.from (s.later _ _ before);
  first = λ c d less w before. s.none c d less w (f.first c d less w before);
}) r

pub sweep_from : (g end : Nodes) (a b x y : ℕ) → Skips g a b x y → Sweep a b g end → Sweep x y g end
sweep_from g end a b x y s (Ends h) = Ends (λ c d less w. s.later c d (h c d less w))
sweep_from g end a b x y s (Takes f r) = Takes (record {
  earlier = f.earlier;
  twins = f.twins;
  from = λ before. f.from (s.none _ _ f.earlier f.twins before);
  first = λ c d less w before. s.later c d (f.first c d less w before);
}) r

-- of two pairs the one comes first, or they are one
same_or_before : (a b x y : ℕ) → ((a ≡ x) × (b ≡ y)) ⊎ (IsBefore a b x y ⊎ IsBefore x y a b)
same_or_before a b x y = elim (cases_eq a x) [
  | inl e ↦ elim (cases_eq b y) [
    | inl f ↦ inl (e, f)
    | inr n ↦ elim (cases_lt b y) [
      | inl l ↦ inr (inl (inr (e, l)))
      | inr l ↦ inr (inr (inr (sym e, omega (arith, l, n))))
    ]
  ]
  | inr n ↦ elim (cases_lt a x) [
    | inl l ↦ inr (inl (inl l))
    | inr l ↦ inr (inr (inl (omega (arith, l, n))))
  ]
]

-- the first twins are one pair
first_one : (g : Nodes) (a b keep gone other last : ℕ) → AreFirst g a b keep gone → AreFirst g a b other last → (keep ≡ other) × (gone ≡ last)
first_one g a b keep gone other last f h = elim (same_or_before keep gone other last) [
  | inl e ↦ e
  | inr two ↦ elim two [
    | inl before ↦ absurd (f.from (h.first keep gone f.earlier f.twins before))
    | inr before ↦ absurd (h.from (f.first other last h.earlier h.twins before))
  ]
]

-- A sweep has one end.
pub sweep_one : {a b : ℕ} {old x y : Nodes} → Sweep a b old x → Sweep a b old y → x ≡ y
sweep_one (Ends h) (Ends i) = refl
sweep_one (Ends h) (Takes f r) = absurd (f.from (h _ _ f.earlier f.twins))
sweep_one (Takes f r) (Ends h) = absurd (f.from (h _ _ f.earlier f.twins))
sweep_one {a} {b} {old} {x} {y} (Takes {keep = keep} {gone = gone} f r) (Takes {keep = other} {gone = last} h s) =
    let same = first_one old a b keep gone other last f h in
    sweep_one r (subst (λ k. Sweep k (suc gone) (merge old k gone) y) (sym same.0) (subst (λ k. Sweep other (suc k) (merge old other k) y) (sym same.1) s))

-- no twins are left from the pair on
abbrev pub NoneFrom : Nodes → ℕ → Type 0
NoneFrom g place = (c d : ℕ) → c < d → AreTwins g c d → c < place

nothing_left : (g : Nodes) (place : ℕ) → NoneFrom g place → Sweep place 0 g g
nothing_left g place none = Ends (λ c d less w. inl (none c d less w))

-- the next one to wait has the next twins
skip_to : (g : Nodes) (place number : ℕ) → place ≤ number → ((c d : ℕ) → c < d → AreTwins g c d → c < number → c < place) → Skips g place 0 number 0
skip_to g place number up none = record {
  later = λ c d before. elim before [ inl l ↦ inl (omega (arith, l, up)) | inr e ↦ absurd (omega (arith, e.1)) ];
  none = λ c d less w before. elim before [ inl l ↦ inl (none c d less w l) | inr e ↦ absurd (omega (arith, e.1)) ];
}

-- Whole sweeps were taken, and one goes on from the place.
pub record Sweeping (old : Nodes) (place : ℕ) (g : Nodes) : Type 0 where
  pub start : Nodes
  pub turns : Reaches SweepsOnce old start
  pub goes : (end : Nodes) → Sweep place 0 g end → SweepsOnce start end

pub sweeping_first : (g : Nodes) → Sweeping g 0 g
sweeping_first g = record { start = g; turns = Stays; goes = λ end s. s }

-- the next turn goes on with the sweep or begins a new one
pub sweeping_on : (old g new : Nodes) (numbers : BTreeSet ℕ) (place number : ℕ) → Sweeping old place g → TwinsWait g numbers → IsNext numbers place number →
    ((end : Nodes) → Sweep number 0 new end → Sweep number 0 g end) → Sweeping old number new
sweeping_on old g new numbers place number was wait (inl next) turn = record {
  start = was.start;
  turns = was.turns;
  goes = λ end s. was.goes end (sweep_past g end place 0 number 0 (skip_to g place number next.0 (λ c d less w below. between c (wait c d less w) below)) (turn end s));
}
  where
    between : (c : ℕ) → Waits numbers c → c < number → c < place
    between c waits below = elim (cases_lt c place) [ inl l ↦ l | inr up ↦ absurd (next.1 c up below waits) ]
sweeping_on old g new numbers place number was wait (inr next) turn = record {
  start = g;
  turns = reaches_append SweepsOnce was.turns (Goes (was.goes g (nothing_left g place (λ c d less w. before c (wait c d less w)))) Stays);
  goes = λ end s. sweep_past g end 0 0 number 0 (skip_to g 0 number (omega arith) (λ c d less w below. absurd (next.1 c below (wait c d less w)))) (turn end s);
}
  where
    before : (c : ℕ) → Waits numbers c → c < place
    before c waits = elim (cases_lt c place) [ inl l ↦ l | inr up ↦ absurd (next.0 c up waits) ]

-- where none waits the last sweep took nothing
pub sweeping_ends : (old g : Nodes) (numbers : BTreeSet ℕ) (place : ℕ) → Sweeping old place g → TwinsWait g numbers → ((key : ℕ) → Waits numbers key → ⊥) → Rounds SweepsOnce old g
sweeping_ends old g numbers place was wait none = record {
  turns = reaches_append SweepsOnce was.turns (Goes (was.goes g (nothing_left g place (λ c d less w. absurd (none c (wait c d less w))))) Stays);
  rests = nothing_left g 0 (λ c d less w. absurd (none c (wait c d less w)));
}

-- What twins are left of a node in its turn: twins before it, which are none of those that were tried.
abbrev pub Own : Nodes → Nodes → ℕ → List ℕ → ℕ → Type 0
Own old g keep later index = (b : ℕ) → AreTwins g keep b → AreTwins old keep b × ((i : ℕ) → i < index → get_or later i 0 ≢ b)

pub own_first : (g : Nodes) (keep : ℕ) (later : List ℕ) → Own g g keep later 0
own_first g keep later b w = (w, λ i less. absurd (omega (arith, less)))

pub own_next : (old g h : Nodes) (keep : ℕ) (more : Bool) (later : List ℕ) (index x : ℕ) → index < length later → x ≡ get_or later index x → TriedPair keep x g (Ok more) h → Own old g keep later index →
    Own old h keep later (index + 1)
own_next old g h keep false later index x inside here tried own = subst (λ (f : Nodes). Own old f keep later (index + 1)) (sym tried.1)
    (λ b w. ((own b w).0, one_more_tried later index x b inside here (λ e. tried.0 (subst (AreTwins g keep) e w)) (own b w).1))
own_next old g h keep true later index x inside here tried own = subst (λ (f : Nodes). Own old f keep later (index + 1)) (sym tried.1) merged
  where
    merged : Own old (merge g keep x) keep later (index + 1)
    merged b w =
        let was : AreTwins g keep b = (twins_before g keep x keep b tried.0 w w.not_a).0 in
        ((own b was).0, one_more_tried later index x b inside here (gone_apart keep x g keep b w) (own b was).1)

-- Sweeps from the node on go on from where it was before its turn.
abbrev pub GoesOn : Nodes → Nodes → ℕ → Type 0
GoesOn old g keep = (end : Nodes) → Sweep keep 0 g end → Sweep keep 0 old end

-- a twin that is left isn't below the next one to be tried
not_below : (old g : Nodes) (keep : ℕ) (later : List ℕ) (index : ℕ) → index < length later → IsNonDecreasing later → ((b : ℕ) → keep < b → AreTwins old keep b → Among later b) → Own old g keep later index →
    (d : ℕ) → keep < d → AreTwins g keep d → get_or later index 0 ≤ d
not_below old g keep later index inside rise all own d less w =
    let place = among_at later d (all d less (own d w).0) in
    elim (cases_lt place.0 index) [
      | inl l ↦ absurd ((own d w).1 place.0 l place.2)
      | inr up ↦ omega (arith, rise index place.0 0 up place.1, place.2)
    ]

pub goes_next : (old g h : Nodes) (keep : ℕ) (more : Bool) (later : List ℕ) (index x : ℕ) → index < length later → x ≡ get_or later index x → keep < x → IsNonDecreasing later →
    ((b : ℕ) → keep < b → AreTwins old keep b → Among later b) → TriedPair keep x g (Ok more) h → Own old g keep later index → Own old h keep later (index + 1) → GoesOn old g keep → GoesOn old h keep
goes_next old g h keep false later index x inside here less rise all tried own next goes = λ end s. goes end (subst (λ (f : Nodes). Sweep keep 0 f end) tried.1 s)
goes_next old g h keep true later index x inside here less rise all tried own next goes = λ end s. goes end (Takes first (subst (λ (f : Nodes). Sweep keep (suc x) f end) tried.1 (sweep_from h end keep 0 keep (suc x) past s)))
  where
    at_0 : x ≡ get_or later index 0
    at_0 = item_at later index x inside here

    first : AreFirst g keep 0 keep x
    first = record {
      earlier = less;
      twins = tried.0;
      from = λ before. elim before [ inl l ↦ omega (arith, l) | inr e ↦ omega (arith, e.1) ];
      first = λ c d up w before. elim before [
        | inl l ↦ inl l
        | inr e ↦ (let own_twin : AreTwins g keep d = subst (λ k. AreTwins g k d) e.0 w in
            absurd (omega (arith, e.0, e.1, up, at_0, not_below old g keep later index inside rise all own d (omega (arith, e.0, up)) own_twin)))
      ];
    }

    -- a twin that is left stands above
    above : (d : ℕ) → keep < d → AreTwins h keep d → x < d
    above d up w =
        let place = among_at later d (all d up (next d w).0) in
        elim (cases_lt place.0 (index + 1)) [
          | inl l ↦ absurd ((next d w).1 place.0 l place.2)
          | inr far ↦ elim (cases_eq x d) [
            | inl e ↦ absurd ((next d w).1 index (omega arith) (sym at_0 ∙ e))
            | inr n ↦ omega (arith, rise index place.0 0 (omega (arith, far)) place.1, place.2, at_0, n)
          ]
        ]

    past : Skips h keep 0 keep (suc x)
    past = record {
      later = λ c d before. elim before [ inl l ↦ inl l | inr e ↦ absurd (omega (arith, e.1)) ];
      none = λ c d up w before. elim before [
        | inl l ↦ inl l
        | inr e ↦ absurd (omega (arith, e.1, above d (omega (arith, e.0, up)) (subst (λ k. AreTwins h k d) e.0 w)))
      ];
    }

-- A sweep keeps a graph sound.
pub sweep_sound : {a b : ℕ} (old new : Nodes) → IsSound old → Sweep a b old new → IsSound new
sweep_sound old _ sound (Ends h) = sound
sweep_sound old new sound (Takes {keep = keep} {gone = gone} f r) =
    sweep_sound (merge old keep gone) new (coalesce_sound old (merge old keep gone) sound (record { keep = keep; gone = gone; earlier = f.earlier; twins = f.twins; after = refl })) r

-- where no two are twins there is nothing to do
pub none_done : (g : Nodes) → ((a b : ℕ) → a < b → AreTwins g a b → ⊥) → IsDone Coalesces g
none_done g none new step = none step.keep step.gone step.earlier step.twins

pub none_rounds : (g : Nodes) → ((a b : ℕ) → a < b → AreTwins g a b → ⊥) → Rounds SweepsOnce g g
none_rounds g none = record { turns = Stays; rests = Ends (λ c d less w. absurd (none c d less w)) }
