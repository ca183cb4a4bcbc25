-- The search finds what reaches a node that is shown or clicked, and nothing else.
use Rattle.std.proofs.Common.{◌≡◌, ℕ, zero, suc, ◌+◌, ◌*◌, ◌<◌, ◌≤◌, Bool, true, false, not, List, [], ◌∷◌, ◌++◌, Option, Some, None, refl, sym, ap, ◌∙◌, subst, arith, length, set, get_or, replicate, ◌⊎◌, inl, inr, if◌then◌else◌}
use Rattle.std.specs.Prelude.{◌==◌, slice_get}
use Rattle.std.proofs.lemmas.Bool.{cases_Bool, cases_eq, false≢true, not-true, eq-eqb, ne_eqb}
use Rattle.std.proofs.lemmas.List.{length-append}
use Rattle.circuit.specs.Circuit.{Among}
use Rattle.graph.specs.declared.Link.{Link}
use Rattle.graph.specs.Graph.{Node, Nodes, node_at, Lives, HasLink}
use Rattle.graph.specs.Steps.{Reaches, Itself, Along, can_go}
use Rattle.prune.specs.DropSteps.{cond_same, eqb-suc, node_of, lives_of}
use Rattle.prune.specs.Found.{Search, found_one, found_all, links_at, is_outer_at, found_outer, found_outers, TellUnseen}
use Rattle.prune.proofs.StepChain.{first_reached}

abbrev pub IsMarked : Search → ℕ → Type 0
IsMarked s key = get_or s.marks key true ≡ true

-- it reaches a node that is shown or clicked
pub record SeesOuter (g : Nodes) (key : ℕ) : Type 0 where
  pub last : ℕ
  pub node : Node
  pub way : Reaches g key last
  pub there : node_at g last ≡ Some node
  pub outer : can_go node.kind ≡ false

-- Where the search has come, while it looks for the sources of the busy nodes.
pub record IsSearching (g : Nodes) (busy : List ℕ) (s : Search) : Type 0 where
  pub reasons : (key : ℕ) → Lives g key → IsMarked s key → SeesOuter g key
  pub listed : (key : ℕ) → Among s.found key → IsMarked s key
  pub open_ends : (key index : ℕ) (link : Link) → HasLink g key index link → IsMarked s key → IsMarked s link.from ⊎ (Among s.found key ⊎ Among busy key)

-- all that is shown or clicked was found
abbrev pub AreOuterFound : Nodes → Search → Type 0
AreOuterFound g s = (key : ℕ) (node : Node) → node_at g key ≡ Some node → can_go node.kind ≡ false → IsMarked s key

among_front : (xs ys : List ℕ) (k : ℕ) → Among xs k → Among (xs ++ ys) k
among_front [] ys k a = absurd a
among_front (x ∷ xs) ys k a = elim a [ inl e ↦ inl e | inr b ↦ inr (among_front xs ys k b) ]

among_last : (xs : List ℕ) (k : ℕ) → Among (xs ++ k ∷ []) k
among_last [] k = inl refl
among_last (x ∷ xs) k = inr (among_last xs k)

among_parts : (xs ys : List ℕ) (k : ℕ) → Among (xs ++ ys) k → Among xs k ⊎ Among ys k
among_parts [] ys k a = inr a
among_parts (x ∷ xs) ys k a = elim a [ inl e ↦ inl (inl e) | inr b ↦ elim (among_parts xs ys k b) [ inl c ↦ inl (inr c) | inr c ↦ inr c ] ]

get_or-set_true : (marks : List Bool) (key k : ℕ) → get_or (set marks key true) k true ≡ (if k == key then true else get_or marks k true)
get_or-set_true [] key k = cond_same (k == key) true
get_or-set_true (m ∷ marks) zero zero = refl
get_or-set_true (m ∷ marks) zero (suc k) = rw (ne_eqb (suc k) 0 (omega arith)) refl
get_or-set_true (m ∷ marks) (suc key) zero = rw (ne_eqb 0 (suc key) (omega arith)) refl
get_or-set_true (m ∷ marks) (suc key) (suc k) = rw eqb-suc (get_or-set_true marks key k)

-- the search with one node more
abbrev with_one : Search → ℕ → Search
with_one s key = record { marks = set s.marks key true; found = s.found ++ key ∷ [] }

found-marked : (s : Search) (key : ℕ) → IsMarked s key → found_one s key ≡ s
found-marked s key h = rw h refl

found-unmarked : (s : Search) (key : ℕ) → get_or s.marks key true ≡ false → found_one s key ≡ with_one s key
found-unmarked s key h = rw h refl

marked_grows : (s : Search) (key k : ℕ) → IsMarked s k → IsMarked (with_one s key) k
marked_grows s key k h = get_or-set_true s.marks key k ∙ by_test (k == key)
  where
    by_test : (b : Bool) → (if b then true else get_or s.marks k true) ≡ true
    by_test true = refl
    by_test false = h

marked_here : (s : Search) (key : ℕ) → IsMarked (with_one s key) key
marked_here s key = get_or-set_true s.marks key key ∙ rw (eq-eqb key key refl) refl

marked_parts : (s : Search) (key k : ℕ) → IsMarked (with_one s key) k → (k ≡ key) ⊎ IsMarked s k
marked_parts s key k h = elim (cases_eq k key) [
  | inl e ↦ inl e
  | inr n ↦ inr (sym (get_or-set_true s.marks key k ∙ rw (ne_eqb k key n) refl) ∙ h)
]

-- one node more that reaches an outer one
searching_with : {g : Nodes} {busy : List ℕ} {s : Search} → IsSearching g busy s → (key : ℕ) → SeesOuter g key → IsSearching g busy (with_one s key)
searching_with {g} {busy} {s} h key sees = record {
  reasons = λ k lives m. elim (marked_parts s key k m) [ inl e ↦ subst (SeesOuter g) (sym e) sees | inr b ↦ h.reasons k lives b ];
  listed = λ k a. elim (among_parts s.found (key ∷ []) k a) [
    | inl b ↦ marked_grows s key k (h.listed k b)
    | inr b ↦ elim b [ inl e ↦ subst (IsMarked (with_one s key)) (sym e) (marked_here s key) | inr bad ↦ absurd bad ]
  ];
  open_ends = λ k index link has m. elim (marked_parts s key k m) [
    | inl e ↦ inr (inl (subst (Among (s.found ++ key ∷ [])) (sym e) (among_last s.found key)))
    | inr b ↦ elim (h.open_ends k index link has b) [
      | inl x ↦ inl (marked_grows s key link.from x)
      | inr x ↦ inr (elim x [ inl y ↦ inl (among_front s.found (key ∷ []) k y) | inr y ↦ inr y ])
    ]
  ];
}

searching_one : {g : Nodes} {busy : List ℕ} {s : Search} → IsSearching g busy s → (key : ℕ) → SeesOuter g key → IsSearching g busy (found_one s key)
searching_one {g} {busy} {s} h key sees = elim (cases_Bool (get_or s.marks key true)) [
  | inl e ↦ subst (IsSearching g busy) (sym (found-marked s key e)) h
  | inr e ↦ subst (IsSearching g busy) (sym (found-unmarked s key e)) (searching_with h key sees)
]

grows_one : (s : Search) (key k : ℕ) → IsMarked s k → IsMarked (found_one s key) k
grows_one s key k h = elim (cases_Bool (get_or s.marks key true)) [
  | inl e ↦ subst (λ (t : Search). IsMarked t k) (sym (found-marked s key e)) h
  | inr e ↦ subst (λ (t : Search). IsMarked t k) (sym (found-unmarked s key e)) (marked_grows s key k h)
]

marked_one : (s : Search) (key : ℕ) → IsMarked (found_one s key) key
marked_one s key = elim (cases_Bool (get_or s.marks key true)) [
  | inl e ↦ subst (λ (t : Search). IsMarked t key) (sym (found-marked s key e)) e
  | inr e ↦ subst (λ (t : Search). IsMarked t key) (sym (found-unmarked s key e)) (marked_here s key)
]

searching_all : {g : Nodes} {busy : List ℕ} (links : List Link) (s : Search) → IsSearching g busy s → ((i : ℕ) (link : Link) → slice_get links i ≡ Some link → SeesOuter g link.from) →
    IsSearching g busy (found_all s links)
searching_all [] s h sees = h
searching_all (link ∷ links) s h sees = searching_all links (found_one s link.from) (searching_one h link.from (sees 0 link refl)) (λ i. sees (suc i))

grows_all : (links : List Link) (s : Search) (k : ℕ) → IsMarked s k → IsMarked (found_all s links) k
grows_all [] s k h = h
grows_all (link ∷ links) s k h = grows_all links (found_one s link.from) k (grows_one s link.from k h)

marked_all : (links : List Link) (s : Search) (i : ℕ) (link : Link) → slice_get links i ≡ Some link → IsMarked (found_all s links) link.from
marked_all [] s i link at = absurd (cc)
marked_all (l ∷ links) s zero link at =
    let same : l ≡ link = cc in
    subst (λ (x : Link). IsMarked (found_all (found_one s l.from) links) x.from) same (grows_all links (found_one s l.from) l.from (marked_one s l.from))
marked_all (l ∷ links) s (suc i) link at = marked_all links (found_one s l.from) i link at

-- the sources of a node that was found
sources_see : {g : Nodes} {busy : List ℕ} {s : Search} → IsSearching g busy s → (key : ℕ) → IsMarked s key → (i : ℕ) (link : Link) → slice_get (links_at (node_at g key)) i ≡ Some link → SeesOuter g link.from
sources_see {g} {busy} {s} h key m i link at = by_entry (node_at g key) refl at
  where
    by_entry : (entry : Option Node) → node_at g key ≡ entry → slice_get (links_at entry) i ≡ Some link → SeesOuter g link.from
    by_entry None e at = absurd (cc)
    by_entry (Some node) e at =
        let sees : SeesOuter g key = h.reasons key (lives_of g key node e) m in
        let has : HasLink g key i link = record { node = node; there = e; at_index = at } in
        record { last = sees.last; node = sees.node; way = first_reached {index = i} has sees.way; there = sees.there; outer = sees.outer }

pub searching_next : (g : Nodes) (marks : List Bool) (found rest : List ℕ) (key : ℕ) → found ≡ rest ++ key ∷ [] → IsSearching g [] (record { marks = marks; found = found }) →
    IsSearching g [] (found_all (record { marks = marks; found = rest }) (links_at (node_at g key)))
searching_next g marks found rest key e h =
    let mid : Search = record { marks = marks; found = rest } in
    let m : IsMarked mid key = h.listed key (subst (λ xs. Among xs key) (sym e) (among_last rest key)) in
    let popped : IsSearching g (key ∷ []) mid = record {
      reasons = h.reasons;
      listed = λ k a. h.listed k (subst (λ xs. Among xs k) (sym e) (among_front rest (key ∷ []) k a));
      open_ends = λ k index link has mk. elim (h.open_ends k index link has mk) [
        | inl x ↦ inl x
        | inr x ↦ elim x [ inl a ↦ inr (among_parts rest (key ∷ []) k (subst (λ xs. Among xs k) e a)) | inr bad ↦ absurd bad ]
      ];
    } in
    let all = searching_all (links_at (node_at g key)) mid popped (sources_see popped key m) in
    record {
      reasons = all.reasons;
      listed = all.listed;
      open_ends = λ k index link has mk. elim (all.open_ends k index link has mk) [
        | inl x ↦ inl x
        | inr x ↦ elim x [
          | inl a ↦ inr (inl a)
          | inr b ↦ elim b [
            | inl same ↦ inl (marked_all (links_at (node_at g key)) mid index link
                (subst (λ j. slice_get (links_at (node_at g j)) index ≡ Some link) same
                (ap (λ (entry : Option Node). slice_get (links_at entry) index) has.there ∙ has.at_index)))
            | inr bad ↦ absurd bad
          ]
        ]
      ];
    }

pub outer_next : (g : Nodes) (marks : List Bool) (found rest : List ℕ) (links : List Link) → AreOuterFound g (record { marks = marks; found = found }) →
    AreOuterFound g (found_all (record { marks = marks; found = rest }) links)
outer_next g marks found rest links h key node there outer = grows_all links (record { marks = marks; found = rest }) key (h key node there outer)

-- How much there is still to do: two for each node that isn't marked, and one for each whose sources are to be looked for.
unfoldable pub unmarked_in : List Bool → ℕ
unmarked_in [] = 0
unmarked_in (true ∷ marks) = unmarked_in marks
unmarked_in (false ∷ marks) = 1 + unmarked_in marks

unmarked-set : (marks : List Bool) (key : ℕ) → get_or marks key true ≡ false → unmarked_in (set marks key true) + 1 ≡ unmarked_in marks
unfolding unmarked_in
unmarked-set [] key h = absurd (false≢true (sym h))
unmarked-set (true ∷ marks) zero h = absurd (false≢true (sym h))
unmarked-set (false ∷ marks) zero h = omega arith
unmarked-set (true ∷ marks) (suc key) h = unmarked-set marks key h
unmarked-set (false ∷ marks) (suc key) h = omega (arith, unmarked-set marks key h)

unfoldable pub work : Search → ℕ
work s = 2 * unmarked_in s.marks + length s.found

work_with : (s : Search) (key : ℕ) → get_or s.marks key true ≡ false → work (with_one s key) ≤ work s
unfolding work
work_with s key e = omega (arith, unmarked-set s.marks key e, length-append s.found (key ∷ []))

work_one : (s : Search) (key : ℕ) → work (found_one s key) ≤ work s
work_one s key = elim (cases_Bool (get_or s.marks key true)) [
  | inl e ↦ subst (λ (t : Search). work t ≤ work s) (sym (found-marked s key e)) (omega arith)
  | inr e ↦ subst (λ (t : Search). work t ≤ work s) (sym (found-unmarked s key e)) (work_with s key e)
]

work_all : (links : List Link) (s : Search) → work (found_all s links) ≤ work s
work_all [] s = omega arith
work_all (link ∷ links) s = omega (arith, work_all links (found_one s link.from), work_one s link.from)

pub work_falls : (marks : List Bool) (found rest : List ℕ) (key : ℕ) (links : List Link) → found ≡ rest ++ key ∷ [] →
    work (found_all (record { marks = marks; found = rest }) links) < work (record { marks = marks; found = found })
unfolding work
work_falls marks found rest key links e =
    let size : length found ≡ length rest + 1 = ap length e ∙ length-append rest (key ∷ []) in
    let less : work (found_all (record { marks = marks; found = rest }) links) ≤ work (record { marks = marks; found = rest }) = work_all links (record { marks = marks; found = rest }) in
    omega arith

-- the nodes from which the search sets out
outer_sees : (g : Nodes) (key : ℕ) → is_outer_at (node_at g key) ≡ true → SeesOuter g key
outer_sees g key h = by_entry (node_at g key) refl h
  where
    by_entry : (entry : Option Node) → node_at g key ≡ entry → is_outer_at entry ≡ true → SeesOuter g key
    by_entry None e h = absurd (false≢true h)
    by_entry (Some node) e h = record { last = key; node = node; way = Itself; there = e; outer = not-true (can_go node.kind) h }

searching_outer : {g : Nodes} {s : Search} → IsSearching g [] s → (key : ℕ) → IsSearching g [] (found_outer g s key)
searching_outer {g} {s} h key = elim (cases_Bool (is_outer_at (node_at g key))) [
  | inl e ↦ rw e (searching_one h key (outer_sees g key e))
  | inr e ↦ rw e h
]

grows_outer : (g : Nodes) (s : Search) (key k : ℕ) → IsMarked s k → IsMarked (found_outer g s key) k
grows_outer g s key k h = elim (cases_Bool (is_outer_at (node_at g key))) [
  | inl e ↦ rw e (grows_one s key k h)
  | inr e ↦ rw e h
]

searching_outers : {g : Nodes} (keys : List ℕ) (s : Search) → IsSearching g [] s → IsSearching g [] (found_outers g s keys)
searching_outers [] s h = h
searching_outers {g} (key ∷ keys) s h = searching_outers keys (found_outer g s key) (searching_outer h key)

grows_outers : (g : Nodes) (keys : List ℕ) (s : Search) (k : ℕ) → IsMarked s k → IsMarked (found_outers g s keys) k
grows_outers g [] s k h = h
grows_outers g (key ∷ keys) s k h = grows_outers g keys (found_outer g s key) k (grows_outer g s key k h)

marked_outers : (g : Nodes) (keys : List ℕ) (s : Search) (k : ℕ) → Among keys k → is_outer_at (node_at g k) ≡ true → IsMarked (found_outers g s keys) k
marked_outers g [] s k a h = absurd a
marked_outers g (key ∷ keys) s k a h = elim a [
  | inl e ↦
      (let one : IsMarked (found_outer g s k) k = rw h (marked_one s k) in
      grows_outers g keys (found_outer g s key) k (subst (λ j. IsMarked (found_outer g s j) k) e one))
  | inr b ↦ marked_outers g keys (found_outer g s key) k b h
]

get_or-replicate : (room k : ℕ) → k < room → get_or (replicate room false) k true ≡ false
get_or-replicate zero k h = absurd (omega arith)
get_or-replicate (suc room) zero h = refl
get_or-replicate (suc room) (suc k) h = get_or-replicate room k (omega arith)

-- Nothing is found at first, and then all that is shown or clicked.
pub searching_from : (g : Nodes) (keys : List ℕ) (room : ℕ) → ((k : ℕ) (node : Node) → node_at g k ≡ Some node → Among keys k) → ((k : ℕ) → Among keys k → k < room) →
    IsSearching g [] (found_outers g (record { marks = replicate room false; found = [] }) keys) × AreOuterFound g (found_outers g (record { marks = replicate room false; found = [] }) keys)
searching_from g keys room all below = (
  searching_outers keys first (record {
    reasons = λ key lives m. absurd (false≢true (sym (get_or-replicate room key (below key (lives_among key lives))) ∙ m));
    listed = λ key a. absurd a;
    open_ends = λ key index link has m. absurd (false≢true (sym (get_or-replicate room key (below key (all key has.node has.there))) ∙ m));
  }),
  λ key node there outer. marked_outers g keys first key (all key node there) (ap is_outer_at there ∙ ap not outer),
)
  where
    first : Search
    first = record { marks = replicate room false; found = [] }

    lives_among : (key : ℕ) → Lives g key → Among keys key
    lives_among key lives = let node = node_of g key lives in all key node.0 node.1

-- where nothing is left to look for, what isn't marked is unseen
unmarked_reached : (g : Nodes) (s : Search) → s.found ≡ [] → IsSearching g [] s → (a b : ℕ) → get_or s.marks a true ≡ false → Reaches g a b → get_or s.marks b true ≡ false
unmarked_reached g s none h a _ m Itself = m
unmarked_reached g s none h a _ m (Along {key = b} {index = i} {link = link} r has) = elim (cases_Bool (get_or s.marks b true)) [
  | inl e ↦
      (let from = unmarked_reached g s none h a link.from m r in
      elim (h.open_ends b i link has e) [
        | inl x ↦ absurd (false≢true (sym from ∙ x))
        | inr x ↦ elim x [ inl y ↦ absurd (subst (λ xs. Among xs b) none y) | inr bad ↦ absurd bad ]
      ])
  | inr e ↦ e
]

pub search_tells : (g : Nodes) (s : Search) → s.found ≡ [] → IsSearching g [] s → AreOuterFound g s → TellUnseen g s.marks
search_tells g s none h outers key lives = (
  (λ unmarked k node r there. elim (cases_Bool (can_go node.kind)) [
    | inl e ↦ e
    | inr e ↦ absurd (false≢true (sym (unmarked_reached g s none h key k (not-true (get_or s.marks key true) unmarked) r) ∙ outers k node there e))
  ]),
  (λ unseen. elim (cases_Bool (get_or s.marks key true)) [
    | inl e ↦
        (let sees : SeesOuter g key = h.reasons key lives e in
        absurd (false≢true (sym sees.outer ∙ unseen sees.last sees.node sees.way sees.there)))
    | inr e ↦ ap not e
  ]),
)
