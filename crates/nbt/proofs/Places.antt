-- Where reading stops is the first fault of the bytes.
use Rattle.std.proofs.Common.{◌≡◌, ◌<◌, ◌≤◌, ◌+◌, ◌-◌, ℕ, zero, suc, pos, take, List, [], ◌∷◌, ◌++◌, length, refl, sym, ap, ◌∙◌, subst, arith, length-append, append_assoc, inl, inr}
use Rattle.std.specs.Prelude.{◌⊎◌}
use Rattle.std.proofs.Math.Seq.{take-append_seam}
use Rattle.std.proofs.lemmas.Bool.{cases_lt}
use Rattle.std.proofs.lemmas.Int.{ints as signs}
use Rattle.nbt.specs.declared.refusals.NbtKind.{NbtKind}
use Rattle.std.proofs.lemmas.List.{append-nil}
use Rattle.nbt.specs.Plain.{PlainTree, PlainRoot, byte, short, int, long, float, double, bytes, text, ints, longs, empty_list, numbers, list, compound, no_trees, no_fields}
use Rattle.nbt.specs.Spelling.{short_text, type_of, payload, spelling, max_depth, IsText, IsNest, MayHold, CanStand, CanBeSpelled}
use Rattle.nbt.specs.Faults.{Begun, begun_compound, begun_list, begun_type, begun_name, begun_payload, heading, beginning, MayCome, IsBegun, Item, field_type, element_type, array_length, list_length, IsArray, IsInPayload, IsFieldType, Comes, Begins, IsCut, IsCutLength, IsWrongAt, IsFirstFault}
use Rattle.nbt.specs.Reading.{grown, closed, IsCutText, IsCutNext, StopsAtNext, StopsAt}
use Rattle.nbt.specs.declared.refusals.NbtKind.TheVariants.{Truncated, BadType, BadLength, TooDeep, Trailing, RootNotCompound}
use Rattle.nbt.specs.declared.open.Stop.{Stop}
use Rattle.nbt.specs.declared.open.Stop.TheVariants.{At, NoMemory}
use Rattle.nbt.proofs.Growing.{grown-begun, grown-payload, grown-beginning, closed-stands, closed-payload}
use Rattle.nbt.proofs.Stops.{some-tree}

-- what is begun can be finished
abbrev pub Finishes : Begun → List Begun → Type 0
Finishes b outer = (t : PlainTree) × (more : List ℕ) × (type_of t ≡ begun_type b) × CanStand (length outer) t × (payload t ≡ begun_payload b ++ more)

pub finish-list : (own : List ℕ) (element left : ℕ) (held : List PlainTree) (outer : List Begun) → IsBegun (begun_list own element left held ∷ outer) → Finishes (begun_list own element left held) outer
finish-list own element zero held outer h =
    let b = begun_list own element zero held in
    let spelled : payload (closed b) ≡ begun_payload b ++ [] = sym (append-nil (payload (closed b))) ∙ sym (closed-payload b outer [] [] (refl, refl)) in
    (closed b, [], refl, closed-stands b outer [] [] h (refl, refl), spelled)
finish-list own element (suc left) held outer h =
    let b = begun_list own element (suc left) held in
    let right = h.3 in
    let one = some-tree element (suc (length outer)) (omega arith) right.1 right.2 in
    let come : MayCome (b ∷ outer) (type_of one.0) [] = (one.1, omega arith, refl) in
    let less : suc left - 1 ≡ left = omega arith in
    let c = begun_list own element left (held ++ one.0 ∷ []) in
    let same : grown b [] one.0 ≡ c = ap (λ (n : ℕ). begun_list own element n (held ++ one.0 ∷ [])) less in
    let rest = finish-list own element left (held ++ one.0 ∷ []) outer (subst (λ (x : Begun). IsBegun (x ∷ outer)) same (grown-begun b outer [] one.0 h come one.2)) in
    let spelled : payload rest.0 ≡ begun_payload b ++ (payload one.0 ++ rest.1) =
    rest.4 ∙ ap (λ (x : Begun). begun_payload x ++ rest.1) (sym same) ∙ ap (λ (x : List ℕ). x ++ rest.1) (grown-payload b outer [] one.0 come)
    ∙ append_assoc (begun_payload b) (payload one.0) rest.1 in
    (rest.0, payload one.0 ++ rest.1, rest.2, rest.3, spelled)

finish : (b : Begun) (outer : List Begun) → IsBegun (b ∷ outer) → Finishes b outer
finish (begun_list own element left held) outer h = finish-list own element left held outer h
finish (begun_compound own held) outer h =
    (closed (begun_compound own held), 0 ∷ [], refl, closed-stands (begun_compound own held) outer (0 ∷ []) [] h refl, refl)

root-begins : (name : List ℕ) (one : PlainTree) → type_of one ≡ 10 → IsText name → CanStand 0 one → Begins ((type_of one ∷ short_text name) ++ payload one)
root-begins name (compound fs) t low stands = (record { name = name; fields = fs }, [], (low, stands.1), sym (append-nil ((10 ∷ short_text name) ++ payload (compound fs))))
root-begins name (byte z) t low stands = absurd (omega arith)
root-begins name (short z) t low stands = absurd (omega arith)
root-begins name (int z) t low stands = absurd (omega arith)
root-begins name (long z) t low stands = absurd (omega arith)
root-begins name (float z) t low stands = absurd (omega arith)
root-begins name (double z) t low stands = absurd (omega arith)
root-begins name (bytes z) t low stands = absurd (omega arith)
root-begins name (text z) t low stands = absurd (omega arith)
root-begins name (ints z) t low stands = absurd (omega arith)
root-begins name (longs z) t low stands = absurd (omega arith)
root-begins name (empty_list z) t low stands = absurd (omega arith)
root-begins name (numbers e z) t low stands = absurd (omega arith)
root-begins name (list e z) t low stands = absurd (omega arith)

-- what is begun, and one more tree, begins a root
pub complete : (begun : List Begun) (name : List ℕ) (one : PlainTree) → IsBegun begun → MayCome begun (type_of one) name → CanStand (length begun) one
    → Begins (beginning begun ++ (heading begun (type_of one) name ++ payload one))
complete [] name one h come stands = root-begins name one come.0 come.1 stands
complete (b ∷ outer) name one h come stands =
    let g = grown b name one in
    let begun : IsBegun (g ∷ outer) = grown-begun b outer name one h come stands in
    let whole = finish g outer begun in
    let head : List ℕ = heading outer (begun_type g) (begun_name g) in
    let under = complete outer (begun_name g) whole.0 begun.0 (subst (λ (t : ℕ). MayCome outer t (begun_name g)) (sym whole.2) begun.2) whole.3 in
    let spelled : spelling under.0 ≡ (beginning (b ∷ outer) ++ (heading (b ∷ outer) (type_of one) name ++ payload one)) ++ (whole.1 ++ under.1) =
    under.3
    ∙ ap (λ (t : ℕ). (beginning outer ++ (heading outer t (begun_name g) ++ payload whole.0)) ++ under.1) whole.2
    ∙ ap (λ (x : List ℕ). (beginning outer ++ (head ++ x)) ++ under.1) whole.4
    ∙ ap (λ (x : List ℕ). (beginning outer ++ x) ++ under.1) (sym (append_assoc head (begun_payload g) whole.1))
    ∙ ap (λ (x : List ℕ). x ++ under.1) (sym (append_assoc (beginning outer) (head ++ begun_payload g) whole.1))
    ∙ append_assoc (beginning (g ∷ outer)) whole.1 under.1
    ∙ ap (λ (x : List ℕ). x ++ (whole.1 ++ under.1)) (grown-beginning b outer name one come) in
    (under.0, whole.1 ++ under.1, under.2, spelled)

cut-next : (begun : List Begun) (bs s : List ℕ) → IsBegun begun → s ≡ beginning begun ++ bs → IsCutNext begun bs → IsCut s
cut-next begun bs s h e cut =
    let root = complete begun cut.0 cut.1 h cut.4 cut.5 in
    let spelled : spelling root.0 ≡ s ++ (cut.2 ∷ (cut.3 ++ root.1)) =
    root.3 ∙ ap (λ (x : List ℕ). (beginning begun ++ x) ++ root.1) cut.6
    ∙ ap (λ (x : List ℕ). x ++ root.1) (sym (append_assoc (beginning begun) bs (cut.2 ∷ cut.3)) ∙ ap (λ (x : List ℕ). x ++ (cut.2 ∷ cut.3)) (sym e))
    ∙ append_assoc s (cut.2 ∷ cut.3) root.1 in
    (root.0, cut.2, cut.3 ++ root.1, root.2, spelled)

place-of : (begun : List Begun) (before rest s : List ℕ) (left : ℕ) → s ≡ beginning begun ++ (before ++ rest) → left ≡ length rest
    → (left ≤ length s) × (length s - left ≡ length (beginning begun ++ before))
place-of begun before rest s left e l =
    let all : length s ≡ length (beginning begun) + (length before + length rest) =
    ap length e ∙ length-append (beginning begun) (before ++ rest) ∙ ap (λ (n : ℕ). length (beginning begun) + n) (length-append before rest) in
    let front = length-append (beginning begun) before in
    (omega arith, omega arith)

-- where the reader stops in what comes next, the bytes have their first fault
pub fault-at : (begun : List Begun) (bs s : List ℕ) (stop : Stop) → IsBegun begun → s ≡ beginning begun ++ bs → StopsAtNext begun bs stop → StopsAt s stop
fault-at begun bs s NoMemory h e stops = tt
fault-at begun bs s (At left Truncated) h e stops =
    let none : left ≡ 0 = stops.0 in
    elim stops.1 [
      | inl cut ↦ (omega arith, (omega arith, inl (cut-next begun bs s h e cut)))
      | inr cut ↦ (omega arith, (omega arith, inr (begun, cut.0, cut.1, cut.2, h, cut.3, cut.4, cut.5, e ∙ ap (λ (x : List ℕ). beginning begun ++ x) cut.6)))
    ]
fault-at begun bs s (At left BadType) h e stops =
    let spelled = e ∙ ap (λ (x : List ℕ). beginning begun ++ x) stops.6 in
    let place = place-of begun stops.1 stops.2 s left spelled stops.5 in
    (place.0, (begun, stops.0, stops.1, stops.2, h, stops.3, stops.4, place.1, spelled))
fault-at begun bs s (At left TooDeep) h e stops =
    let spelled = e ∙ ap (λ (x : List ℕ). beginning begun ++ x) stops.6 in
    let place = place-of begun stops.1 stops.2 s left spelled stops.5 in
    (place.0, (begun, stops.0, stops.1, stops.2, h, stops.3, stops.4, place.1, spelled))
fault-at begun bs s (At left BadLength) h e stops =
    let spelled = e ∙ ap (λ (x : List ℕ). beginning begun ++ x) stops.6 in
    let place = place-of begun stops.1 stops.2 s left spelled stops.5 in
    (place.0, (begun, stops.0, stops.1, stops.2, h, stops.3, stops.4, place.1, spelled))
fault-at begun bs s (At left Trailing) h e stops = absurd stops.4
fault-at begun bs s (At left RootNotCompound) h e stops = absurd stops.4

-- an empty file, and a file that ends within the root's name
nil-of : (s : List ℕ) → length s ≡ 0 → s ≡ []
nil-of [] e = refl
nil-of (b ∷ s) e = absurd (omega arith)

pub empty-cut : (s : List ℕ) → length s ≡ 0 → StopsAt s (At 0 Truncated)
empty-cut s e =
    let r : PlainRoot = record { name = []; fields = no_fields } in
    let more : List ℕ = short_text [] ++ payload (compound no_fields) in
    (omega arith, (omega arith, inl (r, 10, more, ((omega arith, tt), tt), ap (λ (x : List ℕ). x ++ (10 ∷ more)) (sym (nil-of s e)))))

pub name-cut : (s rest : List ℕ) → s ≡ 10 ∷ rest → IsCutText rest → StopsAt s (At 0 Truncated)
name-cut s rest e cut =
    let r : PlainRoot = record { name = cut.0; fields = no_fields } in
    let after : List ℕ = cut.2 ++ payload (compound no_fields) in
    let spelled : spelling r ≡ s ++ (cut.1 ∷ after) =
    ap (λ (x : List ℕ). 10 ∷ (x ++ payload (compound no_fields))) cut.4 ∙ ap (λ (x : List ℕ). 10 ∷ x) (append_assoc rest (cut.1 ∷ cut.2) (payload (compound no_fields)))
    ∙ ap (λ (x : List ℕ). x ++ (cut.1 ∷ after)) (sym e) in
    (omega arith, (omega arith, inl (r, cut.1, after, (cut.3, tt), spelled)))

-- bytes behind the root
pub trailing : (s rest : List ℕ) (r : PlainRoot) → CanBeSpelled r → s ≡ spelling r ++ rest → 0 < length rest → StopsAt s (At (length rest) Trailing)
trailing s [] r h e some = absurd (omega arith)
trailing s (b ∷ more) r h e some =
    let all : length s ≡ length (spelling r) + suc (length more) = ap length e ∙ length-append (spelling r) (b ∷ more) in
    (omega arith, (r, b, more, h, e, omega arith))

-- What comes before a fault begins some root.
module _ (begun : List Begun) where
  pub some-begins : IsBegun begun → (b : Begun) (outer : List Begun) → begun ≡ b ∷ outer → Begins (beginning begun)
  some-begins h b outer e =
      let whole = finish b outer (subst IsBegun e h) in
      let h' = subst IsBegun e h in
      let under = complete outer (begun_name b) whole.0 h'.0 (subst (λ (t : ℕ). MayCome outer t (begun_name b)) (sym whole.2) h'.2) whole.3 in
      let head : List ℕ = heading outer (begun_type b) (begun_name b) in
      let spelled : spelling under.0 ≡ beginning (b ∷ outer) ++ (whole.1 ++ under.1) =
      under.3
      ∙ ap (λ (t : ℕ). (beginning outer ++ (heading outer t (begun_name b) ++ payload whole.0)) ++ under.1) whole.2
      ∙ ap (λ (x : List ℕ). (beginning outer ++ (head ++ x)) ++ under.1) whole.4
      ∙ ap (λ (x : List ℕ). (beginning outer ++ x) ++ under.1) (sym (append_assoc head (begun_payload b) whole.1))
      ∙ ap (λ (x : List ℕ). x ++ under.1) (sym (append_assoc (beginning outer) (head ++ begun_payload b) whole.1))
      ∙ append_assoc (beginning (b ∷ outer)) whole.1 under.1 in
      subst (λ (s : List Begun). Begins (beginning s)) (sym e) (under.0, whole.1 ++ under.1, under.2, spelled)

-- an item's beginning in some payload
array-front : (t depth : ℕ) → IsArray t → (one : PlainTree) × (type_of one ≡ t) × CanStand depth one
array-front t depth array = elim array [
  | inl e ↦ (bytes [], sym e, (omega arith, tt))
  | inr more ↦ elim more [
    | inl e ↦ (ints [], sym e, (omega arith, tt))
    | inr e ↦ (longs [], sym e, (omega arith, tt))
  ]
]

list-front : (depth element : ℕ) → depth < max_depth → element ≤ 12 → MayHold (suc depth) element → (one : PlainTree) × (more : List ℕ) × (type_of one ≡ 9) × CanStand depth one × (payload one ≡ element ∷ more)
list-front depth zero room known hold = (empty_list (pos 0), _, refl, (room, record { sfits = omega arith }, omega (arith, signs)), refl)
list-front depth (suc k) room known hold = elim (cases_lt k 6) [
  | inl low ↦ (numbers (suc k) [], _, refl, (room, omega arith, omega arith, 0, omega arith, omega arith, tt), refl)
  | inr high ↦ (list (suc k) no_trees, _, refl, (room, omega arith, known, hold, omega arith, tt), refl)
]

within-begins : (depth t : ℕ) (item : Item) (within : List ℕ) → MayHold depth t → IsInPayload depth t item within
    → (one : PlainTree) × (more : List ℕ) × (type_of one ≡ t) × CanStand depth one × (payload one ≡ within ++ more)
within-begins depth t (field_type d) within hold h = absurd h
within-begins depth t (element_type d) within hold h =
    let room : depth < max_depth = hold (inl h.0) in
    let one = list-front depth 0 room (omega arith) (λ nest. elim nest [ inl e ↦ absurd (omega arith) | inr e ↦ absurd (omega arith) ]) in
    (one.0, payload one.0, one.2 ∙ sym h.0, one.3, ap (λ (x : List ℕ). x ++ payload one.0) (sym h.2))
within-begins depth t array_length within hold h =
    let one = array-front t depth h.0 in
    (one.0, payload one.0, one.1, one.2, ap (λ (x : List ℕ). x ++ payload one.0) (sym h.1))
within-begins depth t (list_length element) within hold h =
    let one = list-front depth element (hold (inl h.0)) h.1 h.2 in
    (one.0, one.1, one.2 ∙ sym h.0, one.3, one.4 ∙ ap (λ (x : List ℕ). x ++ one.1) (sym h.3))

pub may-hold : (begun : List Begun) (t : ℕ) (name : List ℕ) → IsBegun begun → MayCome begun t name → MayHold (length begun) t
may-hold [] t name h come nest = omega arith
may-hold (begun_compound own held ∷ outer) t name h come nest = come.2 nest
may-hold (begun_list own element left held ∷ outer) t name h come nest = h.3.2 (subst IsNest come.0 nest)

pub before-begins : (begun : List Begun) (item : Item) (before : List ℕ) → IsBegun begun → Comes begun item before → Begins (beginning begun ++ before)
before-begins begun item before h comes = elim comes [
  | inl at ↦ field-begins begun item h at.0 (sym (append-nil (beginning begun)) ∙ ap (λ (x : List ℕ). beginning begun ++ x) (sym at.1))
  | inr at ↦
      let one = within-begins (length begun) at.0 item at.2 (may-hold begun at.0 at.1 h at.3) at.4 in
      let root = complete begun at.1 one.0 h (subst (λ (t : ℕ). MayCome begun t at.1) (sym one.2) at.3) one.3 in
      let head : List ℕ = heading begun at.0 at.1 in
      let spelled : spelling root.0 ≡ (beginning begun ++ before) ++ (one.1 ++ root.1) =
      root.3
      ∙ ap (λ (t : ℕ). (beginning begun ++ (heading begun t at.1 ++ payload one.0)) ++ root.1) one.2
      ∙ ap (λ (x : List ℕ). (beginning begun ++ (head ++ x)) ++ root.1) one.4
      ∙ ap (λ (x : List ℕ). (beginning begun ++ x) ++ root.1) (sym (append_assoc head at.2 one.1) ∙ ap (λ (x : List ℕ). x ++ one.1) (sym at.5))
      ∙ ap (λ (x : List ℕ). x ++ root.1) (sym (append_assoc (beginning begun) before one.1))
      ∙ append_assoc (beginning begun ++ before) one.1 root.1 in
      (root.0, one.1 ++ root.1, root.2, spelled)
]
  where
    field-begins : (begun : List Begun) (item : Item) {s : List ℕ} → IsBegun begun → IsFieldType begun item → beginning begun ≡ s → Begins s
    field-begins [] item h at e = absurd at
    field-begins (b ∷ outer) item h at e = subst Begins e (some-begins (b ∷ outer) h b outer refl)

front-is : (s front rest : List ℕ) (place : ℕ) → s ≡ front ++ rest → place ≡ length front → take place s ≡ front
front-is s front rest place e p = ap (λ (n : ℕ). take n s) p ∙ ap (take (length front)) e ∙ take-append_seam front rest

wrong-first : (kind : NbtKind) (place : ℕ) (s : List ℕ) → IsWrongAt kind place s → Begins (take place s)
wrong-first kind place s h =
    let front : List ℕ = beginning h.0 ++ h.2 in
    let split : s ≡ front ++ h.3 = h.8 ∙ sym (append_assoc (beginning h.0) h.2 h.3) in
    subst Begins (sym (front-is s front h.3 place split h.7)) (before-begins h.0 h.1 h.2 h.4 h.5)

pub fault-first : (s : List ℕ) (place : ℕ) (kind : NbtKind) → IsFirstFault s place kind → Begins (take place s) ⊎ IsCutLength s
fault-first s place RootNotCompound h =
    let r : PlainRoot = record { name = []; fields = no_fields } in
    inl (r, spelling r, ((omega arith, tt), tt), ap (λ (n : ℕ). take n s ++ spelling r) (sym h.0))
fault-first s place Trailing h = inl (subst Begins (sym (front-is s (spelling h.0) (h.1 ∷ h.2) place h.4 h.5)) (h.0, [], h.3, sym (append-nil (spelling h.0))))
fault-first s place BadType h = inl (wrong-first BadType place s h)
fault-first s place TooDeep h = inl (wrong-first TooDeep place s h)
fault-first s place BadLength h = inl (wrong-first BadLength place s h)
fault-first s place Truncated h = elim h.1 [
  | inl cut ↦ inl (subst Begins (sym (front-is s s [] place (sym (append-nil s)) h.0)) (cut.0, cut.1 ∷ cut.2, cut.3, cut.4))
  | inr cut ↦ inr cut
]
