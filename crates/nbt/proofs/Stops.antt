-- Where a payload or what comes next stops, in the words of the faults.
use Rattle.std.proofs.Common.{◌≡◌, ◌≢◌, ◌<◌, ◌≤◌, ◌-◌, ◌*◌, ◌/◌, ◌^◌, ℕ, zero, suc, ℤ, pos, List, [], ◌∷◌, ◌++◌, length, refl, sym, ap, ◌∙◌, subst, arith, append_assoc, inl, inr}
use Rattle.std.specs.Prelude.{FitsSigned, replicate, ◌≤ℤ◌}
use Rattle.std.specs.Int.{w32, cast_signed}
use Rattle.std.proofs.lemmas.Int.{ints as signs}
use Rattle.nbt.specs.Plain.{PlainTree, PlainField, byte, short, int, long, float, double, bytes, text, ints, longs, empty_list, numbers, compound, no_fields, plain_tree}
use Rattle.nbt.specs.Spelling.{unsigned, signed, short_text, type_of, number_size, payload, max_depth, IsText, MayHold, CanStand}
use Rattle.nbt.specs.Faults.{Begun, begun_compound, begun_type, begun_name, begun_payload, heading, MayCome, IsRightSoFar, IsInPayload, Comes, IsWrong, IsWrongLength, IsLength, Item, field_type, element_type, list_length}
use Rattle.nbt.specs.Reading.{IsCutText, IsCutPayload, IsPayload, IsPieceOf, IsNext, StopsAtType, StopsAtEmpty, StopsAtLength, StopsAtElements, StopsInPayload, StopsAtNext, plain_open}
use Rattle.nbt.specs.declared.refusals.NbtKind.TheVariants.{Truncated, BadType, BadLength, TooDeep, Trailing, RootNotCompound}
use Rattle.nbt.specs.declared.open.Piece.{Piece}
use Rattle.nbt.specs.declared.open.Piece.TheVariants.{Tree, Open as Opened, End}
use Rattle.nbt.specs.declared.open.Stop.{Stop}
use Rattle.nbt.specs.declared.open.Stop.TheVariants.{At, NoMemory}
use Rattle.nbt.proofs.Fronts.{IsBytes, bytes-back, bytes-zeros, bytes-append, are-bytes, zeros, filled, signed-cast}
use Rattle.nbt.proofs.Unique.{numbers-count}

zero_at_most : pos 0 ≤ℤ pos 0
zero_at_most = omega (arith, signs)

-- some tree of a type, that may stand where its type may
pub some-tree : (t depth : ℕ) → 1 ≤ t → t ≤ 12 → MayHold depth t → (one : PlainTree) × (type_of one ≡ t) × CanStand depth one
some-tree zero depth low high hold = absurd (omega arith)
some-tree (suc zero) depth low high hold = (byte (pos 0), refl, record { sfits = omega arith })
some-tree (suc (suc zero)) depth low high hold = (short (pos 0), refl, record { sfits = omega arith })
some-tree (suc (suc (suc zero))) depth low high hold = (int (pos 0), refl, record { sfits = omega arith })
some-tree (suc (suc (suc (suc zero)))) depth low high hold = (long (pos 0), refl, record { sfits = omega arith })
some-tree (suc (suc (suc (suc (suc zero))))) depth low high hold = (float (replicate 4 0), refl, (refl, zeros 4))
some-tree (suc (suc (suc (suc (suc (suc zero)))))) depth low high hold = (double (replicate 8 0), refl, (refl, zeros 8))
some-tree (suc (suc (suc (suc (suc (suc (suc zero))))))) depth low high hold = (bytes [], refl, (omega arith, tt))
some-tree (suc (suc (suc (suc (suc (suc (suc (suc zero)))))))) depth low high hold = (text [], refl, (omega arith, tt))
some-tree (suc (suc (suc (suc (suc (suc (suc (suc (suc zero))))))))) depth low high hold = (empty_list (pos 0), refl, (hold (inl refl), record { sfits = omega arith }, zero_at_most))
some-tree (suc (suc (suc (suc (suc (suc (suc (suc (suc (suc zero)))))))))) depth low high hold = (compound no_fields, refl, (hold (inr refl), tt))
some-tree (suc (suc (suc (suc (suc (suc (suc (suc (suc (suc (suc zero))))))))))) depth low high hold = (ints [], refl, (omega arith, tt))
some-tree (suc (suc (suc (suc (suc (suc (suc (suc (suc (suc (suc (suc zero)))))))))))) depth low high hold = (longs [], refl, (omega arith, tt))
some-tree (suc (suc (suc (suc (suc (suc (suc (suc (suc (suc (suc (suc (suc t))))))))))))) depth low high hold = absurd (omega arith)

-- a list of type End that was read
pub empty-read : (n : ℕ) (z : ℤ) (s rest : List ℕ) → n < 2 ^ 32 → FitsSigned w32 z → z ≡ cast_signed w32 n → z ≤ℤ pos 0 → s ≡ unsigned w32 n ++ rest
    → IsPayload 9 (0 ∷ s) (empty_list z) rest
empty-read n z s rest limit fits e low spelled =
    let same : signed w32 z ≡ unsigned w32 n = ap (signed w32) e ∙ signed-cast w32 n limit in
    (refl, λ depth room. (room, fits, low), ap (λ (x : List ℕ). 0 ∷ x) (spelled ∙ ap (λ (x : List ℕ). x ++ rest) (sym same)))

-- the element type of a list
pub list-type : (depth d : ℕ) (s : List ℕ) (stop : Stop) → depth < max_depth → d ≡ suc depth → StopsAtType d s stop → StopsInPayload depth 9 s stop
list-type depth d s NoMemory room e h = absurd h
list-type depth d s (At left Truncated) room e h =
    let fits : FitsSigned w32 (pos 0) = record { sfits = omega arith } in
    (h.0, inl (empty_list (pos 0), 0, signed w32 (pos 0), refl, (room, fits, zero_at_most), ap (λ (x : List ℕ). x ++ (0 ∷ signed w32 (pos 0))) (sym h.1)))
list-type depth d s (At left BadType) room e h = (element_type d, [], s, (refl, e, refl), (h.1, h.2, h.3, h.4), h.0, refl)
list-type depth d s (At left TooDeep) room e h = (element_type d, [], s, (refl, e, refl), (h.1, h.2, h.3, (h.4, h.5)), h.0, refl)
list-type depth d s (At left BadLength) room e h = absurd h
list-type depth d s (At left Trailing) room e h = absurd h
list-type depth d s (At left RootNotCompound) room e h = absurd h

wrong-length : (element n : ℕ) → 1 ≤ element → 2 ^ 31 ≤ n → IsWrongLength (list_length element) n
wrong-length zero n low h = absurd (omega arith)
wrong-length (suc element) n low h = h

module _ (depth element : ℕ) (s rest : List ℕ) (known : element ≤ 12) (hold : MayHold (suc depth) element) (e : s ≡ element ∷ rest) where
  -- the four bytes of a list's length are cut
  length-cut : length rest < 4 → (item : Item) × (before : List ℕ) × (cut : List ℕ) × IsInPayload depth 9 item before × IsLength item × (length cut < 4) × (s ≡ before ++ cut)
  length-cut few = (list_length element, element ∷ [], rest, (refl, known, hold, refl), tt, few, e)

  pub list-empty : (stop : Stop) → element ≡ 0 → StopsAtEmpty rest stop → StopsInPayload depth 9 s stop
  list-empty NoMemory z h = absurd h
  list-empty (At left Truncated) z h = (h.0, inr (length-cut h.1))
  list-empty (At left BadLength) z h =
      (list_length element, element ∷ [], rest, (refl, known, hold, refl), (h.1, h.2, h.3, omega arith, subst (λ (k : ℕ). IsWrongLength (list_length k) h.1) (sym z) (h.4, h.5)), h.0, e)
  list-empty (At left BadType) z h = absurd h
  list-empty (At left TooDeep) z h = absurd h
  list-empty (At left Trailing) z h = absurd h
  list-empty (At left RootNotCompound) z h = absurd h

  pub list-items : (stop : Stop) → 7 ≤ element → StopsAtLength rest stop → StopsInPayload depth 9 s stop
  list-items NoMemory low h = tt
  list-items (At left Truncated) low h = (h.0, inr (length-cut h.1))
  list-items (At left BadLength) low h =
      (list_length element, element ∷ [], rest, (refl, known, hold, refl), (h.1.0, h.1.1, h.1.2, h.1.3, wrong-length element h.1.0 (omega arith) h.1.4), h.0, e)
  list-items (At left BadType) low h = absurd h
  list-items (At left TooDeep) low h = absurd h
  list-items (At left Trailing) low h = absurd h
  list-items (At left RootNotCompound) low h = absurd h

  -- the numbers of a list are cut
  numbers-cut : IsBytes rest → depth < max_depth → 1 ≤ element → element ≤ 6 → (n : ℕ) (few : List ℕ) → rest ≡ unsigned w32 n ++ few → n < 2 ^ 31 → length few < n * number_size element
      → IsCutPayload depth 9 s
  numbers-cut all room low high n few f limit lacks =
      let gap : ℕ = n * number_size element - suc (length few) in
      let more : List ℕ = replicate gap 0 in
      let whole : List ℕ = few ++ (0 ∷ more) in
      let full : length whole ≡ n * number_size element = filled few (n * number_size element) lacks in
      let held : IsBytes whole = bytes-append few (0 ∷ more) (bytes-back (unsigned w32 n) few (subst IsBytes f all)) (bytes-zeros (suc gap)) in
      let spelled : element ∷ (unsigned w32 (length whole / number_size element) ++ whole) ≡ s ++ (0 ∷ more) =
      ap (λ (m : ℕ). element ∷ (unsigned w32 m ++ whole)) (numbers-count element n whole full) ∙ ap (λ (x : List ℕ). element ∷ x) (sym (append_assoc (unsigned w32 n) few (0 ∷ more)))
      ∙ ap (λ (x : List ℕ). element ∷ (x ++ (0 ∷ more))) (sym f) ∙ ap (λ (x : List ℕ). x ++ (0 ∷ more)) (sym e) in
      (numbers element whole, 0, more, refl, (room, low, high, n, full, limit, are-bytes whole held), spelled)

  pub list-numbers : (stop : Stop) → IsBytes rest → depth < max_depth → 1 ≤ element → element ≤ 6 → StopsAtElements (number_size element) rest stop → StopsInPayload depth 9 s stop
  list-numbers NoMemory all room low high h = tt
  list-numbers (At left Truncated) all room low high h = elim h.1 [
    | inl few ↦ (h.0, inr (length-cut few))
    | inr lacks ↦ (h.0, inl (numbers-cut all room low high lacks.0 lacks.1 lacks.2 lacks.3 lacks.4))
  ]
  list-numbers (At left BadLength) all room low high h =
      (list_length element, element ∷ [], rest, (refl, known, hold, refl), (h.1.0, h.1.1, h.1.2, h.1.3, wrong-length element h.1.0 low h.1.4), h.0, e)
  list-numbers (At left BadType) all room low high h = absurd h
  list-numbers (At left TooDeep) all room low high h = absurd h
  list-numbers (At left Trailing) all room low high h = absurd h
  list-numbers (At left RootNotCompound) all room low high h = absurd h

-- The element types that hold no compound and no list may stand anywhere.
pub no-nest : (depth t : ℕ) → t ≢ 9 → t ≢ 10 → MayHold depth t
no-nest depth t nine ten nest = elim nest [ inl e ↦ absurd (nine e) | inr e ↦ absurd (ten e) ]

module _ (name : List ℕ) (held : List PlainField) (outer : List Begun) (s : List ℕ) where
  here : List Begun
  here = begun_compound name held ∷ outer

  pub field-type : (d : ℕ) (stop : Stop) → d ≡ suc (length outer) → StopsAtType d s stop → StopsAtNext (begun_compound name held ∷ outer) s stop
  field-type d NoMemory e h = absurd h
  field-type d (At left Truncated) e h =
      let fits : FitsSigned w32 (pos 0) = record { sfits = omega arith } in
      let more : List ℕ = short_text [] ++ payload (int (pos 0)) in
      (h.0, inl ([], int (pos 0), 3, more, (omega arith, omega arith, no-nest _ 3 (omega arith) (omega arith), (omega arith, tt)), fits, ap (λ (x : List ℕ). x ++ (3 ∷ more)) (sym h.1)))
  field-type d (At left BadType) e h = (field_type d, [], s, inl (e, refl), (h.1, h.2, h.3, h.4), h.0, refl)
  field-type d (At left TooDeep) e h = (field_type d, [], s, inl (e, refl), (h.1, h.2, h.3, (h.4, h.5)), h.0, refl)
  field-type d (At left BadLength) e h = absurd h
  field-type d (At left Trailing) e h = absurd h
  field-type d (At left RootNotCompound) e h = absurd h

  pub field-name : (t : ℕ) (rest : List ℕ) → 1 ≤ t → t ≤ 12 → MayHold (suc (length outer)) t → s ≡ t ∷ rest → IsCutText rest
      → StopsAtNext (begun_compound name held ∷ outer) s (At 0 Truncated)
  field-name t rest low high hold e cut =
      let one = some-tree t (suc (length outer)) low high hold in
      let after : List ℕ = cut.2 ++ payload one.0 in
      let whole : (type_of one.0 ∷ short_text cut.0) ++ payload one.0 ≡ s ++ (cut.1 ∷ after) =
      ap (λ (k : ℕ). (k ∷ short_text cut.0) ++ payload one.0) one.1 ∙ ap (λ (x : List ℕ). t ∷ (x ++ payload one.0)) cut.4
      ∙ ap (λ (x : List ℕ). t ∷ x) (append_assoc rest (cut.1 ∷ cut.2) (payload one.0)) ∙ ap (λ (x : List ℕ). x ++ (cut.1 ∷ after)) (sym e) in
      (refl, inl (cut.0, one.0, cut.1, after, subst (λ (k : ℕ). (1 ≤ k) × (k ≤ 12) × MayHold (suc (length outer)) k × IsText cut.0) (sym one.1) (low, high, hold, cut.3), one.2, whole))

-- a payload that stops, behind its heading
module _ (begun : List Begun) (t : ℕ) (name : List ℕ) (s rest : List ℕ) (come : MayCome begun t name) (e : s ≡ heading begun t name ++ rest) where
  moved : (before cut : List ℕ) → rest ≡ before ++ cut → s ≡ (heading begun t name ++ before) ++ cut
  moved before cut f = e ∙ ap (λ (x : List ℕ). heading begun t name ++ x) f ∙ sym (append_assoc (heading begun t name) before cut)

  comes : (item : Item) (before : List ℕ) → IsInPayload (length begun) t item before → Comes begun item (heading begun t name ++ before)
  comes item before h = inr (t, name, before, come, h, refl)

  pub next-stops : (d : ℕ) (stop : Stop) → d ≡ length begun → StopsInPayload d t rest stop → StopsAtNext begun s stop
  next-stops d stop same h = at stop (subst (λ (k : ℕ). StopsInPayload k t rest stop) same h)
    where
      wrong : {P : Item → List ℕ → Type 0} (left : ℕ)
          → ((item : Item) × (before : List ℕ) × (after : List ℕ) × IsInPayload (length begun) t item before × P item after × (left ≡ length after) × (rest ≡ before ++ after))
          → ((item : Item) × (before : List ℕ) × (after : List ℕ) × Comes begun item before × P item after × (left ≡ length after) × (s ≡ before ++ after))
      wrong left h = (h.0, heading begun t name ++ h.1, h.2, comes h.0 h.1 h.3, h.4, h.5, moved h.1 h.2 h.6)

      at : (stop : Stop) → StopsInPayload (length begun) t rest stop → StopsAtNext begun s stop
      at NoMemory h = tt
      at (At left Truncated) h = elim h.1 [
        | inl cut ↦
            let whole : heading begun (type_of cut.0) name ++ payload cut.0 ≡ s ++ (cut.1 ∷ cut.2) =
            ap (λ (k : ℕ). heading begun k name ++ payload cut.0) cut.3 ∙ ap (λ (x : List ℕ). heading begun t name ++ x) cut.5
            ∙ sym (append_assoc (heading begun t name) rest (cut.1 ∷ cut.2)) ∙ ap (λ (x : List ℕ). x ++ (cut.1 ∷ cut.2)) (sym e) in
            (h.0, inl (name, cut.0, cut.1, cut.2, subst (λ (k : ℕ). MayCome begun k name) (sym cut.3) come, cut.4, whole))
        | inr cut ↦ (h.0, inr (cut.0, heading begun t name ++ cut.1, cut.2, comes cut.0 cut.1 cut.3, cut.4, cut.5, moved cut.1 cut.2 cut.6))
      ]
      at (At left BadLength) h = wrong {P = IsWrong BadLength} left h
      at (At left BadType) h = wrong {P = IsWrong BadType} left h
      at (At left TooDeep) h = wrong {P = IsWrong TooDeep} left h
      at (At left Trailing) h = wrong {P = IsWrong Trailing} left h
      at (At left RootNotCompound) h = wrong {P = IsWrong RootNotCompound} left h

-- a payload behind its heading
pub next-piece : (begun : List Begun) (t d : ℕ) (name s rest : List ℕ) (piece : Piece) (behind : List ℕ) → d ≡ length begun → MayCome begun t name → s ≡ heading begun t name ++ rest
    → IsPieceOf d t name rest piece behind → IsNext begun s piece behind
next-piece begun t d name s rest (Tree called one) behind same come e h =
    let held : MayCome begun (type_of (plain_tree one)) called.items.items =
    subst (λ (n : List ℕ). MayCome begun (type_of (plain_tree one)) n) (sym h.0) (subst (λ (k : ℕ). MayCome begun k name) (sym h.1) come) in
    let spelled : s ≡ heading begun (type_of (plain_tree one)) called.items.items ++ (payload (plain_tree one) ++ behind) =
    e ∙ ap (λ (x : List ℕ). heading begun t name ++ x) h.3 ∙ ap (λ (k : ℕ). heading begun k name ++ (payload (plain_tree one) ++ behind)) (sym h.1)
    ∙ ap (λ (n : List ℕ). heading begun (type_of (plain_tree one)) n ++ (payload (plain_tree one) ++ behind)) (sym h.0) in
    (held, subst (λ (k : ℕ). CanStand k (plain_tree one)) same h.2, spelled)
next-piece begun t d name s rest (Opened one) behind same come e h =
    let b = plain_open one in
    let held : MayCome begun (begun_type b) (begun_name b) =
    subst (λ (n : List ℕ). MayCome begun (begun_type b) n) (sym h.0) (subst (λ (k : ℕ). MayCome begun k name) (sym h.1) come) in
    let spelled : s ≡ heading begun (begun_type b) (begun_name b) ++ (begun_payload b ++ behind) =
    e ∙ ap (λ (x : List ℕ). heading begun t name ++ x) h.4 ∙ ap (λ (k : ℕ). heading begun k name ++ (begun_payload b ++ behind)) (sym h.1)
    ∙ ap (λ (n : List ℕ). heading begun (begun_type b) n ++ (begun_payload b ++ behind)) (sym h.0) in
    (held, subst (λ (k : ℕ). IsRightSoFar (suc k) b) same h.2, subst (λ (k : ℕ). k < max_depth) same h.3, spelled)
next-piece begun t d name s rest End behind same come e h = absurd h
