-- Bytes spell a root or have a first fault: what is begun goes on, part by part, to the one or the other.
use Rattle.std.proofs.Common.{◌≡◌, ◌<◌, ◌-◌, ℕ, zero, suc, List, [], ◌∷◌, ◌++◌, length, refl, sym, ap, ◌∙◌, subst, arith, inl, inr}
use Rattle.std.specs.Prelude.{◌⊎◌}
use Rattle.std.proofs.lemmas.Bool.{cases_eq}
use Rattle.std.proofs.lemmas.List.{append-nil}
use Rattle.nbt.specs.Plain.{PlainRoot, fields_of}
use Rattle.nbt.specs.Spelling.{short_text, type_of, payload, spelling, IsText, CanBeSpelled, Spells, AreBytes}
use Rattle.nbt.specs.Faults.{Begun, begun_compound, begun_list, begun_type, begun_name, begun_payload, heading, beginning, MayCome, IsBegun, IsFirstFault}
use Rattle.nbt.specs.Reading.{grown, closed, IsEnd, IsCompound, IsRootOf, StopsAt, work}
use Rattle.nbt.specs.declared.refusals.NbtKind.{NbtKind}
use Rattle.nbt.specs.declared.refusals.NbtKind.TheVariants.{Truncated, Trailing, RootNotCompound}
use Rattle.nbt.specs.declared.open.Stop.TheVariants.{At}
use Rattle.nbt.proofs.Fronts.{IsBytes, is-bytes, bytes-back}
use Rattle.nbt.proofs.Growing.{root-step, root-compound, Moves, moves-tree, moves-open, moves-end}
use Rattle.nbt.proofs.Places.{fault-at, empty-cut, name-cut, trailing}
use Rattle.nbt.proofs.Beginnings.{Stops, Part, whole, opened, IsPart, text-cuts, next-front}

abbrev HasFault : List ℕ → Type 0
HasFault s = (place : ℕ) × (kind : NbtKind) × IsFirstFault s place kind

-- the bytes start with a root's spelling
abbrev HasRoot : List ℕ → Type 0
HasRoot s = (root : PlainRoot) × (rest : List ℕ) × CanBeSpelled root × (s ≡ spelling root ++ rest)

stop-fault : (s : List ℕ) → Stops (StopsAt s) → HasFault s
stop-fault s stops = (length s - stops.0, stops.1, stops.2.1)

-- one step from what is begun
abbrev HasStep : List Begun → List ℕ → Type 0
HasStep begun rest = (b : Begun) × (outer : List Begun) × (behind : List ℕ) × Moves begun rest (b ∷ outer) behind

part-step : (b : Begun) (outer : List Begun) (rest after : List ℕ) (t : ℕ) (name behind : List ℕ) (part : Part) → IsBegun (b ∷ outer) → MayCome (b ∷ outer) t name → rest ≡ heading (b ∷ outer) t name ++ behind
    → IsPart (suc (length outer)) t name behind part after → HasStep (b ∷ outer) rest
part-step b outer rest after t name behind (whole one) h come e part =
    let comes : MayCome (b ∷ outer) (type_of one) name = subst (λ (k : ℕ). MayCome (b ∷ outer) k name) (sym part.0) come in
    let split : rest ≡ heading (b ∷ outer) (type_of one) name ++ (payload one ++ after) =
    e ∙ ap (λ (k : ℕ). heading (b ∷ outer) k name ++ behind) (sym part.0) ∙ ap (λ (x : List ℕ). heading (b ∷ outer) (type_of one) name ++ x) part.2 in
    (grown b name one, outer, after, moves-tree b outer (grown b name one ∷ outer) (grown b name one) name rest after one refl refl h (comes, part.1, split))
part-step b outer rest after t name behind (opened inner) h come e part =
    let comes : MayCome (b ∷ outer) (begun_type inner) (begun_name inner) =
    subst (λ (k : ℕ). MayCome (b ∷ outer) k (begun_name inner)) (sym part.0) (subst (λ (n : List ℕ). MayCome (b ∷ outer) t n) (sym part.1) come) in
    let split : rest ≡ heading (b ∷ outer) (begun_type inner) (begun_name inner) ++ (begun_payload inner ++ after) =
    e ∙ ap (λ (k : ℕ). heading (b ∷ outer) k name ++ behind) (sym part.0) ∙ ap (λ (n : List ℕ). heading (b ∷ outer) (begun_type inner) n ++ behind) (sym part.1)
    ∙ ap (λ (x : List ℕ). heading (b ∷ outer) (begun_type inner) (begun_name inner) ++ x) part.4 in
    (inner, b ∷ outer, after, moves-open b inner outer (inner ∷ b ∷ outer) rest after refl h (comes, part.2, part.3, split))

abbrev HasRootOf : Begun → Type 0
HasRootOf b = (root : PlainRoot) × IsRootOf b root

root-is : (b : Begun) → IsCompound b → HasRootOf b
root-is (begun_compound own held) h = (record { name = own; fields = fields_of held }, refl)
root-is (begun_list own element left held) h = absurd h

abbrev Goes : List Begun → List ℕ → List ℕ → Type 0
Goes begun rest s = HasFault s ⊎ (HasRoot s ⊎ HasStep begun rest)

end-goes : (b : Begun) (outer : List Begun) (rest after s : List ℕ) → IsBegun (b ∷ outer) → s ≡ beginning (b ∷ outer) ++ rest → IsEnd (b ∷ outer) rest after → Goes (b ∷ outer) rest s
end-goes b [] rest after s h e end =
    let root = root-is b (root-compound b h) in
    let step = root-step b rest after root.0 h end root.1 in
    inr (inl (root.0, after, step.0, e ∙ step.1))
end-goes b (holder ∷ outer) rest after s h e end =
    let top = grown holder (begun_name b) (closed b) in
    inr (inr (top, outer, after, moves-end b holder top outer (b ∷ holder ∷ outer) (top ∷ outer) (begun_name b) rest after (closed b) refl refl refl refl refl h end))

goes : (b : Begun) (outer : List Begun) (rest s : List ℕ) → IsBegun (b ∷ outer) → s ≡ beginning (b ∷ outer) ++ rest → IsBytes rest → Goes (b ∷ outer) rest s
goes b outer rest s h e fits = elim (next-front b outer rest h fits) [
  | inl stops ↦ inl (stop-fault s (stops.0, stops.1, fault-at (b ∷ outer) rest s (At stops.0 stops.1) h e stops.2))
  | inr next ↦ elim next [
    | inl part ↦ inr (inr (part-step b outer rest part.4 part.0 part.1 part.2 part.3 h part.5 part.6 part.7))
    | inr end ↦ end-goes b outer rest end.0 s h e end.1
  ]
]

-- from what is begun, by the work that is left
reads : (fuel : ℕ) (b : Begun) (outer : List Begun) (rest s : List ℕ) → work (b ∷ outer) rest < fuel → IsBegun (b ∷ outer) → s ≡ beginning (b ∷ outer) ++ rest → IsBytes s → HasFault s ⊎ HasRoot s
reads zero b outer rest s less h e fits = absurd (omega arith)
reads (suc fuel) b outer rest s less h e fits = elim (goes b outer rest s h e (bytes-back (beginning (b ∷ outer)) rest (subst IsBytes e fits))) [
  | inl fault ↦ inl fault
  | inr more ↦ elim more [
    | inl root ↦ inr root
    | inr step ↦
        let fewer = step.3.2 in
        reads fuel step.0 step.1 step.2 s (omega arith) step.3.0 (e ∙ step.3.1) fits
  ]
]

abbrev pub OneOfTwo : List ℕ → Type 0
OneOfTwo s = ((root : PlainRoot) × Spells s root) ⊎ HasFault s

root-or : (s : List ℕ) (root : PlainRoot) (rest : List ℕ) → CanBeSpelled root → s ≡ spelling root ++ rest → OneOfTwo s
root-or s root [] can e = inl (root, (can, e ∙ append-nil (spelling root)))
root-or s root (b ∷ more) can e = inr (stop-fault s (suc (length more), Trailing, trailing s (b ∷ more) root can e (omega arith)))

named : (name rest s : List ℕ) → IsText name → s ≡ 10 ∷ (short_text name ++ rest) → IsBytes s → OneOfTwo s
named name rest s short e fits =
    let b = begun_compound name [] in
    let begun : IsBegun (b ∷ []) = (tt, omega arith, (refl, short), tt) in
    let split : s ≡ beginning (b ∷ []) ++ rest = e ∙ ap (λ (x : List ℕ). 10 ∷ (x ++ rest)) (sym (append-nil (short_text name))) in
    elim (reads (suc (work (b ∷ []) rest)) b [] rest s (omega arith) begun split fits) [
      | inl fault ↦ inr fault
      | inr root ↦ root-or s root.0 root.1 root.2 root.3
    ]

pub one-of-two : (s : List ℕ) → AreBytes s → OneOfTwo s
one-of-two [] h = inr (stop-fault [] (0, Truncated, empty-cut [] refl))
one-of-two (k ∷ rest) h = elim (cases_eq k 10) [
  | inl ten ↦
      let fits : IsBytes (k ∷ rest) = is-bytes (k ∷ rest) h in
      let front : k ∷ rest ≡ 10 ∷ rest = ap (λ (x : ℕ). x ∷ rest) ten in
      elim (text-cuts rest (is-bytes rest h.1)) [
        | inl cut ↦ inr (stop-fault (k ∷ rest) (0, Truncated, name-cut (k ∷ rest) rest front cut))
        | inr name ↦ named name.0 name.1 (k ∷ rest) name.3 (front ∙ ap (λ (x : List ℕ). 10 ∷ x) name.2) fits
      ]
  | inr other ↦ inr (0, RootNotCompound, (refl, k, rest, refl, other))
]
