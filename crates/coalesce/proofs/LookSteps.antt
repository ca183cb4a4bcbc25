-- Nodes that are put among those of their look, and those of a look that stand above a node.
use Rattle.std.proofs.Common.{◌≡◌, ℕ, ◌<◌, Bool, true, List, [], ◌∷◌, length, get_or, Option, Some, None, refl, sym, ap, ◌∙◌, subst, inl, inr, ◌⊎◌}
use Rattle.std.proofs.Math.Path.{fun_ext}
use Rattle.std.specs.Prelude.{Vec, unwrap_or, filter, nat_lt}
use Rattle.std.specs.List.Sorted.{IsPermutation}
use Rattle.std.specs.declared.alloc.Global.{Global}
use Rattle.std.specs.HashMap.{HashMap, get_by, Updates, UpdatesBy}
use Rattle.std.proofs.lemmas.Bool.{cases_Bool, lt-ltb, ltb-true}
use Rattle.std.proofs.lemmas.List.Sorted.{IsPermutation-sym}
use Rattle.circuit.specs.Circuit.{Among}
use Rattle.coalesce.specs.declared.looks.Look.{Look}
use Rattle.coalesce.specs.contracts.looks.LookEq.TheImpl.Laws.{laws-law}
use Rattle.coalesce.specs.FanOuts.{items_of}
use Rattle.coalesce.proofs.FanSteps.{among_permuted, at_among}
use Rattle.coalesce.specs.Looks.{same_look, members, KeepsMembers}

-- equal looks find one list
same_list : {S : Type 0} (lists : HashMap Look (Vec ℕ Global) S) (a b : Look) → same_look a b ≡ true → members lists a ≡ members lists b
same_list lists a b e = ap (λ (test : Look → Bool). items_of (get_by test lists)) (fun_ext (λ look. laws-law.congr a b look e))

pub taken_items : (found : Option (Vec ℕ Global)) (new : Vec ℕ Global) → new.items ≡ [] → (unwrap_or found new).items ≡ items_of found
taken_items None new e = e
taken_items (Some list) new e = refl

-- what was taken out of the lists is put back with more
pub put_keeps : {S : Type 0} (look : Look) (old mid new : HashMap Look (Vec ℕ Global) S) (before after : Vec ℕ Global) →
    UpdatesBy same_look (same_look look) old mid None → Updates same_look mid new look (Some after) → before.items ≡ members old look → ((key : ℕ) → Among before.items key → Among after.items key) →
    KeepsMembers old new
put_keeps look old mid new before after taken put had more other key a = elim (cases_Bool (same_look look other)) [
  | inl e ↦
      (let here : members old look ≡ members old other = same_list old look other e in
      let there : members new other ≡ after.items = sym (same_list new look other e) ∙ ap items_of put.1 in
      subst (λ xs. Among xs key) (sym there) (more key (subst (λ xs. Among xs key) (sym (had ∙ here)) a)))
  | inr e ↦ subst (λ list. Among (items_of list) key) (sym (put.2 other e ∙ taken.2 other e)) a
]

-- what passes a test
pub among_filtered : (p : ℕ → Bool) (xs : List ℕ) (x : ℕ) → Among xs x → p x ≡ true → Among (filter p xs) x
among_filtered p [] x a t = absurd a
among_filtered p (y ∷ xs) x a t = elim a [
  | inl e ↦ rw (subst (λ z. p z ≡ true) e t) (inl e)
  | inr b ↦ elim (cases_Bool (p y)) [ inl h ↦ rw h (inr (among_filtered p xs x b t)) | inr h ↦ rw h (among_filtered p xs x b t) ]
]

of_filtered : (p : ℕ → Bool) (xs : List ℕ) (x : ℕ) → Among (filter p xs) x → p x ≡ true
of_filtered p [] x a = absurd a
of_filtered p (y ∷ xs) x a = elim (cases_Bool (p y)) [
  | inl t ↦ (let here : (x ≡ y) ⊎ Among (filter p xs) x = rw t at a in elim here [ inl e ↦ ap p e ∙ t | inr b ↦ of_filtered p xs x b ])
  | inr f ↦ of_filtered p xs x (rw f at a)
]

-- those above a number, in another order
pub sorted_all : (least : ℕ) (xs found keys : List ℕ) → found ≡ filter (λ key. nat_lt least key) xs → IsPermutation found keys → (key : ℕ) → least < key → Among xs key → Among keys key
sorted_all least xs found keys e same key less a =
    among_permuted found keys same key (subst (λ ys. Among ys key) (sym e) (among_filtered (λ k. nat_lt least k) xs key a (lt-ltb least key less)))

pub sorted_above : (least : ℕ) (xs found keys : List ℕ) → found ≡ filter (λ key. nat_lt least key) xs → IsPermutation found keys → (index : ℕ) → index < length keys → least < get_or keys index 0
sorted_above least xs found keys e same index inside =
    let a : Among (filter (λ k. nat_lt least k) xs) (get_or keys index 0) =
    subst (λ ys. Among ys (get_or keys index 0)) e (among_permuted keys found (IsPermutation-sym found keys same) (get_or keys index 0) (at_among keys index inside)) in
    ltb-true least (get_or keys index 0) (of_filtered (λ k. nat_lt least k) xs (get_or keys index 0) a)
