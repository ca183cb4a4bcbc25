-- The keys are noted one by one from the last one down, so the first that keeps a place comes last.
use Rattle.std.proofs.Common.{◌≡◌, ℕ, ◌<◌, Bool, true, false, cond, List, [], ◌∷◌, ◌++◌, append_assoc, length, drop, Option, Some, None, refl, sym, ap, ◌∙◌, subst, arith, inl, inr}
use Rattle.std.specs.Prelude.{find, option_map, replicate}
use Rattle.std.proofs.lemmas.Bool.{cases_lt}
use Rattle.std.proofs.lemmas.List.{length-replicate, get_or-replicate, get_or_past}
use Rattle.circuit.specs.Circuit.{State}
use Rattle.build.specs.Plan.{Plan, volume, place_of}
use Rattle.graph.specs.Graph.{Nodes, node_at}
use Rattle.node_arena.specs.Items.{keys_of}
use Rattle.handover.specs.declared.held.Held.{Held}
use Rattle.handover.specs.GivenBack.{keeps, held_under}
use Rattle.handover.specs.HeldByCell.{in_cell, Notes, IsTimely, AreTimely, AreHeld}

-- each cell has what the first of these keys holds that keeps its place
abbrev pub AreNoted : Plan → Nodes → State ℕ → List ℕ → List (Option Held) → Type 0
AreNoted b g s keys held = (cell : ℕ) → cell < volume b → in_cell held cell ≡ option_map (held_under s) (find (λ key. keeps (place_of b cell) (node_at g key)) keys)

-- the keys that were popped
abbrev pub popped : Nodes → List ℕ → List ℕ
popped g keys = drop (length keys) (keys_of g)

abbrev pub nothing_held : Option Held
nothing_held = None

drop_front : (xs ys : List ℕ) → drop (length xs) (xs ++ ys) ≡ ys
drop_front [] ys = refl
drop_front (x ∷ xs) ys = drop_front xs ys

drop_all : (xs : List ℕ) → drop (length xs) xs ≡ []
drop_all [] = refl
drop_all (x ∷ xs) = drop_all xs

append_none : (xs : List ℕ) → xs ++ [] ≡ xs
append_none [] = refl
append_none (x ∷ xs) = ap (λ rest. x ∷ rest) (append_none xs)

-- ---- the start

pub none_popped : (g : Nodes) (keys : List ℕ) → keys ≡ keys_of g → keys ++ popped g keys ≡ keys_of g
none_popped g keys e = subst (λ (k : List ℕ). k ++ popped g k ≡ keys_of g) (sym e) (ap (λ rest. keys_of g ++ rest) (drop_all (keys_of g)) ∙ append_none (keys_of g))

empty_at : (n cell : ℕ) → in_cell (replicate n nothing_held) cell ≡ None
empty_at n cell = elim (cases_lt cell n) [
  | inl low ↦ get_or-replicate n cell nothing_held None low
  | inr past ↦ get_or_past (replicate n nothing_held) cell None (omega (arith, past, length-replicate n nothing_held))
]

pub none_noted : (b : Plan) (g : Nodes) (s : State ℕ) (keys : List ℕ) (held : List (Option Held)) (n : ℕ) → keys ≡ keys_of g → held ≡ replicate n nothing_held → AreNoted b g s (popped g keys) held
none_noted b g s keys held n e is cell low =
    ap (λ (xs : List (Option Held)). in_cell xs cell) is ∙ empty_at n cell
    ∙ sym (ap (λ (rest : List ℕ). option_map (held_under s) (find (λ key. keeps (place_of b cell) (node_at g key)) rest)) (ap (popped g) e ∙ drop_all (keys_of g)))

pub none_timely : (held : List (Option Held)) (n : ℕ) → held ≡ replicate n nothing_held → AreTimely held
none_timely held n is cell = subst IsTimely (sym (ap (λ (xs : List (Option Held)). in_cell xs cell) is ∙ empty_at n cell)) tt

-- ---- one key more

one_popped : (g : Nodes) (keys front : List ℕ) (key : ℕ) → keys ++ popped g keys ≡ keys_of g → keys ≡ front ++ key ∷ [] → front ++ (key ∷ popped g keys) ≡ keys_of g
one_popped g keys front key h is = sym (append_assoc front (key ∷ []) (popped g keys)) ∙ ap (λ xs. xs ++ popped g keys) (sym is) ∙ h

pub next_popped : (g : Nodes) (keys front : List ℕ) (key : ℕ) → keys ++ popped g keys ≡ keys_of g → keys ≡ front ++ key ∷ [] → popped g front ≡ key ∷ popped g keys
next_popped g keys front key h is = ap (drop (length front)) (sym (one_popped g keys front key h is)) ∙ drop_front front (key ∷ popped g keys)

pub still_popped : (g : Nodes) (keys front : List ℕ) (key : ℕ) → keys ++ popped g keys ≡ keys_of g → keys ≡ front ++ key ∷ [] → front ++ popped g front ≡ keys_of g
still_popped g keys front key h is = ap (λ rest. front ++ rest) (next_popped g keys front key h is) ∙ one_popped g keys front key h is

noted_key : (b : Plan) (g : Nodes) (s : State ℕ) (keys : List ℕ) (key : ℕ) (old new : List (Option Held)) → AreNoted b g s keys old →
    Notes b (λ pos. keeps pos (node_at g key)) (held_under s key) old new → AreNoted b g s (key ∷ keys) new
noted_key b g s keys key old new before notes cell low =
    notes cell low ∙ ap (cond (keeps (place_of b cell) (node_at g key)) (Some (held_under s key))) (before cell low) ∙ by_test (keeps (place_of b cell) (node_at g key))
  where
    rest : Option ℕ
    rest = find (λ other. keeps (place_of b cell) (node_at g other)) keys

    by_test : (keep : Bool) → cond keep (Some (held_under s key)) (option_map (held_under s) rest) ≡ option_map (held_under s) (cond keep (Some key) rest)
    by_test true = refl
    by_test false = refl

pub noted_next : (b : Plan) (g : Nodes) (s : State ℕ) (keys front : List ℕ) (key : ℕ) (old new : List (Option Held)) → keys ++ popped g keys ≡ keys_of g → keys ≡ front ++ key ∷ [] →
    AreNoted b g s (popped g keys) old → Notes b (λ pos. keeps pos (node_at g key)) (held_under s key) old new → AreNoted b g s (popped g front) new
noted_next b g s keys front key old new h is before notes =
    subst (λ (rest : List ℕ). AreNoted b g s rest new) (sym (next_popped g keys front key h is)) (noted_key b g s (popped g keys) key old new before notes)

-- ---- the end

pub all_noted : (b : Plan) (g : Nodes) (s : State ℕ) (keys : List ℕ) (held : List (Option Held)) → keys ≡ [] → length held ≡ volume b → AreNoted b g s (popped g keys) held → AreHeld b g s held
all_noted b g s keys held none whole noted = record {
  whole = whole;
  each = subst (λ (k : List ℕ). AreNoted b g s (popped g k) held) none noted;
}
