-- What becomes of the keys that nodes hold.
use Rattle.std.proofs.Common.{◌≡◌, ◌<◌, List, [], ◌∷◌, ◌++◌, Option, Some, None, map, length, get_or, refl, ap, sym, ◌∙◌, arith}
use Rattle.tick_queue.specs.Nodes.{held}

pub held-push : {K : Type 0} (nodes : List (Option K)) (key : K) → held (nodes ++ Some key ∷ []) ≡ held nodes ++ key ∷ []
held-push [] key = refl
held-push (None ∷ nodes) key = held-push nodes key
held-push (Some k ∷ nodes) key = ap (λ l. k ∷ l) (held-push nodes key)

map-push : {A B : Type 0} (f : A → B) (xs : List A) (x : A) → map f (xs ++ x ∷ []) ≡ map f xs ++ f x ∷ []
map-push f [] x = refl
map-push f (y ∷ ys) x = ap (λ l. f y ∷ l) (map-push f ys x)

-- nodes that all hold a key
pub full-push : {K : Type 0} (nodes : List (Option K)) (key : K) → nodes ≡ map Some (held nodes) → nodes ++ Some key ∷ [] ≡ map Some (held (nodes ++ Some key ∷ []))
full-push nodes key full = ap (λ l. l ++ Some key ∷ []) full ∙ sym (ap (λ l. map Some l) (held-push nodes key) ∙ map-push Some (held nodes) key)

full-cons : {K : Type 0} (nodes : List (Option K)) (keys : List K) → None ∷ nodes ≡ map Some keys → ⊥
full-cons nodes [] h = (cc)
full-cons nodes (k ∷ ks) h = (cc)

pub full-first : {K : Type 0} (nodes : List (Option K)) (d : Option K) → nodes ≡ map Some (held nodes) → 0 < length nodes → get_or nodes 0 d ≡ None → ⊥
full-first [] d full some none = absurd (omega arith)
full-first {K} (None ∷ nodes) d full some none = full-cons nodes (held nodes) full
full-first (Some k ∷ nodes) d full some none = (cc)
