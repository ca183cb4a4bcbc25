-- What is written piece by piece. `appended` puts bytes behind those that were told, where they are.
use Rattle.std.proofs.Common.{◌≡◌, ℕ, List, [], ◌++◌, take, drop, refl, sym, ◌∙◌, ap, append_assoc, take-append-drop, Option, Some, None}
use Rattle.std.proofs.lemmas.List.{append-nil}
use Rattle.rp_io.specs.Causes.{appended, PartWay, Wrote, WrotePrefix}

pub appended-nil : (told : Option (List ℕ)) → appended told [] ≡ told
appended-nil None = refl
appended-nil (Some before) = ap Some (append-nil before)

pub appended-append : (told : Option (List ℕ)) (xs ys : List ℕ) → appended (appended told xs) ys ≡ appended told (xs ++ ys)
appended-append None xs ys = refl
appended-append (Some before) xs ys = ap Some (append_assoc before xs ys)

-- nothing is written yet
pub part_none : (told : Option (List ℕ)) (bytes : List ℕ) → PartWay told told bytes bytes
part_none told bytes = record { front = []; split = refl; wrote = sym (appended-nil told) }

-- one piece more
pub part_more : (before mid now : Option (List ℕ)) (bytes piece left : List ℕ) → PartWay before mid bytes (piece ++ left) → now ≡ appended mid piece → PartWay before now bytes left
part_more before mid now bytes piece left part next = record {
  front = part.front ++ piece;
  split = part.split ∙ sym (append_assoc part.front piece left);
  wrote = next ∙ ap (λ told. appended told piece) part.wrote ∙ appended-append before part.front piece;
}

-- the first n of the bytes that were left
pub part_take : (n : ℕ) (before mid now : Option (List ℕ)) (bytes left : List ℕ) → PartWay before mid bytes left → now ≡ appended mid (take n left) → PartWay before now bytes (drop n left)
part_take n before mid now bytes left part next = part_more before mid now bytes (take n left) (drop n left)
    record { front = part.front; split = part.split ∙ ap (λ l. part.front ++ l) (sym (take-append-drop n left)); wrote = part.wrote } next

-- nothing is left
pub part_all : (before now : Option (List ℕ)) (bytes : List ℕ) → PartWay before now bytes [] → now ≡ appended before bytes
part_all before now bytes part = part.wrote ∙ ap (appended before) (sym (part.split ∙ append-nil part.front))

-- what is written part way is a prefix
pub part_front : (before now : Option (List ℕ)) (bytes left : List ℕ) → PartWay before now bytes left → WrotePrefix before now bytes
part_front before now bytes left part = record { front = part.front; rest = left; split = part.split; wrote = part.wrote }

-- the sink failed in the next piece
pub part_stopped : (before mid now : Option (List ℕ)) (bytes piece left : List ℕ) → PartWay before mid bytes (piece ++ left) → WrotePrefix mid now piece → WrotePrefix before now bytes
part_stopped before mid now bytes piece left part stopped = record {
  front = part.front ++ stopped.front;
  rest = stopped.rest ++ left;
  split = part.split ∙ ap (λ p. part.front ++ (p ++ left)) stopped.split ∙ ap (λ l. part.front ++ l) (append_assoc stopped.front stopped.rest left)
      ∙ sym (append_assoc part.front stopped.front (stopped.rest ++ left));
  wrote = stopped.wrote ∙ ap (λ told. appended told stopped.front) part.wrote ∙ appended-append before part.front stopped.front;
}

-- two pieces in turn
pub wrote_both : (before mid now : Option (List ℕ)) (xs ys : List ℕ) → Wrote before mid xs → Wrote mid now ys → Wrote before now (xs ++ ys)
wrote_both before mid now xs ys first second = second ∙ ap (λ told. appended told ys) first ∙ appended-append before xs ys

-- nothing was written
pub prefix_none : (told : Option (List ℕ)) (bytes : List ℕ) → WrotePrefix told told bytes
prefix_none told bytes = part_front told told bytes bytes (part_none told bytes)

-- all was written
pub prefix_all : (before now : Option (List ℕ)) (bytes : List ℕ) → Wrote before now bytes → WrotePrefix before now bytes
prefix_all before now bytes wrote = record { front = bytes; rest = []; split = sym (append-nil bytes); wrote = wrote }

-- a prefix of the first bytes is one of them all
pub prefix_more : (before now : Option (List ℕ)) (bytes more : List ℕ) → WrotePrefix before now bytes → WrotePrefix before now (bytes ++ more)
prefix_more before now bytes more part = record {
  front = part.front;
  rest = part.rest ++ more;
  split = ap (λ l. l ++ more) part.split ∙ append_assoc part.front part.rest more;
  wrote = part.wrote;
}

-- a prefix behind bytes that were written whole
pub prefix_after : (before mid now : Option (List ℕ)) (xs ys : List ℕ) → Wrote before mid xs → WrotePrefix mid now ys → WrotePrefix before now (xs ++ ys)
prefix_after before mid now xs ys first part = record {
  front = xs ++ part.front;
  rest = part.rest;
  split = ap (λ l. xs ++ l) part.split ∙ sym (append_assoc xs part.front part.rest);
  wrote = wrote_both before mid now xs part.front first part.wrote;
}

-- where it is told, what was written is what was there and a prefix behind it
pub prefix_told : (before now bytes : List ℕ) → WrotePrefix (Some before) (Some now) bytes → (front : List ℕ) × (rest : List ℕ) × (bytes ≡ front ++ rest) × (now ≡ before ++ front)
prefix_told before now bytes part = (part.front, part.rest, part.split, cc part.wrote)
