-- Words, numbers and lines of firings at the begin of a text.
use Rattle.std.proofs.Common.{◌≡◌, ◌≢◌, ℕ, suc, ◌+◌, ◌-◌, ◌<◌, ◌≤◌, ◌^◌, true, false, List, [], ◌∷◌, ◌++◌, length, take, drop, length-take, length-append, length-drop, refl, sym, ◌∙◌, ap, subst, arith, decimal, inl, inr}
use Rattle.std.specs.Prelude.{codes}
use Rattle.std.specs.Char.{is_ascii_digit}
use Rattle.std.proofs.lemmas.Bool.{cases_eq, eq-eqb, ne_eqb, false≢true}
use Rattle.std.proofs.lemmas.List.{drop-drop, take_all}
use Rattle.std.proofs.Math.Seq.{take-append_seam}
use Rattle.circuit.specs.declared.Pos.{Pos}
use Rattle.report.specs.FireLine.{fire_line}
use Rattle.world_order.specs.declared.lines.FireLine.{FireLine}
use Rattle.world_order.specs.BadLine.{Names, StartsWith, is_fire, is_unended}
use Rattle.world_order.specs.LineForms.{word_len, IsFirstLine, IsNumberBefore, IsFireLine}
use Rattle.world_order.proofs.Expecting.{starts_from}
use Rattle.world_order.proofs.Texts.{Lacks, cut, fire_text, number_lacks}

-- ---- words

word_here : (c : ℕ) (x : ℕ) (text : List ℕ) → x ≡ c → word_len c (x ∷ text) ≡ 0
word_here c x text e = rw (eq-eqb x c e) refl

word_on : (c : ℕ) (x : ℕ) (text : List ℕ) → x ≢ c → word_len c (x ∷ text) ≡ suc (word_len c text)
word_on c x text n = rw (ne_eqb x c n) (omega arith)

-- a word lacks the byte at which it ends
pub word_lacks : (c : ℕ) (text : List ℕ) → Lacks c (take (word_len c text) text)
word_lacks c [] = tt
word_lacks c (x ∷ text) = elim (cases_eq x c) [
  | inl e ↦ subst (λ (n : ℕ). Lacks c (take n (x ∷ text))) (sym (word_here c x text e)) tt
  | inr n ↦ subst (λ (k : ℕ). Lacks c (take k (x ∷ text))) (sym (word_on c x text n)) (n, word_lacks c text)
]

-- and that byte stands behind it
pub word_ends : (c : ℕ) (text : List ℕ) → word_len c text < length text → text ≡ take (word_len c text) text ++ (c ∷ drop (suc (word_len c text)) text)
word_ends c [] l = absurd (omega arith)
word_ends c (x ∷ text) l = elim (cases_eq x c) [
  | inl e ↦ subst (λ (n : ℕ). x ∷ text ≡ take n (x ∷ text) ++ (c ∷ drop (suc n) (x ∷ text))) (sym (word_here c x text e)) (ap (λ (y : ℕ). y ∷ text) e)
  | inr n ↦
      (let on : word_len c (x ∷ text) ≡ suc (word_len c text) = word_on c x text n in
      let below : word_len c text < length text = (let m : word_len c (x ∷ text) < suc (length text) = l in omega (arith, m, on)) in
      subst (λ (k : ℕ). x ∷ text ≡ take k (x ∷ text) ++ (c ∷ drop (suc k) (x ∷ text))) (sym on) (ap (λ (r : List ℕ). x ∷ r) (word_ends c text below)))
]

-- a text that begins with such a word and the byte has the word's length
pub word_of : (c : ℕ) (word more : List ℕ) → Lacks c word → word_len c (word ++ (c ∷ more)) ≡ length word
word_of c [] more h = word_here c c more refl
word_of c (x ∷ word) more h = word_on c x (word ++ (c ∷ more)) h.0 ∙ ap suc (word_of c word more h.1)

-- an unended text is all one word
pub unended_short : (text : List ℕ) → is_unended text ≡ false → word_len 10 text < length text
unended_short [] h = absurd (false≢true (sym h))
unended_short (x ∷ text) h = elim (cases_eq x 10) [
  | inl e ↦ (let z = word_here 10 x text e in omega (arith, z))
  | inr n ↦
      (let on = word_on 10 x text n in
      let rest : is_unended text ≡ false = rw (ne_eqb x 10 n) at h in
      let below = unended_short text rest in
      omega (arith, on, below))
]

pub first_line : (text : List ℕ) (len : ℕ) → is_unended text ≡ false → len ≡ word_len 10 text + 1 → IsFirstLine text len
first_line text len h e = record {
  body = take (word_len 10 text) text;
  more = drop (suc (word_len 10 text)) text;
  unbroken = word_lacks 10 text;
  is = word_ends 10 text (unended_short text h);
  long = e ∙ ap (λ (n : ℕ). n + 1) (sym (length_front (word_len 10 text) text (unended_short text h)));
}
  where
    length_front : (n : ℕ) (xs : List ℕ) → n < length xs → length (take n xs) ≡ n
    length_front n xs l = omega (arith, length-take n xs, l)

-- ---- numbers

pub number_here : (end : ℕ) (text : List ℕ) (number len : ℕ) → len ≡ word_len end text → len < length text → number < 2 ^ 32 → take len text ≡ decimal number → IsNumberBefore end text number (len + 1)
number_here end text number len e l small is = record {
  small = small;
  within = omega arith;
  is = subst (λ (n : ℕ). text ≡ take n text ++ (end ∷ drop (suc n) text)) (sym e) (word_ends end text (subst (λ (n : ℕ). n < length text) e l))
      ∙ (λ i. is i ++ (end ∷ drop (suc_one len i) text));
}
  where
    suc_one : (n : ℕ) → suc n ≡ n + 1
    suc_one n = omega arith

pub no_number_short : (end : ℕ) (text : List ℕ) (len : ℕ) → is_ascii_digit end ≡ false → len ≡ word_len end text → length text ≤ len → (n : ℕ) (more : List ℕ) → n < 2 ^ 32 → text ≡ decimal n ++ (end ∷ more) → ⊥
no_number_short end text len other e l n more small is =
    let w : word_len end text ≡ length (decimal n) = ap (word_len end) is ∙ word_of end (decimal n) more (number_lacks end n other small) in
    let long : length text ≡ length (decimal n) + suc (length more) = ap (λ (t : List ℕ). length t) is ∙ length-append (decimal n) (end ∷ more) in
    omega (arith, w, long, e, l)

pub no_number_word : (end : ℕ) (text : List ℕ) (len : ℕ) → is_ascii_digit end ≡ false → len ≡ word_len end text → ((n : ℕ) → n < 2 ^ 32 → take len text ≡ decimal n → ⊥) →
    (n : ℕ) (more : List ℕ) → n < 2 ^ 32 → text ≡ decimal n ++ (end ∷ more) → ⊥
no_number_word end text len other e none n more small is =
    let w : len ≡ length (decimal n) = e ∙ ap (word_len end) is ∙ word_of end (decimal n) more (number_lacks end n other small) in
    none n small ((λ i. take (w i) (is i)) ∙ take-append_seam (decimal n) (end ∷ more))

-- ---- lines of firings

-- what `&text[n..]` is
pub rest_from : (n : ℕ) (text : List ℕ) → take (length text - n) (drop n text) ≡ drop n text
rest_from n text = take_all (length text - n) (drop n text) (omega (arith, length-drop n text))

-- what stands behind `fire `
pub fire_front : (text : List ℕ) → is_fire text ≡ true → text ≡ codes "fire " ++ drop 5 text
fire_front text h =
    let s : StartsWith text (codes "fire ") = starts_from (codes "fire ") text h in
    s.1 ∙ ap (λ (r : List ℕ). codes "fire " ++ r) (sym (ap (drop 5) s.1))

-- the three parts of a named place
pub named_parts : (text : List ℕ) → is_fire text ≡ true → (place : Pos) → (n : Names text place) →
    drop 5 text ≡ decimal n.numbers.x ++ (32 ∷ (decimal n.numbers.y ++ (32 ∷ (decimal n.numbers.z ++ (10 ∷ n.more)))))
named_parts text h place n =
    let m = n.numbers in
    ap (drop 5) (n.text ∙ ap (λ (r : Pos). fire_line r ++ n.more) m.is ∙ fire_text m.x m.y m.z n.more)

-- the number that was read is that of the word, and the same text stands behind both
pub number_is : (end : ℕ) (text : List ℕ) (number next : ℕ) → is_ascii_digit end ≡ false → IsNumberBefore end text number next → (n : ℕ) (more : List ℕ) → n < 2 ^ 32 → text ≡ decimal n ++ (end ∷ more) → drop next text ≡ more
number_is end text number next other here n more small is =
    (cut end (decimal number) (decimal n) (drop next text) more (number_lacks end number other here.small) (number_lacks end n other small) (sym here.is ∙ is)).1

pub fire_line_here : (text : List ℕ) (fire : FireLine) (at_y at_z : ℕ) → is_fire text ≡ true → IsNumberBefore 32 (drop 5 text) fire.x at_y → IsNumberBefore 32 (drop at_y (drop 5 text)) fire.y at_z →
    (end : ℕ) → IsNumberBefore 10 (drop at_z (drop at_y (drop 5 text))) fire.z end → fire.len ≡ 5 + at_y + at_z + end → IsFireLine text fire
fire_line_here text fire at_y at_z h one two end three long = record {
  small_x = one.small;
  small_y = two.small;
  small_z = three.small;
  within = omega (arith, one.within, two.within, three.within, long, length-drop 5 text, length-drop at_y (drop 5 text), length-drop at_z (drop at_y (drop 5 text)), five_long);
  is = fire_front text h ∙ ap (λ (r : List ℕ). codes "fire " ++ r) (one.is ∙ ap (λ (r : List ℕ). decimal fire.x ++ (32 ∷ r)) (two.is ∙ ap (λ (r : List ℕ). decimal fire.y ++ (32 ∷ r)) (three.is
      ∙ ap (λ (r : List ℕ). decimal fire.z ++ (10 ∷ r)) behind))) ∙ sym (fire_text fire.x fire.y fire.z (drop fire.len text));
}
  where
    five_long : 5 ≤ length text
    five_long = omega (arith, ap (λ (t : List ℕ). length t) (fire_front text h), length-append (codes "fire ") (drop 5 text))

    behind : drop end (drop at_z (drop at_y (drop 5 text))) ≡ drop fire.len text
    behind = drop-drop end at_z (drop at_y (drop 5 text)) ∙ drop-drop (at_z + end) at_y (drop 5 text) ∙ drop-drop (at_y + (at_z + end)) 5 text
        ∙ ap (λ (n : ℕ). drop n text) (let e : 5 + (at_y + (at_z + end)) ≡ fire.len = omega (arith, long) in e)
