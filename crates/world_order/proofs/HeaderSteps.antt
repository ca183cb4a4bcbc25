-- A header that is read line by line.
use Rattle.std.proofs.Common.{◌≡◌, ℕ, suc, ◌+◌, ◌-◌, ◌<◌, ◌≤◌, false, List, [], ◌∷◌, ◌++◌, length, take, drop, length-append, length-take, length-drop, refl, sym, ◌∙◌, ap, subst, arith, inl, inr, Bool, not}
use Rattle.std.specs.List.{list_all}
use Rattle.std.proofs.lemmas.Bool.{cases_Bool, and_parts, false≢true}
use Rattle.std.proofs.lemmas.Grind.{flat_map-append}
use Rattle.std.proofs.lemmas.List.{append_assoc, append-nil, drop-drop, drop_all}
use Rattle.std.proofs.lemmas.List.Folds.{list_all-append}
use Rattle.circuit.specs.Circuit.{Each}
use Rattle.world_order.specs.declared.front.Bad.{Bad}
use Rattle.world_order.specs.declared.front.Front.{Front}
use Rattle.world_order.specs.BadLine.{is_unended}
use Rattle.world_order.specs.LineForms.{IsFirstLine, IsNotLine}
use Rattle.world_order.specs.OrderText.{is_break}
use Rattle.world_order.specs.Reading.{IsLine, ReadsOn, IsNoLine, IsBadAmong, HasHeader, joined}
use Rattle.world_order.proofs.Pieces.{take_to, rest_of}
use Rattle.world_order.proofs.Texts.{cut}

each_after : (P : List ℕ → Type 0) (xs ys : List (List ℕ)) → Each P (xs ++ ys) → Each P ys
each_after P [] ys e = e
each_after P (x ∷ xs) ys e = each_after P xs ys e.1

drop_to : (A B text : List ℕ) → text ≡ A ++ B → drop (length A) text ≡ B
drop_to [] B text e = e
drop_to (a ∷ A) B [] e = absurd (cc)
drop_to (a ∷ A) B (t ∷ text) e = let same : text ≡ A ++ B = cc in drop_to A B text same

-- the next line of some that are left
record NextLine (after : List (List ℕ)) (rest : List ℕ) (len : ℕ) : Type 0 where
  line : List ℕ
  others : List (List ℕ)
  are : after ≡ line ∷ others
  slice : take len rest ≡ line
  behind : drop len rest ≡ joined others

next_line : (after : List (List ℕ)) → Each IsLine after → (rest : List ℕ) → rest ≡ joined after → (len : ℕ) → IsFirstLine rest len → NextLine after rest len
next_line [] e rest is len f = absurd (let none : 0 ≡ length (f.body ++ (10 ∷ f.more)) = ap (λ (t : List ℕ). length t) (sym is ∙ f.is) in omega (arith, none, length-append f.body (10 ∷ f.more)))
next_line (line ∷ others) e rest is len f =
    let l : IsLine line = e.0 in
    let whole : rest ≡ l.body ++ (10 ∷ joined others) = is ∙ ap (λ x. x ++ joined others) l.is ∙ append_assoc l.body (10 ∷ []) (joined others) in
    let same = cut 10 f.body l.body f.more (joined others) f.unbroken l.unbroken (sym f.is ∙ whole) in
    let front : rest ≡ line ++ joined others = is in
    let long : len ≡ length line =
    f.long ∙ ap (λ (x : List ℕ). length x + 1) same.0 ∙ sym (length-append l.body (10 ∷ [])) ∙ ap (λ (x : List ℕ). length x) (sym l.is) in
    record {
      line = line;
      others = others;
      are = refl;
      slice = take_to rest line (joined others) len front long;
      behind = ap (λ n. drop n rest) long ∙ drop_to line (joined others) rest front;
    }

-- a line is left, so an LF is
ended : (after : List (List ℕ)) → Each IsLine after → 0 < length (joined after) → is_unended (joined after) ≡ false
ended [] e l = absurd (omega arith)
ended (line ∷ others) e l = elim (cases_Bool (is_unended (joined (line ∷ others)))) [
  | inl h ↦
      (let p : ℕ → Bool = λ b. not (is_break b) in
      let w : IsLine line = e.0 in
      let one = and_parts (list_all p line) (list_all p (joined others)) (sym (list_all-append p line (joined others)) ∙ h) in
      let two = and_parts (list_all p w.body) (list_all p (10 ∷ [])) (sym (list_all-append p w.body (10 ∷ [])) ∙ ap (list_all p) (sym w.is) ∙ one.0) in
      absurd (false≢true two.1))
  | inr h ↦ h
]

pub header_ended : (header text : List ℕ) (front : Front) → front.at < length header → (lines : List (List ℕ)) → Each IsLine lines → HasHeader header text front lines → is_unended (take (length header - front.at) (drop front.at header)) ≡ false
header_ended header text front l lines e h =
    ap is_unended (rest_of front.at header ∙ h.rest)
    ∙ ended h.after (each_after IsLine h.before h.after (subst (Each IsLine) h.lines_are e))
    (let long : length (drop front.at header) ≡ length (joined h.after) = ap (λ (t : List ℕ). length t) h.rest in omega (arith, l, long, length-drop front.at header))

module _ (header text : List ℕ) (front : Front) (lines : List (List ℕ)) (e : Each IsLine lines) (h : HasHeader header text front lines) (len end : ℕ)
    (first : IsFirstLine (take (length header - front.at) (drop front.at header)) len) (at_end : end ≡ front.at + len) where
  next : NextLine h.after (drop front.at header) len
  next = next_line h.after (each_after IsLine h.before h.after (subst (Each IsLine) h.lines_are e)) (drop front.at header) h.rest len (subst (λ (t : List ℕ). IsFirstLine t len) (rest_of front.at header) first)

  slice_is : take (end - front.at) (drop front.at header) ≡ next.line
  slice_is = ap (λ n. take n (drop front.at header)) (let same : end - front.at ≡ len = omega (arith, at_end) in same) ∙ next.slice

  pub header_bad : (bad : Bad) → front.tick ≡ 0 → IsNoLine text front (take (end - front.at) (drop front.at header)) bad → IsBadAmong lines text bad
  header_bad bad none n = record {
    before = h.before;
    line = next.line;
    after = next.others;
    lines_are = h.lines_are ∙ ap (λ x. h.before ++ x) next.are;
    front = ap (λ n. take n text) n.here.at ∙ h.reached;
    within = n.here.within;
    none = n.here.tick ∙ none;
    is = subst (λ (l : List ℕ). IsNotLine (drop bad.at text) l bad.kind) slice_is n.is;
  }

  pub header_on : (to : Front) → to.at ≡ end → ReadsOn text front to (take (end - front.at) (drop front.at header)) 0 0 → HasHeader header text to lines
  header_on to at r = record {
    before = h.before ++ (next.line ∷ []);
    after = next.others;
    lines_are = h.lines_are ∙ ap (λ x. h.before ++ x) next.are ∙ sym (append_assoc h.before (next.line ∷ []) next.others);
    reached = r.front ∙ ap (λ x. x ++ take (end - front.at) (drop front.at header)) h.reached ∙ ap (λ x. joined h.before ++ x) (slice_is ∙ sym (append-nil next.line))
        ∙ sym (flat_map-append (λ (l : List ℕ). l) h.before (next.line ∷ []));
    rest = ap (λ n. drop n header) (at ∙ at_end) ∙ sym (drop-drop len front.at header) ∙ next.behind;
  }

-- before the first line
pub header_start : (header text : List ℕ) (front : Front) (lines : List (List ℕ)) → front ≡ record { at = 0; tick = 0; fires = 0 } → header ≡ joined lines → HasHeader header text front lines
header_start header text front lines zero is = record {
  before = [];
  after = lines;
  lines_are = refl;
  reached = ap (λ (f : Front). take f.at text) zero;
  rest = ap (λ (f : Front). drop f.at header) zero ∙ is;
}

-- behind the last line
pub header_whole : (header text : List ℕ) (front : Front) (lines : List (List ℕ)) → header ≡ joined lines → HasHeader header text front lines → length header ≤ front.at → take front.at text ≡ header
header_whole header text front lines is h long =
    sym (is ∙ ap joined h.lines_are ∙ flat_map-append (λ (l : List ℕ). l) h.before h.after ∙ ap (λ x. x ++ joined h.after) (sym h.reached) ∙ ap (λ x. take front.at text ++ x) (sym h.rest)
    ∙ ap (λ x. take front.at text ++ x) (drop_all front.at header long) ∙ append-nil (take front.at text))

pub first_within : (header : List ℕ) (at len : ℕ) → IsFirstLine (take (length header - at) (drop at header)) len → (0 < len) × (at + len ≤ length header)
first_within header at len f =
    let long : length (drop at header) ≡ length f.body + suc (length f.more) = ap (λ (t : List ℕ). length t) (sym (rest_of at header) ∙ f.is) ∙ length-append f.body (10 ∷ f.more) in
    (omega (arith, f.long), omega (arith, long, f.long, length-drop at header))

-- a line that was cut out is so long
pub slice_long : (header : List ℕ) (at len : ℕ) → at + len ≤ length header → length (take ((at + len) - at) (drop at header)) ≡ len
slice_long header at len l = omega (arith, length-take ((at + len) - at) (drop at header), length-drop at header, l)
