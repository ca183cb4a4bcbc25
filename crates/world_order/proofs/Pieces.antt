-- What is read of a text, one piece after another.
use Rattle.std.proofs.Common.{◌≡◌, ℕ, ◌+◌, ◌-◌, ◌<◌, ◌≤◌, List, [], ◌∷◌, ◌++◌, length, take, drop, length-append, length-take, length-drop, sym, ◌∙◌, ap, subst, arith, decimal}
use Rattle.std.specs.Prelude.{codes, Result, Ok, Err, IfErr, IsErrAnd}
use Rattle.std.specs.List.{flat_map}
use Rattle.std.proofs.lemmas.List.{append_assoc, append-nil, take-append-drop, take_all}
use Rattle.std.proofs.Math.Seq.{take-append_seam}
use Rattle.circuit.specs.declared.Pos.{Pos}
use Rattle.report.specs.declared.Cause.{Cause}
use Rattle.report.specs.declared.OrderKind.{OrderKind}
use Rattle.report.specs.FireLine.{fire_line}
use Rattle.report.specs.PlaceText.{place_text}
use Rattle.report.specs.ViewLine.{view_line, cause_text, value_text}
use Rattle.world_order.specs.declared.front.Bad.{Bad}
use Rattle.world_order.specs.declared.front.Front.{Front}
use Rattle.world_order.specs.LineForms.{IsNotLine}
use Rattle.world_order.specs.BadLine.{StartsWith}
use Rattle.world_order.specs.Reading.{IsFront, IsHere, IsNoLine, ReadsOn}

pub take_to : (text A B : List ℕ) (n : ℕ) → text ≡ A ++ B → n ≡ length A → take n text ≡ A
take_to text A B n e l = (λ i. take (l i) (e i)) ∙ take-append_seam A B

length_to : (n : ℕ) (xs : List ℕ) → n ≤ length xs → length (take n xs) ≡ n
length_to n xs l = omega (arith, length-take n xs, l)

split : (text : List ℕ) (at : ℕ) (more rest : List ℕ) → drop at text ≡ more ++ rest → text ≡ (take at text ++ more) ++ rest
split text at more rest e = sym (take-append-drop at text) ∙ ap (λ x. take at text ++ x) e ∙ sym (append_assoc (take at text) more rest)

-- The text goes on with this.
pub reads_on : (text : List ℕ) (old new : Front) (more rest : List ℕ) (ticks fires : ℕ) → IsFront text old → drop old.at text ≡ more ++ rest → new.at ≡ old.at + length more →
    new.tick ≡ old.tick + ticks → new.fires ≡ old.fires + fires → ticks + fires ≤ length more → ReadsOn text old new more ticks fires
reads_on text old new more rest ticks fires f e at tick fire few = record {
  front = take_to text (take old.at text ++ more) rest new.at (split text old.at more rest e)
      (at ∙ sym (length-append (take old.at text) more ∙ ap (λ n. n + length more) (length_to old.at text f.within)));
  is = record {
    within = omega (arith, at, ap (λ (t : List ℕ). length t) e, length-append more rest, length-drop old.at text, f.within, none);
    ticks = omega (arith, at, tick, few, f.ticks);
    fires = omega (arith, at, fire, few, f.fires);
  };
  tick = tick;
  fire = fire;
}
  where
    none : length more ≤ length (drop old.at text)
    none = omega (arith, ap (λ (t : List ℕ). length t) e, length-append more rest)

-- nothing more
pub reads_none : (text : List ℕ) (front : Front) → IsFront text front → ReadsOn text front front [] 0 0
reads_none text front f = record { front = sym (append-nil (take front.at text)); is = f; tick = omega arith; fire = omega arith }

-- one piece behind another
pub reads_join : (text : List ℕ) (a b c : Front) (x y : List ℕ) (s t u v : ℕ) → ReadsOn text a b x s t → ReadsOn text b c y u v → ReadsOn text a c (x ++ y) (s + u) (t + v)
reads_join text a b c x y s t u v one two = record {
  front = two.front ∙ ap (λ z. z ++ y) one.front ∙ append_assoc (take a.at text) x y;
  is = two.is;
  tick = omega (arith, one.tick, two.tick);
  fire = omega (arith, one.fire, two.fire);
}

pub reads_as : (text : List ℕ) (a b : Front) (x y : List ℕ) (s t u v : ℕ) → x ≡ y → s ≡ u → t ≡ v → ReadsOn text a b x s t → ReadsOn text a b y u v
reads_as text a b x y s t u v e f g r = record {
  front = r.front ∙ ap (λ z. take a.at text ++ z) e;
  is = r.is;
  tick = r.tick ∙ ap (λ n. a.tick + n) f;
  fire = r.fire ∙ ap (λ n. a.fires + n) g;
}

-- what `&text[n..]` is
pub rest_of : (n : ℕ) (text : List ℕ) → take (length text - n) (drop n text) ≡ drop n text
rest_of n text = take_all (length text - n) (drop n text) (omega (arith, length-drop n text))

-- a line stands here, and this is the front behind it
pub line_read : (text : List ℕ) (old new : Front) (line : List ℕ) → IsFront text old → StartsWith (take (length text - old.at) (drop old.at text)) line → new.at ≡ old.at + length line →
    new.tick ≡ old.tick → new.fires ≡ old.fires → ReadsOn text old new line 0 0
line_read text old new line f starts at tick fire =
    reads_on text old new line starts.0 0 0 f (sym (rest_of old.at text) ∙ starts.1) at (omega (arith, tick)) (omega (arith, fire)) (omega arith)

-- how far it goes
pub reads_long : (text : List ℕ) (a b : Front) (x : List ℕ) (s t : ℕ) → IsFront text a → ReadsOn text a b x s t → b.at ≡ a.at + length x
reads_long text a b x s t f r =
    sym (length_to b.at text r.is.within) ∙ ap (λ (l : List ℕ). length l) r.front ∙ length-append (take a.at text) x ∙ ap (λ n. n + length x) (length_to a.at text f.within)

pub ended_long : (word : List ℕ) (c : ℕ) → 0 < length (word ++ (c ∷ []))
ended_long word c = omega (arith, length-append word (c ∷ []))

pub view_long : (time : ℕ) (cause : Cause) (values : List ℕ) → 0 < length (view_line time cause values)
unfolding view_line
view_long time cause values = ended_long (decimal time ++ codes " " ++ cause_text cause ++ flat_map value_text values) 10

pub fire_long : (place : Pos) → 0 < length (fire_line place)
unfolding fire_line
fire_long place = ended_long (codes "fire " ++ place_text place) 10

-- ---- what is wrong here

-- the bad line that is told of a front
pub bad_here : (text : List ℕ) (front : Front) (bad : Bad) (kind : OrderKind) → IsFront text front → bad ≡ record { at = front.at; tick = front.tick; kind = kind } → IsHere text front bad
bad_here text front bad kind f e =
    let at : bad.at ≡ front.at = ap (λ (b : Bad). b.at) e in
    record { at = at; tick = ap (λ (b : Bad). b.tick) e; within = omega (arith, at, f.within) }

pub told_bad : (text : List ℕ) (front : Front) (bad : Bad) (kind : OrderKind) → bad ≡ record { at = front.at; tick = front.tick; kind = kind } → (P : List ℕ → OrderKind → Type 0) →
    P (take (length text - front.at) (drop front.at text)) kind → P (drop bad.at text) bad.kind
told_bad text front bad kind e P p =
    subst (λ (b : Bad). P (drop b.at text) b.kind) (sym e) (subst (λ (t : List ℕ). P t kind) (rest_of front.at text) p)

pub no_line : (text : List ℕ) (front : Front) (line : List ℕ) (bad : Bad) (kind : OrderKind) → IsFront text front → bad ≡ record { at = front.at; tick = front.tick; kind = kind } →
    IsNotLine (take (length text - front.at) (drop front.at text)) line kind → IsNoLine text front line bad
no_line text front line bad kind f e n = record { here = bad_here text front bad kind f e; is = told_bad text front bad kind e (λ (t : List ℕ) (k : OrderKind). IsNotLine t line k) n }

-- an answer with the one error
pub err_holds : {T E : Type 0} (r : Result T E) (x : E) (P : E → Type 0) → IsErrAnd r (λ e. e ≡ x) → P x → IfErr r P
err_holds (Ok v) x P is p = tt
err_holds (Err e) x P is p = subst P (sym is) p

pub starts_within : (text line : List ℕ) (at : ℕ) → at ≤ length text → StartsWith (take (length text - at) (drop at text)) line → at + length line ≤ length text
starts_within text line at within s =
    let long : length (drop at text) ≡ length line + length s.0 = ap (λ (t : List ℕ). length t) (sym (rest_of at text) ∙ s.1) ∙ length-append line s.0 in
    omega (arith, long, length-drop at text, within)
