-- Lines of firings told apart: which places a text of them names, and where they end.
use Rattle.std.proofs.Common.{◌≡◌, ◌≢◌, ℕ, ◌<◌, ◌^◌, true, false, pos, List, [], ◌∷◌, ◌++◌, length, Some, refl, sym, ◌∙◌, ap, ap₂, arith, decimal}
use Rattle.std.specs.Char.{is_ascii_digit}
use Rattle.std.specs.List.{list_all, flat_map}
use Rattle.std.specs.Prelude.{codes}
use Rattle.std.proofs.lemmas.Bool.{and_parts, false≢true}
use Rattle.std.proofs.lemmas.List.{append_assoc}
use Rattle.circuit.specs.declared.Pos.{Pos}
use Rattle.circuit.specs.Circuit.{Each}
use Rattle.rp_text.specs.Numbers.{u32_of}
use Rattle.rp_text.proofs.DecimalText.{HasPlainDigits-decimal, u32_of-decimal}
use Rattle.report.specs.declared.Cause.{Cause}
use Rattle.report.specs.FireLine.{fire_line}
use Rattle.report.specs.PlaceText.{place_text}
use Rattle.report.specs.ViewLine.{view_line, cause_text, value_text}
use Rattle.world_order.specs.BadLine.{HasNumbers}

-- none of the bytes is this one
abbrev pub Lacks : ℕ → List ℕ → Type 0
Lacks c bytes = Each (λ b. b ≢ c) bytes

pub head_same : (x y : ℕ) (xs ys : List ℕ) → x ∷ xs ≡ y ∷ ys → x ≡ y
head_same x y xs ys e = cc

pub tail_same : (x y : ℕ) (xs ys : List ℕ) → x ∷ xs ≡ y ∷ ys → xs ≡ ys
tail_same x y xs ys e = cc

-- two texts whose first such byte ends a word have one word
pub cut : (c : ℕ) (xs ys X Y : List ℕ) → Lacks c xs → Lacks c ys → xs ++ (c ∷ X) ≡ ys ++ (c ∷ Y) → (xs ≡ ys) × (X ≡ Y)
cut c [] [] X Y a b e = (refl, tail_same c c X Y e)
cut c [] (y ∷ ys) X Y a b e = absurd (b.0 (sym (head_same c y X (ys ++ (c ∷ Y)) e)))
cut c (x ∷ xs) [] X Y a b e = absurd (a.0 (head_same x c (xs ++ (c ∷ X)) Y e))
cut c (x ∷ xs) (y ∷ ys) X Y a b e =
    let r = cut c xs ys X Y a.1 b.1 (tail_same x y (xs ++ (c ∷ X)) (ys ++ (c ∷ Y)) e) in
    (ap₂ (λ one more. one ∷ more) (head_same x y (xs ++ (c ∷ X)) (ys ++ (c ∷ Y)) e) r.0, r.1)

pub digits_lack : (c : ℕ) → is_ascii_digit c ≡ false → (ds : List ℕ) → list_all is_ascii_digit ds ≡ true → Lacks c ds
digits_lack c other [] h = tt
digits_lack c other (d ∷ ds) h =
    let p = and_parts (is_ascii_digit d) (list_all is_ascii_digit ds) h in
    (λ e. false≢true (sym other ∙ ap is_ascii_digit (sym e) ∙ p.0), digits_lack c other ds p.1)

pub number_lacks : (c n : ℕ) → is_ascii_digit c ≡ false → n < 2 ^ 32 → Lacks c (decimal n)
number_lacks c n other small = digits_lack c other (decimal n) (HasPlainDigits-decimal n (omega arith)).digits

number_same : (m n : ℕ) → m < 2 ^ 32 → n < 2 ^ 32 → decimal m ≡ decimal n → m ≡ n
number_same m n a b e = let both : Some m ≡ Some n = sym (u32_of-decimal m a) ∙ ap u32_of e ∙ u32_of-decimal n b in cc

-- a line of a firing and what stands behind it
pub fire_text : (x y z : ℕ) (X : List ℕ) →
    fire_line (record { x = pos x; y = pos y; z = pos z }) ++ X ≡ codes "fire " ++ (decimal x ++ (32 ∷ (decimal y ++ (32 ∷ (decimal z ++ (10 ∷ X))))))
unfolding fire_line place_text
fire_text x y z X = ap (λ rest. codes "fire " ++ rest) (three (decimal x) (decimal y) (decimal z))
  where
    three : (a b c : List ℕ) → (((((a ++ (32 ∷ [])) ++ b) ++ (32 ∷ [])) ++ c) ++ (10 ∷ [])) ++ X ≡ a ++ (32 ∷ (b ++ (32 ∷ (c ++ (10 ∷ X)))))
    three a b c =
        append_assoc ((((a ++ (32 ∷ [])) ++ b) ++ (32 ∷ [])) ++ c) (10 ∷ []) X
        ∙ append_assoc (((a ++ (32 ∷ [])) ++ b) ++ (32 ∷ [])) c (10 ∷ X)
        ∙ append_assoc ((a ++ (32 ∷ [])) ++ b) (32 ∷ []) (c ++ (10 ∷ X))
        ∙ append_assoc (a ++ (32 ∷ [])) b (32 ∷ (c ++ (10 ∷ X)))
        ∙ append_assoc a (32 ∷ []) (b ++ (32 ∷ (c ++ (10 ∷ X))))

drop_five : (a b c d e : ℕ) (X Y : List ℕ) → a ∷ b ∷ c ∷ d ∷ e ∷ X ≡ a ∷ b ∷ c ∷ d ∷ e ∷ Y → X ≡ Y
drop_five a b c d e X Y h = tail_same e e X Y (tail_same d d _ _ (tail_same c c _ _ (tail_same b b _ _ (tail_same a a _ _ h))))

-- The line of a firing names one place.
pub same_place : (p q : Pos) → HasNumbers p → HasNumbers q → (X Y : List ℕ) → fire_line p ++ X ≡ fire_line q ++ Y → (p ≡ q) × (X ≡ Y)
same_place p q m n X Y e =
    let left : fire_line p ++ X ≡ codes "fire " ++ (decimal m.x ++ (32 ∷ (decimal m.y ++ (32 ∷ (decimal m.z ++ (10 ∷ X)))))) = ap (λ r. fire_line r ++ X) m.is ∙ fire_text m.x m.y m.z X in
    let right : fire_line q ++ Y ≡ codes "fire " ++ (decimal n.x ++ (32 ∷ (decimal n.y ++ (32 ∷ (decimal n.z ++ (10 ∷ Y)))))) = ap (λ r. fire_line r ++ Y) n.is ∙ fire_text n.x n.y n.z Y in
    let all = drop_five _ _ _ _ _ (decimal m.x ++ (32 ∷ (decimal m.y ++ (32 ∷ (decimal m.z ++ (10 ∷ X)))))) (decimal n.x ++ (32 ∷ (decimal n.y ++ (32 ∷ (decimal n.z ++ (10 ∷ Y)))))) (sym left ∙ e ∙ right) in
    let a = cut 32 (decimal m.x) (decimal n.x) (decimal m.y ++ (32 ∷ (decimal m.z ++ (10 ∷ X)))) (decimal n.y ++ (32 ∷ (decimal n.z ++ (10 ∷ Y)))) (number_lacks 32 m.x refl m.small_x) (number_lacks 32 n.x refl n.small_x) all in
    let b = cut 32 (decimal m.y) (decimal n.y) (decimal m.z ++ (10 ∷ X)) (decimal n.z ++ (10 ∷ Y)) (number_lacks 32 m.y refl m.small_y) (number_lacks 32 n.y refl n.small_y) a.1 in
    let d = cut 10 (decimal m.z) (decimal n.z) X Y (number_lacks 10 m.z refl m.small_z) (number_lacks 10 n.z refl n.small_z) b.1 in
    let ex : m.x ≡ n.x = number_same m.x n.x m.small_x n.small_x a.0 in
    let ey : m.y ≡ n.y = number_same m.y n.y m.small_y n.small_y b.0 in
    let ez : m.z ≡ n.z = number_same m.z n.z m.small_z n.small_z d.0 in
    (m.is ∙ (λ i. record { x = pos (ex i); y = pos (ey i); z = pos (ez i) }) ∙ sym n.is, d.1)

-- the text doesn't begin as the line of a firing does
abbrev pub IsNoFire : List ℕ → Type 0
IsNoFire text = (X : List ℕ) → text ≢ 102 ∷ X

pub fire_begins : (p : Pos) (X : List ℕ) → (Y : List ℕ) × (fire_line p ++ X ≡ 102 ∷ Y)
unfolding fire_line
fire_begins p X = (_, refl)

-- What stands before text that is no firing begins with these firings, and goes on with the others.
pub fires_after : (ps qs : List Pos) → Each HasNumbers ps → Each HasNumbers qs → (rest B : List ℕ) → IsNoFire B → flat_map fire_line ps ++ rest ≡ flat_map fire_line qs ++ B →
    (more : List Pos) × (qs ≡ ps ++ more) × (rest ≡ flat_map fire_line more ++ B)
fires_after [] qs m n rest B other e = (qs, refl, e)
fires_after (p ∷ ps) [] m n rest B other e =
    let f = fire_begins p (flat_map fire_line ps ++ rest) in
    absurd (other f.0 (sym e ∙ append_assoc (fire_line p) (flat_map fire_line ps) rest ∙ f.1))
fires_after (p ∷ ps) (q ∷ qs) m n rest B other e =
    let s = same_place p q m.0 n.0 (flat_map fire_line ps ++ rest) (flat_map fire_line qs ++ B)
    (sym (append_assoc (fire_line p) (flat_map fire_line ps) rest) ∙ e ∙ append_assoc (fire_line q) (flat_map fire_line qs) B) in
    let r = fires_after ps qs m.1 n.1 rest B other s.1 in
    (r.0, ap₂ (λ one more. one ∷ more) (sym s.0) r.1, r.2)

pub same_fires : (ps qs : List Pos) → Each HasNumbers ps → Each HasNumbers qs → (A B : List ℕ) → IsNoFire A → IsNoFire B → flat_map fire_line ps ++ A ≡ flat_map fire_line qs ++ B → (ps ≡ qs) × (A ≡ B)
same_fires [] [] m n A B na nb e = (refl, e)
same_fires [] (q ∷ qs) m n A B na nb e =
    let f = fire_begins q (flat_map fire_line qs ++ B) in
    absurd (na f.0 (e ∙ append_assoc (fire_line q) (flat_map fire_line qs) B ∙ f.1))
same_fires (p ∷ ps) [] m n A B na nb e =
    let f = fire_begins p (flat_map fire_line ps ++ A) in
    absurd (nb f.0 (sym e ∙ append_assoc (fire_line p) (flat_map fire_line ps) A ∙ f.1))
same_fires (p ∷ ps) (q ∷ qs) m n A B na nb e =
    let s = same_place p q m.0 n.0 (flat_map fire_line ps ++ A) (flat_map fire_line qs ++ B)
    (sym (append_assoc (fire_line p) (flat_map fire_line ps) A) ∙ e ∙ append_assoc (fire_line q) (flat_map fire_line qs) B) in
    let r = same_fires ps qs m.1 n.1 A B na nb s.1 in
    (ap₂ (λ one more. one ∷ more) s.0 r.0, r.1)

digits_begin : (ds : List ℕ) → list_all is_ascii_digit ds ≡ true → 0 < length ds → (Z : List ℕ) → IsNoFire (ds ++ Z)
digits_begin [] h l Z X e = absurd (omega arith)
digits_begin (d ∷ ds) h l Z X e = (digits_lack 102 refl (d ∷ ds) h).0 (head_same d 102 (ds ++ Z) X e)

five : (a b c d e Z : List ℕ) → ((((a ++ b) ++ c) ++ d) ++ e) ++ Z ≡ a ++ (b ++ (c ++ (d ++ (e ++ Z))))
five a b c d e Z = append_assoc (((a ++ b) ++ c) ++ d) e Z ∙ append_assoc ((a ++ b) ++ c) d (e ++ Z) ∙ append_assoc (a ++ b) c (d ++ (e ++ Z)) ∙ append_assoc a b (c ++ (d ++ (e ++ Z)))

-- The line of a view doesn't.
pub view_no_fire : (time : ℕ) (cause : Cause) (view : List ℕ) (Z : List ℕ) → time < 2 ^ 64 → IsNoFire (view_line time cause view ++ Z)
unfolding view_line
view_no_fire time cause view Z early X e =
    let d = HasPlainDigits-decimal time early in
    let t = five (decimal time) (codes " ") (cause_text cause) (flat_map value_text view) (codes "\n") Z in
    digits_begin (decimal time) d.digits d.some _ X (sym t ∙ e)
