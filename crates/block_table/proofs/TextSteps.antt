-- A text that is put together of words is taken apart into them.
use Rattle.std.proofs.Common.{◌≡◌, ℕ, List, [], ◌∷◌, ◌++◌, map, Some, Bool, true, false, not, ◌&&◌, refl, sym, ap, ◌∙◌, arith, append_assoc, append-nil}
use Rattle.std.specs.Prelude.{◌==◌}
use Rattle.std.specs.List.{list_all}
use Rattle.std.proofs.lemmas.List.Folds.{list_all-append}
use Rattle.std.proofs.lemmas.Bool.Decides.{nat_tests}
use Rattle.block_table.specs.StateText.{Property, parts, all_some, property_of, pieces, properties_of, state_of}
use Rattle.block_table.specs.WrittenText.{after, bracketed}

abbrev pub avoids : ℕ → List ℕ → Bool
avoids byte text = list_all (λ b. not (b == byte)) text

-- none of the bytes that a state's text is cut at
abbrev pub is_plain : List ℕ → Bool
is_plain text = (avoids 91 text && avoids 93 text) && (avoids 44 text && avoids 61 text)

-- plain, and one or more bytes
abbrev pub is_word : List ℕ → Bool
is_word [] = false
is_word (b ∷ bs) = is_plain (b ∷ bs)

abbrev pub is_worded : Property → Bool
is_worded p = is_word p.key && is_word p.value

pub left_true : (a b : Bool) → (a && b) ≡ true → a ≡ true
left_true true b h = refl
left_true false b h = absurd (let k : false ≡ true = h in cc)

pub right_true : (a b : Bool) → (a && b) ≡ true → b ≡ true
right_true true b h = h
right_true false b h = absurd (let k : false ≡ true = h in cc)

pub record Plain (text : List ℕ) : Type 0 where
  pub no_open : avoids 91 text ≡ true
  pub no_close : avoids 93 text ≡ true
  pub no_comma : avoids 44 text ≡ true
  pub no_equal : avoids 61 text ≡ true

pub plain-is : (text : List ℕ) → is_plain text ≡ true → Plain text
plain-is text h =
    let first = left_true (avoids 91 text && avoids 93 text) (avoids 44 text && avoids 61 text) h in
    let second = right_true (avoids 91 text && avoids 93 text) (avoids 44 text && avoids 61 text) h in
    record {
      no_open = left_true (avoids 91 text) (avoids 93 text) first;
      no_close = right_true (avoids 91 text) (avoids 93 text) first;
      no_comma = left_true (avoids 44 text) (avoids 61 text) second;
      no_equal = right_true (avoids 44 text) (avoids 61 text) second;
    }

pub word-plain : (text : List ℕ) → is_word text ≡ true → is_plain text ≡ true
word-plain [] h = refl
word-plain (b ∷ bs) h = h

not_true : (a : Bool) → not a ≡ true → a ≡ false
not_true true h = absurd (let k : false ≡ true = h in cc)
not_true false h = refl

pub parts-word : (byte : ℕ) (text : List ℕ) → avoids byte text ≡ true → parts byte text ≡ text ∷ []
parts-word byte [] h = refl
parts-word byte (b ∷ bs) h =
    let other = not_true (b == byte) (left_true (not (b == byte)) (avoids byte bs) h) in
    rw (other, parts-word byte bs (right_true (not (b == byte)) (avoids byte bs) h)) refl

same_byte : (byte : ℕ) → (byte == byte) ≡ true
same_byte byte = grind (arith, nat_tests)

pub parts-joined : (byte : ℕ) (text rest : List ℕ) → avoids byte text ≡ true → parts byte (text ++ (byte ∷ rest)) ≡ text ∷ parts byte rest
parts-joined byte [] rest h = rw (same_byte byte) refl
parts-joined byte (b ∷ bs) rest h =
    let other = not_true (b == byte) (left_true (not (b == byte)) (avoids byte bs) h) in
    rw (other, parts-joined byte bs rest (right_true (not (b == byte)) (avoids byte bs) h)) refl

-- `key=value`
abbrev text_of : Property → List ℕ
text_of p = p.key ++ (61 ∷ p.value)

-- properties joined by commas
abbrev body : Property → List Property → List ℕ
body p [] = text_of p
body p (q ∷ qs) = text_of p ++ (44 ∷ body q qs)

bracketed_body : (p : Property) (ps : List Property) → p.key ++ (61 ∷ (p.value ++ after ps)) ≡ body p ps ++ (93 ∷ [])
bracketed_body p [] = sym (append_assoc p.key (61 ∷ p.value) (93 ∷ []))
bracketed_body p (q ∷ qs) =
    ap (λ more. p.key ++ (61 ∷ (p.value ++ (44 ∷ more)))) (bracketed_body q qs)
    ∙ sym (append_assoc p.key (61 ∷ p.value) (44 ∷ (body q qs ++ (93 ∷ []))))
    ∙ sym (append_assoc (text_of p) (44 ∷ body q qs) (93 ∷ []))

property_back : (key value : List ℕ) → is_word key ≡ true → is_word value ≡ true → property_of (key ++ (61 ∷ value)) ≡ Some (record { key = key; value = value })
property_back [] value h k = absurd (let f : false ≡ true = h in cc)
property_back (b ∷ bs) [] h k = absurd (let f : false ≡ true = k in cc)
property_back (b ∷ bs) (d ∷ ds) h k =
    rw (parts-joined 61 (b ∷ bs) (d ∷ ds) (plain-is (b ∷ bs) h).no_equal, parts-word 61 (d ∷ ds) (plain-is (d ∷ ds) k).no_equal) refl

key_word : (p : Property) → is_worded p ≡ true → is_word p.key ≡ true
key_word p h = left_true (is_word p.key) (is_word p.value) h

value_word : (p : Property) → is_worded p ≡ true → is_word p.value ≡ true
value_word p h = right_true (is_word p.key) (is_word p.value) h

joined_avoid : (byte mark : ℕ) (a b : List ℕ) → not (mark == byte) ≡ true → avoids byte a ≡ true → avoids byte b ≡ true → avoids byte (a ++ (mark ∷ b)) ≡ true
joined_avoid byte mark a b m h k = rw (list_all-append (λ b. not (b == byte)) a (mark ∷ b), h, m, k) refl

key_plain : (p : Property) → is_worded p ≡ true → Plain p.key
key_plain p h = plain-is p.key (word-plain p.key (key_word p h))

value_plain : (p : Property) → is_worded p ≡ true → Plain p.value
value_plain p h = plain-is p.value (word-plain p.value (value_word p h))

text_no_comma : (p : Property) → is_worded p ≡ true → avoids 44 (text_of p) ≡ true
text_no_comma p h = joined_avoid 44 61 p.key p.value refl (key_plain p h).no_comma (value_plain p h).no_comma

text_no_open : (p : Property) → is_worded p ≡ true → avoids 91 (text_of p) ≡ true
text_no_open p h = joined_avoid 91 61 p.key p.value refl (key_plain p h).no_open (value_plain p h).no_open

text_no_close : (p : Property) → is_worded p ≡ true → avoids 93 (text_of p) ≡ true
text_no_close p h = joined_avoid 93 61 p.key p.value refl (key_plain p h).no_close (value_plain p h).no_close

first_worded : (p : Property) (ps : List Property) → list_all is_worded (p ∷ ps) ≡ true → is_worded p ≡ true
first_worded p ps h = left_true (is_worded p) (list_all is_worded ps) h

rest_worded : (p : Property) (ps : List Property) → list_all is_worded (p ∷ ps) ≡ true → list_all is_worded ps ≡ true
rest_worded p ps h = right_true (is_worded p) (list_all is_worded ps) h

body_no_open : (p : Property) (ps : List Property) → list_all is_worded (p ∷ ps) ≡ true → avoids 91 (body p ps) ≡ true
body_no_open p [] h = text_no_open p (first_worded p [] h)
body_no_open p (q ∷ qs) h = joined_avoid 91 44 (text_of p) (body q qs) refl (text_no_open p (first_worded p (q ∷ qs) h)) (body_no_open q qs (rest_worded p (q ∷ qs) h))

body_no_close : (p : Property) (ps : List Property) → list_all is_worded (p ∷ ps) ≡ true → avoids 93 (body p ps) ≡ true
body_no_close p [] h = text_no_close p (first_worded p [] h)
body_no_close p (q ∷ qs) h = joined_avoid 93 44 (text_of p) (body q qs) refl (text_no_close p (first_worded p (q ∷ qs) h)) (body_no_close q qs (rest_worded p (q ∷ qs) h))

one_back : (p : Property) → is_worded p ≡ true → property_of (text_of p) ≡ Some p
one_back p h = property_back p.key p.value (key_word p h) (value_word p h)

body_back : (p : Property) (ps : List Property) → list_all is_worded (p ∷ ps) ≡ true → all_some (map property_of (parts 44 (body p ps))) ≡ Some (p ∷ ps)
body_back p [] h =
    ap (λ ts. all_some (map property_of ts)) (parts-word 44 (text_of p) (text_no_comma p (first_worded p [] h)))
    ∙ ap (λ o. all_some (o ∷ [])) (one_back p (first_worded p [] h))
body_back p (q ∷ qs) h =
    ap (λ ts. all_some (map property_of ts)) (parts-joined 44 (text_of p) (body q qs) (text_no_comma p (first_worded p (q ∷ qs) h)))
    ∙ ap (λ o. all_some (o ∷ map property_of (parts 44 (body q qs)))) (one_back p (first_worded p (q ∷ qs) h))
    ∙ rw (body_back q qs (rest_worded p (q ∷ qs) h)) refl

pieces_body : (key value : List ℕ) (ps : List Property) → is_word key ≡ true → pieces (body (record { key = key; value = value }) ps) ≡ parts 44 (body (record { key = key; value = value }) ps)
pieces_body [] value ps h = absurd (let k : false ≡ true = h in cc)
pieces_body (b ∷ bs) value [] h = refl
pieces_body (b ∷ bs) value (q ∷ qs) h = refl

properties_back : (p : Property) (ps : List Property) → list_all is_worded (p ∷ ps) ≡ true → properties_of (body p ps) ≡ Some (p ∷ ps)
properties_back p ps h =
    ap (λ ts. all_some (map property_of ts)) (pieces_body p.key p.value ps (key_word p (first_worded p ps h)))
    ∙ body_back p ps h

bracketed_back : (name : List ℕ) (p : Property) (ps : List Property) → is_plain name ≡ true → list_all is_worded (p ∷ ps) ≡ true →
    state_of (name ++ (91 ∷ (body p ps ++ (93 ∷ [])))) ≡ Some (record { name = name; properties = p ∷ ps })
bracketed_back name p ps n h =
    let open_ = parts-joined 91 name (body p ps ++ (93 ∷ [])) (plain-is name n).no_open in
    let once = parts-word 91 (body p ps ++ (93 ∷ [])) (joined_avoid 91 93 (body p ps) [] refl (body_no_open p ps h) refl) in
    let close = parts-joined 93 (body p ps) [] (body_no_close p ps h) in
    rw (open_, once, close, properties_back p ps h) refl

-- a name and its properties are read back
pub state-back : (name : List ℕ) (ps : List Property) → is_plain name ≡ true → list_all is_worded ps ≡ true → state_of (name ++ bracketed ps) ≡ Some (record { name = name; properties = ps })
state-back name [] n h = rw (append-nil name, parts-word 91 name (plain-is name n).no_open) refl
state-back name (p ∷ ps) n h = ap (λ text. state_of (name ++ (91 ∷ text))) (bracketed_body p ps) ∙ bracketed_back name p ps n h
