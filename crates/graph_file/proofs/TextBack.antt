-- The text that is written of a graph is JSON of its value.
use Rattle.std.proofs.Common.{◌≡◌, ℕ, suc, ◌<◌, ◌≤◌, ◌^◌, Bool, true, false, cond, ◌&&◌, ℤ, pos, negsuc, ◌≤ℤ◌, List, [], ◌∷◌, ◌++◌, map, Some, None, IsUtf8, decimal, option_map, option_and_then, refl, sym, ap, ap₂, ◌∙◌, arith, append_assoc, append-nil}
use Rattle.std.specs.Prelude.{codes, IfSome, ⊤}
use Rattle.std.proofs.lemmas.Int.{ints}
use Rattle.std.proofs.lemmas.Fmt.{IsAscii-decimal}
use Rattle.std.proofs.lemmas.Str.{IsUtf8-append, IsUtf8-nil, IsUtf8-from_ascii}
use Rattle.json.specs.Token.{Token, begin_object, end_object, begin_array, end_array, key, string as string_token, number as number_token, boolean as boolean_token, null as null_token, bad}
use Rattle.json.specs.Word.{ends_word, word}
use Rattle.json.specs.Lex.{Lexeme, token, comma, colon, string_token as token_of_string, lex, between, fresh, punctuate, tokens}
use Rattle.json.specs.Print.{escape, quoted, token_text, begins, ends, separator, print_from, print, IsPrintable, ArePrintable}
use Rattle.json.specs.Json as json
use Rattle.json.specs.Tree as tree
use Rattle.json.specs.Tree.{HasNumbers, json_tokens}
use Rattle.json.proofs.Printed.Decimals.{IsNumber-decimal}
use Rattle.json.proofs.Printed.Numbers.{lex-number, in_word-ended}
use Rattle.json.proofs.Printed.Strings.{content-escape, lex-escape}
use Rattle.json.proofs.Printed.Tokens.{tokens-print}
use Rattle.json.proofs.Printed.Trees.{value-json_tokens, ArePrintable-json_tokens}
use Rattle.json.proofs.Printed.Utf8.{IsUtf8-are_ascii, IsUtf8-quoted, IsUtf8-boolean}
use Rattle.serde_json.specs.Data.{Data, number, boolean, string, array, object, Members, no_members, member, put}
use Rattle.serde_json.specs.Read.{of_json, of_items, of_members, max_depth, read}
use Rattle.serde_json.specs.View.{items_of}
use Rattle.serde_json.specs.Written.{outline, items_outline, members_outline, compact_text, items_text, members_text, comma_if}
use Rattle.serde_json.proofs.Numbers.{number_of-decimal}
use Rattle.serde_json.proofs.Texts.{print-outline}
use Rattle.circuit.specs.declared.Pos.{Pos}
use Rattle.circuit.specs.Circuit.{Each}
use Rattle.graph.specs.declared.Kind.{Kind}
use Rattle.graph.specs.declared.Kind.TheVariants.{Lever, Button, Plate, Weighted, Torch, Repeater, Comparator, Lamp, Trapdoor, Note, Wire, Constant}
use Rattle.graph.specs.declared.Group.{Group}
use Rattle.graph.specs.declared.Group.TheVariants.{Back, Side}
use Rattle.graph.specs.declared.Link.{Link}
use Rattle.graph.specs.Graph.{Node}
use Rattle.graph.specs.GraphText.{kind_text}
use Rattle.graph_file.specs.FitsFile.{IsCoordinate, IsFilePlace}
use Rattle.graph_file.specs.Json.{count, list, place_data, with_detail, node_data, group_number, link_data, whole_data}

-- ---- a line feed at the end

ended : (ts : List Token) → ends_word (print_from true ts) ≡ true
unfolding print_from
ended [] = refl
ended (begin_object ∷ ts) = refl
ended (end_object ∷ ts) = refl
ended (begin_array ∷ ts) = refl
ended (end_array ∷ ts) = refl
ended (key s ∷ ts) = refl
ended (string_token s ∷ ts) = refl
ended (number_token s ∷ ts) = refl
ended (boolean_token b ∷ ts) = refl
ended (null_token ∷ ts) = refl
ended (bad ∷ ts) = refl

ended_later : (ts : List Token) → ends_word (print_from true ts ++ 10 ∷ []) ≡ true
unfolding print_from
ended_later [] = refl
ended_later (begin_object ∷ ts) = refl
ended_later (end_object ∷ ts) = refl
ended_later (begin_array ∷ ts) = refl
ended_later (end_array ∷ ts) = refl
ended_later (key s ∷ ts) = refl
ended_later (string_token s ∷ ts) = refl
ended_later (number_token s ∷ ts) = refl
ended_later (boolean_token b ∷ ts) = refl
ended_later (null_token ∷ ts) = refl
ended_later (bad ∷ ts) = refl

abbrev lexemes : Token → List Lexeme
lexemes begin_object = token begin_object ∷ []
lexemes end_object = token end_object ∷ []
lexemes begin_array = token begin_array ∷ []
lexemes end_array = token end_array ∷ []
lexemes (key s) = token (string_token s) ∷ colon ∷ []
lexemes (string_token s) = token (string_token s) ∷ []
lexemes (number_token s) = token (number_token s) ∷ []
lexemes (boolean_token b) = token (boolean_token b) ∷ []
lexemes null_token = token null_token ∷ []
lexemes bad = []

lex_quoted : (s r : List ℕ) → lex between (quoted s ++ r) ≡ token (string_token s) ∷ lex between r
unfolding lex
lex_quoted s r =
    let e = append_assoc (escape s) (34 ∷ []) r in
    ap (λ l. lex between (34 ∷ l)) e ∙ ap₂ (λ o l. token (token_of_string o) ∷ l) (content-escape s r) (lex-escape s r)

lex_token : (t : Token) (r : List ℕ) → IsPrintable t → (ends t ≡ true → ends_word r ≡ true) → lex between (token_text t ++ r) ≡ lexemes t ++ lex between r
unfolding lex word
lex_token begin_object r h e = refl
lex_token end_object r h e = refl
lex_token begin_array r h e = refl
lex_token end_array r h e = refl
lex_token (key s) r h e = ap (lex between) (append_assoc (quoted s) (58 ∷ []) r) ∙ lex_quoted s (58 ∷ r)
lex_token (string_token s) r h e = lex_quoted s r
lex_token (number_token s) r h e = lex-number s r h (e refl)
lex_token (boolean_token true) r h e = ap₂ (λ b l. token (cond b (boolean_token true) bad) ∷ l) (e refl) (in_word-ended r (e refl))
lex_token (boolean_token false) r h e = ap₂ (λ b l. token (cond b (boolean_token false) bad) ∷ l) (e refl) (in_word-ended r (e refl))
lex_token null_token r h e = ap₂ (λ b l. token (cond b null_token bad) ∷ l) (e refl) (in_word-ended r (e refl))
lex_token bad r h e = absurd h

lex_separator : (b : Bool) (r : List ℕ) → lex between (cond b (44 ∷ []) [] ++ r) ≡ cond b (comma ∷ []) [] ++ lex between r
unfolding lex
lex_separator true r = refl
lex_separator false r = refl

lex_end : (c : Bool) (ts : List Token) → ArePrintable ts → lex between (print_from c ts ++ 10 ∷ []) ≡ lex between (print_from c ts)
unfolding lex print_from ArePrintable
lex_end c [] h = refl
lex_end c (t ∷ ts) h =
    let rest = print_from (ends t) ts in
    let comma_or_none : List Lexeme = cond (c && begins t) (comma ∷ []) [] in
    ap (lex between) (append_assoc (separator c t) (token_text t ++ rest) (10 ∷ []) ∙ ap (λ (l : List ℕ). separator c t ++ l) (append_assoc (token_text t) rest (10 ∷ [])))
    ∙ lex_separator (c && begins t) (token_text t ++ (rest ++ 10 ∷ []))
    ∙ ap (λ (l : List Lexeme). comma_or_none ++ l)
    (lex_token t (rest ++ 10 ∷ []) h.0 (λ e. ap (λ b. ends_word (print_from b ts ++ 10 ∷ [])) e ∙ ended_later ts) ∙ ap (λ (l : List Lexeme). lexemes t ++ l) (lex_end (ends t) ts h.1)
    ∙ sym (lex_token t rest h.0 (λ e. ap (λ b. ends_word (print_from b ts)) e ∙ ended ts)))
    ∙ sym (lex_separator (c && begins t) (token_text t ++ rest))

tokens_end : (ts : List Token) → ArePrintable ts → tokens (print ts ++ 10 ∷ []) ≡ ts
tokens_end ts h = ap (punctuate fresh) (lex_end false ts h) ∙ tokens-print ts h

-- ---- values whose text is read back

-- The text of the value, of at most this depth, is read as the value.
pub record IsText (k : ℕ) (d : Data) : Type 0 where
  reads : of_json (outline d) ≡ Some d
  numbers : HasNumbers (outline d)
  shallow : tree.depth (outline d) ≤ k
  utf8 : IsUtf8 (compact_text d)

read_end : (d : Data) → IsText 127 d → read (compact_text d ++ 10 ∷ []) ≡ Some d
read_end d h =
    let same : tokens (compact_text d ++ 10 ∷ []) ≡ json_tokens (outline d) ++ [] =
    ap (λ (s : List ℕ). tokens (s ++ 10 ∷ [])) (sym (print-outline d)) ∙ tokens_end (json_tokens (outline d)) (ArePrintable-json_tokens (outline d) h.numbers) ∙ sym (append-nil (json_tokens (outline d))) in
    ap (λ (ts : List Token). option_and_then of_json (option_and_then (λ p. json.if_last p.0 p.1) (json.value max_depth ts))) same
    ∙ ap (λ o. option_and_then of_json (option_and_then (λ p. json.if_last p.0 p.1) o)) (value-json_tokens (outline d) max_depth [] h.shallow) ∙ h.reads

deeper : (j k : ℕ) (d : Data) → j ≤ k → IsText j d → IsText k d
deeper j k d h t = record { reads = t.reads; numbers = t.numbers; shallow = omega (arith, t.shallow); utf8 = t.utf8 }

count_text : (n : ℕ) → n < 2 ^ 64 → IsText 0 (count n)
count_text n h = record { reads = ap (option_map number) (number_of-decimal n h); numbers = IsNumber-decimal n h; shallow = omega arith; utf8 = IsUtf8-from_ascii (decimal n) (IsAscii-decimal n h) }

boolean_text : (b : Bool) → IsText 0 (boolean b)
boolean_text b = record { reads = refl; numbers = tt; shallow = omega arith; utf8 = IsUtf8-boolean b }

string_text : (s : List ℕ) → IsUtf8 s → IsText 0 (string s)
string_text s h = record { reads = refl; numbers = tt; shallow = omega arith; utf8 = IsUtf8-quoted s h }

comma_utf8 : (b : Bool) → IsUtf8 (comma_if b)
comma_utf8 true = IsUtf8-are_ascii (44 ∷ []) refl
comma_utf8 false = IsUtf8-nil

items_read : (k : ℕ) (ds : List Data) → Each (IsText k) ds → of_items (items_outline (items_of ds)) ≡ Some (items_of ds)
items_read k [] e = refl
items_read k (d ∷ ds) e = rw (e.0.reads, items_read k ds e.1) refl

items_numbers : (k : ℕ) (ds : List Data) → Each (IsText k) ds → tree.ItemsHaveNumbers (items_outline (items_of ds))
items_numbers k [] e = tt
items_numbers k (d ∷ ds) e = (e.0.numbers, items_numbers k ds e.1)

items_shallow : (k : ℕ) (ds : List Data) → Each (IsText k) ds → tree.items_depth (items_outline (items_of ds)) ≤ k
items_shallow k [] e = omega arith
items_shallow k (d ∷ ds) e = omega (arith, e.0.shallow, items_shallow k ds e.1)

items_utf8 : (k : ℕ) (later : Bool) (ds : List Data) → Each (IsText k) ds → IsUtf8 (items_text later (items_of ds))
items_utf8 k later [] e = IsUtf8-are_ascii (93 ∷ []) refl
items_utf8 k later (d ∷ ds) e = IsUtf8-append (comma_if later) (compact_text d ++ items_text true (items_of ds)) (comma_utf8 later) (IsUtf8-append (compact_text d) (items_text true (items_of ds)) e.0.utf8 (items_utf8 k true ds e.1))

list_text : (k : ℕ) (ds : List Data) → Each (IsText k) ds → IsText (suc k) (list ds)
list_text k ds e = record {
  reads = ap (option_map array) (items_read k ds e);
  numbers = items_numbers k ds e;
  shallow = omega (arith, items_shallow k ds e);
  utf8 = IsUtf8-append (91 ∷ []) (items_text false (items_of ds)) (IsUtf8-are_ascii (91 ∷ []) refl) (items_utf8 k false ds e);
}

abbrev MembersText : ℕ → Members → Type 0
MembersText k no_members = ⊤
MembersText k (member name d ms) = IsUtf8 name × (IsText k d × MembersText k ms)

-- the members put in one after another
abbrev puts : Members → Members → Members
puts found no_members = found
puts found (member name d ms) = puts (put name d found) ms

members_read : (k : ℕ) (ms found : Members) → MembersText k ms → of_members (members_outline ms) found ≡ Some (puts found ms)
members_read k no_members found e = refl
members_read k (member name d ms) found e = ap (option_and_then (λ (x : Data). of_members (members_outline ms) (put name x found))) e.1.0.reads ∙ members_read k ms (put name d found) e.1.1

members_numbers : (k : ℕ) (ms : Members) → MembersText k ms → tree.MembersHaveNumbers (members_outline ms)
members_numbers k no_members e = tt
members_numbers k (member name d ms) e = (e.1.0.numbers, members_numbers k ms e.1.1)

members_shallow : (k : ℕ) (ms : Members) → MembersText k ms → tree.members_depth (members_outline ms) ≤ k
members_shallow k no_members e = omega arith
members_shallow k (member name d ms) e = omega (arith, e.1.0.shallow, members_shallow k ms e.1.1)

members_utf8 : (k : ℕ) (later : Bool) (ms : Members) → MembersText k ms → IsUtf8 (members_text later ms)
members_utf8 k later no_members e = IsUtf8-are_ascii (125 ∷ []) refl
members_utf8 k later (member name d ms) e =
    IsUtf8-append (comma_if later) (quoted name ++ 58 ∷ (compact_text d ++ members_text true ms)) (comma_utf8 later)
    (IsUtf8-append (quoted name) (58 ∷ (compact_text d ++ members_text true ms)) (IsUtf8-quoted name e.0)
    (IsUtf8-append (58 ∷ []) (compact_text d ++ members_text true ms) (IsUtf8-are_ascii (58 ∷ []) refl)
    (IsUtf8-append (compact_text d) (members_text true ms) e.1.0.utf8 (members_utf8 k true ms e.1.1))))

object_text : (k : ℕ) (ms : Members) → puts no_members ms ≡ ms → MembersText k ms → IsText (suc k) (object ms)
object_text k ms same e = record {
  reads = ap (option_map object) (members_read k ms no_members e ∙ ap (λ (m : Members). Some m) same);
  numbers = members_numbers k ms e;
  shallow = omega (arith, members_shallow k ms e);
  utf8 = IsUtf8-append (123 ∷ []) (members_text false ms) (IsUtf8-are_ascii (123 ∷ []) refl) (members_utf8 k false ms e);
}

-- ---- graphs

place_text : (p : Pos) → IsFilePlace p → IsText 1 (place_data p)
place_text p inside = by_numbers p.x p.y p.z inside.0 inside.1.0 inside.1.1
  where
    small : (n : ℕ) → pos n ≤ℤ pos 65535 → IsText 0 (count n)
    small n h = count_text n (omega (arith, ints))

    by_numbers : (x y z : ℤ) → IsCoordinate x → IsCoordinate y → IsCoordinate z → IsText 1 (place_data (record { x = x; y = y; z = z }))
    by_numbers (pos x) (pos y) (pos z) a b c = list_text 0 (count x ∷ count y ∷ count z ∷ []) (small x a.1, (small y b.1, (small z c.1, tt)))
    by_numbers (negsuc x) y z a b c = absurd (let h = a.0 in omega (arith, ints))
    by_numbers (pos x) (negsuc y) z a b c = absurd (let h = b.0 in omega (arith, ints))
    by_numbers (pos x) (pos y) (negsuc z) a b c = absurd (let h = c.0 in omega (arith, ints))

places_text : (ps : List Pos) → Each IsFilePlace ps → Each (IsText 1) (map place_data ps)
places_text [] e = tt
places_text (p ∷ ps) e = (place_text p e.0, places_text ps e.1)

kind_utf8 : (kind : Kind) → IsUtf8 (kind_text kind)
kind_utf8 Lever = IsUtf8-are_ascii (codes "lever") refl
kind_utf8 (Button delay) = IsUtf8-are_ascii (codes "button") refl
kind_utf8 Plate = IsUtf8-are_ascii (codes "plate") refl
kind_utf8 Weighted = IsUtf8-are_ascii (codes "weighted") refl
kind_utf8 Torch = IsUtf8-are_ascii (codes "torch") refl
kind_utf8 (Repeater delay) = IsUtf8-are_ascii (codes "repeater") refl
kind_utf8 (Comparator subtract direct far) = IsUtf8-are_ascii (codes "comparator") refl
kind_utf8 Lamp = IsUtf8-are_ascii (codes "lamp") refl
kind_utf8 Trapdoor = IsUtf8-are_ascii (codes "trapdoor") refl
kind_utf8 Note = IsUtf8-are_ascii (codes "note") refl
kind_utf8 Wire = IsUtf8-are_ascii (codes "wire") refl
kind_utf8 Constant = IsUtf8-are_ascii (codes "constant") refl

abbrev pub IsSmallKind : Kind → Type 0
IsSmallKind (Button delay) = delay < 2 ^ 64
IsSmallKind (Repeater delay) = delay < 2 ^ 64
IsSmallKind (Comparator subtract direct far) = IfSome direct (λ n. n < 2 ^ 64) × IfSome far (λ n. n < 2 ^ 64)
IsSmallKind _ = ⊤

-- what goes into a node's object, with each value's text
abbrev members_of : Kind → Kind → Data → Data → ℕ → ℕ → ℕ → Bool → Members
members_of kind named at also state due priority first =
    with_detail kind (put (codes "also") also (put (codes "at") at (put (codes "due") (count due) (put (codes "first") (boolean first) (put (codes "kind") (string (kind_text named)) (put (codes "priority") (count priority) (put (codes "state") (count state) no_members)))))))

object_of : (kind named : Kind) (at also : Data) (state due priority : ℕ) (first : Bool) → IsSmallKind kind → IsText 2 at → IsText 2 also → state < 2 ^ 64 → due < 2 ^ 64 → priority < 2 ^ 64 →
    IsText 3 (object (members_of kind named at also state due priority first))
object_of kind named at also state due priority first small at_text also_text state_small due_small priority_small = by_kind kind small
  where
    own : (n : ℕ) → n < 2 ^ 64 → IsText 2 (count n)
    own n h = deeper 0 2 (count n) (omega arith) (count_text n h)

    flag : (b : Bool) → IsText 2 (boolean b)
    flag b = deeper 0 2 (boolean b) (omega arith) (boolean_text b)

    tail : Members
    tail = member (codes "first") (boolean first) (member (codes "kind") (string (kind_text named)) (member (codes "priority") (count priority) (member (codes "state") (count state) no_members)))

    tail_by : Bool → Members
    tail_by b = member (codes "first") (boolean first) (member (codes "kind") (string (kind_text named)) (member (codes "priority") (count priority) (member (codes "state") (count state) (member (codes "subtract") (boolean b) no_members))))

    due_and : Members → Members
    due_and ms = member (codes "due") (count due) ms

    number_and : List ℕ → ℕ → Members → Members
    number_and name n ms = member name (count n) ms

    tail_text : MembersText 2 tail
    tail_text = (
      IsUtf8-are_ascii (codes "first") refl,
      (
        flag first,
        (
          IsUtf8-are_ascii (codes "kind") refl,
          (
            deeper 0 2 (string (kind_text named)) (omega arith) (string_text (kind_text named) (kind_utf8 named)),
            (IsUtf8-are_ascii (codes "priority") refl, (own priority priority_small, (IsUtf8-are_ascii (codes "state") refl, (own state state_small, tt)))),
          ),
        ),
      ),
    )

    tail_by_text : (b : Bool) → MembersText 2 (tail_by b)
    tail_by_text b = (
      IsUtf8-are_ascii (codes "first") refl,
      (
        flag first,
        (
          IsUtf8-are_ascii (codes "kind") refl,
          (
            deeper 0 2 (string (kind_text named)) (omega arith) (string_text (kind_text named) (kind_utf8 named)),
            (
              IsUtf8-are_ascii (codes "priority") refl,
              (own priority priority_small, (IsUtf8-are_ascii (codes "state") refl, (own state state_small, (IsUtf8-are_ascii (codes "subtract") refl, (flag b, tt))))),
            ),
          ),
        ),
      ),
    )

    due_text : (ms : Members) → MembersText 2 ms → MembersText 2 (due_and ms)
    due_text ms e = (IsUtf8-are_ascii (codes "due") refl, (own due due_small, e))

    number_text : (name : List ℕ) (n : ℕ) (ms : Members) → IsUtf8 name → n < 2 ^ 64 → MembersText 2 ms → MembersText 2 (number_and name n ms)
    number_text name n ms u h e = (u, (own n h, e))

    whole : (ms : Members) → puts no_members (member (codes "also") also (member (codes "at") at ms)) ≡ member (codes "also") also (member (codes "at") at ms) → MembersText 2 ms → IsText 3 (object (member (codes "also") also (member (codes "at") at ms)))
    whole ms same e = object_text 2 (member (codes "also") also (member (codes "at") at ms)) same (IsUtf8-are_ascii (codes "also") refl, (also_text, (IsUtf8-are_ascii (codes "at") refl, (at_text, e))))

    plain : IsText 3 (object (member (codes "also") also (member (codes "at") at (due_and tail))))
    plain = whole (due_and tail) refl (due_text tail tail_text)

    with_delay : (delay : ℕ) → delay < 2 ^ 64 → IsText 3 (object (member (codes "also") also (member (codes "at") at (number_and (codes "delay") delay (due_and tail)))))
    with_delay delay h = whole (number_and (codes "delay") delay (due_and tail)) refl (number_text (codes "delay") delay (due_and tail) (IsUtf8-are_ascii (codes "delay") refl) h (due_text tail tail_text))

    with_far : (b : Bool) (far : ℕ) → far < 2 ^ 64 → MembersText 2 (number_and (codes "far") far (tail_by b))
    with_far b far h = number_text (codes "far") far (tail_by b) (IsUtf8-are_ascii (codes "far") refl) h (tail_by_text b)

    by_kind : (k : Kind) → IsSmallKind k → IsText 3 (object (members_of k named at also state due priority first))
    by_kind (Button delay) h = with_delay delay h
    by_kind (Repeater delay) h = with_delay delay h
    by_kind (Comparator b None None) h = whole (due_and (tail_by b)) refl (due_text (tail_by b) (tail_by_text b))
    by_kind (Comparator b None (Some far)) h = whole (due_and (number_and (codes "far") far (tail_by b))) refl (due_text (number_and (codes "far") far (tail_by b)) (with_far b far h.1))
    by_kind (Comparator b (Some direct) None) h =
        whole (number_and (codes "direct") direct (due_and (tail_by b))) refl (number_text (codes "direct") direct (due_and (tail_by b)) (IsUtf8-are_ascii (codes "direct") refl) h.0 (due_text (tail_by b) (tail_by_text b)))
    by_kind (Comparator b (Some direct) (Some far)) h =
        whole (number_and (codes "direct") direct (due_and (number_and (codes "far") far (tail_by b)))) refl
        (number_text (codes "direct") direct (due_and (number_and (codes "far") far (tail_by b))) (IsUtf8-are_ascii (codes "direct") refl) h.0 (due_text (number_and (codes "far") far (tail_by b)) (with_far b far h.1)))
    by_kind Lever h = plain
    by_kind Plate h = plain
    by_kind Weighted h = plain
    by_kind Torch h = plain
    by_kind Lamp h = plain
    by_kind Trapdoor h = plain
    by_kind Note h = plain
    by_kind Wire h = plain
    by_kind Constant h = plain

-- a node whose numbers are all written in full
pub record IsTextNode (node : Node) : Type 0 where
  pub place : IsFilePlace node.pos
  pub also : Each IsFilePlace node.also
  pub kind : IsSmallKind node.kind
  pub state : node.state < 2 ^ 64
  pub due : node.due < 2 ^ 64
  pub priority : node.priority < 2 ^ 64

pub node_text : (node : Node) → IsTextNode node → IsText 3 (node_data node)
node_text node h =
    object_of node.kind node.kind (place_data node.pos) (list (map place_data node.also)) node.state node.due node.priority node.first h.kind
    (deeper 1 2 (place_data node.pos) (omega arith) (place_text node.pos h.place)) (list_text 1 (map place_data node.also) (places_text node.also h.also)) h.state h.due h.priority

abbrev pub IsTextLink : Link → Type 0
IsTextLink link = (link.from < 2 ^ 64) × (link.weight < 2 ^ 64)

pub link_text : (to : ℕ) (link : Link) → to < 2 ^ 64 → IsTextLink link → IsText 3 (link_data to link)
link_text to link below h =
    deeper 1 3 (link_data to link) (omega arith)
    (list_text 0 (count link.from ∷ count to ∷ count (group_number link.group) ∷ count link.weight ∷ []) (count_text link.from h.0, (count_text to below, (by_group link.group, (count_text link.weight h.1, tt)))))
  where
    by_group : (group : Group) → IsText 0 (count (group_number group))
    by_group Back = count_text 0 (omega arith)
    by_group Side = count_text 1 (omega arith)

pub whole_text : (links nodes : List Data) → Each (IsText 3) links → Each (IsText 3) nodes → IsText 5 (whole_data links nodes)
whole_text links nodes a b =
    object_text 4 (put (codes "links") (list links) (put (codes "nodes") (list nodes) (put (codes "redpile") (count 1) no_members))) refl (
      IsUtf8-are_ascii (codes "links") refl,
      (list_text 3 links a, (IsUtf8-are_ascii (codes "nodes") refl, (list_text 3 nodes b, (IsUtf8-are_ascii (codes "redpile") refl, (deeper 0 4 (count 1) (omega arith) (count_text 1 (omega arith)), tt))))),
    )

pub text_back : (links nodes : List Data) → IsText 5 (whole_data links nodes) → (read (compact_text (whole_data links nodes) ++ 10 ∷ []) ≡ Some (whole_data links nodes)) × IsUtf8 (compact_text (whole_data links nodes) ++ 10 ∷ [])
text_back links nodes h = (
  read_end (whole_data links nodes) (deeper 5 127 (whole_data links nodes) (omega arith) h),
  IsUtf8-append (compact_text (whole_data links nodes)) (10 ∷ []) h.utf8 (IsUtf8-are_ascii (10 ∷ []) refl),
)
