-- A text that is a script by two tests has one meaning: the tests refuse lines, and say nothing else of them.
use Rattle.std.proofs.Common.{◌≡◌, ℕ, zero, suc, ◌+◌, ◌<◌, ◌≤◌, Bool, List, [], ◌∷◌, length, map, Option, Some, None, refl, sym, ap, ◌∙◌, subst, arith, inl, inr}
use Rattle.std.specs.Prelude.{nat_eq, codes, Result, Ok, Err, option_map, slice_index_or, take}
use Rattle.std.specs.List.{filter_map, cons_option, range_with_len, starts_with}
use Rattle.std.specs.Str.Lines.{lines}
use Rattle.std.proofs.lemmas.Bool.{cases_Bool, cases_order}
use Rattle.circuit.specs.declared.Act.{Act}
use Rattle.circuit.specs.declared.Click.{Click}
use Rattle.circuit.specs.declared.Click.TheVariants.{Use as UseIt, Press as PressIt, Leave as LeaveIt, Weigh as WeighIt}
use Rattle.circuit.specs.declared.Pos.{Pos}
use Rattle.circuit.specs.Shows.{Shows}
use Rattle.build.specs.Plan.{Plan, IsWhole}
use Rattle.graph.specs.Graph.{Nodes}
use Rattle.graph.specs.GraphCircuit.{graph_circuit}
use Rattle.graph_file.specs.GraphFile.{IsGraphFile}
use Rattle.graph_file.specs.Json.{json_text}
use Rattle.graph_file.specs.Targets.{takes_click as node_takes_click, is_wire_at as is_wire_node_at}
use Rattle.power_rules.specs.World.{shows}
use Rattle.compiler.specs.declared.Keep.{Keep}
use Rattle.compiler.specs.Compiled.{Compiled}
use Rattle.compiled_files.proofs.CompiledFiles.{file_shows}
use Rattle.rp_text.specs.Words.{words}
use Rattle.script.specs.declared.ScriptKind.{ScriptKind}
use Rattle.script.specs.declared.ScriptRefusal.{ScriptRefusal}
use Rattle.script.specs.declared.ScriptRefusal.TheVariants.{Line}
use Rattle.script.specs.declared.lines.Said.{Said}
use Rattle.script.specs.declared.lines.Said.TheVariants.{Nothing}
use Rattle.script.specs.declared.lines.Verb.{Verb}
use Rattle.script.specs.declared.lines.Verb.TheVariants.{Mark, Use, Press, Leave, Tick}
use Rattle.script.specs.declared.lines.Coordinates.{Coordinates}
use Rattle.script.specs.declared.lines.Arguments.{Arguments}
use Rattle.script.specs.declared.lines.Arguments.TheVariants.{Number, Place, PlaceAndNumber}
use Rattle.script.specs.Acts.{Meaning, is_weight}
use Rattle.script.specs.Clickable.{takes_click, is_wire_at}
use Rattle.script.specs.LineSaid.{place_of, marked, mark_said, clicked, click_said, weigh_said, ticks_said, act_said, verb_of, verb_said, arguments_of, line_said}
use Rattle.script.specs.Scripts.{lines_said, acts_in, marks_in, kind_with, kind_at, bad_lines, first_or, meaning_of, script_of}

-- where both say something they say the same
abbrev Alike : Result Said ScriptKind → Result Said ScriptKind → Type 0
Alike (Ok one) (Ok other) = one ≡ other
Alike _ _ = Unit {0}

module _ (t u : Pos → Click → Bool) (v w : Pos → Bool) where
  marked-alike : (place : Option Pos) → Alike (marked v place) (marked w place)
  marked-alike None = tt
  marked-alike (Some place) = elim (cases_Bool (v place)) [
    | inl h ↦ elim (cases_Bool (w place)) [ inl k ↦ rw (h, k) refl | inr k ↦ rw (h, k) tt ]
    | inr h ↦ rw h tt
  ]

  mark-alike : (at : Option Coordinates) → Alike (mark_said v at) (mark_said w at)
  mark-alike None = tt
  mark-alike (Some at) = marked-alike (place_of at)

  clicked-alike : (click : Click) (place : Option Pos) → Alike (clicked t click place) (clicked u click place)
  clicked-alike click None = tt
  clicked-alike click (Some place) = elim (cases_Bool (t place click)) [
    | inl h ↦ elim (cases_Bool (u place click)) [ inl k ↦ rw (h, k) refl | inr k ↦ rw (h, k) tt ]
    | inr h ↦ rw h tt
  ]

  click-alike : (click : Click) (at : Option Coordinates) → Alike (click_said t click at) (click_said u click at)
  click-alike click None = tt
  click-alike click (Some at) = clicked-alike click (place_of at)

  weigh-alike : (at : Option Coordinates) (weight : Option ℕ) → Alike (weigh_said t at weight) (weigh_said u at weight)
  weigh-alike (Some at) (Some weight) = elim (cases_Bool (is_weight weight)) [
    | inl h ↦ rw h (clicked-alike (WeighIt weight) (place_of at))
    | inr h ↦ rw h tt
  ]
  weigh-alike (Some at) None = tt
  weigh-alike None (Some weight) = tt
  weigh-alike None None = tt

  ticks-alike : (n : Option ℕ) → Alike (ticks_said n) (ticks_said n)
  ticks-alike None = tt
  ticks-alike (Some n) = refl

  act-alike : (verb : Verb) (arguments : Arguments) → Alike (act_said t v verb arguments) (act_said u w verb arguments)
  act-alike Mark (Place at) = mark-alike at
  act-alike Use (Place at) = click-alike UseIt at
  act-alike Press (Place at) = click-alike PressIt at
  act-alike Press (PlaceAndNumber at weight) = weigh-alike at weight
  act-alike Leave (Place at) = click-alike LeaveIt at
  act-alike Tick (Number n) = ticks-alike n
  act-alike _ _ = tt

  verb-alike : (verb : Option Verb) (arguments : Arguments) → Alike (verb_said t v verb arguments) (verb_said u w verb arguments)
  verb-alike None arguments = tt
  verb-alike (Some verb) arguments = act-alike verb arguments

  line-alike : (line : List (List ℕ)) → Alike (line_said t v line) (line_said u w line)
  unfolding line_said
  line-alike [] = refl
  line-alike (first ∷ others) = elim (cases_Bool (starts_with nat_eq first (codes "#"))) [
    | inl h ↦ rw h refl
    | inr h ↦ rw h (verb-alike (verb_of first) (arguments_of others))
  ]

-- ---- all lines

nothing_first : {Y : Type 0} (entry : Option Y) (rest : List Y) → cons_option entry rest ≡ [] → (entry ≡ None) × (rest ≡ [])
nothing_first None rest e = (refl, e)
nothing_first (Some y) rest e = absurd (cc)

nothing_found : {Y : Type 0} (f : ℕ → Option Y) (a n : ℕ) → filter_map f (range_with_len a n) ≡ [] → (k : ℕ) → a ≤ k → k < a + n → f k ≡ None
nothing_found f a zero e k low high = absurd (omega (arith, low, high))
nothing_found f a (suc n) e k low high =
    let parts = nothing_first (f a) (filter_map f (range_with_len (a + 1) n)) e in
    elim (cases_order a k) [
      | inl same ↦ ap f (sym same) ∙ parts.0
      | inr o ↦ elim o [
        | inl l ↦ nothing_found f (a + 1) n parts.1 k (omega (arith, l)) (omega (arith, high))
        | inr g ↦ absurd (omega (arith, g, low))
      ]
    ]

-- each line says something
abbrev AllSaid : List (Result Said ScriptKind) → Type 0
AllSaid said = (k : ℕ) → k < length said → (one : Said) × (slice_index_or said k (Ok Nothing) ≡ Ok one)

none_bad : (bad : List ScriptRefusal) (script m : Meaning) → first_or bad script ≡ Ok m → bad ≡ []
none_bad [] script m e = refl
none_bad (one ∷ later) script m e = absurd (let clash : ◌≡◌ {A = Result Meaning ScriptRefusal} (Err one) (Ok m) = e in cc)

no_kind : (line : ℕ) (kind : Option ScriptKind) → option_map (Line line) kind ≡ None → kind ≡ None
no_kind line None e = refl
no_kind line (Some kind) e = absurd (cc)

says : (acts : List Act) (line : Result Said ScriptKind) → kind_with acts line ≡ None → (one : Said) × (line ≡ Ok one)
says acts (Ok one) e = (one, refl)
says acts (Err kind) e = absurd (cc)

all_said : (said : List (Result Said ScriptKind)) (m : Meaning) → meaning_of said ≡ Ok m → AllSaid said
unfolding meaning_of bad_lines kind_at
all_said said m e = λ k less. says (acts_in (take (k + 1) said)) (slice_index_or said k (Ok Nothing)) (no_kind (k + 1) (kind_at said k)
    (nothing_found (λ j. option_map (Line (j + 1)) (kind_at said j)) 0 (length said) (none_bad (bad_lines said) (record { marks = marks_in said; acts = acts_in said }) m e) k (omega arith) (omega (arith, less))))

same_line : (x y : Result Said ScriptKind) (one other : Said) → Alike x y → x ≡ Ok one → y ≡ Ok other → x ≡ y
same_line (Ok a) (Ok b) one other e p q = ap Ok e
same_line (Ok a) (Err kind) one other e p q = absurd (cc)
same_line (Err kind) y one other e p q = absurd (cc)

same_lines : (f g : List ℕ → Result Said ScriptKind) → ((line : List ℕ) → Alike (f line) (g line)) → (text : List (List ℕ)) → AllSaid (map f text) → AllSaid (map g text) → map f text ≡ map g text
same_lines f g alike [] p q = refl
same_lines f g alike (line ∷ text) p q =
    let a = p 0 (omega arith) in
    let b = q 0 (omega arith) in
    let first : f line ≡ g line = same_line (f line) (g line) a.0 b.0 (alike line) a.1 b.1 in
    let rest : map f text ≡ map g text = same_lines f g alike text (λ k less. p (suc k) (omega (arith, less))) (λ k less. q (suc k) (omega (arith, less))) in
    λ i. first i ∷ rest i

pub one_meaning : (t u : Pos → Click → Bool) (v w : Pos → Bool) (text : List ℕ) (m n : Meaning) → script_of t v text ≡ Ok m → script_of u w text ≡ Ok n → m ≡ n
unfolding lines_said
one_meaning t u v w text m n p q =
    let same : lines_said t v text ≡ lines_said u w text =
    same_lines (λ line. line_said t v (words line)) (λ line. line_said u w (words line)) (λ line. line-alike t u v w (words line)) (lines text) (all_said (lines_said t v text) m p) (all_said (lines_said u w text) n q) in
    let both : Ok m ≡ Ok n = sym p ∙ ap meaning_of same ∙ q in
    cc

pub played_shows : (b : Plan) → IsWhole b → (text : List ℕ) (script : Meaning) → script_of (takes_click b) (is_wire_at b) text ≡ Ok script →
    (keep : Keep) (g : Nodes) → Compiled b script.marks keep g → (file : Nodes) → IsGraphFile (json_text g) file →
    (played : Meaning) → script_of (node_takes_click file) (is_wire_node_at file) text ≡ Ok played →
    (views : List (List ℕ)) (events : ℕ) → Shows (graph_circuit file) played.acts views events → shows b script.marks script.acts views
played_shows b whole text script said keep g compiled file is played also views events shown =
    let same : played ≡ script = one_meaning (node_takes_click file) (takes_click b) (is_wire_node_at file) (is_wire_at b) text played script also said in
    file_shows b whole script.marks keep g compiled file is script.acts views events (subst (λ (m : Meaning). Shows (graph_circuit file) m.acts views events) same shown)
