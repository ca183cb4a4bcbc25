-- What the lines read so far, and those that are left, say of the whole text.
use Rattle.std.proofs.Common.{◌≡◌, ℕ, ◌+◌, ◌-◌, ◌<◌, ◌≤◌, Bool, true, List, [], ◌∷◌, ◌++◌, length, take, Some, None, refl, sym, ◌∙◌, ap, subst, arith, append_assoc, length-append, map, get_or, add-zero, below_more}
use Rattle.std.specs.Prelude.{Result, Ok, Err, fold}
use Rattle.std.specs.List.{filter_map}
use Rattle.std.specs.Str.Lines.{lines}
use Rattle.std.proofs.lemmas.Bool.{le-leb, lt-leb}
use Rattle.std.proofs.lemmas.List.{append-nil, get_or-append-add}
use Rattle.std.proofs.Math.Seq.{take-append-add}
use Rattle.std.proofs.lemmas.List.Elements.{filter_map-append}
use Rattle.std.proofs.lemmas.List.Sums.{fold-append, sum_by-append}
use Rattle.circuit.specs.declared.Act.{Act}
use Rattle.circuit.specs.declared.Click.{Click}
use Rattle.circuit.specs.declared.Pos.{Pos}
use Rattle.rp_text.specs.Words.{words}
use Rattle.build.specs.Marks.{with_mark}
use Rattle.script.specs.declared.ScriptKind.{ScriptKind}
use Rattle.script.specs.declared.ScriptKind.TheVariants.{TooManyTicks}
use Rattle.script.specs.declared.ScriptRefusal.{ScriptRefusal}
use Rattle.script.specs.declared.ScriptRefusal.TheVariants.{Line}
use Rattle.script.specs.declared.lines.Said.{Said}
use Rattle.script.specs.declared.lines.Said.TheVariants.{Nothing, Mark, Act as Acts}
use Rattle.script.specs.Acts.{Meaning, no_script, with_act, with_marked, ticks_of, ticks_in, weight_fits}
use Rattle.script.specs.Fit.{IsFit}
use Rattle.script.specs.LineSaid.{line_said}
use Rattle.script.specs.Scripts.{lines_said, act_in, mark_in, acts_in, marks_in, kind_with, kind_at, meaning_of}
use Rattle.script.proofs.FitLines.{SaidFits, line-fits, EachClickTaken-more, all_wires-with_mark, weight_fits-act}
use Rattle.script.proofs.FirstBad.{meaning_of-good, meaning_of-bad}

-- The lines up to `rest` are good: they say this script, and there are so many of them, with so many ticks.
pub record HasRead (takes : Pos → Click → Bool) (wire : Pos → Bool) (text rest : List ℕ) (line ticks : ℕ) (script : Meaning) : Type 0 where
  pub before : List (Result Said ScriptKind)
  pub all : lines_said takes wire text ≡ before ++ lines_said takes wire rest
  pub counted : line ≡ length before
  pub acts : script.acts ≡ acts_in before
  pub marks : script.marks ≡ marks_in before
  pub ticked : ticks ≡ ticks_in script.acts
  pub within : ticks ≤ 100000
  pub few_acts : length script.acts ≤ line
  pub few_lines : line + length rest ≤ length text
  pub good : (k : ℕ) → k < line → kind_at (lines_said takes wire text) k ≡ None
  pub fit : IsFit takes wire script

-- the line that comes next says this
pub record HasLine (takes : Pos → Click → Bool) (wire : Pos → Bool) (rest line others : List ℕ) (said : Result Said ScriptKind) : Type 0 where
  pub split : lines rest ≡ line ∷ lines others
  pub shorter : length others < length rest
  pub says : said ≡ line_said takes wire (words line)

lines_said-line : (takes : Pos → Click → Bool) (wire : Pos → Bool) (rest line others : List ℕ) (said : Result Said ScriptKind) → HasLine takes wire rest line others said →
    lines_said takes wire rest ≡ said ∷ lines_said takes wire others
unfolding lines_said
lines_said-line takes wire rest line others said h =
    ap (map (λ (bytes : List ℕ). line_said takes wire (words bytes))) h.split
    ∙ ap (λ (first : Result Said ScriptKind). first ∷ map (λ (bytes : List ℕ). line_said takes wire (words bytes)) (lines others)) (sym h.says)

SaidFits-line : (takes : Pos → Click → Bool) (wire : Pos → Bool) (rest line others : List ℕ) (said : Result Said ScriptKind) → HasLine takes wire rest line others said → SaidFits takes wire said
SaidFits-line takes wire rest line others said h = subst (λ (one : Result Said ScriptKind). SaidFits takes wire one) (sym h.says) (line-fits takes wire (words line))

acts_in-append : (xs ys : List (Result Said ScriptKind)) → acts_in (xs ++ ys) ≡ acts_in xs ++ acts_in ys
unfolding acts_in
acts_in-append xs ys = filter_map-append act_in xs ys

acts_in-act : (act : Act) → acts_in (Ok (Acts act) ∷ []) ≡ act ∷ []
unfolding acts_in
acts_in-act act = refl

acts_in-mark : (place : Pos) → acts_in (Ok (Mark place) ∷ []) ≡ []
unfolding acts_in
acts_in-mark place = refl

acts_in-nothing : acts_in (Ok Nothing ∷ []) ≡ []
unfolding acts_in
acts_in-nothing = refl

marks_in-append : (xs ys : List (Result Said ScriptKind)) → marks_in (xs ++ ys) ≡ fold (λ (marks : List Pos) (place : Pos). with_mark place marks) (marks_in xs) (filter_map mark_in ys)
unfolding marks_in
marks_in-append xs ys =
    ap (fold (λ (marks : List Pos) (place : Pos). with_mark place marks) []) (filter_map-append mark_in xs ys)
    ∙ fold-append (λ (marks : List Pos) (place : Pos). with_mark place marks) [] (filter_map mark_in xs) (filter_map mark_in ys)

-- what is wrong with the line that comes next
kind_at-line : (before : List (Result Said ScriptKind)) (said : Result Said ScriptKind) (later : List (Result Said ScriptKind)) →
    kind_at (before ++ said ∷ later) (length before) ≡ kind_with (acts_in (before ++ said ∷ [])) said
unfolding kind_at
kind_at-line before said later =
    let taken : take (length before + 1) (before ++ said ∷ later) ≡ before ++ said ∷ [] = take-append-add before (said ∷ later) 1 in
    let found : get_or (before ++ said ∷ later) (length before) (Ok Nothing) ≡ said =
    ap (λ (n : ℕ). get_or (before ++ said ∷ later) n (Ok Nothing)) (sym (add-zero (length before))) ∙ get_or-append-add before (said ∷ later) 0 (Ok Nothing) in
    rw (taken, found) refl

kind_at-next : (takes : Pos → Click → Bool) (wire : Pos → Bool) (text rest line others : List ℕ) (count ticks : ℕ) (script : Meaning) (said : Result Said ScriptKind)
    (r : HasRead takes wire text rest count ticks script) → HasLine takes wire rest line others said →
    kind_at (lines_said takes wire text) count ≡ kind_with (acts_in (r.before ++ said ∷ [])) said
kind_at-next takes wire text rest line others count ticks script said r h =
    ap (λ (all : List (Result Said ScriptKind)). kind_at all count) (r.all ∙ ap (λ (later : List (Result Said ScriptKind)). r.before ++ later) (lines_said-line takes wire rest line others said h))
    ∙ ap (kind_at (r.before ++ said ∷ lines_said takes wire others)) r.counted
    ∙ kind_at-line r.before said (lines_said takes wire others)

length-next : (takes : Pos → Click → Bool) (wire : Pos → Bool) (text rest line others : List ℕ) (count ticks : ℕ) (script : Meaning) (said : Result Said ScriptKind)
    (r : HasRead takes wire text rest count ticks script) → HasLine takes wire rest line others said → count < length (lines_said takes wire text)
length-next takes wire text rest line others count ticks script said r h =
    let all : lines_said takes wire text ≡ r.before ++ said ∷ lines_said takes wire others =
    r.all ∙ ap (λ (later : List (Result Said ScriptKind)). r.before ++ later) (lines_said-line takes wire rest line others said h) in
    omega (arith, r.counted, ap length all, length-append r.before (said ∷ lines_said takes wire others))

kind_with-few : (acts : List Act) (said : Said) → ticks_in acts ≤ 100000 → kind_with acts (Ok said) ≡ None
kind_with-few acts said h = rw (le-leb (ticks_in acts) 100000 h) refl

kind_with-many : (acts : List Act) (said : Said) → 100000 < ticks_in acts → kind_with acts (Ok said) ≡ Some TooManyTicks
kind_with-many acts said h = rw (lt-leb (ticks_in acts) 100000 h) refl

pub HasRead-begin : (takes : Pos → Click → Bool) (wire : Pos → Bool) (text : List ℕ) → HasRead takes wire text text 0 0 no_script
unfolding acts_in marks_in
HasRead-begin takes wire text = record {
  before = [];
  all = refl;
  counted = refl;
  acts = refl;
  marks = refl;
  ticked = refl;
  within = omega arith;
  few_acts = omega arith;
  few_lines = omega arith;
  good = λ k h. absurd (omega arith);
  fit = record { clicks = tt; marks = refl };
}

-- one good line more, after which this is the script
record HasNext (takes : Pos → Click → Bool) (wire : Pos → Bool) (before : List (Result Said ScriptKind)) (count : ℕ) (script : Meaning) (said : Said) (next : Meaning) (ticks : ℕ) : Type 0 where
  acts : next.acts ≡ acts_in (before ++ Ok said ∷ [])
  marks : next.marks ≡ marks_in (before ++ Ok said ∷ [])
  ticked : ticks ≡ ticks_in next.acts
  within : ticks ≤ 100000
  few_acts : length next.acts ≤ count + 1
  fit : IsFit takes wire next

HasRead-next : (takes : Pos → Click → Bool) (wire : Pos → Bool) (text rest line others : List ℕ) (count ticks : ℕ) (script : Meaning) (said : Said) (next : Meaning) (more : ℕ)
    (r : HasRead takes wire text rest count ticks script) → HasLine takes wire rest line others (Ok said) → HasNext takes wire r.before count script said next more →
    HasRead takes wire text others (count + 1) more next
HasRead-next takes wire text rest line others count ticks script said next more r h n =
    let kind : kind_at (lines_said takes wire text) count ≡ None =
    kind_at-next takes wire text rest line others count ticks script (Ok said) r h
    ∙ kind_with-few (acts_in (r.before ++ Ok said ∷ [])) said (omega (arith, n.within, n.ticked, ap ticks_in n.acts)) in
    let one : List (Result Said ScriptKind) = Ok said ∷ [] in
    record {
      before = r.before ++ Ok said ∷ [];
      all = r.all ∙ ap (λ (later : List (Result Said ScriptKind)). r.before ++ later) (lines_said-line takes wire rest line others (Ok said) h)
          ∙ sym (append_assoc r.before (Ok said ∷ []) (lines_said takes wire others));
      counted = omega (arith, r.counted, length-append r.before one);
      acts = n.acts;
      marks = n.marks;
      ticked = n.ticked;
      within = n.within;
      few_acts = n.few_acts;
      few_lines = omega (arith, r.few_lines, h.shorter);
      good = below_more (λ (k : ℕ). kind_at (lines_said takes wire text) k ≡ None) count r.good kind;
      fit = n.fit;
    }

pub HasRead-nothing : (takes : Pos → Click → Bool) (wire : Pos → Bool) (text rest line others : List ℕ) (count ticks : ℕ) (script : Meaning) →
    HasRead takes wire text rest count ticks script → HasLine takes wire rest line others (Ok Nothing) → HasRead takes wire text others (count + 1) ticks script
HasRead-nothing takes wire text rest line others count ticks script r h =
    HasRead-next takes wire text rest line others count ticks script Nothing script ticks r h (record {
      acts = r.acts ∙ sym (acts_in-append r.before (Ok Nothing ∷ []) ∙ ap (λ (acts : List Act). acts_in r.before ++ acts) acts_in-nothing ∙ append-nil (acts_in r.before));
      marks = r.marks ∙ sym (marks_in-append r.before (Ok Nothing ∷ []));
      ticked = r.ticked;
      within = r.within;
      few_acts = omega (arith, r.few_acts);
      fit = r.fit;
    })

pub HasRead-mark : (takes : Pos → Click → Bool) (wire : Pos → Bool) (text rest line others : List ℕ) (count ticks : ℕ) (script : Meaning) (place : Pos) →
    HasRead takes wire text rest count ticks script → HasLine takes wire rest line others (Ok (Mark place)) → HasRead takes wire text others (count + 1) ticks (with_marked script place)
HasRead-mark takes wire text rest line others count ticks script place r h =
    HasRead-next takes wire text rest line others count ticks script (Mark place) (with_marked script place) ticks r h (record {
      acts = r.acts ∙ sym (acts_in-append r.before (Ok (Mark place) ∷ []) ∙ ap (λ (acts : List Act). acts_in r.before ++ acts) (acts_in-mark place) ∙ append-nil (acts_in r.before));
      marks = ap (with_mark place) r.marks ∙ sym (marks_in-append r.before (Ok (Mark place) ∷ []));
      ticked = r.ticked;
      within = r.within;
      few_acts = omega (arith, r.few_acts);
      fit = record { clicks = r.fit.clicks; marks = all_wires-with_mark wire place script.marks (SaidFits-line takes wire rest line others (Ok (Mark place)) h) r.fit.marks };
    })

acts-more : (before : List (Result Said ScriptKind)) (acts : List Act) (act : Act) → acts ≡ acts_in before → acts ++ act ∷ [] ≡ acts_in (before ++ Ok (Acts act) ∷ [])
acts-more before acts act e =
    ap (λ (some : List Act). some ++ act ∷ []) e ∙ sym (acts_in-append before (Ok (Acts act) ∷ []) ∙ ap (λ (later : List Act). acts_in before ++ later) (acts_in-act act))

ticks_in-more : (acts : List Act) (act : Act) → ticks_in (acts ++ act ∷ []) ≡ ticks_in acts + ticks_of act
ticks_in-more acts act = omega (arith, sum_by-append ticks_of acts (act ∷ []))

pub HasRead-act : (takes : Pos → Click → Bool) (wire : Pos → Bool) (text rest line others : List ℕ) (count ticks : ℕ) (script : Meaning) (act : Act) →
    HasRead takes wire text rest count ticks script → HasLine takes wire rest line others (Ok (Acts act)) → ticks_of act ≤ 100000 - ticks →
    HasRead takes wire text others (count + 1) (ticks + ticks_of act) (with_act script act)
HasRead-act takes wire text rest line others count ticks script act r h small =
    HasRead-next takes wire text rest line others count ticks script (Acts act) (with_act script act) (ticks + ticks_of act) r h (record {
      acts = acts-more r.before script.acts act r.acts;
      marks = r.marks ∙ sym (marks_in-append r.before (Ok (Acts act) ∷ []));
      ticked = omega (arith, r.ticked, ticks_in-more script.acts act);
      within = omega (arith, r.within, small);
      few_acts = omega (arith, r.few_acts, length-append script.acts (act ∷ []));
      fit = record { clicks = EachClickTaken-more takes script.acts act r.fit.clicks (SaidFits-line takes wire rest line others (Ok (Acts act)) h); marks = r.fit.marks };
    })

-- an act of a line has a right weight
pub weight_fits-line : (takes : Pos → Click → Bool) (wire : Pos → Bool) (rest line others : List ℕ) (act : Act) → HasLine takes wire rest line others (Ok (Acts act)) → weight_fits act ≡ true
weight_fits-line takes wire rest line others act h = weight_fits-act takes act (SaidFits-line takes wire rest line others (Ok (Acts act)) h)

-- a bad line
pub script_of-bad : (takes : Pos → Click → Bool) (wire : Pos → Bool) (text rest line others : List ℕ) (count ticks : ℕ) (script : Meaning) (kind : ScriptKind) →
    HasRead takes wire text rest count ticks script → HasLine takes wire rest line others (Err kind) → meaning_of (lines_said takes wire text) ≡ Err (Line (count + 1) kind)
script_of-bad takes wire text rest line others count ticks script kind r h =
    meaning_of-bad (lines_said takes wire text) count kind
    (length-next takes wire text rest line others count ticks script (Err kind) r h)
    r.good
    (kind_at-next takes wire text rest line others count ticks script (Err kind) r h)

-- too many ticks
pub script_of-many : (takes : Pos → Click → Bool) (wire : Pos → Bool) (text rest line others : List ℕ) (count ticks : ℕ) (script : Meaning) (act : Act) →
    HasRead takes wire text rest count ticks script → HasLine takes wire rest line others (Ok (Acts act)) → 100000 - ticks < ticks_of act →
    meaning_of (lines_said takes wire text) ≡ Err (Line (count + 1) TooManyTicks)
script_of-many takes wire text rest line others count ticks script act r h much =
    let acts = acts-more r.before script.acts act r.acts in
    meaning_of-bad (lines_said takes wire text) count TooManyTicks
    (length-next takes wire text rest line others count ticks script (Ok (Acts act)) r h)
    r.good
    (kind_at-next takes wire text rest line others count ticks script (Ok (Acts act)) r h
    ∙ kind_with-many (acts_in (r.before ++ Ok (Acts act) ∷ [])) (Acts act) (omega (arith, r.ticked, r.within, much, ticks_in-more script.acts act, ap ticks_in acts)))

lines_said-none : (takes : Pos → Click → Bool) (wire : Pos → Bool) (rest : List ℕ) → lines rest ≡ [] → lines_said takes wire rest ≡ []
unfolding lines_said
lines_said-none takes wire rest e = ap (map (λ (bytes : List ℕ). line_said takes wire (words bytes))) e

-- all lines are read
pub script_of-end : (takes : Pos → Click → Bool) (wire : Pos → Bool) (text rest : List ℕ) (count ticks : ℕ) (script : Meaning) →
    HasRead takes wire text rest count ticks script → lines rest ≡ [] → meaning_of (lines_said takes wire text) ≡ Ok script
script_of-end takes wire text rest count ticks script r e =
    let all : lines_said takes wire text ≡ r.before =
    r.all ∙ ap (λ (later : List (Result Said ScriptKind)). r.before ++ later) (lines_said-none takes wire rest e) ∙ append-nil r.before in
    let good : Meaning → Result Meaning ScriptRefusal = λ meaning. Ok meaning in
    meaning_of-good (lines_said takes wire text) count (omega (arith, r.counted, ap length all)) r.good
    ∙ ap (λ (said : List (Result Said ScriptKind)). good (record { marks = marks_in said; acts = acts_in said })) all
    ∙ ap good (λ i. record { marks = sym r.marks i; acts = sym r.acts i })
