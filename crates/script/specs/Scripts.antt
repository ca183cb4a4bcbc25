-- What the text of a script means: its acts and marks, or the first bad line and what is wrong with it.
use Rattle.std.specs.Prelude.{◌≡◌, ℕ, ◌+◌, Bool, nat_le, if◌then◌else◌, List, [], ◌∷◌, length, map, take, fold, slice_index_or, Option, Some, None, option_map, Result, Ok, Err}
use Rattle.std.specs.List.{filter_map, range_with_len}
use Rattle.std.specs.Str.Lines.{lines}
use Rattle.circuit.specs.declared.Act.{Act as PlainAct}
use Rattle.circuit.specs.declared.Click.{Click}
use Rattle.circuit.specs.declared.Pos.{Pos}
use Rattle.rp_text.specs.Words.{words}
use Rattle.build.specs.Marks.{with_mark}
use Rattle.script.specs.declared.ScriptKind.{ScriptKind}
use Rattle.script.specs.declared.ScriptKind.TheVariants.{TooManyTicks}
use Rattle.script.specs.declared.ScriptRefusal.{ScriptRefusal}
use Rattle.script.specs.declared.ScriptRefusal.TheVariants.{Line, NoMemory}
use Rattle.script.specs.declared.lines.Said.{Said}
use Rattle.script.specs.declared.lines.Said.TheVariants.{Nothing, Mark, Act}
use Rattle.script.specs.Acts.{Meaning, ticks_in}
use Rattle.script.specs.LineSaid.{line_said}

-- what the lines of a text say, or what is wrong with each alone
unfoldable pub lines_said : (Pos → Click → Bool) → (Pos → Bool) → List ℕ → List (Result Said ScriptKind)
lines_said takes wire text = map (λ line. line_said takes wire (words line)) (lines text)

abbrev pub act_in : Result Said ScriptKind → Option PlainAct
act_in (Ok (Act act)) = Some act
act_in _ = None

abbrev pub mark_in : Result Said ScriptKind → Option Pos
mark_in (Ok (Mark place)) = Some place
mark_in _ = None

-- the acts of the lines, in order
unfoldable pub acts_in : List (Result Said ScriptKind) → List PlainAct
acts_in said = filter_map act_in said

-- the places that the lines mark
unfoldable pub marks_in : List (Result Said ScriptKind) → List Pos
marks_in said = fold (λ marks place. with_mark place marks) [] (filter_map mark_in said)

-- what is wrong with a line, by the acts up to and with it
abbrev pub kind_with : List PlainAct → Result Said ScriptKind → Option ScriptKind
kind_with acts (Err kind) = Some kind
kind_with acts (Ok said) = if nat_le (ticks_in acts) 100000 then None else Some TooManyTicks

-- what is wrong with the line after the first so many
unfoldable pub kind_at : List (Result Said ScriptKind) → ℕ → Option ScriptKind
kind_at said k = kind_with (acts_in (take (k + 1) said)) (slice_index_or said k (Ok Nothing))

-- all bad lines in order; lines count from 1
unfoldable pub bad_lines : List (Result Said ScriptKind) → List ScriptRefusal
bad_lines said = filter_map (λ k. option_map (Line (k + 1)) (kind_at said k)) (range_with_len 0 (length said))

-- a script without bad lines has all acts and all marks, and else the first bad line counts
abbrev pub first_or : List ScriptRefusal → Meaning → Result Meaning ScriptRefusal
first_or [] script = Ok script
first_or (bad ∷ later) script = Err bad

unfoldable pub meaning_of : List (Result Said ScriptKind) → Result Meaning ScriptRefusal
meaning_of said = first_or (bad_lines said) (record { marks = marks_in said; acts = acts_in said })

abbrev pub script_of : (Pos → Click → Bool) → (Pos → Bool) → List ℕ → Result Meaning ScriptRefusal
script_of takes wire text = meaning_of (lines_said takes wire text)

-- the refusal is that of the text, or want of memory
abbrev pub Refuses : Result Meaning ScriptRefusal → ScriptRefusal → Type 0
Refuses script (Line line kind) = script ≡ Err (Line line kind)
Refuses script NoMemory = Unit {0}
