-- What small texts mean, where a lever stands at x 0 and a wire at x 1.
use Rattle.std.proofs.Common.{◌≡◌, ℕ, Bool, false, [], ◌∷◌, pos, refl}
use Rattle.std.specs.Prelude.{Ok, Err, codes}
use Rattle.circuit.specs.declared.Act.TheVariants.{Click as ClickAct, Ticks}
use Rattle.circuit.specs.declared.Click.{Click}
use Rattle.circuit.specs.declared.Click.TheVariants.{Use}
use Rattle.circuit.specs.declared.Pos.{Pos}
use Rattle.build.specs.Place.{same_place}
use Rattle.script.specs.declared.ScriptKind.TheVariants.{Word, Number, NotClickable, NotWire, TooManyTicks}
use Rattle.script.specs.declared.ScriptRefusal.TheVariants.{Line}
use Rattle.script.specs.LineSaid.{verb_of, line_said}
use Rattle.script.specs.Scripts.{lines_said, acts_in, marks_in, kind_at, bad_lines, meaning_of, script_of}

abbrev at : ℕ → Pos
at x = record { x = pos x; y = pos 0; z = pos 0 }

abbrev lever_at : Pos → Click → Bool
lever_at place Use = same_place place (at 0)
lever_at place _ = false

abbrev wire_at : Pos → Bool
wire_at place = same_place place (at 1)

good_script : script_of lever_at wire_at (codes "# a lever\nuse 0 0 0\r\n\tmark 1  0 0\n\ntick 12") ≡ Ok (record { marks = at 1 ∷ []; acts = ClickAct (at 0) Use ∷ (Ticks 12 ∷ []) })
unfolding lines_said line_said verb_of acts_in marks_in kind_at bad_lines meaning_of
good_script = refl

not_clickable : script_of lever_at wire_at (codes "use 0 0 0\ntick 1\nuse 1 0 0\njump\n") ≡ Err (Line 3 NotClickable)
unfolding lines_said line_said verb_of acts_in marks_in kind_at bad_lines meaning_of
not_clickable = refl

not_wire : script_of lever_at wire_at (codes "mark 4294967295 0 0\n") ≡ Err (Line 1 NotWire)
unfolding lines_said line_said verb_of acts_in marks_in kind_at bad_lines meaning_of
not_wire = refl

no_number : script_of lever_at wire_at (codes "tick 01\n") ≡ Err (Line 1 Number)
unfolding lines_said line_said verb_of acts_in marks_in kind_at bad_lines meaning_of
no_number = refl

no_word : script_of lever_at wire_at (codes "\njump\n") ≡ Err (Line 2 Word)
unfolding lines_said line_said verb_of acts_in marks_in kind_at bad_lines meaning_of
no_word = refl

too_many_ticks : script_of lever_at wire_at (codes "tick 60000\ntick 40001\n") ≡ Err (Line 2 TooManyTicks)
unfolding lines_said line_said verb_of acts_in marks_in kind_at bad_lines meaning_of
too_many_ticks = refl
