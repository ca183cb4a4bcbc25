-- The line of a view: the time, what the view comes after, and the value of each output.
use Rattle.std.specs.Prelude.{ℕ, List, ◌++◌, codes, decimal}
use Rattle.std.specs.List.{flat_map}
use Rattle.circuit.specs.declared.Click.{Click}
use Rattle.circuit.specs.declared.Click.TheVariants.{Use as UseClick, Press as PressClick, Leave as LeaveClick, Weigh as WeighClick}
use Rattle.report.specs.declared.Cause.{Cause}
use Rattle.report.specs.declared.Cause.TheVariants.{Start, Tick, Use, Press, Leave}

abbrev pub cause_text : Cause → List ℕ
cause_text Start = codes "start"
cause_text Tick = codes "tick"
cause_text Use = codes "use"
cause_text Press = codes "press"
cause_text Leave = codes "leave"

unfoldable pub value_text : ℕ → List ℕ
value_text value = codes " " ++ decimal value

unfoldable pub view_line : ℕ → Cause → List ℕ → List ℕ
view_line time cause values = decimal time ++ codes " " ++ cause_text cause ++ flat_map value_text values ++ codes "\n"

-- the cause of the view after a click: a weighing presses the plate
abbrev pub cause_of : Click → Cause
cause_of UseClick = Use
cause_of PressClick = Press
cause_of LeaveClick = Leave
cause_of (WeighClick weight) = Press
