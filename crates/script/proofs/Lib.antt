mod FitLines
mod FirstBad
mod ReadLines
mod ScriptRows
