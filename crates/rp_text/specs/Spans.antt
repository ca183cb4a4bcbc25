-- Parts of a text.
use Rattle.std.specs.Prelude.{ℕ, ◌≤◌, ◌<◌, List, length, slice_range}
use Rattle.rp_text.specs.declared.Span.{Span}

-- the bytes of the span
abbrev pub bytes_of : List ℕ → Span → List ℕ
bytes_of text span = slice_range text span.from span.to

-- the span stands in the text at or after `from`, and `next` is a place of it past `from` and not before the span's end
pub record StandsIn (text : List ℕ) (from : ℕ) (span : Span) (next : ℕ) : Type 0 where
  pub after : from ≤ span.from
  pub ordered : span.from ≤ span.to
  pub past : span.to ≤ next
  pub progress : from < next
  pub within : next ≤ length text
