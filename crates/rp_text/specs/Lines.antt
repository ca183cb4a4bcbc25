-- The line of a text that begins at a place. All lines of a text are std's `lines`.
use Rattle.std.specs.Prelude.{ℕ, ◌+◌, ◌==◌, Option, Some, None, List, length, take, drop, position}
use Rattle.std.specs.Str.Lines.{strip_carriage_return}
use Rattle.rp_text.specs.declared.Span.{Span}

-- the line that begins at `from` and whose LF comes after so many bytes, if it comes, and the place after the line
abbrev pub line_up_to : List ℕ → ℕ → Option ℕ → Span × ℕ
line_up_to text from None = (record { from = from; to = length text }, length text)
line_up_to text from (Some bytes) =
    (record { from = from; to = from + length (strip_carriage_return (take bytes (drop from text))) }, from + bytes + 1)

-- the line that begins at `from`, and the place after it
unfoldable pub line_from : List ℕ → ℕ → Span × ℕ
line_from text from = line_up_to text from (position (λ b. b == 10) (drop from text))
