-- The words of a line: its runs of bytes other than space and tab.
use Rattle.std.specs.Prelude.{◌≡◌, ℕ, ◌-◌, ◌≤◌, ◌<◌, ◌⊎◌, ◌==◌, ◌||◌, Bool, false, nat_lt, List, length, slice_index, filter, IsTrue}
use Rattle.std.specs.List.{slice_split}
use Rattle.rp_text.specs.declared.Span.{Span}

-- a space or a tab
abbrev pub is_blank : ℕ → Bool
is_blank b = b == 32 || b == 9

-- all words of a line in order: the pieces between blanks that aren't empty
abbrev pub words : List ℕ → List (List ℕ)
words line = filter (λ piece. nat_lt 0 (length piece)) (slice_split is_blank line)

-- a word has the places from `start` up to and without `to`: no blank stands there, and none can be added on either side
pub record IsWord (line : List ℕ) (start to : ℕ) : Type 0 where
  pub some : start < to
  pub within : to ≤ length line
  pub bytes : (k : ℕ) → start ≤ k → k < to → is_blank (slice_index line k) ≡ false
  pub before : 0 < start → IsTrue (is_blank (slice_index line (start - 1)))
  pub after : to < length line → IsTrue (is_blank (slice_index line to))

-- the span is the first word that begins at or after `from`
pub record IsFirstWord (line : List ℕ) (from : ℕ) (span : Span) : Type 0 where
  pub word : IsWord line span.from span.to
  pub begins : from ≤ span.from
  pub first : (start to : ℕ) → IsWord line start to → from ≤ start → span.from ≤ start

-- the place is an end of the line or has a blank beside it, so no word stands around it
abbrev pub IsBetweenWords : List ℕ → ℕ → Type 0
IsBetweenWords line place = (place ≡ 0) ⊎ (place ≡ length line)
    ⊎ IsTrue (is_blank (slice_index line (place - 1))) ⊎ IsTrue (is_blank (slice_index line place))
