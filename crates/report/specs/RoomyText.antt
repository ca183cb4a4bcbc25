-- A text with room for more.
use Rattle.std.specs.Prelude.{◌≡◌, ℕ, ◌+◌, List, [], ◌++◌, length}

-- The bytes, how many more may be appended, and how many may be appended to the empty text.
pub record RoomyText : Type 0 where
  pub bytes : List ℕ
  pub spare : ℕ
  pub room : ℕ

-- no bytes, and all of the room to spare
abbrev pub empty_text : ℕ → RoomyText
empty_text room = record { bytes = []; spare = room; room = room }

-- The new text is the old one with these bytes at its end, and has so much less to spare.
pub record Appends (old new : RoomyText) (more : List ℕ) : Type 0 where
  pub bytes : new.bytes ≡ old.bytes ++ more
  pub spare : new.spare + length more ≡ old.spare
  pub room : new.room ≡ old.room
