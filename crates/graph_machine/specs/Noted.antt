-- The keys that fired, in order, for how many more there is room, and the room that was taken at first.
use Rattle.std.specs.Prelude.{ℕ, List}

pub record Noted : Type 0 where
  pub keys : List ℕ
  pub spare : ℕ
  pub room : ℕ
