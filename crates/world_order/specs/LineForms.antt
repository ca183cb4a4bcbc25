-- What a text goes on with: a line, a number, a line of a firing.
use Rattle.std.specs.Prelude.{◌≡◌, ℕ, ◌+◌, ◌<◌, ◌≤◌, ◌^◌, ◌==◌, not, true, false, pos, List, ◌∷◌, ◌++◌, length, drop, decimal}
use Rattle.std.specs.List.{prefix_len}
use Rattle.circuit.specs.declared.Pos.{Pos}
use Rattle.circuit.specs.Circuit.{Each}
use Rattle.report.specs.declared.OrderKind.{OrderKind}
use Rattle.report.specs.declared.OrderKind.TheVariants.{Short, Differs}
use Rattle.report.specs.FireLine.{fire_line}
use Rattle.world_order.specs.declared.lines.FireLine.{FireLine}
use Rattle.world_order.specs.BadLine.{StartsWith, is_unended}

-- the text doesn't go on with this line
abbrev pub IsNotLine : List ℕ → List ℕ → OrderKind → Type 0
IsNotLine rest line Short = is_unended rest ≡ true
IsNotLine rest line Differs = (is_unended rest ≡ false) × (StartsWith rest line → ⊥)
IsNotLine rest line _ = ⊥

-- how many bytes stand before the first such byte
abbrev pub word_len : ℕ → List ℕ → ℕ
word_len end text = prefix_len (λ b. not (b == end)) text

-- the first line of the text, with its LF, is so long
pub record IsFirstLine (text : List ℕ) (len : ℕ) : Type 0 where
  pub body : List ℕ
  pub more : List ℕ
  pub unbroken : Each (λ b. (b ≡ 10) → ⊥) body
  pub is : text ≡ body ++ (10 ∷ more)
  pub long : len ≡ length body + 1

-- the text begins with a number and such a byte, and goes on behind it at the next place
pub record IsNumberBefore (end : ℕ) (text : List ℕ) (number next : ℕ) : Type 0 where
  pub small : number < 2 ^ 32
  pub within : next ≤ length text
  pub is : text ≡ decimal number ++ (end ∷ drop next text)

abbrev pub place_named : FireLine → Pos
place_named fire = record { x = pos fire.x; y = pos fire.y; z = pos fire.z }

-- the text begins with this line of a firing
pub record IsFireLine (text : List ℕ) (fire : FireLine) : Type 0 where
  pub small_x : fire.x < 2 ^ 32
  pub small_y : fire.y < 2 ^ 32
  pub small_z : fire.z < 2 ^ 32
  pub within : fire.len ≤ length text
  pub is : text ≡ fire_line (place_named fire) ++ drop fire.len text
