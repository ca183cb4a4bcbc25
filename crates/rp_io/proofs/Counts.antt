-- Counts that rise and stay.
use Rattle.std.proofs.Common.{◌≡◌, ℕ, ◌<◌, ◌≤◌, ◌⊎◌, inl, inr, arith, refl, is_some, Option, Some, None}
use Rattle.rp_io.specs.Causes.{last_count, Rose}
use Rattle.rp_io.specs.Reads.{RoseWhere}

-- what rose is greater, or stands at its last value
pub rose_is : (before now : ℕ) → now ≤ last_count → Rose before now → (before < now) ⊎ (now ≡ last_count)
rose_is before now fits rose = grind arith

-- what is greater, or stands at its last value, rose
pub rose_of : (before now : ℕ) → (before < now) ⊎ (now ≡ last_count) → Rose before now
rose_of before now (inl greater) = omega arith
rose_of before now (inr last) = omega arith

-- a rise stays one, whatever comes before and after it
pub rose_within : (first before now last : ℕ) → first ≤ before → Rose before now → now ≤ last → Rose first last
rose_within first before now last earlier rose later = omega arith

-- a call doesn't change whether a count is told
pub told_still : (before now : Option ℕ) → RoseWhere before now → is_some now ≡ is_some before
told_still None None rose = refl
told_still None (Some now) rose = absurd rose
told_still (Some before) None rose = absurd rose
told_still (Some before) (Some now) rose = refl
