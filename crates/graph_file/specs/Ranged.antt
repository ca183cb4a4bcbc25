-- A value where a test holds. No public clause cites this module.
use Rattle.std.specs.Prelude.{Bool, true, false, Option, Some, None}

abbrev pub if_so : {A : Type 0} → Bool → A → Option A
if_so true value = Some value
if_so false value = None
