-- States that agree but at one key, which rests.
use Rattle.std.specs.Prelude.{◌≡◌, ◌≢◌, ℕ}
use Rattle.circuit.specs.Circuit.{State}

-- The states agree on all other keys. In the old one the key holds this value, and in neither does it have a pending tick.
pub record AgreeBut {K : Type 0} (key : K) (value : ℕ) (new old : State K) : Type 0 where
  pub time : new.time ≡ old.time
  pub others : (k : K) → k ≢ key → new.cells k ≡ old.cells k
  pub rests : (old.cells key).value ≡ value
  pub idle : (old.cells key).due ≡ 0
  pub idle_new : (new.cells key).due ≡ 0
