-- What proofs ask of the keys of a circuit.
use Rattle.std.specs.Prelude.{◌≡◌, ◌≢◌, Bool, true, List, Some}
use Rattle.circuit.specs.declared.Component.{Component}
use Rattle.circuit.specs.Circuit.{Circuit, EachBefore, Among}

-- the test of keys tells exactly whether two are one
pub record IsTest {K : Type 0} (same : K → K → Bool) : Type 0 where
  pub itself : (a : K) → same a a ≡ true
  pub one : (a b : K) → same a b ≡ true → a ≡ b

-- each key with a component is in the list, and none stands there twice
pub record IsListed {K : Type 0} (C : Circuit K) (keys : List K) : Type 0 where
  pub all : (key : K) (component : Component) → C.role key ≡ Some component → Among keys key
  pub once : EachBefore (λ a b. a ≢ b) keys
