-- Causes of refusals.
use Rattle.std.proofs.Common.{◌≡◌, Option, Some, subst, sym}
use Rattle.schematic.specs.File.{Refusal, IsCause}

pub cause_is : (told cause : Option Refusal) (r : Refusal) → told ≡ Some r → cause ≡ Some r → IsCause told cause
cause_is told cause r e h = subst (λ (t : Option Refusal). IsCause t cause) (sym e) h
