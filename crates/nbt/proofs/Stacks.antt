-- What is open, inmost first.
use Rattle.std.proofs.Common.{◌≡◌, List, length, reverse, map}
use Rattle.std.proofs.lemmas.List.{length-map, length-reverse}
use Rattle.std.specs.Prelude.{Result, Ok, Err, IfOk, IfErr}
use Rattle.nbt.specs.Reading.{plain_open}
use Rattle.nbt.specs.declared.open.Open.{Open}

pub stack-length : (outer : List Open) → length (map plain_open (reverse outer)) ≡ length outer
stack-length outer = simp (length-map, length-reverse)

pub on-ok : {A E : Type 0} {P Q : A → Type 0} (r : Result A E) → IfOk r P → ((x : A) → P x → Q x) → IfOk r Q
on-ok (Ok x) h f = f x h
on-ok (Err e) h f = tt

pub on-err : {A E : Type 0} {P Q : E → Type 0} (r : Result A E) → IfErr r P → ((e : E) → P e → Q e) → IfErr r Q
on-err (Ok x) h f = tt
on-err (Err e) h f = f e h
