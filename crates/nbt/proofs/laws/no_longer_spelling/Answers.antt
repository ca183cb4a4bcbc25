use Rattle.std.proofs.Common.{sym, ◌∙◌}
use Rattle.std.proofs.lemmas.List.{append-nil}
use Rattle.nbt.specs.Spelling.{spelling}
use Rattle.nbt.proofs.Unique.{root-same}
use Rattle.nbt.proofs.laws.no_longer_spelling.Goals as goal

pub returns : goal.returns
returns c a b rest ha hb e = (root-same a b rest _ ha hb (e ∙ sym (append-nil (spelling b)))).1
