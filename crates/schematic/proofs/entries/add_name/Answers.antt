use Rattle.std.proofs.Common.{ℕ, List, sym, ap, ◌∙◌, Bor}
use Rattle.std.specs.Prelude.{not}
use Rattle.schematic.specs.Code.{has_name}
use Rattle.schematic.proofs.Names.{name_there, put_name}
use Rattle.schematic.proofs.entries.add_name.Goals as goal

pub returns-clause-added : goal.returns-clause-added
returns-clause-added c = c.in_ok-insert.ensures.added ∙ ap not (name_there c.args.names.now.keys c.args.name)

pub returns-clause-names : goal.returns-clause-names
returns-clause-names c = λ q. ap (λ (keys : List (Bor (List ℕ))). has_name keys q) c.in_ok-insert.ensures.keys ∙ put_name c.args.names.now.keys c.args.name q
