use Rattle.graph_file.proofs.ValueCauses.{never_json}
use Rattle.graph_file.proofs.laws.a_value_is_no_text.Goals as goal

pub returns : goal.returns
returns c = λ d h. never_json d h
