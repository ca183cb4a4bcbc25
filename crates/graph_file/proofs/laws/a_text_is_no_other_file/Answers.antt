use Rattle.graph_file.proofs.OneFile.{no_other_file}
use Rattle.graph_file.proofs.laws.a_text_is_no_other_file.Goals as goal

pub returns : goal.returns
returns c = λ g sound groups few_nodes places file h. no_other_file g sound groups few_nodes places file h
