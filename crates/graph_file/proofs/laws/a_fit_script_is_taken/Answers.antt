use Rattle.graph_file.proofs.TargetSteps.{acts_taken}
use Rattle.graph_file.proofs.laws.a_fit_script_is_taken.Goals as goal

pub returns : goal.returns
returns c = λ g script fit. acts_taken g script.acts fit.clicks
