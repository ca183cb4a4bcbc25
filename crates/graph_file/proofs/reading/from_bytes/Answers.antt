use Rattle.serde_json.specs.View.{view}
use Rattle.graph_file.proofs.ValueCauses.{refused_bytes}
use Rattle.graph_file.proofs.reading.from_bytes.Goals as goal

pub returns-in-Ok-clause-err : goal.returns-in-Ok-clause-err
returns-in-Ok-clause-err c = refused_bytes c.args.bytes.now (view c.in-Ok.value) (record { text = c.in-Ok.ensures.ok.0; value = c.in-Ok.ensures.ok.1 }) c.from_value.result c.from_value.ensures.err
