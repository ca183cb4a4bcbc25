use Rattle.graph_file.proofs.SeenSteps.{put_place}
use Rattle.graph_file.proofs.reading.add_place.Goals as goal

pub returns-clause-places : goal.returns-clause-places
returns-clause-places c = put_place c.args.places.now.keys c.insert.new.self.keys c.args.pos c.in_ok-insert.field-0 c.in_ok-insert.ensures.added c.in_ok-insert.ensures.keys
