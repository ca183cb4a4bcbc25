use Rattle.std.proofs.Common.{◌≡◌, drop}
use Rattle.graph_file.specs.GraphFile.{is_repeated, with_places}
use Rattle.graph_file.specs.Steps.{has_place}
use Rattle.graph_file.proofs.reading.add_places.Given as goal

abbrev pub invariant-loop-pos : goal.invariant-loop-pos
invariant-loop-pos l = (is_repeated (has_place l.places.keys) (drop l.pos-index l.more) ≡ is_repeated (has_place l.initial.places.keys) l.more)
    × (with_places (drop l.pos-index l.more) (has_place l.places.keys) ≡ with_places l.more (has_place l.initial.places.keys))
