use Rattle.std.proofs.Common.{◌≡◌, ◌≤◌, length, drop, reverse}
use Rattle.std.specs.List.{list_any}
use Rattle.circuit.specs.declared.Pos.{Pos}
use Rattle.build.specs.Place.{same_place}
use Rattle.schematic.specs.Palette.{last_ones}
use Rattle.schematic.specs.Entities.{Entity, same_entity_place}
use Rattle.schematic.specs.Code.{plain_entities}
use Rattle.build.specs.Marks.{is_marked}
use Rattle.schematic.proofs.entities.counting.Given as goal

abbrev pub decreases-loop-index : goal.decreases-loop-index
decreases-loop-index l = l.index

abbrev pub invariant-loop-index : goal.invariant-loop-index
invariant-loop-index l = record {
  within : l.index ≤ length l.entities.items;
  known : (q : Pos) → is_marked l.places q ≡ list_any (λ (e : Entity). same_place q e.pos) (plain_entities (drop l.index l.entities.items));
  counted : reverse (plain_entities l.counting.items) ≡ last_ones same_entity_place (plain_entities (drop l.index l.entities.items));
}
