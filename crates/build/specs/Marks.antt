-- Places that a user marked: in order of places, each once.
use Rattle.std.specs.Prelude.{Bool, true, ◌&&◌, if◌then◌else◌, List, [], ◌∷◌}
use Rattle.std.specs.List.{list_any}
use Rattle.circuit.specs.declared.Pos.{Pos}
use Rattle.build.specs.Place.{same_place, is_before}

abbrev pub is_marked : List Pos → Pos → Bool
is_marked marks p = list_any (same_place p) marks

-- the place put where it belongs, unless it is there
abbrev pub with_mark : Pos → List Pos → List Pos
with_mark p [] = p ∷ []
with_mark p (q ∷ marks) = if is_before q p then q ∷ with_mark p marks else (if same_place p q then q ∷ marks else p ∷ q ∷ marks)

-- each place stands before the next one
abbrev pub is_rising : List Pos → Bool
is_rising [] = true
is_rising (p ∷ []) = true
is_rising (p ∷ (q ∷ marks)) = is_before p q && is_rising (q ∷ marks)
