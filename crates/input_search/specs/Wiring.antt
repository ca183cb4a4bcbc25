-- The wires of a build by numbers: what feeds each, and what each reads without dust.
use Rattle.std.specs.Prelude.{◌≡◌, ℕ, ◌+◌, ◌<◌, Bool, true, false, List, [], length, map, filter, get_or}
use Rattle.std.specs.List.{range_with_len}
use Rattle.std.specs.Option.{option_map_or}
use Rattle.circuit.specs.declared.Pos.{Pos}
use Rattle.circuit.specs.Circuit.{Among}
use Rattle.build.specs.Plan.{Plan, volume, cell_of, place_of, block_at}
use Rattle.cell_numbers.specs.Numbers.{number_in}
use Rattle.wire_shape.specs.Shape.{wire_at}
use Rattle.wire_shape.specs.Feeders.{feeders}
use Rattle.wiring.specs.Reads.{is_source}
use Rattle.input_search.specs.declared.wires.Wiring.{Wiring}
use Rattle.input_search.specs.declared.search.Search.{Search}
use Rattle.input_search.specs.Links.{From, among, direct_places, wires_in, links_below, wire_links}
use Rattle.input_search.specs.CellLists.{has_cell, cells_of}
use Rattle.input_search.specs.Rows.{row_at, is_met, has_met, AreBelow}

-- the wires in the first n cells
abbrev pub wires_below : Plan → ℕ → List ℕ
wires_below b n = filter (λ i. wire_at b (place_of b i)) (range_with_len 0 n)

-- what can give power in the first n cells
abbrev pub sources_below : Plan → ℕ → List ℕ
sources_below b n = filter (λ i. is_source (block_at b (place_of b i))) (range_with_len 0 n)

-- the cells of the wires, in order
unfoldable pub wire_cells : Plan → List ℕ
wire_cells b = wires_below b (volume b)

-- the cells of what can give power, in order
unfoldable pub source_cells : Plan → List ℕ
source_cells b = sources_below b (volume b)

-- the place of the wire of a number
abbrev pub wire_place : Plan → List ℕ → ℕ → Pos
wire_place b cells number = place_of b (get_or cells number 0)

abbrev pub wire_places : Plan → List ℕ → List ℕ → List Pos
wire_places b cells numbers = map (wire_place b cells) numbers

-- the number of the wire at a place, 0 where none stands
unfoldable pub wire_number : Plan → Pos → ℕ
wire_number b p = option_map_or (λ (n : ℕ). n) (number_in (wire_cells b) (cell_of b p)) 0

-- the numbers of the feeders of the wire at a place
abbrev pub feeder_numbers : Plan → Pos → List ℕ
feeder_numbers b p = map (wire_number b) (feeders b p)

-- the cells of what it reads
abbrev pub read_cells : Plan → Pos → List ℕ
read_cells b p = cells_of b (direct_places b p)

-- the numbers of the feeders of the wire of a number
unfoldable pub fed_row : Plan → ℕ → List ℕ
fed_row b number = feeder_numbers b (wire_place b (wire_cells b) number)

-- and the cells of what it reads
unfoldable pub read_row : Plan → ℕ → List ℕ
read_row b number = read_cells b (wire_place b (wire_cells b) number)

-- these are the rows of the wire of a number
pub record AreRows (b : Plan) (feeders reads : List (List ℕ)) (number row : ℕ) : Type 0 where
  pub inside : row < length feeders
  pub fed : row_at feeders row ≡ fed_row b number
  pub read : row_at reads row ≡ read_row b number

-- no source is within 15 steps of the wire of a number
abbrev pub IsFar : Plan → ℕ → Type 0
IsFar b number = wire_links b (wire_place b (wire_cells b) number) ≡ []

-- the wires of the build, with the rows of those that a search came to
pub record IsWiring (b : Plan) (w : Wiring) : Type 0 where
  pub wires : w.wires.items ≡ wire_cells b
  pub cells : w.cells ≡ wire_cells b
  pub sources : w.sources ≡ source_cells b
  pub size : length w.slots.items ≡ length (wire_cells b)
  pub all : length w.far.items ≡ length (wire_cells b)
  pub feeders : length w.feeders ≡ w.found
  pub reads : length w.reads ≡ w.found
  pub found : (number row : ℕ) → get_or w.slots.items number 0 ≡ row + 1 → AreRows b w.feeders w.reads number row
  pub far : (number : ℕ) → is_met w.far.items number ≡ true → IsFar b number

-- the cells that were met are those from whose places there is a link
pub record AreLinked (b : Plan) (links : List From) (met : List Bool) : Type 0 where
  pub size : length met ≡ length (source_cells b)
  pub linked : (i : ℕ) → i < volume b → has_met (source_cells b) met i ≡ among (map (λ l. l.place) links) (place_of b i)

-- Where a search stands that has looked at less than n steps: at some wires in n steps, and at each of those that was never met before.
pub record IsAt (b : Plan) (w : Pos) (cells : List ℕ) (n : ℕ) (wires : List ℕ) (met : List Bool) (links : List From) : Type 0 where
  pub below : AreBelow (length cells) wires
  pub reached : (i : ℕ) → Among wires i → Among (wires_in b w n) (wire_place b cells i)
  pub size : length met ≡ length cells
  pub all : (i : ℕ) → i < length cells → Among (wires_in b w n) (wire_place b cells i) → is_met met i ≡ true
  pub read : (i : ℕ) → i < length cells → is_met met i ≡ true → has_cell wires i ≡ false → (s : Pos) → Among (direct_places b (wire_place b cells i)) s → among (map (λ l. l.place) links) s ≡ true
  pub fed : (i j : ℕ) → i < length cells → j < length cells → is_met met i ≡ true → has_cell wires i ≡ false → Among (feeders b (wire_place b cells i)) (wire_place b cells j) → is_met met j ≡ true

-- a search has found the links of its first wire from what is nearer than n steps
pub record IsSearch (b : Plan) (n : ℕ) (search : Search) : Type 0 where
  pub start : search.start < length (wire_cells b)
  pub links : search.links.items ≡ links_below b (wire_place b (wire_cells b) search.start) n
  pub linked : AreLinked b search.links.items search.linked
  pub at : IsAt b (wire_place b (wire_cells b) search.start) (wire_cells b) n search.wires.items search.met search.links.items
