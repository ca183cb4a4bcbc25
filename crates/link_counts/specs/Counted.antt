-- How many links bring each strength to a node.
use Rattle.std.specs.Prelude.{ℕ, Bool, List, [], slice_index, slice_index_or, if◌then◌else◌}
use Rattle.graph.specs.declared.Group.{Group}
use Rattle.graph.specs.declared.Group.TheVariants.{Back, Side}
use Rattle.link_counts.specs.declared.counts.Counts.{Counts}

-- a test as a number
abbrev pub one_if : Bool → ℕ
one_if test = if test then 1 else 0

-- how many links of a group bring a strength
abbrev pub count_at : Counts → Group → ℕ → ℕ
count_at counts Back strength = slice_index counts.back strength
count_at counts Side strength = slice_index counts.side strength

abbrev pub no_counts : Counts
no_counts = record { back = []; side = [] }

-- and of the node under a key
abbrev pub tally : List Counts → ℕ → Group → ℕ → ℕ
tally counts key group strength = count_at (slice_index_or counts key no_counts) group strength
