-- The line of a fault: what went wrong, after the name of the program.
use Rattle.std.specs.Prelude.{ℕ, List, [], ◌++◌, codes, decimal}
use Rattle.nbt.specs.declared.refusals.NbtKind.{NbtKind}
use Rattle.nbt.specs.declared.refusals.NbtKind.TheVariants.{Truncated, BadType, BadLength, TooDeep, Trailing as TrailingBytes, RootNotCompound}
use Rattle.report.specs.PlaceText.{place_text}
use Rattle.report.specs.declared.Fault.{Fault}
use Rattle.report.specs.declared.Fault.TheVariants.{Usage, Read, Write, Build, BuildTooLong, Script, ScriptTooLong, Memory, Order, OrderTooLong, Graph, GraphTooLong}
use Rattle.report.specs.declared.GraphKind.{GraphKind}
use Rattle.report.specs.declared.GraphKind.TheVariants.{Field, Range, Place, End}
use Rattle.report.specs.declared.GraphRefusal.{GraphRefusal}
use Rattle.report.specs.declared.GraphRefusal.TheVariants.{Json, Whole, Node, Link, NoMemory as NoMemoryOfGraph}
use Rattle.report.specs.declared.OrderKind.{OrderKind}
use Rattle.report.specs.declared.OrderKind.TheVariants.{Short, Differs, Form, NotDue, Twice, Priority, Left, Trailing}
use Rattle.schematic.specs.declared.BuildRefusal.{BuildRefusal}
use Rattle.schematic.specs.declared.BuildRefusal.TheVariants.{Compressed, Nbt, Missing, WrongKind, Version, Volume, PaletteClash, Data, Block, Signal, Pending, NoMemory as NoMemoryOfBuild}
use Rattle.schematic.specs.declared.FieldName.{FieldName}
use Rattle.schematic.specs.declared.FieldName.TheVariants.{Schematic, Version as VersionField, Width, Height, Length, Blocks, Palette, BlockData, Data as DataField, Metadata, RedpilePending}
use Rattle.script.specs.declared.ScriptKind.{ScriptKind}
use Rattle.script.specs.declared.ScriptKind.TheVariants.{Word, Number, NotClickable, NotWire, TooManyTicks}
use Rattle.script.specs.declared.ScriptRefusal.{ScriptRefusal}
use Rattle.script.specs.declared.ScriptRefusal.TheVariants.{Line, NoMemory as NoMemoryOfScript}

abbrev pub memory_text : List ℕ
memory_text = codes "out of memory"

-- ---- a build's file

abbrev pub nbt_kind_text : NbtKind → List ℕ
nbt_kind_text Truncated = codes "truncated"
nbt_kind_text BadType = codes "bad type"
nbt_kind_text BadLength = codes "bad length"
nbt_kind_text TooDeep = codes "too deep"
nbt_kind_text TrailingBytes = codes "trailing"
nbt_kind_text RootNotCompound = codes "root not compound"

-- as the field is named in the file
abbrev pub field_text : FieldName → List ℕ
field_text Schematic = codes "Schematic"
field_text VersionField = codes "Version"
field_text Width = codes "Width"
field_text Height = codes "Height"
field_text Length = codes "Length"
field_text Blocks = codes "Blocks"
field_text Palette = codes "Palette"
field_text BlockData = codes "BlockData"
field_text DataField = codes "Data"
field_text Metadata = codes "Metadata"
field_text RedpilePending = codes "RedpilePending"

abbrev pub build_text : BuildRefusal → List ℕ
build_text Compressed = codes "build: compressed"
build_text (Nbt place kind) = codes "build: nbt " ++ nbt_kind_text kind ++ codes " at " ++ decimal place
build_text (Missing field) = codes "build: missing " ++ field_text field
build_text (WrongKind field) = codes "build: wrong kind " ++ field_text field
build_text Version = codes "build: version"
build_text Volume = codes "build: volume"
build_text PaletteClash = codes "build: palette clash"
build_text (Data place) = codes "build: data at " ++ decimal place
build_text (Block name) = codes "block: " ++ name.items.items
build_text (Signal pos) = codes "build: signal at " ++ place_text pos
build_text (Pending group) = codes "build: pending at " ++ decimal group
build_text NoMemoryOfBuild = memory_text

-- ---- a script

abbrev pub script_kind_text : ScriptKind → List ℕ
script_kind_text Word = codes "word"
script_kind_text Number = codes "number"
script_kind_text NotClickable = codes "not clickable"
script_kind_text NotWire = codes "not wire"
script_kind_text TooManyTicks = codes "too many ticks"

abbrev pub script_text : ScriptRefusal → List ℕ
script_text (Line line kind) = codes "script: line " ++ decimal line ++ codes " " ++ script_kind_text kind
script_text NoMemoryOfScript = memory_text

-- ---- an order of firings

abbrev pub order_kind_text : OrderKind → List ℕ
order_kind_text Short = codes "short"
order_kind_text Differs = codes "differs"
order_kind_text Form = codes "form"
order_kind_text NotDue = codes "not due"
order_kind_text Twice = codes "twice"
order_kind_text Priority = codes "priority"
order_kind_text Left = codes "left"
order_kind_text Trailing = codes "trailing"

-- ---- a graph's file

abbrev pub graph_kind_text : GraphKind → List ℕ
graph_kind_text Field = codes "field"
graph_kind_text Range = codes "range"
graph_kind_text Place = codes "place"
graph_kind_text End = codes "end"

abbrev pub graph_text : GraphRefusal → List ℕ
graph_text Json = codes "graph: json"
graph_text Whole = codes "graph: whole"
graph_text (Node index kind) = codes "graph: node " ++ decimal index ++ codes " " ++ graph_kind_text kind
graph_text (Link index kind) = codes "graph: link " ++ decimal index ++ codes " " ++ graph_kind_text kind
graph_text NoMemoryOfGraph = memory_text

-- ---- all faults

abbrev pub fault_text : Fault → List ℕ
fault_text Usage = codes "usage"
fault_text Read = codes "read fault"
fault_text Write = codes "write fault"
fault_text (Build refusal) = build_text refusal
fault_text BuildTooLong = codes "build: too long"
fault_text (Script refusal) = script_text refusal
fault_text ScriptTooLong = codes "script: line 0 too long"
fault_text Memory = memory_text
fault_text (Order line tick kind) = codes "order: line " ++ decimal line ++ codes " tick " ++ decimal tick ++ codes " " ++ order_kind_text kind
fault_text OrderTooLong = codes "order: line 0 too long"
fault_text (Graph refusal) = graph_text refusal
fault_text GraphTooLong = codes "graph: too long"

unfoldable pub fault_line : Fault → List ℕ
fault_line fault = codes "redpile: " ++ fault_text fault ++ codes "\n"

-- ---- the line of a block that isn't known: its beginning, the block's name and its end

abbrev pub block_line_begin : List ℕ
block_line_begin = codes "redpile: block: "

abbrev pub newline : List ℕ
newline = codes "\n"

abbrev pub name_refused : BuildRefusal → List ℕ
name_refused (Block name) = name.items.items
name_refused _ = []

-- the name of the block that a fault is about, if it is about one
abbrev pub block_name : Fault → List ℕ
block_name (Build refusal) = name_refused refusal
block_name _ = []
