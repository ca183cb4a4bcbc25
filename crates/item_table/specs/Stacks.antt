-- How many items of a name make a whole stack.
use Rattle.std.specs.Prelude.{ℕ, Bool, ◌==◌, if◌then◌else◌, List, [], ◌∷◌, ◌++◌, map, length, drop, codes}
use Rattle.std.specs.List.{list_any, flat_map, starts_with}
use Rattle.std.specs.Str.{bytes_eq}

abbrev pub woods : List (List ℕ)
woods = codes "oak" ∷ codes "spruce" ∷ codes "birch" ∷ codes "jungle" ∷ codes "acacia" ∷ codes "dark_oak" ∷ codes "crimson" ∷ codes "warped" ∷ []

abbrev pub colours : List (List ℕ)
colours = codes "white" ∷ codes "orange" ∷ codes "magenta" ∷ codes "light_blue" ∷ codes "yellow" ∷ codes "lime" ∷ codes "pink" ∷ codes "gray" ∷ codes "light_gray" ∷ codes "cyan" ∷ codes "purple" ∷ codes "blue" ∷ codes "brown" ∷ codes "green" ∷ codes "red" ∷ codes "black" ∷ []

abbrev pub materials : List (List ℕ)
materials = codes "wooden" ∷ codes "stone" ∷ codes "iron" ∷ codes "golden" ∷ codes "diamond" ∷ codes "netherite" ∷ []

-- each word with the same end
abbrev pub ended : List (List ℕ) → List ℕ → List (List ℕ)
ended words end = map (λ word. word ++ end) words

unfoldable pub stacked_by_sixteen : List (List ℕ)
stacked_by_sixteen =
    (codes "egg" ∷ codes "snowball" ∷ codes "ender_pearl" ∷ codes "bucket" ∷ codes "honey_bottle" ∷ codes "written_book" ∷ codes "armor_stand" ∷ [])
    ++ ended woods (codes "_sign")
    ++ ended colours (codes "_banner")

abbrev pub tools : List (List ℕ)
tools = flat_map (ended materials) (codes "_sword" ∷ codes "_pickaxe" ∷ codes "_axe" ∷ codes "_shovel" ∷ codes "_hoe" ∷ [])

unfoldable pub unstacked : List (List ℕ)
unstacked =
    tools
    ++ (codes "water_bucket" ∷ codes "lava_bucket" ∷ codes "milk_bucket" ∷ codes "shulker_box" ∷ [])
    ++ ended colours (codes "_shulker_box")
    ++ ended colours (codes "_bed")
    ++ (codes "potion" ∷ codes "saddle" ∷ codes "minecart" ∷ codes "bow" ∷ codes "shield" ∷ codes "shears" ∷ codes "flint_and_steel" ∷ codes "totem_of_undying" ∷ codes "writable_book" ∷ codes "cake" ∷ [])

abbrev pub is_among : List ℕ → List (List ℕ) → Bool
is_among name listed = list_any (λ text. bytes_eq text name) listed

-- `minecraft:` may stand first
abbrev pub without_namespace : List ℕ → List ℕ
without_namespace name =
    if starts_with (λ a b. a == b) name (codes "minecraft:") then drop (length (codes "minecraft:")) name else name

abbrev pub size_named : List ℕ → ℕ
size_named name = if is_among name stacked_by_sixteen then 16 else if is_among name unstacked then 1 else 64

unfoldable pub stack_size_of : List ℕ → ℕ
stack_size_of name = size_named (without_namespace name)
