-- What an arena ends as, where a `&mut` to one of its items is returned.
use Rattle.std.specs.Prelude.{ℕ, Option, Some, slice_set}
use Rattle.std.specs.Borrow.{LendsIf, Fml, RattleType, MutBor}
use Rattle.node_arena.specs.Items.{Items}
use Rattle.node_arena.specs.contracts.Arena.{the_row}

-- the arena with this item under the key
abbrev pub with_item : {T : Type 0} → Items T → ℕ → T → Items T
with_item arena key item = record arena { entries = slice_set arena.entries key (Some item) }

module _ (M T : RattleType) (arena : MutBor (Items T.Denot)) (key : ℕ) where
  -- once the borrow ends, the key has the last item written through it, and at `None` the arena stays
  abbrev pub LendsItem : Option (MutBor T.Denot) → Fml
  LendsItem r = LendsIf (the_row M T) T arena r (with_item arena.now key) arena.now
