-- What becomes of a List whose elements are lent to be written.
use Rattle.std.specs.Prelude.{List as Items, ◌++◌, length, take, drop}
use Rattle.std.specs.Borrow.{Lends, MutBor, Array, Fml, RattleType}
use Rattle.sd_types.specs.contracts.lists.List.{the_row}

-- as many of the written elements as the list has, and its own behind them
abbrev pub with_items : {T : Type 0} → Items T → Items T → Items T
with_items xs ws = take (length xs) (ws ++ drop (length ws) xs)

-- the list ends with the elements that were last written through the slice
abbrev pub lends_items : (T : RattleType) → MutBor (Items T.Denot) → MutBor (Items T.Denot) → Fml
lends_items T l r = Lends (the_row T) (Array T 0) l r (with_items l.now)
