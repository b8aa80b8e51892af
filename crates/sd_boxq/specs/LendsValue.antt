-- What a box lends.
use Rattle.std.specs.Borrow.{Lends, MutBor, Fml}
use denote.RattleType.{RattleType}
use Rattle.sd_boxq.specs.contracts.boxed.Boxed.{the_row}

-- the box ends with the last value behind r
abbrev pub lends_value : (T : RattleType) → MutBor T.Denot → MutBor T.Denot → Fml
lends_value T n r = Lends (the_row T) T n r (λ w. w)
