-- What four values lend.
use Rattle.std.specs.Prelude.{ℕ, List, set}
use Rattle.std.specs.Borrow.{Lends, MutBor, Fml}
use denote.RattleType.{RattleType}
use Rattle.sd_boxq.specs.contracts.four.Four.{the_row}

-- the four end with the last value behind r at index i
abbrev pub lends_at : (Q : RattleType) → MutBor (List Q.Denot) → ℕ → MutBor Q.Denot → Fml
lends_at Q f i r = Lends (the_row Q) Q f r (set f.now i)
