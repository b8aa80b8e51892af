-- There is room for words that fit.
use Rattle.std.proofs.Common.{◌≡◌, ℕ, ◌+◌, ◌*◌, ◌<◌, ◌^◌, true, arith}
use Rattle.std.proofs.lemmas.Bool.Decides.{nat_tests}
use Rattle.sd_timeline.specs.Bars.{fits}

pub fits_room : (len width : ℕ) → fits len width ≡ true → width < 2 ^ 64 → 8 * len + 6 < 2 ^ 64
fits_room len width h inside = grind (arith, nat_tests)
