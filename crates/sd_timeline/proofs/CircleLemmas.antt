-- Once more of the threads that want and are wanted.
use Rattle.std.proofs.Common.{◌≡◌, ℕ, zero, suc, ◌-◌, ◌<◌, List, refl, ap, arith}
use Rattle.sd_stretches.specs.declared.rows.Stretch.{Stretch}
use Rattle.sd_holds.specs.declared.holdings.Hold.{Hold}
use Rattle.sd_timeline.specs.Circles.{trimmed, trimmed_by}

pub trimmed_none : (holds : List Hold) (xs : List Stretch) → trimmed_by holds 0 xs ≡ xs
unfolding trimmed_by
trimmed_none holds xs = refl

pub trimmed_less : (holds : List Hold) (n : ℕ) (xs : List Stretch) → 0 < n → trimmed_by holds n xs ≡ trimmed_by holds (n - 1) (trimmed holds xs)
unfolding trimmed_by
trimmed_less holds zero xs some = absurd (omega (arith, some))
trimmed_less holds (suc n) xs some = let back : n ≡ suc n - 1 = omega arith in ap (λ m. trimmed_by holds m (trimmed holds xs)) back
