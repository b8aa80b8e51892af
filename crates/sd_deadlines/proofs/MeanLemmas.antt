-- The common divisor of two numbers, one number more.
use Rattle.std.proofs.Common.{◌≡◌, ℕ, ◌+◌, [], ◌∷◌, fold, ap, ◌∙◌}
use Rattle.std.specs.List.{range_with_len}
use Rattle.std.proofs.lemmas.List.Sums.{fold-append}
use Rattle.sd_basics.proofs.Ranges.{range_more}
use Rattle.sd_deadlines.specs.Means.{divisor_after, divisor_up_to}

pub divisor_more : (a b n : ℕ) → divisor_up_to a b (n + 1) ≡ divisor_after a b (divisor_up_to a b n) n
unfolding divisor_up_to
divisor_more a b n = ap (fold (divisor_after a b) 1) (range_more n) ∙ fold-append (divisor_after a b) 1 (range_with_len 0 n) (n ∷ [])
