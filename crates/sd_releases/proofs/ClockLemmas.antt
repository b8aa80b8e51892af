-- What clocks do, one tick or one processor more.
use Rattle.std.proofs.Common.{◌≡◌, ℕ, zero, suc, ◌+◌, ◌<◌, List, [], ◌∷◌, ◌++◌, map, fold, Some, ap, ◌∙◌, arith}
use Rattle.std.specs.List.{range_with_len, slice_get}
use Rattle.std.specs.Option.{option_map}
use Rattle.std.proofs.lemmas.Option.{slice_get-map}
use Rattle.std.proofs.lemmas.List.FromFn.{map-range_with_len_more}
use Rattle.std.proofs.lemmas.List.Sums.{fold-append}
use Rattle.sd_basics.proofs.Ranges.{range_more}
use Rattle.sd_tasks.specs.Above.{Above}
use Rattle.sd_releases.specs.Clocks.{Clock, clock_below, clock_count, no_ops, units, with_units}

-- one tick more
pub clock_more : (a : Above) (number c n : ℕ) → clock_below a number c (n + 1) ≡ with_units number (clock_below a number c n) n (units a number c n)
unfolding clock_below
clock_more a number c n =
    let step : Clock → ℕ → Clock = λ k t. with_units number k t (units a number c t) in
    ap (fold step no_ops) (range_more n) ∙ fold-append step no_ops (range_with_len 0 n) (n ∷ [])

-- one processor more
pub counts_more : (a : Above) (number n : ℕ) → map (clock_count a number) (range_with_len 0 (n + 1)) ≡ map (clock_count a number) (range_with_len 0 n) ++ clock_count a number n ∷ []
counts_more a number n = map-range_with_len_more (clock_count a number) 0 n n (omega arith)

get-range : (a n c j : ℕ) → c < n → a + c ≡ j → slice_get (range_with_len a n) c ≡ Some j
get-range a zero c j h e = absurd (omega arith)
get-range a (suc n) zero j h e = ap Some (let f : a ≡ j = omega arith in f)
get-range a (suc n) (suc c) j h e = get-range (a + 1) n c j (omega arith) (omega arith)

-- the count of a processor
pub count_found : (a : Above) (number : ℕ) (counts : List ℕ) (c : ℕ) → counts ≡ map (clock_count a number) (range_with_len 0 a.cpus) → c < a.cpus
    → slice_get counts c ≡ Some (clock_count a number c)
count_found a number counts c are inside =
    ap (λ (xs : List ℕ). slice_get xs c) are ∙ slice_get-map (clock_count a number) (range_with_len 0 a.cpus) c
    ∙ ap (option_map (clock_count a number)) (get-range 0 a.cpus c c inside (omega arith))
