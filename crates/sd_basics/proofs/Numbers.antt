-- Tests of a number with itself, numbers before 0, and a test as a number.
use Rattle.std.proofs.Common.{◌≡◌, ℕ, ◌==◌, Bool, cond, true, false, ℤ, pos, negsuc, int_lt, arith}
use Rattle.std.proofs.lemmas.Bool.Decides.{nat_tests}
use Rattle.std.proofs.lemmas.Int.{ints}

pub same_itself : (n : ℕ) → (n == n) ≡ true
same_itself n = grind (arith, nat_tests)

pub int_not_below_itself : (k : ℤ) → int_lt k k ≡ false
int_not_below_itself k = grind (arith, nat_tests, ints)

pub int_below_zero : (r m : ℕ) → int_lt (negsuc m) (pos r) ≡ true
int_below_zero r m = grind (arith, nat_tests, ints)

-- one where the test passes
abbrev pub ones : Bool → ℕ
ones b = cond b 1 0
