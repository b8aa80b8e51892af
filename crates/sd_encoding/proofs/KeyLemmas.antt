-- The keys that an entry gives.
use Rattle.std.proofs.Common.{◌≡◌, ℕ, ◌+◌, ◌≤◌, true, negsuc, int_lt, arith}
use Rattle.std.proofs.lemmas.Bool.Decides.{nat_tests}
use Rattle.std.proofs.lemmas.Int.{ints}
use Rattle.sd_machine.specs.Changes.{back_key}
use Rattle.sd_encoding.specs.Order.{IsKeyBefore}

back_below : (n m : ℕ) → n + 1 ≤ m → int_lt (back_key n) (back_key m) ≡ true
back_below n m h = grind (arith, nat_tests, ints)

front_above : (n m : ℕ) → n + 1 ≤ m → int_lt (negsuc m) (negsuc n) ≡ true
front_above n m h = grind (arith, nat_tests, ints)

front_below : (n m : ℕ) → int_lt (negsuc m) (back_key n) ≡ true
front_below n m = grind (arith, nat_tests, ints)

pub back_fits : (n : ℕ) → IsKeyBefore (n + 1) (back_key n)
back_fits n = record { back = back_below n; front = λ m h. front_below n m }

pub front_fits : (n : ℕ) → IsKeyBefore (n + 1) (negsuc n)
front_fits n = record { back = λ m h. front_below m n; front = front_above n }
