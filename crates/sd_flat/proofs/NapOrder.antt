-- Naps in the order in which they end.
use Rattle.std.proofs.Common.{◌≡◌, ℕ, true, false, arith}
use Rattle.std.specs.Prelude.{nat_lt}
use Rattle.std.proofs.lemmas.Bool.Decides.{nat_tests}
use Rattle.sd_state.proofs.BestLemmas.{IsOrder}
use Rattle.sd_machine.specs.Threads.{due_of, naps_less}

less_itself : (a : ℕ) → nat_lt a a ≡ false
less_itself a = grind (arith, nat_tests)

less_past : (a b c : ℕ) → nat_lt b c ≡ true → nat_lt a c ≡ false → nat_lt a b ≡ false
less_past a b c h g = grind (arith, nat_tests)

less_back : (a b c : ℕ) → nat_lt b c ≡ true → nat_lt a c ≡ false → nat_lt b a ≡ true
less_back a b c h g = grind (arith, nat_tests)

pub naps_order : IsOrder naps_less
naps_order = record {
  itself = λ x. less_itself (due_of x.place);
  past = λ x y z h g. less_past (due_of x.place) (due_of y.place) (due_of z.place) h g;
  back = λ x y z h g. less_back (due_of x.place) (due_of y.place) (due_of z.place) h g;
}
