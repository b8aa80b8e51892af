-- Priority, queue and key order the threads.
use Rattle.std.proofs.Common.{◌≡◌, ℕ, true, false, ℤ, arith}
use Rattle.std.proofs.lemmas.Bool.Decides.{nat_tests}
use Rattle.std.proofs.lemmas.Int.{ints}
use Rattle.sd_types.specs.Priorities.{eff}
use Rattle.sd_state.specs.States.{key_of}
use Rattle.sd_state.specs.Best.{goes_before, queue_rank, beats}
use Rattle.sd_state.proofs.BestLemmas.{IsOrder}

before_itself : (p r : ℕ) (k : ℤ) → goes_before p r k p r k ≡ false
before_itself p r k = grind (arith, nat_tests, ints)

before_past : (p r p' r' p'' r'' : ℕ) (k k' k'' : ℤ) → goes_before p' r' k' p'' r'' k'' ≡ true → goes_before p r k p'' r'' k'' ≡ false → goes_before p r k p' r' k' ≡ false
before_past p r p' r' p'' r'' k k' k'' h g = grind (arith, nat_tests, ints)

before_back : (p r p' r' p'' r'' : ℕ) (k k' k'' : ℤ) → goes_before p' r' k' p'' r'' k'' ≡ true → goes_before p r k p'' r'' k'' ≡ false → goes_before p' r' k' p r k ≡ true
before_back p r p' r' p'' r'' k k' k'' h g = grind (arith, nat_tests, ints)

pub beats_order : IsOrder beats
beats_order = record {
  itself = λ x. before_itself (eff x.body) (queue_rank x.place) (key_of x.place);
  past = λ x y z h g. before_past (eff x.body) (queue_rank x.place) (eff y.body) (queue_rank y.place) (eff z.body) (queue_rank z.place) (key_of x.place) (key_of y.place) (key_of z.place) h g;
  back = λ x y z h g. before_back (eff x.body) (queue_rank x.place) (eff y.body) (queue_rank y.place) (eff z.body) (queue_rank z.place) (key_of x.place) (key_of y.place) (key_of z.place) h g;
}
