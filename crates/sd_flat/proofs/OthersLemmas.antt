-- The greatest priority of the waiters of a lock, of all of them and of all but one.
use Rattle.std.proofs.Common.{◌≡◌, ℕ, zero, suc, ◌+◌, ◌<◌, true, false, List, [], ◌∷◌, get_or, set, Some, None, refl, ap, subst, arith, ◌==◌}
use Rattle.std.specs.Prelude.{if◌then◌else◌}
use Rattle.std.proofs.lemmas.Bool.Decides.{nat_tests}
use Rattle.sd_basics.proofs.Numbers.{same_itself}
use Rattle.sd_types.specs.Priorities.{eff}
use Rattle.sd_state.specs.declared.states.ThreadState.{ThreadState}
use Rattle.sd_state.specs.declared.states.Place.TheVariants.{Ended}
use Rattle.sd_state.specs.States.{no_thread}
use Rattle.sd_machine.specs.Threads.{is_waiting, greater, greatest_waiting}
use Rattle.sd_flat.specs.Standings.{greatest_but}

pub all_of : (l i : ℕ) (xs : List ThreadState) → greatest_but l None i xs ≡ greatest_waiting l xs
unfolding greatest_waiting
all_of l i [] = refl
all_of l i (x ∷ xs) = ap (λ o. if is_waiting l x.place then Some (greater (eff x.body) o) else o) (all_of l (i + 1) xs)

unlike : (i j : ℕ) → i < j → (i == j) ≡ false
unlike i j h = grind (arith, nat_tests)

-- behind the one that is left out there is nobody to leave out
behind : (l u i : ℕ) (xs : List ThreadState) → u < i → greatest_but l (Some u) i xs ≡ greatest_waiting l xs
unfolding greatest_waiting
behind l u i [] h = refl
behind l u i (x ∷ xs) h = rw (other i u h) (ap (λ o. if is_waiting l x.place then Some (greater (eff x.body) o) else o) (behind l u (i + 1) xs (omega arith)))
  where
    other : (a b : ℕ) → b < a → (a == b) ≡ false
    other a b h = grind (arith, nat_tests)

pub but_one : (l u i : ℕ) (xs : List ThreadState) → greatest_but l (Some (i + u)) i xs ≡ greatest_waiting l (set xs u (record (get_or xs u no_thread) { place = Ended }))
unfolding greatest_waiting
but_one l u i [] = refl
but_one l zero i (x ∷ xs) =
    let here : (i == i + 0) ≡ true = subst (λ j. (i == j) ≡ true) (let e : i ≡ i + 0 = omega arith in e) (same_itself i) in
    rw here (behind l (i + 0) (i + 1) xs (omega arith))
but_one l (suc u) i (x ∷ xs) =
    let rest : greatest_but l (Some (i + 1 + u)) (i + 1) xs ≡ greatest_waiting l (set xs u (record (get_or xs u no_thread) { place = Ended })) = but_one l u (i + 1) xs in
    let moved : i + 1 + u ≡ i + suc u = omega arith in
    rw (unlike i (i + suc u) (omega arith)) (ap (λ o. if is_waiting l x.place then Some (greater (eff x.body) o) else o) (subst (λ j. greatest_but l (Some j) (i + 1) xs ≡ greatest_waiting l (set xs u (record (get_or xs u no_thread) { place = Ended }))) moved rest))

pub but_that : (l u : ℕ) (xs : List ThreadState) → greatest_but l (Some u) 0 xs ≡ greatest_waiting l (set xs u (record (get_or xs u no_thread) { place = Ended }))
but_that l u xs = subst (λ j. greatest_but l (Some j) 0 xs ≡ greatest_waiting l (set xs u (record (get_or xs u no_thread) { place = Ended }))) (let e : 0 + u ≡ u = omega arith in e) (but_one l u 0 xs)
