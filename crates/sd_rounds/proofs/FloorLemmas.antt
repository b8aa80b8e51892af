-- A count that no processor's is below stays so, and a processor whose count is not above it may tick.
use Rattle.std.proofs.Common.{◌≡◌, ℕ, zero, suc, ◌+◌, ◌<◌, ◌≤◌, Bool, true, false, ◌&&◌, ◌==◌, List, [], ◌∷◌, length, get_or, Option, Some, None, refl, sym, ap, ◌∙◌, subst, arith, if◌then◌else◌}
use Rattle.std.specs.Prelude.{nat_le, nat_lt}
use Rattle.std.specs.List.{list_all}
use Rattle.std.proofs.lemmas.Bool.{and_parts}
use Rattle.std.proofs.lemmas.Bool.Decides.{nat_tests}
use Rattle.sd_basics.proofs.Truths.{and_always}
use Rattle.sd_types.specs.declared.events.Event.{Event}
use Rattle.sd_types.specs.declared.numbers.CpuId.{CpuId}
use Rattle.sd_types.specs.declared.works.Work.{Work}
use Rattle.sd_types.specs.Events.{ticks}
use Rattle.sd_state.specs.declared.states.CpuState.{CpuState}
use Rattle.sd_state.specs.declared.states.State.{State}
use Rattle.sd_state.specs.States.{cpu_of, no_cpu}
use Rattle.sd_machine.specs.Events.{after, may_tick, next}
use Rattle.sd_machine.specs.Runs.{IsReached, final, made, serial_hints, turn}
use Rattle.sd_invariants.proofs.Counts.{rise_law}
use Rattle.sd_rounds.specs.Floors.{IsFloor}

at_least : (n : ℕ) (xs : List CpuState) → ((i : ℕ) → i < length xs → n ≤ (get_or xs i no_cpu).count) → list_all (λ x. nat_le n x.count) xs ≡ true
at_least n [] each = refl
at_least n (x ∷ xs) each =
    let first : n ≤ x.count = each 0 (grind arith) in
    let head : nat_le n x.count ≡ true = grind (arith, nat_tests, first) in
    let rest = at_least n xs (λ i l. each (suc i) (let k : suc i < suc (length xs) = omega (arith, l) in k)) in
    (λ j. head j && rest j)

each_at_least : (n : ℕ) (xs : List CpuState) (i : ℕ) → list_all (λ x. nat_le n x.count) xs ≡ true → i < length xs → n ≤ (get_or xs i no_cpu).count
each_at_least n [] i all inside = absurd (omega (arith, inside))
each_at_least n (x ∷ xs) zero all inside = let here = (and_parts (nat_le n x.count) (list_all (λ y. nat_le n y.count) xs) all).0 in grind (arith, nat_tests, here)
each_at_least n (x ∷ xs) (suc i) all inside =
    each_at_least n xs i (and_parts (nat_le n x.count) (list_all (λ y. nat_le n y.count) xs) all).1 (let k : i < length xs = omega (arith, inside) in k)

module _ (w : Work) (s : State) (many : length s.cpus ≡ w.cpus) where
  -- below the floor nobody is asked
  pub at_floor : (c floor : ℕ) → IsFloor w s floor → (cpu_of s c).count ≤ floor → may_tick w s c ≡ nat_lt (cpu_of s c).count w.limit
  unfolding may_tick
  at_floor c floor is low =
      let all = at_least (cpu_of s c).count s.cpus (λ i inside. let below = is i (subst (λ m. i < m) many inside) in omega (arith, low, below)) in
      ap (λ b. nat_lt (cpu_of s c).count w.limit && b) all ∙ and_always (nat_lt (cpu_of s c).count w.limit)

  -- the count of one that may tick is below no other
  pub new_floor : (c : ℕ) → may_tick w s c ≡ true → IsFloor w s (cpu_of s c).count
  unfolding may_tick
  new_floor c may d there =
      each_at_least (cpu_of s c).count s.cpus d (and_parts (nat_lt (cpu_of s c).count w.limit) (list_all (λ x. nat_le (cpu_of s c).count x.count) s.cpus) may).1 (subst (λ m. d < m) (sym many) there)

-- no count falls
risen : (a b : ℕ) (t : Bool) → b ≡ a + (if t then 1 else 0) → a ≤ b
risen a b true e = omega (arith, e)
risen a b false e = omega (arith, e)

pub floor_kept : (w : Work) (s : State) (n : ℕ) (c : CpuId) (floor : ℕ) → IsReached w n s → IsFloor w s floor → IsFloor w (final w s (turn w s n c)) floor
unfolding final
floor_kept w s n c floor reached is = by (next w s c (serial_hints w s c)) refl
  where
    by : (o : Option Event) → next w s c (serial_hints w s c) ≡ o → IsFloor w (final w s (made n c (serial_hints w s c) o)) floor
    by None e = is
    by (Some event) e = λ d there.
        let more = risen (cpu_of s d).count (cpu_of (after w s n c event) d).count ((c.0 == d) && ticks event) (rise_law w n s c (serial_hints w s c) event reached e d there) in
        let before = is d there in
        omega (arith, more, before)
