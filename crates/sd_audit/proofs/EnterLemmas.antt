-- No processor has an entry where none of those that there are has.
use Rattle.std.proofs.Common.{◌≡◌, ℕ, ◌<◌, ◌≤◌, Bool, true, false, ◌&&◌, refl, ap, arith}
use Rattle.std.specs.Prelude.{nat_lt}
use Rattle.std.proofs.lemmas.Bool.Decides.{nat_tests}
use Rattle.sd_types.specs.declared.numbers.CpuId.{CpuId}
use Rattle.sd_types.specs.declared.works.Work.{Work}
use Rattle.sd_state.specs.declared.states.State.{State}
use Rattle.sd_machine.specs.Plans.{plan}
use Rattle.sd_replay.specs.Entering.{can_enter, plan_enters}

enters_none_outside : (w : Work) (s : State) (d : CpuId) → w.cpus ≤ d.0 → can_enter w s d ≡ false
unfolding can_enter
enters_none_outside w s d h =
    let outside : nat_lt d.0 w.cpus ≡ false = grind (arith, nat_tests) in
    ap (λ b. b && plan_enters w s d.0 (plan w s d.0)) outside

pub no_entry : (w : Work) (s : State) (n : ℕ) → w.cpus ≤ n → ((d : CpuId) → d.0 < n → can_enter w s d ≡ false) → (d : CpuId) → can_enter w s d ≡ false
no_entry w s n past below d = by (nat_lt d.0 w.cpus) refl
  where
    by : (b : Bool) → nat_lt d.0 w.cpus ≡ b → can_enter w s d ≡ false
    by true e = below d (let h : d.0 < w.cpus = grind (arith, nat_tests) in omega (arith, h, past))
    by false e = enters_none_outside w s d (grind (arith, nat_tests))
