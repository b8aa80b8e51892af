-- Waking a thread leaves the duty of each processor as it is.
use Rattle.std.proofs.Common.{◌≡◌, ℕ, ◌<◌, Bool, true, false, refl, ap, ◌∙◌, arith}
use Rattle.std.proofs.lemmas.Grind.{common_steps}
use Rattle.std.specs.Prelude.{nat_le}
use Rattle.sd_types.specs.declared.numbers.ChanId.{ChanId}
use Rattle.sd_types.specs.declared.numbers.CpuId.{CpuId}
use Rattle.sd_types.specs.declared.events.Put.{Put}
use Rattle.sd_types.specs.declared.works.Work.{Work}
use Rattle.sd_state.specs.declared.states.CpuState.{CpuState}
use Rattle.sd_state.specs.declared.states.State.{State}
use Rattle.sd_state.specs.States.{cpu_of, with_cpu}
use Rattle.sd_machine.specs.Changes.{cpu_put, mark_over, marked, put, runs_below, set_class, set_mark}
use Rattle.sd_machine.specs.Sleeping.{rouse_key, woken}
use Rattle.sd_machine.specs.Threads.{best_sleeper_below, priority_of, runner}
use Rattle.sd_store.specs.Walks.{next_to_rouse}

pub marked_duty : (m : ℕ) (x : CpuState) → (marked m x).duty ≡ x.duty
marked_duty m x = by (nat_le 100 m) refl
  where
    by : (b : Bool) → nat_le 100 m ≡ b → (marked m x).duty ≡ x.duty
    by true e = rw e refl
    by false e = rw e refl

duty_at : (s : State) (d c : ℕ) (x : CpuState) → x.duty ≡ (cpu_of s d).duty → (cpu_of (with_cpu s d x) c).duty ≡ (cpu_of s c).duty
duty_at s d c x same = grind (arith, common_steps)

pub over_duty : (s : State) (d m c : ℕ) → (cpu_of (mark_over s d m) c).duty ≡ (cpu_of s c).duty
unfolding mark_over set_mark
over_duty s d m c = by (runs_below m (priority_of s (runner s d))) refl
  where
    by : (b : Bool) → runs_below m (priority_of s (runner s d)) ≡ b → (cpu_of (mark_over s d m) c).duty ≡ (cpu_of s c).duty
    by true e = rw e (duty_at s d c (marked m (cpu_of s d)) (marked_duty m (cpu_of s d)))
    by false e = rw e refl

pub woken_duty : (w : Work) (s : State) (n u : ℕ) (at : Put) (c : ℕ) → (cpu_of (woken w s n u at) c).duty ≡ (cpu_of s c).duty
unfolding woken put set_class
woken_duty w s n u at c = over_duty _ (cpu_put at).0 _ c

-- the next to be roused is sought with the key that the duty had before a thread woke up
pub next_after_woken : (w : Work) (s : State) (n u : ℕ) (at : Put) (c : CpuId) (k : ChanId)
    → next_to_rouse (woken w s n u at) c k ≡ best_sleeper_below (woken w s n u at) k.0 (rouse_key (cpu_of s c.0).duty)
unfolding next_to_rouse
next_after_woken w s n u at c k = ap (λ duty. best_sleeper_below (woken w s n u at) k.0 (rouse_key duty)) (woken_duty w s n u at c.0)
