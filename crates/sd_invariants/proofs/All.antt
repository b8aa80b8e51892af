-- Everything that threads, processors and locks name is there.
use Rattle.std.proofs.Common.{◌≡◌, ◌≢◌, ℕ, ◌<◌, true, false, length, Some, refl, ap, ◌∙◌, inl, inr, arith}
use Rattle.std.proofs.lemmas.Bool.{cases_lt}
use Rattle.std.proofs.lemmas.List.{get_or_past}
use Rattle.sd_types.specs.declared.numbers.LockId.{LockId}
use Rattle.sd_types.specs.declared.events.Duty.{Duty}
use Rattle.sd_types.specs.declared.events.Duty.TheVariants as duty
use Rattle.sd_types.specs.declared.works.Work.{Work}
use Rattle.sd_types.specs.Scripts.{is_held}
use Rattle.sd_machine.specs.Holders as H
use Rattle.sd_machine.proofs.HolderLemmas.{free_unheld}
use Rattle.sd_machine.proofs.Moves.{none_some}
use Rattle.sd_state.specs.declared.states.LockState.{LockState}
use Rattle.sd_state.specs.declared.states.LockState.TheVariants.{Free, Owned, ReadHeld, Passing}
use Rattle.sd_state.specs.declared.states.CpuState.{CpuState}
use Rattle.sd_state.specs.declared.states.State.{State}
use Rattle.sd_state.specs.States.{no_cpu, thread_of, cpu_of}
use Rattle.sd_machine.specs.Threads.{lock_of}
use Rattle.sd_frames.specs.Passing.{pass_of}
use Rattle.sd_invariants.specs.Holding.{lock_state, table}
use Rattle.sd_invariants.specs.Laws.{HoldsWhenReached}
use Rattle.sd_invariants.proofs.AgreedAfter.{IsReady, lock_inside, not_free_passing}
use Rattle.sd_invariants.proofs.Ready.{reached_ready}
use Rattle.sd_invariants.specs.There.{IsDutyThere, IsLockStateThere, ThreadsAreThere, CpusAreThere, LocksAreThere}
use Rattle.sd_invariants.proofs.Sets.{sets_are_there}
use Rattle.sd_invariants.proofs.Bindings.{bounds_are_there}
use Rattle.sd_invariants.proofs.Places.{places_are_there}
use Rattle.sd_invariants.proofs.Duties.{IsNamed, duties_named}
use Rattle.sd_invariants.proofs.Lasts.{lasts_are_there}

module _ (w : Work) (s : State) (ready : IsReady w s) where
  -- a lock that is not free is one of the workload's
  busy_there : (l : ℕ) → lock_of s l ≢ Free → l < length w.locks
  busy_there l busy = let inside = lock_inside s l busy in let many = ready.fits.locks in omega (arith, inside, many)

  held_there : (t : ℕ) (l : LockId) → is_held l (thread_of s t).body.held.items ≡ true → l.0 < length w.locks
  held_there t l holds = busy_there l.0 (λ free. free_unheld (length s.threads) (table s) ready.agreed l.0 t (ap lock_state free) holds)

  passed_there : (c : ℕ) (d : Duty) (p : H.Pass) → (cpu_of s c).duty ≡ d → pass_of d ≡ Some p → p.lock < length w.locks
  passed_there c d p e passes = let its = ready.agreed.passed c p (ap pass_of e ∙ passes) in busy_there p.lock (not_free_passing (lock_of s p.lock) c its.0 its.1)

  duty_there : (c : ℕ) (d : Duty) → (cpu_of s c).duty ≡ d → IsNamed w d → IsDutyThere w d
  duty_there c duty.Nothing e named = tt
  duty_there c (duty.Walk l seek k) e named = named
  duty_there c (duty.WakeMutex l) e named = passed_there c (duty.WakeMutex l) (record { lock = l.0; alone = true }) e refl
  duty_there c (duty.GrantWriter l) e named = passed_there c (duty.GrantWriter l) (record { lock = l.0; alone = true }) e refl
  duty_there c (duty.GrantReaders l) e named = passed_there c (duty.GrantReaders l) (record { lock = l.0; alone = false }) e refl
  duty_there c (duty.Rouse j below) e named = named
  duty_there c (duty.Age u) e named = named

  -- a processor with a duty to pass a lock on is there
  passes_there : (c : ℕ) (p : H.Pass) → (table s).passes c ≡ Some p → c < w.cpus
  passes_there c p passes = elim (cases_lt c (length s.cpus)) [
    | inl here ↦ let many = ready.fits.cpus in omega (arith, here, many)
    | inr past ↦ absurd (none_some ((table s).passes c) p (ap (λ (x : CpuState). pass_of x.duty) (get_or_past s.cpus c no_cpu past)) passes)
  ]

  lock_there : (l : ℕ) (x : LockState) → lock_of s l ≡ x → IsLockStateThere w x
  lock_there l Free e = tt
  lock_there l (Owned t) e = let inside = (ready.agreed.owner l t.0 (ap lock_state e)).0 in let many = ready.fits.threads in omega (arith, inside, many)
  lock_there l (ReadHeld n) e = tt
  lock_there l (Passing c r) e = let its = ready.agreed.passing l c.0 r (ap lock_state e) in passes_there c.0 its.0 its.1

pub threads_law : HoldsWhenReached ThreadsAreThere
threads_law w n s reached t = record {
  place = places_are_there w n s reached t;
  last = lasts_are_there w n s reached t;
  bound = bounds_are_there w n s reached t;
  held = λ l holds. held_there w s (reached_ready w n s reached) t l holds;
}

pub cpus_law : HoldsWhenReached CpusAreThere
cpus_law w n s reached c =
    let sets = sets_are_there w n s reached c in
    record { set = sets.0; closing = sets.1; duty = duty_there w s (reached_ready w n s reached) c (cpu_of s c).duty refl (duties_named w n s reached c) }

pub locks_law : HoldsWhenReached LocksAreThere
locks_law w n s reached l = lock_there w s (reached_ready w n s reached) l (lock_of s l) refl
