-- What the release of a lock keeps: the operation and the place of the thread that gives it up, the sets of the processors,
-- and what threads and semaphores there are.
use Rattle.std.proofs.Common.{◌≡◌, ℕ, ◌<◌, Bool, true, false, length, refl, ap, ◌∙◌, arith}
use Rattle.std.proofs.lemmas.Grind.{common_steps}
use Rattle.std.specs.Prelude.{nat_le}
use Rattle.sd_types.specs.Willed.{released as without_held}
use Rattle.sd_types.specs.declared.numbers.CpuId.{CpuId}
use Rattle.sd_types.specs.declared.numbers.LockId.{LockId}
use Rattle.sd_types.specs.declared.events.Duty.{Duty}
use Rattle.sd_types.specs.declared.works.Work.{Work}
use Rattle.sd_state.specs.declared.states.LockState.{LockState}
use Rattle.sd_state.specs.declared.states.LockState.TheVariants.{Free, Owned, ReadHeld, Passing}
use Rattle.sd_state.specs.declared.states.State.{State}
use Rattle.sd_state.specs.declared.states.ThreadState.{ThreadState}
use Rattle.sd_state.specs.States.{cpu_of, thread_of, with_thread}
use Rattle.sd_state.specs.Operations.{script_of}
use Rattle.sd_machine.specs.Changes.{finish_op, let_go, set_duty}
use Rattle.sd_machine.specs.Threads.{lock_of, has_waiters}
use Rattle.sd_machine.specs.Locking.{release_from, released, free_or_passed}
use Rattle.sd_machine.proofs.PlaceLemmas.{kept_place}
use Rattle.sd_dispatcher.proofs.Kept.{inside, kept_op, kept_set, same_op, same_place}

-- the threads, the counts of semaphores and the sets of the processors stay
record Stays (s r : State) : Type 0 where
  threads : r.threads ≡ s.threads
  counts : r.counts ≡ s.counts
  sets : (d : ℕ) → (cpu_of r d).set ≡ (cpu_of s d).set

freed : (s : State) (c : CpuId) (l : LockId) (duty : Duty) → Stays s (free_or_passed s c l duty)
unfolding set_duty
freed s c l duty = by (has_waiters s l.0) refl
  where
    by : (b : Bool) → has_waiters s l.0 ≡ b → Stays s (free_or_passed s c l duty)
    by true e = rw e (record { threads = refl; counts = refl; sets = λ d. kept_set s c.0 d _ refl })
    by false e = rw e (record { threads = refl; counts = refl; sets = λ d. refl })

released_from : (w : Work) (s : State) (c : CpuId) (l : LockId) (x : LockState) → Stays s (release_from w s c l x)
released_from w s c l Free = record { threads = refl; counts = refl; sets = λ d. refl }
released_from w s c l (Owned o) = freed s c l _
released_from w s c l (ReadHeld n) = by (nat_le n 1) refl
  where
    by : (b : Bool) → nat_le n 1 ≡ b → Stays s (release_from w s c l (ReadHeld n))
    by true e = rw e (freed s c l _)
    by false e = rw e (record { threads = refl; counts = refl; sets = λ d. refl })
released_from w s c l (Passing d r) = record { threads = refl; counts = refl; sets = λ d. refl }

released_op : (w : Work) (s : State) (c : CpuId) (t : ℕ) (l : LockId) → (thread_of (released w s c t l) t).body.op ≡ (thread_of s t).body.op
unfolding released let_go
released_op w s c t l =
    let r = release_from w s c l (lock_of s l.0) in
    kept_op r t t (record (thread_of r t) { body = without_held l (thread_of r t).body }) refl ∙ same_op s r t (released_from w s c l (lock_of s l.0)).threads

pub released_inside : (w : Work) (s : State) (c : CpuId) (t : ℕ) (l : LockId) → (thread_of s t).body.op < length (script_of w t)
    → (thread_of (released w s c t l) t).body.op < length (script_of w t)
released_inside w s c t l here = inside w s (released w s c t l) t (released_op w s c t l) here

pub exited_set : (w : Work) (s : State) (c : CpuId) (t : ℕ) (l : LockId) (d : ℕ) → (cpu_of (finish_op w (released w s c t l) t) d).set ≡ (cpu_of s d).set
unfolding finish_op released let_go
exited_set w s c t l d = (released_from w s c l (lock_of s l.0)).sets d

length_at : (s : State) (t : ℕ) (x : ThreadState) → length (with_thread s t x).threads ≡ length s.threads
length_at s t x = grind (arith, common_steps)

pub released_length : (w : Work) (s : State) (c : CpuId) (t : ℕ) (l : LockId) → length (released w s c t l).threads ≡ length s.threads
unfolding released let_go
released_length w s c t l =
    let r = release_from w s c l (lock_of s l.0) in
    length_at r t (record (thread_of r t) { body = without_held l (thread_of r t).body }) ∙ ap length (released_from w s c l (lock_of s l.0)).threads

pub released_place : (w : Work) (s : State) (c : CpuId) (t : ℕ) (l : LockId) → (thread_of (released w s c t l) t).place ≡ (thread_of s t).place
unfolding released let_go
released_place w s c t l =
    let r = release_from w s c l (lock_of s l.0) in
    kept_place r t t (record (thread_of r t) { body = without_held l (thread_of r t).body }) refl ∙ same_place s r t (released_from w s c l (lock_of s l.0)).threads

pub released_counts : (w : Work) (s : State) (c : CpuId) (t : ℕ) (l : LockId) → length (released w s c t l).counts ≡ length s.counts
unfolding released let_go
released_counts w s c t l = ap length (released_from w s c l (lock_of s l.0)).counts
