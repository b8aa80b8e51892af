-- The locks of a state against who holds them, who waits for them and which processor passes them on.
-- Source: Solaris Internals (mutexes, rwlocks, turnstiles).
use Rattle.std.specs.Prelude.{◌≡◌, ◌≢◌, ℕ, true, length, None, option_map, ⊤}
use Rattle.sd_types.specs.declared.numbers.LockId.{LockId}
use Rattle.sd_types.specs.declared.numbers.Side.TheVariants.{Writer}
use Rattle.sd_types.specs.declared.events.Duty.{Duty}
use Rattle.sd_types.specs.declared.events.Duty.TheVariants.{WakeMutex, GrantWriter, GrantReaders}
use Rattle.sd_types.specs.declared.works.Work.{Work}
use Rattle.sd_types.specs.Scripts.{is_held}
use Rattle.sd_types.specs.Works.{is_mutex, is_rwlock}
use Rattle.sd_machine.specs.Graphs as G
use Rattle.sd_machine.specs.Holders as H
use Rattle.sd_state.specs.declared.states.LockState.{LockState}
use Rattle.sd_state.specs.declared.states.LockState.TheVariants.{Free, Owned, ReadHeld, Passing}
use Rattle.sd_state.specs.declared.states.State.{State}
use Rattle.sd_state.specs.States.{thread_of, cpu_of}
use Rattle.sd_machine.specs.Threads.{lock_of, best_waiter, has_waiters}
use Rattle.sd_machine.specs.Locking.{kind_of}
use Rattle.sd_machine.specs.LockGraph.{wait_of}
use Rattle.sd_frames.specs.Passing.{pass_of}

abbrev pub lock_state : LockState → H.Lock
lock_state Free = H.Lock.Free
lock_state (Owned t) = H.Lock.Owned t.0
lock_state (ReadHeld n) = H.Lock.Held n
lock_state (Passing c r) = H.Lock.Passing c.0 r

abbrev pub table : State → H.Table
table s = record {
  lock = λ l. lock_state (lock_of s l);
  holds = λ t l. is_held (record { 0 = l }) (thread_of s t).body.held.items;
  waits = λ t. option_map (λ (w : G.Wait). w.lock) (wait_of (thread_of s t).place);
  passes = λ c. pass_of (cpu_of s c).duty;
}

abbrev pub Agreed : State → Type 0
Agreed s = H.IsAgreed (length s.threads) (table s)

-- a duty to pass on a lock is for a lock of its kind, and there is somebody to wake or to give it to
abbrev pub DutyServes : Work → State → Duty → Type 0
DutyServes w s (WakeMutex l) = (is_mutex (kind_of w l) ≡ true) × (has_waiters s l.0 ≡ true)
DutyServes w s (GrantWriter l) = (is_rwlock (kind_of w l) ≡ true) × (best_waiter s l.0 Writer ≢ None)
DutyServes w s (GrantReaders l) = is_rwlock (kind_of w l) ≡ true
DutyServes w s _ = ⊤

abbrev pub DutiesServe : Work → State → Type 0
DutiesServe w s = (c : ℕ) → DutyServes w s (cpu_of s c).duty

-- a lock that readers hold is a rwlock, and where anybody waits for it a writer does
pub record IsReadWell (w : Work) (s : State) (l : LockId) : Type 0 where
  pub kind : is_rwlock (kind_of w l) ≡ true
  pub writer : has_waiters s l.0 ≡ true → best_waiter s l.0 Writer ≢ None

abbrev pub ReadsWell : Work → State → Type 0
ReadsWell w s = (l : LockId) (n : ℕ) → lock_of s l.0 ≡ ReadHeld n → IsReadWell w s l
