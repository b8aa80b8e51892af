-- Locks agree with those who hold them, wait for them and pass them on, after every event.
use Rattle.std.proofs.Common.{◌≡◌, ℕ, ◌<◌, Bool, true, false, List, length, Option, Some, None, refl, ◌∙◌, sym, ap, arith, ◌⊎◌, inl, inr}
use Rattle.std.specs.Prelude.{slice_get}
use Rattle.std.proofs.lemmas.Bool.{false≢true}
use Rattle.std.proofs.lemmas.List.{length-map}
use Rattle.sd_types.specs.declared.numbers.Side.{Side}
use Rattle.sd_types.specs.declared.numbers.Side.TheVariants.{Reader}
use Rattle.sd_types.specs.declared.works.LockKind.{LockKind}
use Rattle.sd_types.specs.Works.{Declared, op_names, is_mutex, is_rwlock}
use Rattle.sd_frames.specs.Causes.{GivesWay, Acts, IsCause}
use Rattle.sd_frames.specs.Passing.{pass_of}
use Rattle.sd_invariants.specs.Holding.{table, Agreed}
use Rattle.sd_frames.specs.Moves.{step_of}
use Rattle.sd_frames.proofs.Words.{Same}
use Rattle.sd_frames.proofs.Found.{runner_found, waiter_found}
use Rattle.sd_frames.proofs.HoldTable.{held_part}
use Rattle.sd_machine.specs.Accounts.{is_block}
use Rattle.sd_invariants.proofs.Movers.{ends_wait}
use Rattle.sd_invariants.proofs.ScriptLemmas.{HeldGo, step_away, waits_here}
use Rattle.sd_frames.proofs.LockTable.{is_lockless, free_passes, drop_passes, quiet_passes, quiet_locks}
use Rattle.sd_invariants.proofs.AgreedLemmas.{agreed_quiet, waits_back}
use Rattle.sd_invariants.proofs.AgreedAfter.{IsReady, IsNext, drop_agreed, not_free_owned, not_free_held, enter_locks, write_locks, read_locks, block_locks, enter_passes, write_passes, read_passes, block_passes, owned_taken, read_taken, blocked_agreed, waiter_not_held, holds_it, given_up, unblock_agreed, grant_agreed, pass_agreed}
use Rattle.sd_frames.proofs.ReleaseLemmas.{exit_outcome, cv_wait_outcome}
use Rattle.sd_state.proofs.Declared.{declared}
use Rattle.sd_invariants.proofs.Works.{op_named}
use Rattle.sd_state.specs.States.{thread_of, cpu_of, eff_of}
use Rattle.sd_machine.specs.Shapes.{FitsFully}
use Rattle.sd_machine.specs.Threads.{lock_of, best_waiter}
use Rattle.sd_machine.specs.Changes.{set_duty}
use Rattle.sd_machine.specs.Events.{after, drop_ageing}
use Rattle.sd_types.specs.declared.numbers.ChanId.{ChanId}
use Rattle.sd_types.specs.declared.numbers.CpuId.{CpuId}
use Rattle.sd_types.specs.declared.numbers.LockId.{LockId}
use Rattle.sd_types.specs.declared.numbers.Side.TheVariants.{Writer}
use Rattle.sd_types.specs.declared.numbers.ThreadId.{ThreadId}
use Rattle.sd_types.specs.declared.events.Event.{Event}
use Rattle.sd_types.specs.declared.events.Event.TheVariants.{Tick, Spin, Idle, Dispatch, Steal, Yield, Done, Nap, Napend, Sleep, Wakeall, Rouse, Enter, Read, Write, Block, Will, End as WalkEnd, Exit, Unblock, Grant, Passed, Age, Prio, CvWait}
use Rattle.sd_types.specs.declared.scripts.Op.{Op}
use Rattle.sd_types.specs.declared.scripts.Op.TheVariants as op
use Rattle.sd_types.specs.declared.works.Work.{Work}
use Rattle.sd_state.specs.declared.states.State.{State}
use Rattle.std.proofs.lemmas.Option.{slice_get_within}
use Rattle.sd_types.proofs.ScriptLemmas.{gives_exit, gives_wait}

free_pass : (s : State) (c : ℕ) → GivesWay (cpu_of s c).duty → pass_of (cpu_of s c).duty ≡ None
free_pass s c free = free_passes (cpu_of s c).duty free

-- an event that is none of locks comes where the processor passes none on
pub cause_pass : (w : Work) (s : State) (c : ℕ) (e : Event) → is_lockless e ≡ true → IsCause w s c e → pass_of (cpu_of s c).duty ≡ None
cause_pass w s c (Tick t) quiet cause = free_pass s c cause.0.1.free
cause_pass w s c (Spin t l) quiet cause = free_pass s c cause.0.1.acts.free
cause_pass w s c Idle quiet cause = free_pass s c cause.0.idle.free
cause_pass w s c (Dispatch t p) quiet cause = free_pass s c cause.0.idle.free
cause_pass w s c (Steal v t p) quiet cause = free_pass s c cause.0.idle.free
cause_pass w s c (Yield t) quiet cause = free_pass s c cause.free
cause_pass w s c (Done t) quiet cause = free_pass s c cause.free
cause_pass w s c (Nap t) quiet cause = free_pass s c cause.1.free
cause_pass w s c (Napend t at) quiet cause = free_pass s c cause.2
cause_pass w s c (Sleep t k) quiet cause = free_pass s c cause.free
cause_pass w s c (Wakeall t k) quiet cause = free_pass s c cause.free
cause_pass w s c (Rouse k u) quiet cause = ap pass_of cause.1
cause_pass w s c (Enter t l) quiet cause = cc
cause_pass w s c (Read t l) quiet cause = cc
cause_pass w s c (Write t l) quiet cause = cc
cause_pass w s c (Block t l) quiet cause = cc
cause_pass w s c (Will l o p at) quiet cause = ap pass_of cause.0.2
cause_pass w s c (WalkEnd l) quiet cause = ap pass_of cause.0.2
cause_pass w s c (Exit t l) quiet cause = cc
cause_pass w s c (Unblock l u at) quiet cause = cc
cause_pass w s c (Grant l u at) quiet cause = cc
cause_pass w s c (Passed l) quiet cause = cc
cause_pass w s c (Age t p) quiet cause = ap pass_of cause.1
cause_pass w s c (Prio t u answer) quiet cause = free_pass s c cause.1.free
cause_pass w s c (CvWait t k l) quiet cause = cc
cause_pass w s c e quiet cause = free_pass s c cause.0.free

-- an event that is none of locks takes none and gives none up, nobody comes to wait and no wait ends
pub record Lockless (e : Event) : Type 0 where
  pub held : (s r : State) → HeldGo s r e → Same held_part s r
  pub away : is_block e ≡ false
  pub ends : ends_wait e ≡ false

pub lockless : (e : Event) → is_lockless e ≡ true → Lockless e
lockless (Enter t l) quiet = cc
lockless (Read t l) quiet = cc
lockless (Write t l) quiet = cc
lockless (Block t l) quiet = cc
lockless (Exit t l) quiet = cc
lockless (Unblock l u at) quiet = cc
lockless (Grant l u at) quiet = cc
lockless (Passed l) quiet = cc
lockless (CvWait t k l) quiet = cc
lockless e quiet = record { held = λ s r held. held; away = refl; ends = refl }

-- a lock of a kind is there
pub kind_there : (p : Option LockKind → Bool) (xs : List LockKind) (i : ℕ) → p None ≡ false → p (slice_get xs i) ≡ true → i < length xs
kind_there p xs i none e = by (slice_get xs i) refl e
  where
    by : (o : Option LockKind) → slice_get xs i ≡ o → p o ≡ true → i < length xs
    by None is e = absurd (false≢true (sym none ∙ e))
    by (Some k) is e = slice_get_within xs i k is

-- a lock that an operation names is there
pub lock_named : (w : Work) (s : State) (c t : ℕ) (o : Op) → FitsFully w s → Acts w s c t (Some o) → (l : LockId) → ((d : Declared) → op_names d o ≡ true → (is_mutex (slice_get d.locks l.0) ≡ true) ⊎ (is_rwlock (slice_get d.locks l.0) ≡ true)) → l.0 < length s.locks
lock_named w s c t o fits acts l names =
    let named = names (declared w) (op_named w t (thread_of s t).body.op o acts.stands) in
    let inside : l.0 < length (declared w).locks = elim named [ inl a ↦ kind_there is_mutex (declared w).locks l.0 refl a | inr b ↦ kind_there is_rwlock (declared w).locks l.0 refl b ] in
    omega (arith, fits.locks, length-map w.locks (λ x. x.1))

module _ (w : Work) (s : State) (n : ℕ) (c : CpuId) (ready : IsReady w s) (c_in : c.0 < length s.cpus) where
  lockless_agreed : (e : Event) → is_lockless e ≡ true → IsCause w s c.0 e → IsNext w s (after w s n c e) n c e → Agreed (after w s n c e)
  lockless_agreed e quiet cause next =
      agreed_quiet s (after w s n c e) next.shape.threads (quiet_locks w s n c e quiet) ((lockless e quiet).held s (after w s n c e) next.held) (quiet_passes w s n c e quiet (cause_pass w s c.0 e quiet cause))
      (λ u m is. waits_back (step_of w s n c e) s (after w s n c e) next.steps (step_away w s n c e (lockless e quiet).away) u m is) ready.agreed

  exit_agreed : (t : ThreadId) (l : LockId) → IsCause w s c.0 (Exit t l) → IsNext w s (after w s n c (Exit t l)) n c (Exit t l) → Agreed (after w s n c (Exit t l))
  unfolding drop_ageing set_duty
  exit_agreed t l acts next =
      given_up w s n c ready (drop_ageing s c.0 (Exit t l)) (after w s n c (Exit t l)) (Exit t l) t l (lock_of s l.0) acts.free (runner_found s c.0 t.0 acts.runs).inside
      (holds_it w s n c ready t.0 (op.Exit l) l acts (gives_exit l)) (drop_agreed s c.0 (Exit t l) ready.agreed) refl refl (λ u m. refl) (λ u m is. is) (drop_passes s c.0 (Exit t l)) refl
      next (step_away w s n c (Exit t l) refl) (record { put = next.held.put }) next.shape.threads (exit_outcome w s n c t l c_in)

  cv_wait_agreed : (t : ThreadId) (k : ChanId) (l : LockId) → IsCause w s c.0 (CvWait t k l) → IsNext w s (after w s n c (CvWait t k l)) n c (CvWait t k l) → Agreed (after w s n c (CvWait t k l))
  unfolding drop_ageing set_duty
  cv_wait_agreed t k l acts next =
      given_up w s n c ready (drop_ageing s c.0 (CvWait t k l)) (after w s n c (CvWait t k l)) (CvWait t k l) t l (lock_of s l.0) acts.free (runner_found s c.0 t.0 acts.runs).inside
      (holds_it w s n c ready t.0 (op.CvWait k l) l acts (gives_wait k l)) (drop_agreed s c.0 (CvWait t k l) ready.agreed) refl refl (λ u m. refl) (λ u m is. is) (drop_passes s c.0 (CvWait t k l)) refl
      next (step_away w s n c (CvWait t k l) refl) (record { put = next.held.put }) next.shape.threads (cv_wait_outcome w s n c t k l c_in)

  found_not_held : (l : LockId) (side : Side) (u : ℕ) → best_waiter s l.0 side ≡ Some u → (table s).holds u l.0 ≡ false
  found_not_held l side u e =
      let found = waiter_found s l.0 side u e in
      let (k, is) = waits_here l side (thread_of s u).place found.stands in
      waiter_not_held w s n c ready u l side k found.inside is

  pass_readers : (l : LockId) → ((best_waiter s l.0 Reader ≡ None) ⊎ ((u v : ℕ) × (best_waiter s l.0 Reader ≡ Some u) × (best_waiter s l.0 Writer ≡ Some v) × (eff_of s u < eff_of s v))) → best_waiter s l.0 Writer ≡ None → best_waiter s l.0 Reader ≡ None
  pass_readers l (inl none) writer = none
  pass_readers l (inr (u, v, reader, some, less)) writer = let bad : Some v ≡ None = sym some ∙ writer in cc

  -- Locks agree after each event.
  pub after_agreed : (e : Event) → IsCause w s c.0 e → IsNext w s (after w s n c e) n c e → Agreed (after w s n c e)
  after_agreed (Enter t l) cause next = owned_taken w s n c ready (after w s n c (Enter t l)) (Enter t l) t l (op.Enter l) cause.0 refl next (step_away w s n c (Enter t l) refl) next.held (enter_locks w s n c t l) (enter_passes w s n c t l)
      (lock_named w s c.0 t.0 (op.Enter l) ready.fits cause.0 l (λ d e. inl e)) cause.1
  after_agreed (Write t l) cause next = owned_taken w s n c ready (after w s n c (Write t l)) (Write t l) t l (op.Write l) cause.0 refl next (step_away w s n c (Write t l) refl) next.held (write_locks w s n c t l) (write_passes w s n c t l)
      (lock_named w s c.0 t.0 (op.Write l) ready.fits cause.0 l (λ d e. inr e)) cause.1
  after_agreed (Read t l) cause next = read_taken w s n c ready (after w s n c (Read t l)) (Read t l) t l cause.0 next (step_away w s n c (Read t l) refl) next.held (read_locks w s n c t l) (read_passes w s n c t l)
      (lock_named w s c.0 t.0 (op.Read l) ready.fits cause.0 l (λ d e. inr e)) (lock_of s l.0) refl (elim cause.1 [ inl a ↦ inl a | inr b ↦ inr (b.0, b.1) ])
  after_agreed (Block t l) cause next = blocked_agreed w s n c ready (after w s n c (Block t l)) t l next (block_locks w s n c t l) (block_passes w s n c t l (free_pass s c.0 cause.1.acts.free))
      (elim cause.2 [ inl a ↦ not_free_owned (lock_of s l.0) a.0 a.1 | inr b ↦ not_free_held (lock_of s l.0) b.0 b.1 ])
  after_agreed (Exit t l) cause next = exit_agreed t l cause next
  after_agreed (CvWait t k l) cause next = cv_wait_agreed t k l cause next
  after_agreed (Unblock l u at) cause next = unblock_agreed w s n c ready c_in l u at cause.0 (waiter_found s l.0 Writer u.0 cause.1).inside next
  after_agreed (Grant l u at) (inl cause) next = grant_agreed w s n c ready c_in l u at (inl cause.0) (waiter_found s l.0 Writer u.0 cause.1).inside (found_not_held l Writer u.0 cause.1) next
  after_agreed (Grant l u at) (inr cause) next = grant_agreed w s n c ready c_in l u at (inr cause.0) (waiter_found s l.0 Reader u.0 cause.1).inside (found_not_held l Reader u.0 cause.1) next
  after_agreed (Passed l) cause next = pass_agreed w s n c ready c_in l cause.0 (pass_readers l cause.1) next
  after_agreed e cause next = lockless_agreed e refl cause next
