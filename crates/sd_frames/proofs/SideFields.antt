-- A field of the state that is neither its threads, its processors nor its locks stays through every event that is not about
-- semaphores or sets.
use Rattle.std.proofs.Common.{◌≡◌, ℕ, Bool, true, false, refl}
use Rattle.sd_frames.proofs.FieldWords as W
use Rattle.sd_frames.proofs.Frames as F
use Rattle.sd_frames.proofs.Frames.{KeepsRest, Rest, rest_of}
use Rattle.sd_types.specs.declared.numbers.CpuId.{CpuId}
use Rattle.sd_types.specs.declared.events.Event.{Event}
use Rattle.sd_types.specs.declared.works.Work.{Work}
use Rattle.sd_state.specs.declared.states.CpuState.{CpuState}
use Rattle.sd_state.specs.declared.states.LockState.{LockState}
use Rattle.sd_state.specs.declared.states.ThreadState.{ThreadState}
use Rattle.sd_state.specs.declared.states.State.{State}
use Rattle.sd_state.specs.States.{with_thread, with_cpu}
use Rattle.sd_machine.specs.Threads.{with_lock}
use Rattle.sd_machine.specs.Events.{after}

abbrev writes_side : Rest → Bool
writes_side Rest.counts = true
writes_side Rest.sets = true
writes_side _ = false

-- the event takes from a semaphore or counts it up, or changes the open processors of a set
abbrev pub is_side : Event → Bool
is_side e = writes_side (rest_of e)

module _ {X : Type 0} (field : State → X) (on_thread : (s : State) (t : ℕ) (x : ThreadState) → field (with_thread s t x) ≡ field s) (on_cpu : (s : State) (c : ℕ) (x : CpuState) → field (with_cpu s c x) ≡ field s)
    (on_lock : (s : State) (l : ℕ) (x : LockState) → field (with_lock s l x) ≡ field s) where
  rest : (w : Work) (x : Rest) → writes_side x ≡ false → KeepsRest w (W.Kept field on_thread on_cpu) x
  rest w Rest.locks quiet = record { lock = λ s l x. record { same = on_lock s l x } }
  rest w Rest.counts quiet = cc
  rest w Rest.sets quiet = cc
  rest w x quiet = W.rest field on_thread on_cpu w x refl

  pub after_keeps : (w : Work) (s : State) (n : ℕ) (c : CpuId) (e : Event) → is_side e ≡ false → W.Kept field on_thread on_cpu s (after w s n c e)
  after_keeps w s n c e quiet = F.after_kept w (W.frame field on_thread on_cpu w) s n c e (rest w (rest_of e) quiet)
