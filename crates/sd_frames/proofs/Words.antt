-- A part of each thread that an event leaves alone, for any part that does not look at what the event changes.
use Rattle.std.proofs.Common.{ℕ, Bool, true, false, Option, Some, None, refl, ◌∙◌}
use Rattle.sd_machine.proofs.Moves.{IsSame}
use Rattle.sd_types.specs.declared.numbers.CpuId.{CpuId}
use Rattle.sd_types.specs.declared.numbers.ThreadId.{ThreadId}
use Rattle.sd_types.specs.declared.events.Duty.{Duty}
use Rattle.std.specs.Prelude.{if◌then◌else◌, ◌==◌}
use Rattle.sd_state.specs.declared.states.Place.{Place}
use Rattle.sd_state.specs.declared.states.Place.TheVariants.{Running, Waiting}
use Rattle.sd_state.specs.declared.states.LockState.{LockState}
use Rattle.sd_state.specs.declared.states.ThreadState.{ThreadState}
use Rattle.sd_state.specs.declared.states.State.{State}
use Rattle.sd_state.specs.States.{thread_of}
use Rattle.sd_machine.specs.Threads.{with_lock}
use Rattle.sd_machine.specs.Changes.{set_duty, clear_marks, set_mark, set_kernel_mark, mark_over, remark}
use Rattle.sd_machine.specs.Sleeping.{roused_on}
use Rattle.sd_machine.specs.Prioritising.{walk_from}
use Rattle.sd_machine.specs.SetChanges.{called_back}

-- the part of each thread
abbrev pub of_threads : {X : Type 0} → (ThreadState → X) → State → ℕ → X
of_threads part s u = part (thread_of s u)

module _ {X : Type 0} (part : ThreadState → X) where
  -- the part of each thread is as it was
  pub record Same (s r : State) : Type 0 where
    pub each : IsSame (of_threads part s) (of_threads part r)

  pub all_same : (s : State) → Same s s
  all_same s = record { each = λ u. refl }

  pub then_same : (s r q : State) → Same s r → Same r q → Same s q
  then_same s r q a b = record { each = λ u. b.each u ∙ a.each u }

  either_same : (s r q : State) (b : Bool) → Same s r → Same s q → Same s (if b then r else q)
  either_same s r q true a b = a
  either_same s r q false a b = b

  pub lock_same : (s : State) (l : ℕ) (x : LockState) → Same s (with_lock s l x)
  lock_same s l x = record { each = λ u. refl }

  -- Words that change no thread.

  pub set_duty_same : (s : State) (c : ℕ) (duty : Duty) → Same s (set_duty s c duty)
  unfolding set_duty
  set_duty_same s c duty = record { each = λ u. refl }

  pub clear_marks_same : (s : State) (c : ℕ) → Same s (clear_marks s c)
  unfolding clear_marks
  clear_marks_same s c = record { each = λ u. refl }

  pub set_mark_same : (s : State) (c : ℕ) (m : ℕ) → Same s (set_mark s c m)
  unfolding set_mark
  set_mark_same s c m = record { each = λ u. refl }

  pub set_kernel_mark_same : (s : State) (c : ℕ) → Same s (set_kernel_mark s c)
  unfolding set_kernel_mark
  set_kernel_mark_same s c = record { each = λ u. refl }

  pub mark_over_same : (s : State) (x : ℕ) (m : ℕ) → Same s (mark_over s x m)
  unfolding mark_over
  mark_over_same s x m = either_same s _ _ _ (set_mark_same s x m) (all_same s)

  pub remark_same : (s : State) (x : ℕ) → Same s (remark s x)
  unfolding remark
  remark_same s x = either_same s _ _ _ (set_mark_same s x _) (all_same s)

  pub called_back_same : (s : State) (d : CpuId) (place : Place) → Same s (called_back s d place)
  called_back_same s d (Running c) = either_same s _ _ (c.0 == d.0) (all_same s) (set_kernel_mark_same s c.0)
  called_back_same s d _ = all_same s

  pub walk_from_same : (s : State) (c : CpuId) (u : ThreadId) (place : Place) → Same s (walk_from s c u place)
  walk_from_same s c u (Waiting l side k) = set_duty_same s c.0 _
  walk_from_same s c u _ = all_same s

  pub roused_on_same : (s : State) (c : CpuId) (o : Option ℕ) → Same s (roused_on s c o)
  roused_on_same s c None = set_duty_same s c.0 _
  roused_on_same s c (Some u) = all_same s
