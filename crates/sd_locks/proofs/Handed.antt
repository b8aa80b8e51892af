-- A thread that wakes up leaves the locks as they are.
use Rattle.std.proofs.Common.{◌≡◌, ℕ, Bool, true, false, refl}
use Rattle.sd_types.specs.declared.events.Put.{Put}
use Rattle.sd_types.specs.declared.works.Work.{Work}
use Rattle.sd_state.specs.declared.states.State.{State}
use Rattle.sd_machine.specs.Changes.{mark_over, put, runs_below, set_class, set_mark}
use Rattle.sd_machine.specs.Sleeping.{woken}
use Rattle.sd_machine.specs.Threads.{priority_of, runner}

over_locks : (s : State) (c m : ℕ) → (mark_over s c m).locks ≡ s.locks
unfolding mark_over set_mark
over_locks s c m = by (runs_below m (priority_of s (runner s c))) refl
  where
    by : (b : Bool) → runs_below m (priority_of s (runner s c)) ≡ b → (mark_over s c m).locks ≡ s.locks
    by true e = rw e refl
    by false e = rw e refl

pub woken_locks : (w : Work) (s : State) (n u : ℕ) (at : Put) → (woken w s n u at).locks ≡ s.locks
unfolding woken put set_class
woken_locks w s n u at = over_locks _ _ _
