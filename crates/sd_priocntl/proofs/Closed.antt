-- The operation at which a thread stands is kept where a processor is closing.
use Rattle.std.proofs.Common.{◌≡◌, ℕ, ◌<◌, length, Option, Some, None, refl, ◌∙◌}
use Rattle.sd_types.specs.declared.numbers.CpuId.{CpuId}
use Rattle.sd_types.specs.declared.numbers.SetId.{SetId}
use Rattle.sd_types.specs.declared.works.Work.{Work}
use Rattle.sd_state.specs.declared.states.State.{State}
use Rattle.sd_state.specs.States.{thread_of}
use Rattle.sd_state.specs.Operations.{script_of}
use Rattle.sd_machine.specs.Changes.{close, set_kernel_mark}
use Rattle.sd_machine.specs.SetChanges.{cleared}
use Rattle.sd_dispatcher.proofs.Kept.{inside, same_op}

kernel_threads : (s : State) (d : CpuId) (r : Option ℕ) → (cleared s d r).threads ≡ s.threads
unfolding set_kernel_mark
kernel_threads s d None = refl
kernel_threads s d (Some r) = refl

close_threads : (s : State) (d : CpuId) (to : SetId) → (close s d to).threads ≡ s.threads
unfolding close
close_threads s d to = refl

pub closed_inside : (w : Work) (s : State) (d : CpuId) (to : SetId) (r : Option ℕ) (t : ℕ) → (thread_of s t).body.op < length (script_of w t)
    → (thread_of (cleared (close s d to) d r) t).body.op < length (script_of w t)
closed_inside w s d to r t here =
    inside w s (cleared (close s d to) d r) t (same_op s (cleared (close s d to) d r) t (kernel_threads (close s d to) d r ∙ close_threads s d to)) here
