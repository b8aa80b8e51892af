-- What a thread that wakes up leaves as it was: the operation at which each thread stands.
use Rattle.std.proofs.Common.{◌≡◌, ℕ, ◌<◌, length, ◌∙◌}
use Rattle.sd_types.specs.declared.events.Put.{Put}
use Rattle.sd_types.specs.declared.works.Work.{Work}
use Rattle.sd_state.specs.declared.states.State.{State}
use Rattle.sd_state.specs.States.{thread_of}
use Rattle.sd_state.specs.Operations.{script_of}
use Rattle.sd_machine.specs.Changes.{set_class}
use Rattle.sd_machine.specs.Sleeping.{woken}
use Rattle.sd_dispatcher.proofs.Kept.{Keeps, class_op, inside, put_op}

-- Operations.

woken_op : (w : Work) (s : State) (n u : ℕ) (at : Put) → Keeps s (woken w s n u at)
unfolding woken
woken_op w s n u at t = put_op w (set_class s u _) n u at t ∙ class_op s u _ t

pub woken_inside : (w : Work) (s : State) (n u t : ℕ) (at : Put) → (thread_of s t).body.op < length (script_of w t)
    → (thread_of (woken w s n u at) t).body.op < length (script_of w t)
woken_inside w s n u t at here = inside w s (woken w s n u at) t (woken_op w s n u at t) here
