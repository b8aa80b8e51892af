-- Who is bound to a processor is dispatched by it, and who is stolen is bound to none.
use Rattle.std.proofs.Common.{is_none}
use Rattle.sd_basics.proofs.Truths.{and_right}
use Rattle.sd_types.specs.declared.events.Event.TheVariants.{Dispatch, Steal}
use Rattle.sd_state.specs.States.{thread_of, is_queued}
use Rattle.sd_frames.proofs.Found.{ready_found, unbound_found}
use Rattle.sd_invariants.proofs.Ready.{ready_cause, reached_ready}
use Rattle.sd_laws.specs.Changes.{BoundAreDispatchedAtHome, StolenAreUnbound}
use Rattle.sd_laws.proofs.All.{known, threads_belong}
use Rattle.sd_laws.proofs.Basics.{none_of}
use Rattle.sd_laws.proofs.Outcomes.{ready_at}
use Rattle.sd_types.proofs.SameLemmas.{same_cpu}

pub dispatched_at_home : BoundAreDispatchedAtHome
dispatched_at_home w n s c hints t p d reached makes bound =
    let cause = ready_cause w s c hints (Dispatch t p) (reached_ready w n s reached) makes in
    let at = ready_at w s (known w n s reached (threads_belong w n s reached)) t.0 c (ready_found s c.0 t.0 cause.1).stands in
    same_cpu d c (at.1 d bound)

pub stolen_unbound : StolenAreUnbound
stolen_unbound w n s c hints v t p reached makes =
    let cause = ready_cause w s c hints (Steal v t p) (reached_ready w n s reached) makes in
    none_of (thread_of s t.0).body.bound (and_right (is_queued v.0 (thread_of s t.0).place) (is_none (thread_of s t.0).body.bound) (unbound_found s v.0 t.0 cause.3).stands)
