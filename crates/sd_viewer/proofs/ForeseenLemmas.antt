-- What is foreseen of a thread is what is seen of it after the event.
use Rattle.std.proofs.Common.{◌≡◌, ℕ, ◌<◌, Bool, true, false, List, length, get_or, Option, Some, None, refl, sym, ap, ◌∙◌, subst, arith}
use Rattle.std.specs.Prelude.{IfSome, if◌then◌else◌, slice_get, slice_set, option_map}
use Rattle.std.proofs.lemmas.List.{get_or-set_same, length-set}
use Rattle.std.proofs.lemmas.Option.{slice_get-get_or, slice_get-map}
use Rattle.sd_types.specs.declared.classes.ClassState.{ClassState}
use Rattle.sd_types.specs.declared.classes.ClassState.TheVariants.{Ts, Fx, Sys, Rt}
use Rattle.sd_types.specs.declared.events.Event.{Event}
use Rattle.sd_types.specs.declared.events.Event.TheVariants.{Block, Unblock}
use Rattle.sd_types.specs.declared.events.Put.{Put}
use Rattle.sd_types.specs.declared.events.Put.TheVariants.{Cpu, RealTime}
use Rattle.sd_types.specs.declared.numbers.CpuId.{CpuId}
use Rattle.sd_types.specs.declared.numbers.LockId.{LockId}
use Rattle.sd_types.specs.declared.numbers.ThreadId.{ThreadId}
use Rattle.sd_types.specs.declared.works.Work.{Work}
use Rattle.sd_state.specs.declared.states.State.{State}
use Rattle.sd_state.specs.declared.states.ThreadState.{ThreadState}
use Rattle.sd_state.specs.States.{no_thread, thread_of}
use Rattle.sd_machine.specs.Bodies.{with_class, woken_class}
use Rattle.sd_machine.specs.Changes.{leave, mark_over, place_put, put, set_class, set_duty, set_mark, with_place}
use Rattle.sd_machine.specs.Events.{after, drop_ageing, effect}
use Rattle.sd_machine.specs.Locking.{blocked, unblocked, unblocked_on}
use Rattle.sd_machine.specs.Sleeping.{woken}
use Rattle.sd_machine.specs.Threads.{has_waiters}
use Rattle.sd_machine.proofs.ShapeLemmas.{after_shape}
use Rattle.sd_frames.specs.Altered.{altered}
use Rattle.sd_stretches.specs.declared.sights.Doing.TheVariants.{Runnable, Waiting}
use Rattle.sd_stretches.specs.declared.sights.Sight.{Sight}
use Rattle.sd_stretches.specs.Altered.{sight_among}
use Rattle.sd_stretches.specs.Sights.{class_of, doing_of, sight_by, sight_of, sights_of}
use Rattle.sd_viewer.specs.Foreseen.{Foresees, woken_sight}

-- A thread that blocks.

blocked_seen : (w : Work) (s : State) (n : ℕ) (c : CpuId) (t : ThreadId) (l : LockId) → t.0 < length s.threads
    → sight_of (thread_of (after w s n c (Block t l)) t.0) ≡ sight_by (thread_of s t.0).body (Waiting l)
unfolding after effect blocked leave set_duty drop_ageing
blocked_seen w s n c t l here = ap sight_of (get_or-set_same s.threads t.0 _ no_thread here)

-- A thread that wakes.

marked_threads : (b : Bool) (s : State) (x m : ℕ) → (if b then set_mark s x m else s).threads ≡ s.threads
unfolding set_mark
marked_threads true s x m = refl
marked_threads false s x m = refl

put_threads : (w : Work) (s : State) (n t : ℕ) (at : Put) → (put w s n t at).threads ≡ slice_set s.threads t (record (thread_of s t) { place = place_put w n t at })
unfolding put mark_over
put_threads w s n t at = marked_threads _ (with_place s t (place_put w n t at)) _ _

put_doing : (w : Work) (n t : ℕ) (at : Put) → doing_of (place_put w n t at) ≡ Runnable
put_doing w n t (Cpu x) = refl
put_doing w n t (RealTime x) = refl

put_seen : (w : Work) (s : State) (n t : ℕ) (at : Put) → t < length s.threads → sight_of (thread_of (put w s n t at) t) ≡ sight_by (thread_of s t).body Runnable
put_seen w s n t at here =
    ap (λ (xs : List ThreadState). sight_of (get_or xs t no_thread)) (put_threads w s n t at)
    ∙ ap sight_of (get_or-set_same s.threads t (record (thread_of s t) { place = place_put w n t at }) no_thread here)
    ∙ ap (sight_by (thread_of s t).body) (put_doing w n t at)

woken_seen : (w : Work) (s : State) (n t : ℕ) (at : Put) → t < length s.threads → sight_of (thread_of (woken w s n t at) t) ≡ woken_sight w (thread_of s t).body
unfolding woken set_class
woken_seen w s n t at here =
    let class = woken_class w (thread_of s t).body.class in
    let many = length-set s.threads t (record (thread_of s t) { body = with_class (thread_of s t).body class }) in
    put_seen w (set_class s t class) n t at (omega (arith, here, many))
    ∙ ap (λ (x : ThreadState). sight_by x.body Runnable) (get_or-set_same s.threads t _ no_thread here)

unblocked_on_threads : (s : State) (c : CpuId) (l : LockId) (b : Bool) → (unblocked_on s c l b).threads ≡ s.threads
unfolding set_duty
unblocked_on_threads s c l true = refl
unblocked_on_threads s c l false = refl

unblocked_seen : (w : Work) (s : State) (n : ℕ) (c : CpuId) (l : LockId) (u : ThreadId) (at : Put) → u.0 < length s.threads
    → sight_of (thread_of (after w s n c (Unblock l u at)) u.0) ≡ woken_sight w (thread_of s u.0).body
unfolding after effect unblocked drop_ageing set_duty
unblocked_seen w s n c l u at here =
    ap (λ (xs : List ThreadState). sight_of (get_or xs u.0 no_thread)) (unblocked_on_threads (woken w (drop_ageing s c.0 (Unblock l u at)) n u.0 at) c l _)
    ∙ woken_seen w (drop_ageing s c.0 (Unblock l u at)) n u.0 at here

-- Either, of the state after the event.

seen_there : (s : State) (t : ℕ) → t < length s.threads → slice_get (sights_of s) t ≡ Some (sight_of (thread_of s t))
unfolding sights_of
seen_there s t here = slice_get-map sight_of s.threads t ∙ ap (option_map sight_of) (slice_get-get_or s.threads t no_thread here)

foreseen_seen : (w : Work) (s : State) (n : ℕ) (c : CpuId) (e : Event) (x : Sight) → Foresees w s e x → sight_among (altered e) (sights_of (after w s n c e)) ≡ Some x
foreseen_seen w s n c (Block t l) x (here, is) =
    seen_there (after w s n c (Block t l)) t.0 (let many = (after_shape w s n c (Block t l)).threads in omega (arith, many, here)) ∙ ap Some (blocked_seen w s n c t l here ∙ sym is)
foreseen_seen w s n c (Unblock l u at) x (here, is) =
    seen_there (after w s n c (Unblock l u at)) u.0 (let many = (after_shape w s n c (Unblock l u at)).threads in omega (arith, many, here)) ∙ ap Some (unblocked_seen w s n c l u at here ∙ sym is)
foreseen_seen w s n c _ x is = absurd is

pub foreseen_after : (w : Work) (s r : State) (n : ℕ) (c : CpuId) (e : Event) (o : Option Sight) → r ≡ after w s n c e → IfSome o (Foresees w s e)
    → IfSome o (λ x. sight_among (altered e) (sights_of r) ≡ Some x)
foreseen_after w s r n c e None made foreseen = foreseen
foreseen_after w s r n c e (Some x) made foreseen = ap (λ (q : State). sight_among (altered e) (sights_of q)) made ∙ foreseen_seen w s n c e x foreseen

-- a wakeup keeps the class
pub woken_class_kept : (w : Work) (k : ClassState) → class_of (woken_class w k) ≡ class_of k
woken_class_kept w (Ts s) = refl
woken_class_kept w (Fx s) = refl
woken_class_kept w (Sys s) = refl
woken_class_kept w (Rt s) = refl
