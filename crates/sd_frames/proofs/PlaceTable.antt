-- Where each event moves a thread.
use Rattle.std.proofs.Common.{◌≡◌, ℕ, ◌+◌, ◌<◌, Bool, true, false, List, [], ◌∷◌, length, Option, Some, None, refl, ◌∙◌, sym, ap, subst, arith}
use Rattle.std.specs.Prelude.{⊤}
use Rattle.std.proofs.lemmas.List.{length-set}
use Rattle.sd_types.specs.declared.scripts.Request.{Request}
use Rattle.sd_types.specs.declared.events.Put.TheVariants.{Cpu}
use Rattle.sd_types.specs.Priorities.{eff, eff_as}
use Rattle.sd_state.proofs.KeyLemmas.{IsPut}
use Rattle.sd_machine.proofs.Moves.{IsSame}
use Rattle.sd_frames.specs.Causes.{IsCause, IsAnswered}
use Rattle.sd_frames.specs.Moves.{Step, put_step, put_step_if, woken_step, reordered_step, aged_step, prio_step, bind_step, Stride, Comes, Goes, Rises, Changes, moves, stride_of, step_by, step_of}
use Rattle.sd_frames.specs.Moves.Step.{Stay, Go}
use Rattle.sd_frames.proofs.Found.{age_found}
use Rattle.sd_frames.proofs.Parts.{same_item, put_item, put_same, same_put}
use Rattle.sd_frames.proofs.Words.{of_threads}
use Rattle.sd_types.specs.declared.numbers.ChanId.{ChanId}
use Rattle.sd_types.specs.declared.numbers.CpuId.{CpuId}
use Rattle.sd_types.specs.declared.numbers.LockId.{LockId}
use Rattle.sd_types.specs.declared.numbers.ThreadId.{ThreadId}
use Rattle.sd_types.specs.declared.bodies.ThreadBody.{ThreadBody}
use Rattle.sd_types.specs.declared.classes.ClassParms.{ClassParms}
use Rattle.sd_types.specs.declared.classes.ClassState.{ClassState}
use Rattle.sd_types.specs.declared.events.BindAnswer.{BindAnswer}
use Rattle.sd_types.specs.declared.events.BindAnswer.TheVariants as bind_answer
use Rattle.sd_types.specs.declared.events.Duty.{Duty}
use Rattle.sd_types.specs.declared.events.Duty.TheVariants as duty
use Rattle.sd_types.specs.declared.events.End.{End}
use Rattle.sd_types.specs.declared.events.Event.{Event}
use Rattle.sd_types.specs.declared.events.Event.TheVariants.{Tick, Nap, Age, Prio}
use Rattle.sd_types.specs.declared.events.PrioAnswer.{PrioAnswer}
use Rattle.sd_types.specs.declared.events.PrioAnswer.TheVariants.{Changed, Refused}
use Rattle.sd_types.specs.declared.events.Put.{Put}
use Rattle.sd_types.specs.declared.scripts.Op.TheVariants as op
use Rattle.sd_types.specs.declared.works.Work.{Work}
use Rattle.std.specs.Prelude.{if◌then◌else◌, Ok, is_none, nat_lt, ◌==◌, ◌&&◌}
use Rattle.sd_state.specs.declared.states.Place.{Place}
use Rattle.sd_state.specs.declared.states.Place.TheVariants.{Running, Queued, Waiting, Napping}
use Rattle.sd_state.specs.declared.states.LockState.{LockState}
use Rattle.sd_state.specs.declared.states.LockState.TheVariants.{Owned}
use Rattle.sd_state.specs.declared.states.CpuState.{CpuState}
use Rattle.sd_state.specs.declared.states.ThreadState.{ThreadState}
use Rattle.sd_state.specs.declared.states.State.{State}
use Rattle.sd_state.specs.States.{no_thread, no_cpu, thread_of, cpu_of, with_thread, eff_of}
use Rattle.sd_state.specs.Operations.{op_of}
use Rattle.sd_machine.specs.Threads.{thread_id, lock_of, with_lock}
use Rattle.sd_machine.specs.Bodies.{with_class, aged_class, departed}
use Rattle.sd_machine.specs.Changes.{back_key, key_at, with_body, with_place, finish_op, set_class, hold, set_number, set_looped, set_duty, set_mark, set_kernel_mark, mark_over, remark, run_on, leave, queue_place, place_put, put, put_where, bind, unbind}
use Rattle.sd_machine.specs.Dispatching.{preempted, sent_away}
use Rattle.sd_machine.specs.Sleeping.{woken, nap_ticks, roused_on, roused}
use Rattle.sd_machine.specs.Locking.{others_waiting, one_reader_more, granted_to_writer, granted_to_reader, granted}
use Rattle.sd_machine.specs.Requeueing.{reordered_at, reordered}
use Rattle.sd_machine.specs.Walking.{walked, willed}
use Rattle.sd_machine.specs.Prioritising.{answer_to, new_class, walk_from, changed_by, changed_on, lifted, aged}
use Rattle.sd_machine.specs.SetChanges.{called_back, rebound}
use Rattle.sd_machine.specs.Events.{dropped_duty, drop_ageing, effect, after}
use Rattle.std.specs.List.{list_all}
use Rattle.std.proofs.lemmas.Bool.{and_parts}
use Rattle.sd_machine.specs.Deeds.{Deed, ComesHere, GoesTo, GoesBack, GoesAway, WakesUp, WakesIf, PutsThread, Rouses, GrantsLock, WalksOn, Lifts, Reclasses, BindsThread, ToSleep, reclassed, bound_to, woken_if, did, all_did, deeds, or_first, first}
use Rattle.sd_machine.proofs.DeedLemmas.{all_keep, effect_did}
use Rattle.sd_machine.proofs.ShapeLemmas.{deed_shape}
use Rattle.sd_frames.proofs.Made.{Kind, kinds}
use Rattle.sd_frames.proofs.ThreadParts.{Leaves, ran_left, deed_same}

abbrev pub place_part : ThreadState → Place
place_part x = x.place

-- the places after a step
abbrev pub Stepped : Step → State → State → Type 0
Stepped Stay s r = IsSame (of_threads place_part s) (of_threads place_part r)
Stepped (Go t place) s r = IsPut t place (of_threads place_part s) (of_threads place_part r)

-- the thread that moves is there
abbrev pub IsMoverThere : State → Step → Type 0
IsMoverThere s Stay = ⊤
IsMoverThere s (Go t place) = t < length s.threads

-- No place changes.

pub record Still (s r : State) : Type 0 where
  pub places : IsSame (of_threads place_part s) (of_threads place_part r)
  pub many : length r.threads ≡ length s.threads

all_still : (s : State) → Still s s
all_still s = record { places = λ u. refl; many = refl }

then_still : (s r q : State) → Still s r → Still r q → Still s q
then_still s r q a b = record { places = λ u. b.places u ∙ a.places u; many = b.many ∙ a.many }

either_still : (s r q : State) (b : Bool) → Still s r → Still s q → Still s (if b then r else q)
either_still s r q true a b = a
either_still s r q false a b = b

body_still : (s : State) (t : ℕ) (b : ThreadBody) → Still s (with_body s t b)
body_still s t b = record { places = same_item place_part s.threads no_thread t (record (thread_of s t) { body = b }) refl; many = length-set s.threads t (record (thread_of s t) { body = b }) }

lock_still : (s : State) (l : ℕ) (x : LockState) → Still s (with_lock s l x)
lock_still s l x = record { places = λ u. refl; many = refl }

finish_op_still : (w : Work) (s : State) (t : ℕ) → Still s (finish_op w s t)
unfolding finish_op
finish_op_still w s t = body_still s t _

set_class_still : (s : State) (t : ℕ) (class : ClassState) → Still s (set_class s t class)
unfolding set_class
set_class_still s t class = body_still s t _

hold_still : (s : State) (t : ℕ) (l : LockId) → Still s (hold s t l)
unfolding hold
hold_still s t l = body_still s t _

set_number_still : (s : State) (t : ℕ) (l : LockId) (number : Option ℕ) → Still s (set_number s t l number)
unfolding set_number
set_number_still s t l number = body_still s t _

set_looped_still : (s : State) (t : ℕ) (looped : Bool) → Still s (set_looped s t looped)
unfolding set_looped
set_looped_still s t looped = body_still s t _

set_duty_still : (s : State) (c : ℕ) (duty : Duty) → Still s (set_duty s c duty)
unfolding set_duty
set_duty_still s c duty = record { places = λ u. refl; many = refl }

set_mark_still : (s : State) (c : ℕ) (m : ℕ) → Still s (set_mark s c m)
unfolding set_mark
set_mark_still s c m = record { places = λ u. refl; many = refl }

set_kernel_mark_still : (s : State) (c : ℕ) → Still s (set_kernel_mark s c)
unfolding set_kernel_mark
set_kernel_mark_still s c = record { places = λ u. refl; many = refl }

bind_still : (s : State) (t : ℕ) (d : CpuId) → Still s (bind s t d)
unfolding bind
bind_still s t d = then_still s _ _ (body_still s t _) (record { places = λ u. refl; many = refl })

unbind_still : (s : State) (t : ℕ) (b : CpuId) → Still s (unbind s t b)
unfolding unbind
unbind_still s t b = then_still s _ _ (body_still s t _) (record { places = λ u. refl; many = refl })

mark_over_still : (s : State) (x : ℕ) (m : ℕ) → Still s (mark_over s x m)
unfolding mark_over
mark_over_still s x m = either_still s _ _ _ (set_mark_still s x m) (all_still s)

remark_still : (s : State) (x : ℕ) → Still s (remark s x)
unfolding remark
remark_still s x = either_still s _ _ _ (set_mark_still s x _) (all_still s)

roused_on_still : (s : State) (c : CpuId) (o : Option ℕ) → Still s (roused_on s c o)
roused_on_still s c None = set_duty_still s c.0 _
roused_on_still s c (Some u) = all_still s

walk_from_still : (s : State) (c : CpuId) (u : ThreadId) (place : Place) → Still s (walk_from s c u place)
walk_from_still s c u (Waiting l side k) = set_duty_still s c.0 _
walk_from_still s c u _ = all_still s

called_back_still : (s : State) (d : CpuId) (place : Place) → Still s (called_back s d place)
called_back_still s d (Running c) = either_still s _ _ (c.0 == d.0) (all_still s) (set_kernel_mark_still s c.0)
called_back_still s d _ = all_still s

rebound_still : (s : State) (u : ℕ) (d b : Option CpuId) → Still s (rebound s u d b)
rebound_still s u (Some d) b = then_still s _ _ (bind_still s u d) (called_back_still _ d _)
rebound_still s u None (Some b) = unbind_still s u b
rebound_still s u None None = all_still s

-- One thread goes to a place.

pub record Moved (s r : State) (t : ℕ) (place : Place) : Type 0 where
  pub places : IsPut t place (of_threads place_part s) (of_threads place_part r)

moved_still : (s r q : State) (t : ℕ) (place : Place) → Moved s r t place → Still r q → Moved s q t place
moved_still s r q t place a b = record { places = put_same t place a.places b.places }

still_moved : (s r q : State) (t : ℕ) (place : Place) → Still s r → Moved r q t place → Moved s q t place
still_moved s r q t place a b = record { places = same_put t place a.places b.places }

thread_moved : (s : State) (t : ℕ) (x : ThreadState) → t < length s.threads → Moved s (with_thread s t x) t x.place
thread_moved s t x here = record { places = put_item place_part s.threads no_thread t x here }

run_on_moved : (s : State) (t : ℕ) (c : CpuId) → t < length s.threads → Moved s (run_on s t c) t (Running c)
unfolding run_on
run_on_moved s t c here = thread_moved s t _ here

leave_moved : (s : State) (c : ℕ) (t : ℕ) (place : Place) → t < length s.threads → Moved s (leave s c t place) t (place)
unfolding leave
leave_moved s c t place here = moved_still s (with_thread s t (record { body = departed (cpu_of s c).count (thread_of s t).body; place = place })) _ t place (thread_moved s t _ here) (record { places = λ u. refl; many = refl })

put_moved : (w : Work) (s : State) (n : ℕ) (t : ℕ) (at : Put) → t < length s.threads → Moved s (put w s n t at) t (place_put w n t at)
unfolding put
put_moved w s n t at here = moved_still s (with_place s t (place_put w n t at)) _ t _ (thread_moved s t _ here) (mark_over_still _ _ _)

-- the thread is there after a change that leaves the places
after_still : (s r : State) (t : ℕ) → Still s r → t < length s.threads → t < length r.threads
after_still s r t a here = omega (arith, a.many)

preempted_moved : (w : Work) (s : State) (n : ℕ) (c : CpuId) (t : ℕ) (end : End) → t < length s.threads → Moved s (preempted w s n c t end) t (queue_place w t c (key_at n end) (thread_of s t).body)
unfolding preempted
preempted_moved w s n c t end here = still_moved s (set_class s t _) _ t _ (set_class_still s t _) (leave_moved _ c.0 t _ (after_still s _ t (set_class_still s t _) here))

sent_away_moved : (s : State) (n : ℕ) (c : CpuId) (t : ℕ) (d : CpuId) → t < length s.threads → Moved s (sent_away s n c t d) t (Queued d (back_key n))
unfolding sent_away
sent_away_moved s n c t d here = moved_still s (leave s c.0 t (Queued d (back_key n))) _ t _ (leave_moved s c.0 t _ here) (mark_over_still _ d.0 _)

woken_moved : (w : Work) (s : State) (n : ℕ) (t : ℕ) (at : Put) → t < length s.threads → Moved s (woken w s n t at) t (place_put w n t at)
unfolding woken
woken_moved w s n t at here = still_moved s (set_class s t _) _ t _ (set_class_still s t _) (put_moved w _ n t at (after_still s _ t (set_class_still s t _) here))

granted_to_writer_moved : (w : Work) (s : State) (n : ℕ) (c : CpuId) (l : LockId) (u : ℕ) (at : Put) → u < length s.threads → Moved s (granted_to_writer w s n c l u at) u (place_put w n u at)
unfolding granted_to_writer
granted_to_writer_moved w s n c l u at here =
    let before : Still s (set_number (finish_op w (hold (with_lock s l.0 (Owned (thread_id u))) u l) u) u l (others_waiting s l u)) =
    then_still s _ _ (lock_still s l.0 (Owned (thread_id u))) (then_still _ _ _ (hold_still _ u l) (then_still _ _ _ (finish_op_still w _ u) (set_number_still _ u l (others_waiting s l u)))) in
    moved_still s (woken w (set_number (finish_op w (hold (with_lock s l.0 (Owned (thread_id u))) u l) u) u l (others_waiting s l u)) n u at) _ u _
    (still_moved s _ _ u _ before (woken_moved w _ n u at (after_still s _ u before here))) (set_duty_still _ c.0 _)

granted_to_reader_moved : (w : Work) (s : State) (n : ℕ) (l : LockId) (u : ℕ) (at : Put) → u < length s.threads → Moved s (granted_to_reader w s n l u at) u (place_put w n u at)
unfolding granted_to_reader
granted_to_reader_moved w s n l u at here =
    let before : Still s (finish_op w (hold (with_lock s l.0 (one_reader_more (lock_of s l.0))) u l) u) =
    then_still s _ _ (lock_still s l.0 (one_reader_more (lock_of s l.0))) (then_still _ _ _ (hold_still _ u l) (finish_op_still w _ u)) in
    still_moved s _ _ u _ before (woken_moved w _ n u at (after_still s _ u before here))

-- Each event.

stays : (s r : State) → Still s r → Stepped Stay s r
stays s r a = a.places

goes : (s r : State) (t : ℕ) (place : Place) → Moved s r t place → Stepped (Go t place) s r
goes s r t place a = a.places

stepped_still : (step : Step) (s r q : State) → Stepped step s r → Still r q → Stepped step s q
stepped_still Stay s r q a b = λ u. b.places u ∙ a u
stepped_still (Go t place) s r q a b = put_same t place a b.places

still_stepped : (step : Step) (s r q : State) → Still s r → Stepped step r q → Stepped step s q
still_stepped Stay s r q a b = λ u. b u ∙ a.places u
still_stepped (Go t place) s r q a b = same_put t place a.places b

roused_stepped : (w : Work) (s : State) (n : ℕ) (c : CpuId) (k : ChanId) (u : Option (ThreadId × Put)) (d : Duty) → IsMoverThere s (woken_step w n u) → Stepped (woken_step w n u) s (roused w s n c k u d)
unfolding roused
roused_stepped w s n c k None d here = stays s _ (set_duty_still s c.0 _)
roused_stepped w s n c k (Some u) d here = goes s _ u.0.0 _ (moved_still s (woken w s n u.0.0 u.1) _ u.0.0 _ (woken_moved w s n u.0.0 u.1 here) (roused_on_still _ c _))

put_where_stepped : (w : Work) (s : State) (n t : ℕ) (at : Option Put) → IsMoverThere s (put_step_if w n t at) → Stepped (put_step_if w n t at) s (put_where w s n t at)
unfolding put_where
put_where_stepped w s n t None here = stays s _ (all_still s)
put_where_stepped w s n t (Some at) here = goes s _ t _ (put_moved w s n t at here)

reordered_at_stepped : (w : Work) (s : State) (n t old : ℕ) (at : Option Put) (place : Place) → IsMoverThere s (reordered_step w n t at place) → Stepped (reordered_step w n t at place) s (reordered_at w s n t old at place)
reordered_at_stepped w s n t old at (Running x) here = stays s _ (either_still s _ _ (nat_lt (eff_of s t) old) (remark_still s x.0) (all_still s))
reordered_at_stepped w s n t old at _ here = put_where_stepped w s n t at here

mover_there : (s r : State) (step : Step) → Still s r → IsMoverThere s step → IsMoverThere r step
mover_there s r Stay a here = tt
mover_there s r (Go t place) a here = after_still s r t a here

reordered_stepped : (w : Work) (s : State) (n t old : ℕ) (at : Option Put) → IsMoverThere s (reordered_step w n t at (thread_of s t).place) → Stepped (reordered_step w n t at (thread_of s t).place) s (reordered w s n t old at)
unfolding reordered
reordered_stepped w s n t old at here = reordered_at_stepped w s n t old at (thread_of s t).place here

-- what is reordered after changes that leave all places
later_reordered : (w : Work) (s r : State) (n t old : ℕ) (at : Option Put) → Still s r → IsMoverThere s (reordered_step w n t at (thread_of s t).place)
    → Stepped (reordered_step w n t at (thread_of s t).place) s (reordered w r n t old at)
later_reordered w s r n t old at a here =
    let same : (thread_of r t).place ≡ (thread_of s t).place = a.places t in
    still_stepped (reordered_step w n t at (thread_of s t).place) s r _ a
    (subst (λ p. IsMoverThere r (reordered_step w n t at p) → Stepped (reordered_step w n t at p) r (reordered w r n t old at)) same
    (reordered_stepped w r n t old at) (mover_there s r (reordered_step w n t at (thread_of s t).place) a here))

willed_stepped : (w : Work) (s : State) (n : ℕ) (c : CpuId) (l : LockId) (o : ThreadId) (at : Option Put) → IsMoverThere s (reordered_step w n o.0 at (thread_of s o.0).place)
    → Stepped (reordered_step w n o.0 at (thread_of s o.0).place) s (willed w s n c l o at)
unfolding willed
willed_stepped w s n c l o at here =
    later_reordered w s (walked s c l o) n o.0 (eff_of s o.0) at
    (then_still s _ _ (set_number_still s o.0 l _) (then_still _ _ _ (set_looped_still _ o.0 _) (set_duty_still _ c.0 _))) here

changed_by_stepped : (w : Work) (s : State) (n : ℕ) (c : CpuId) (u : ThreadId) (at : Option Put) (parms : ClassParms) → IsMoverThere s (reordered_step w n u.0 at (thread_of s u.0).place)
    → Stepped (reordered_step w n u.0 at (thread_of s u.0).place) s (changed_by w s n c u at (Ok parms))
changed_by_stepped w s n c u at parms here =
    stepped_still (reordered_step w n u.0 at (thread_of s u.0).place) s (reordered w (set_class s u.0 (new_class w s u.0 parms)) n u.0 (eff_of s u.0) at) _
    (later_reordered w s (set_class s u.0 (new_class w s u.0 parms)) n u.0 (eff_of s u.0) at (set_class_still s u.0 _) here)
    (walk_from_still _ c u _)

-- the effective priority in the class state that was set
pub new_eff : (w : Work) (s : State) (t : ℕ) → t < length s.threads → eff_of (set_class s t (aged_class w (thread_of s t).body.class)) t ≡ eff_as (aged_class w (thread_of s t).body.class) (thread_of s t).body
unfolding set_class
new_eff w s t here = (put_item (λ x. eff x.body) s.threads no_thread t (record (thread_of s t) { body = with_class (thread_of s t).body (aged_class w (thread_of s t).body.class) }) here).at

aged_stepped : (w : Work) (s : State) (n : ℕ) (c : CpuId) (t : ℕ) → t < length s.threads → Stepped (aged_step w s n c t) s (aged w s n c t)
unfolding aged
aged_stepped w s n c t here =
    let before = set_class_still s t (aged_class w (thread_of s t).body.class) in
    stepped_still (aged_step w s n c t) s (lifted w (set_class s t (aged_class w (thread_of s t).body.class)) n c t (eff_of s t)) _
    (still_stepped (aged_step w s n c t) s (set_class s t (aged_class w (thread_of s t).body.class)) _ before
    (subst (λ e. Stepped (if e == eff_of s t then Stay else Go t (Queued c (back_key n))) (set_class s t (aged_class w (thread_of s t).body.class)) (lifted w (set_class s t (aged_class w (thread_of s t).body.class)) n c t (eff_of s t)))
    (new_eff w s t here)
    (by (set_class s t (aged_class w (thread_of s t).body.class)) (after_still s _ t before here) (eff_of (set_class s t (aged_class w (thread_of s t).body.class)) t == eff_of s t))))
    (set_duty_still _ c.0 _)
  where
    by : (r : State) → t < length r.threads → (b : Bool) → Stepped (if b then Stay else Go t (Queued c (back_key n))) r (if b then r else put w r n t (Cpu c))
    by r there true = stays r r (all_still r)
    by r there false = goes r _ t _ (put_moved w r n t (Cpu c) there)

granted_stepped : (w : Work) (s : State) (n : ℕ) (c : CpuId) (l : LockId) (u : ℕ) (at : Put) (d : Duty) → u < length s.threads → Stepped (put_step w n u at) s (granted w s n c l u at d)
granted_stepped w s n c l u at (duty.GrantWriter m) here = goes s _ u _ (granted_to_writer_moved w s n c l u at here)
granted_stepped w s n c l u at _ here = goes s _ u _ (granted_to_reader_moved w s n l u at here)

-- what a step asks beside the mover
abbrev pub StepNeeds : Work → State → Event → Type 0
StepNeeds w s (Age t p) = t.0 < length s.threads
StepNeeds w s (Prio t u answer) =
    (r : Request) × (op_of w t.0 (thread_of s t.0).body ≡ Some (op.Prio u r))
    × ((p : ℕ) (at : Option Put) → answer ≡ Changed p at → (parms : ClassParms) × (answer_to w s t.0 u.0 r ≡ Ok parms))
StepNeeds w s e = ⊤

answer_ok : (w : Work) (s : State) (c t : ℕ) (u : ThreadId) (r : Request) (answer : PrioAnswer) → IsAnswered w s c t u.0 r answer → (p : ℕ) (at : Option Put) → answer ≡ Changed p at → (parms : ClassParms) × (answer_to w s t u.0 r ≡ Ok parms)
answer_ok w s c t u r (Changed q here) is p at e = (is.0, is.1)
answer_ok w s c t u r (Refused d) is p at e = cc

-- the same of what moves it
abbrev NeedsIf : Work → State → Option Stride → Type 0
NeedsIf w s (Some (Rises t)) = t < length s.threads
NeedsIf w s (Some (Changes t u answer)) =
    (r : Request) × (op_of w t (thread_of s t).body ≡ Some (op.Prio u r))
    × ((p : ℕ) (at : Option Put) → answer ≡ Changed p at → (parms : ClassParms) × (answer_to w s t u.0 r ≡ Ok parms))
NeedsIf w s _ = ⊤

needs_stride : (w : Work) (s : State) (e : Event) → StepNeeds w s e → NeedsIf w s (stride_of e)
needs_stride w s (Age t p) needs = needs
needs_stride w s (Prio t u answer) needs = needs
needs_stride w s _ needs = tt

-- the kinds of changes that leave places
abbrev leaves_place : Kind → Bool
leaves_place Kind.Comes = false
leaves_place Kind.Gone = false
leaves_place Kind.Placed = false
leaves_place _ = true

place_left : (k : Kind) → leaves_place k ≡ true → Leaves place_part k
place_left Kind.Comes is = cc
place_left Kind.Gone is = cc
place_left Kind.Placed is = cc
place_left Kind.Ran is = ran_left place_part (λ x ops. refl) (λ x n. refl)
place_left _ is = λ x y. refl

-- a deed that moves no thread changes no place
quiet_kinds : (d : Deed) → moves d ≡ None → list_all leaves_place (kinds d) ≡ true
quiet_kinds (ComesHere t) none = cc
quiet_kinds (GoesTo t whither) none = cc
quiet_kinds (GoesBack t end) none = cc
quiet_kinds (GoesAway t d) none = cc
quiet_kinds (WakesUp t at) none = cc
quiet_kinds (WakesIf u) none = cc
quiet_kinds (PutsThread t at) none = cc
quiet_kinds (Rouses k u) none = cc
quiet_kinds (GrantsLock l u at) none = cc
quiet_kinds (WalksOn l o at) none = cc
quiet_kinds (Lifts t) none = cc
quiet_kinds (Reclasses t u answer) none = cc
quiet_kinds (BindsThread u d answer) none = cc
quiet_kinds _ none = refl

deed_still : (w : Work) (n : ℕ) (c : CpuId) (s : State) (d : Deed) → moves d ≡ None → Still s (did w n c s d)
deed_still w n c s d none = record {
  places = (deed_same place_part leaves_place place_left w n c s d (quiet_kinds d none)).each;
  many = (deed_shape w n c s d).threads;
}

reclassed_stepped : (w : Work) (s : State) (n : ℕ) (c : CpuId) (t : ℕ) (u : ThreadId) (answer : PrioAnswer) → NeedsIf w s (Some (Changes t u answer)) → IsMoverThere s (prio_step w s n u answer) → Stepped (prio_step w s n u answer) s (reclassed w s n c t u answer)
reclassed_stepped w s n c t u (Changed p at) needs here =
    let (parms, is) = needs.2 p at refl in
    subst (λ o. Stepped (reordered_step w n u.0 at (thread_of s u.0).place) s (changed_on w s n c t u at o)) (sym needs.1)
    (subst (λ a. Stepped (reordered_step w n u.0 at (thread_of s u.0).place) s (changed_by w s n c u at a)) (sym is) (changed_by_stepped w s n c u at parms here))
reclassed_stepped w s n c t u (Refused denied) needs here = stays s s (all_still s)

bound_stepped : (w : Work) (s : State) (n u : ℕ) (d : Option CpuId) (answer : BindAnswer) → IsMoverThere s (bind_step w n u answer) → Stepped (bind_step w n u answer) s (bound_to w s n u d answer)
bound_stepped w s n u d (bind_answer.Changed at) here =
    let before = rebound_still s u d (thread_of s u).body.bound in
    still_stepped (put_step_if w n u at) s _ _ before (put_where_stepped w _ n u at (mover_there s _ (put_step_if w n u at) before here))
bound_stepped w s n u d bind_answer.ESRCH here = stays s s (all_still s)
bound_stepped w s n u d bind_answer.EINVAL here = stays s s (all_still s)
bound_stepped w s n u d bind_answer.EPERM here = stays s s (all_still s)
bound_stepped w s n u d bind_answer.EBUSY here = stays s s (all_still s)

woken_if_stepped : (w : Work) (s : State) (n : ℕ) (u : Option (ThreadId × Put)) → IsMoverThere s (woken_step w n u) → Stepped (woken_step w n u) s (woken_if w s n u)
woken_if_stepped w s n None here = stays s s (all_still s)
woken_if_stepped w s n (Some u) here = goes s _ u.0.0 _ (woken_moved w s n u.0.0 u.1 here)

module _ (w : Work) (n : ℕ) (c : CpuId) where
  deed_steps : (s : State) (d : Deed) → NeedsIf w s (moves d) → IsMoverThere s (step_by w s n c (moves d)) → Stepped (step_by w s n c (moves d)) s (did w n c s d)
  deed_steps s (ComesHere t) needs here = goes s _ t _ (run_on_moved s t c here)
  deed_steps s (GoesTo t whither) needs here = goes s _ t _ (leave_moved s c.0 t _ here)
  deed_steps s (GoesBack t end) needs here = goes s _ t _ (preempted_moved w s n c t end here)
  deed_steps s (GoesAway t d) needs here = goes s _ t _ (sent_away_moved s n c t d here)
  deed_steps s (WakesUp t at) needs here = goes s _ t _ (woken_moved w s n t at here)
  deed_steps s (WakesIf u) needs here = woken_if_stepped w s n u here
  deed_steps s (PutsThread t at) needs here = goes s _ t _ (put_moved w s n t at here)
  deed_steps s (Rouses k u) needs here = roused_stepped w s n c k u (cpu_of s c.0).duty here
  deed_steps s (GrantsLock l u at) needs here = granted_stepped w s n c l u at (cpu_of s c.0).duty here
  deed_steps s (WalksOn l o at) needs here = willed_stepped w s n c l o at here
  deed_steps s (Lifts t) needs here = aged_stepped w s n c t needs
  deed_steps s (Reclasses t u answer) needs here = reclassed_stepped w s n c t u answer needs here
  deed_steps s (BindsThread u d answer) needs here = bound_stepped w s n u d answer here
  deed_steps s d needs here = stays s _ (deed_still w n c s d refl)

  -- the deed that moves a thread comes first, or looks at nothing that those before it may change
  abbrev is_fixed : Option Stride → Bool
  is_fixed None = true
  is_fixed (Some (Comes t)) = true
  is_fixed (Some (Goes t (ToSleep k))) = true
  is_fixed _ = false

  abbrev is_prompt : List Deed → Bool
  is_prompt [] = true
  is_prompt (d ∷ ds) = if is_none (moves d) then is_fixed (first moves ds) && is_prompt ds else list_all (λ x. is_none (moves x)) ds

  fixed_step : (s r : State) (o : Option Stride) → is_fixed o ≡ true → NeedsIf w r o × (step_by w r n c o ≡ step_by w s n c o)
  fixed_step s r None is = (tt, refl)
  fixed_step s r (Some (Comes t)) is = (tt, refl)
  fixed_step s r (Some (Goes t (ToSleep k))) is = (tt, refl)
  fixed_step s r _ is = cc

  none_moves : (o : Option Stride) → is_none o ≡ true → o ≡ None
  none_moves None is = refl
  none_moves (Some x) is = cc

  all_still_deeds : (s : State) (ds : List Deed) → list_all (λ x. is_none (moves x)) ds ≡ true → Still s (all_did w n c s ds)
  all_still_deeds s ds quiet = all_keep w n c all_still then_still (λ x. is_none (moves x)) (λ r d is. deed_still w n c r d (none_moves (moves d) is)) s ds quiet

  deeds_step : (s : State) (ds : List Deed) → is_prompt ds ≡ true → NeedsIf w s (first moves ds) → IsMoverThere s (step_by w s n c (first moves ds)) → Stepped (step_by w s n c (first moves ds)) s (all_did w n c s ds)
  deeds_step s [] prompt needs here = λ u. refl
  deeds_step s (d ∷ ds) prompt needs here = by (deeds_step (did w n c s d) ds) (moves d) refl prompt needs here
    where
      by : (is_prompt ds ≡ true → NeedsIf w (did w n c s d) (first moves ds) → IsMoverThere (did w n c s d) (step_by w (did w n c s d) n c (first moves ds)) → Stepped (step_by w (did w n c s d) n c (first moves ds)) (did w n c s d) (all_did w n c (did w n c s d) ds))
          → (o : Option Stride) → moves d ≡ o → (if is_none o then is_fixed (first moves ds) && is_prompt ds else list_all (λ x. is_none (moves x)) ds) ≡ true → NeedsIf w s (or_first o (first moves ds))
          → IsMoverThere s (step_by w s n c (or_first o (first moves ds))) → Stepped (step_by w s n c (or_first o (first moves ds))) s (all_did w n c (did w n c s d) ds)
      by later None none prompt needs here =
          let both = and_parts (is_fixed (first moves ds)) (is_prompt ds) prompt in
          let still = deed_still w n c s d none in
          let fixed = fixed_step s (did w n c s d) (first moves ds) both.0 in
          still_stepped (step_by w s n c (first moves ds)) s (did w n c s d) _ still
          (subst (λ step. IsMoverThere (did w n c s d) step → Stepped step (did w n c s d) (all_did w n c (did w n c s d) ds)) fixed.1
          (later both.1 fixed.0) (mover_there s (did w n c s d) (step_by w s n c (first moves ds)) still here))
      by later (Some x) some prompt needs here =
          stepped_still (step_by w s n c (Some x)) s (did w n c s d) _
          (subst (λ o. NeedsIf w s o → IsMoverThere s (step_by w s n c o) → Stepped (step_by w s n c o) s (did w n c s d)) some (deed_steps s d) needs here)
          (all_still_deeds (did w n c s d) ds prompt)

prompt_event : (n : ℕ) (c : CpuId) (w : Work) (e : Event) → is_prompt w n c (deeds e) ≡ true
prompt_event n c w (Tick t) = refl
prompt_event n c w _ = refl

effect_steps : (w : Work) (s : State) (n : ℕ) (c : CpuId) (e : Event) → StepNeeds w s e → IsMoverThere s (step_of w s n c e) → Stepped (step_of w s n c e) s (effect w s n c e)
effect_steps w s n c e needs here = subst (λ r. Stepped (step_of w s n c e) s r) (sym (effect_did w s n c e)) (deeds_step w n c s (deeds e) (prompt_event n c w e) (needs_stride w s e needs) here)

pub step_needs : (w : Work) (s : State) (c : ℕ) (e : Event) → IsCause w s c e → StepNeeds w s e
step_needs w s c (Age t p) cause = (age_found s c (cause.0).0 t.0 cause.2).inside
step_needs w s c (Prio t u answer) cause = (cause.0, cause.1.stands, answer_ok w s c t.0 u cause.0 answer cause.2)
step_needs w s c _ cause = tt

-- a dropped ageing changes no step
duty_count : (s : State) (c : ℕ) (d : Duty) → (cpu_of (set_duty s c d) c).count ≡ (cpu_of s c).count
unfolding set_duty
duty_count s c d = same_item (λ (x : CpuState). x.count) s.cpus no_cpu c (record (cpu_of s c) { duty = d }) refl c

step_kept : (w : Work) (s : State) (n : ℕ) (c : CpuId) (e : Event) → step_of w (drop_ageing s c.0 e) n c e ≡ step_of w s n c e
unfolding drop_ageing set_duty
step_kept w s n c (Nap t) = ap (λ m. Go t.0 (Napping c (m + nap_ticks (op_of w t.0 (thread_of s t.0).body)))) (duty_count s c.0 (dropped_duty (Nap t) (cpu_of s c.0).duty))
step_kept w s n c _ = refl

needs_kept : (w : Work) (s : State) (c : CpuId) (e : Event) → StepNeeds w s e → StepNeeds w (drop_ageing s c.0 e) e
unfolding drop_ageing set_duty
needs_kept w s c (Age t p) needs = needs
needs_kept w s c (Prio t u answer) needs = needs
needs_kept w s c _ needs = tt

drop_still : (s : State) (c : ℕ) (e : Event) → Still s (drop_ageing s c e)
unfolding drop_ageing
drop_still s c e = set_duty_still s c _

-- where each event moves a thread
pub after_steps : (w : Work) (s : State) (n : ℕ) (c : CpuId) (e : Event) → StepNeeds w s e → IsMoverThere s (step_of w s n c e) → Stepped (step_of w s n c e) s (after w s n c e)
unfolding after
after_steps w s n c e needs here =
    still_stepped (step_of w s n c e) s (drop_ageing s c.0 e) _ (drop_still s c.0 e)
    (subst (λ step. IsMoverThere (drop_ageing s c.0 e) step → Stepped step (drop_ageing s c.0 e) (effect w (drop_ageing s c.0 e) n c e)) (step_kept w s n c e)
    (effect_steps w (drop_ageing s c.0 e) n c e (needs_kept w s c e needs)) (mover_there s _ (step_of w s n c e) (drop_still s c.0 e) here))
