-- Of which kinds the changes are that a deed makes; and that a relation is kept by an event which keeps it by each kind of change that
-- the event's deeds make. So a part of threads, locks or processors is left alone by all events that change it by none of their
-- changes: a law says which kinds leave its part alone, and nothing of events.
use Rattle.std.proofs.Common.{◌≡◌, ℕ, Bool, true, false, List, [], ◌∷◌, Option, Some, None, sym, subst}
use Rattle.std.specs.Prelude.{if◌then◌else◌, Result, Ok, Err, is_some, nat_lt, nat_le, ◌==◌, ⊤}
use Rattle.std.specs.List.{list_all}
use Rattle.std.proofs.lemmas.Bool.{and_parts}
use Rattle.sd_types.specs.declared.numbers.CpuId.{CpuId}
use Rattle.sd_types.specs.declared.numbers.LockId.{LockId}
use Rattle.sd_types.specs.declared.numbers.SetId.{SetId}
use Rattle.sd_types.specs.declared.numbers.Side.TheVariants.{Writer}
use Rattle.sd_types.specs.declared.numbers.ThreadId.{ThreadId}
use Rattle.sd_types.specs.declared.classes.ClassParms.{ClassParms}
use Rattle.sd_types.specs.declared.classes.ClassState.{ClassState}
use Rattle.sd_types.specs.declared.events.AssignAnswer.TheVariants as assign
use Rattle.sd_types.specs.declared.events.BindAnswer.TheVariants as bind_answer
use Rattle.sd_types.specs.declared.events.Denied.{Denied}
use Rattle.sd_types.specs.declared.events.Duty.{Duty}
use Rattle.sd_types.specs.declared.events.Duty.TheVariants as duty
use Rattle.sd_types.specs.declared.events.Event.{Event}
use Rattle.sd_types.specs.declared.events.PrioAnswer.TheVariants.{Changed, Refused}
use Rattle.sd_types.specs.declared.events.Put.{Put}
use Rattle.sd_types.specs.declared.numbers.ChanId.{ChanId}
use Rattle.sd_types.specs.declared.scripts.Op.{Op}
use Rattle.sd_types.specs.declared.scripts.Op.TheVariants as op
use Rattle.sd_types.specs.declared.works.Work.{Work}
use Rattle.sd_state.specs.declared.states.Place.{Place}
use Rattle.sd_state.specs.declared.states.Place.TheVariants.{Running, Waiting}
use Rattle.sd_state.specs.declared.states.LockState.{LockState}
use Rattle.sd_state.specs.declared.states.LockState.TheVariants.{Free, Owned, ReadHeld, Passing}
use Rattle.sd_state.specs.declared.states.State.{State}
use Rattle.sd_state.specs.States.{thread_of, cpu_of, with_cpu, eff_of}
use Rattle.sd_state.specs.Operations.{op_of}
use Rattle.sd_machine.specs.Threads.{lock_of, with_lock, with_count, best_waiter, has_waiters}
use Rattle.sd_machine.specs.Changes.{with_place, finish_op, run_tick, set_class, send_back, hold, let_go, set_number, set_looped, set_duty, count_tick, clear_marks, set_mark, set_kernel_mark, mark_over, remark, run_on, leave, put, put_where, close, join, bind, unbind}
use Rattle.sd_machine.specs.Dispatching.{charge, class_counts, preempted, sent_away}
use Rattle.sd_machine.specs.Sleeping.{woken, roused_on, roused}
use Rattle.sd_machine.specs.Locking.{free_or_passed, release_from, unblocked_on, granted_to_writer, granted_to_reader, granted, passed_on, passed}
use Rattle.sd_machine.specs.Requeueing.{reordered_at, reordered}
use Rattle.sd_machine.specs.Walking.{willed}
use Rattle.sd_machine.specs.Prioritising.{walk_from, changed_by, changed_on, aged}
use Rattle.sd_machine.specs.SetChanges.{cleared, called_back, rebound}
use Rattle.sd_machine.specs.Events.{effect}
use Rattle.sd_machine.specs.Deeds.{Deed, CountsTick, RunsTick, CountsClass, ClearsMarks, LooksAgain, ComesHere, GoesTo, GoesBack, GoesAway, WakesUp, WakesIf, PutsThread, EndsOp, TakesLock, ReadsLock, HoldsLock, FreesLock, LetsGo, FreesLast, GrantsLock, PassesLock, BeginsWalk, WalksOn, EndsDuty, OrdersWake, Rouses, Lifts, Reclasses, TakesOne, CountsOne, MovesCpu, JoinsSet, BindsThread, did, deeds}
use Rattle.sd_machine.proofs.DeedLemmas.{all_keep, effect_did}
use Rattle.sd_frames.specs.Altered.{thread_in, written_by}

-- what is written: of a thread its operation, a tick of one, its class, its mark to go to the back, a lock that it holds or gives up,
-- a number, its loop, or where it is, as it comes to a processor, leaves one or is put; of a processor its marks, its duty or a tick;
-- a lock; a count; sets and bindings
pub data Kind : Type 0 where
  Over : Kind
  Ran : Kind
  Classed : Kind
  Back : Kind
  Held : Kind
  Given : Kind
  Numbered : Kind
  Looped : Kind
  Comes : Kind
  Gone : Kind
  Placed : Kind
  Marked : Kind
  Dutied : Kind
  Ticked : Kind
  Locked : Kind
  Counted : Kind
  Closed : Kind
  Joins : Kind
  Bound : Kind

abbrev pub kinds : Deed → List Kind
kinds CountsTick = Ticked ∷ []
kinds (RunsTick t) = Ran ∷ []
kinds (CountsClass t) = Classed ∷ Back ∷ Marked ∷ []
kinds ClearsMarks = Marked ∷ []
kinds LooksAgain = Marked ∷ []
kinds (ComesHere t) = Comes ∷ []
kinds (GoesTo t whither) = Gone ∷ []
kinds (GoesBack t end) = Classed ∷ Gone ∷ []
kinds (GoesAway t d) = Gone ∷ Marked ∷ []
kinds (WakesUp t at) = Classed ∷ Placed ∷ Marked ∷ []
kinds (WakesIf u) = Classed ∷ Placed ∷ Marked ∷ []
kinds (PutsThread t at) = Placed ∷ Marked ∷ []
kinds (EndsOp t) = Over ∷ []
kinds (TakesLock t l) = Locked ∷ []
kinds (ReadsLock l) = Locked ∷ []
kinds (HoldsLock t l) = Held ∷ []
kinds (FreesLock l) = Locked ∷ Dutied ∷ []
kinds (LetsGo t l) = Given ∷ []
kinds (FreesLast l) = Locked ∷ Dutied ∷ []
kinds (GrantsLock l u at) = Locked ∷ Held ∷ Over ∷ Numbered ∷ Classed ∷ Placed ∷ Marked ∷ Dutied ∷ []
kinds (PassesLock l) = Locked ∷ Dutied ∷ []
kinds (BeginsWalk t l) = Dutied ∷ []
kinds (WalksOn l o at) = Numbered ∷ Looped ∷ Dutied ∷ Placed ∷ Marked ∷ []
kinds EndsDuty = Dutied ∷ []
kinds (OrdersWake k) = Dutied ∷ []
kinds (Rouses k u) = Classed ∷ Placed ∷ Marked ∷ Dutied ∷ []
kinds (Lifts t) = Classed ∷ Placed ∷ Marked ∷ Dutied ∷ []
kinds (Reclasses t u answer) = Classed ∷ Placed ∷ Marked ∷ Dutied ∷ []
kinds (TakesOne k) = Counted ∷ []
kinds (CountsOne k) = Counted ∷ []
kinds (MovesCpu d to answer) = Closed ∷ Marked ∷ []
kinds (JoinsSet to) = Joins ∷ []
kinds (BindsThread u d answer) = Bound ∷ Placed ∷ Marked ∷ []

-- any thread
abbrev pub Any : ℕ → Type 0
Any t = ⊤

-- the thread, if there is one, is one of these
abbrev pub Of : (ℕ → Type 0) → Option ℕ → Type 0
Of Theirs None = ⊤
Of Theirs (Some t) = Theirs t

-- the relation is kept by each change of the kind, of one of these threads where it is of a thread
abbrev pub Keeps : Work → (ℕ → Type 0) → (State → State → Type 0) → Kind → Type 0
Keeps w Theirs R Over = (s : State) (t : ℕ) → Theirs t → R s (finish_op w s t)
Keeps w Theirs R Ran = (s : State) (t : ℕ) → Theirs t → R s (run_tick w s t)
Keeps w Theirs R Classed = (s : State) (t : ℕ) → Theirs t → (k : ClassState) → R s (set_class s t k)
Keeps w Theirs R Back = (s : State) (t : ℕ) → Theirs t → R s (send_back s t)
Keeps w Theirs R Held = (s : State) (t : ℕ) → Theirs t → (l : LockId) → R s (hold s t l)
Keeps w Theirs R Given = (s : State) (t : ℕ) → Theirs t → (l : LockId) → R s (let_go s t l)
Keeps w Theirs R Numbered = (s : State) (t : ℕ) → Theirs t → (l : LockId) (o : Option ℕ) → R s (set_number s t l o)
Keeps w Theirs R Looped = (s : State) (t : ℕ) → Theirs t → (b : Bool) → R s (set_looped s t b)
Keeps w Theirs R Comes = (s : State) (t : ℕ) → Theirs t → (c : CpuId) → R s (run_on s t c)
Keeps w Theirs R Gone = (s : State) (c t : ℕ) → Theirs t → (p : Place) → R s (leave s c t p)
Keeps w Theirs R Placed = (s : State) (t : ℕ) → Theirs t → (p : Place) → R s (with_place s t p)
Keeps w Theirs R Marked = (s : State) (c : ℕ) (u k : Bool) → R s (with_cpu s c (record (cpu_of s c) { user = u; kernel = k }))
Keeps w Theirs R Dutied = (s : State) (c : ℕ) (d : Duty) → R s (set_duty s c d)
Keeps w Theirs R Ticked = (s : State) (c : ℕ) → R s (count_tick w s c)
Keeps w Theirs R Locked = (s : State) (l : ℕ) (x : LockState) → R s (with_lock s l x)
Keeps w Theirs R Counted = (s : State) (k n : ℕ) → R s (with_count s k n)
Keeps w Theirs R Closed = (s : State) (d : CpuId) (to : SetId) → R s (close s d to)
Keeps w Theirs R Joins = (s : State) (c : CpuId) (to : SetId) → R s (join s c to)
Keeps w Theirs R Bound = ((s : State) (t : ℕ) → Theirs t → (d : CpuId) → R s (bind s t d)) × ((s : State) (t : ℕ) → Theirs t → (b : CpuId) → R s (unbind s t b))

module _ (w : Work) (Theirs : ℕ → Type 0) {R : State → State → Type 0} (stays : (s : State) → R s s) (joins : (s r q : State) → R s r → R r q → R s q) where
  either : (s r q : State) (b : Bool) → R s r → R s q → R s (if b then r else q)
  either s r q true x y = x
  either s r q false x y = y

  module _ (marks : Keeps w Theirs R Marked) where
    cleared_marks : (s : State) (c : ℕ) → R s (clear_marks s c)
    unfolding clear_marks
    cleared_marks s c = marks s c false false

    mark : (s : State) (c m : ℕ) → R s (set_mark s c m)
    unfolding set_mark
    mark s c m =
        elim (nat_le 100 m) as (λ b. R s (with_cpu s c (if b then record (cpu_of s c) { kernel = true } else record (cpu_of s c) { user = true })))
        [ true ↦ marks s c (cpu_of s c).user true | false ↦ marks s c true (cpu_of s c).kernel ]

    kernel_mark : (s : State) (c : ℕ) → R s (set_kernel_mark s c)
    unfolding set_kernel_mark
    kernel_mark s c = marks s c (cpu_of s c).user true

    over_mark : (s : State) (x m : ℕ) → R s (mark_over s x m)
    unfolding mark_over
    over_mark s x m = either s _ _ _ (mark s x m) (stays s)

    pub again : (s : State) (x : ℕ) → R s (remark s x)
    unfolding remark
    again s x = either s _ _ _ (mark s x _) (stays s)

    cleared_made : (s : State) (d : CpuId) (r : Option ℕ) → R s (cleared s d r)
    cleared_made s d None = stays s
    cleared_made s d (Some r) = kernel_mark s d.0

    pub called_made : (s : State) (d : CpuId) (place : Place) → R s (called_back s d place)
    called_made s d (Running c) = either s _ _ (c.0 == d.0) (stays s) (kernel_mark s c.0)
    called_made s d _ = stays s

    counts_made : Keeps w Theirs R Classed → Keeps w Theirs R Back → (s : State) (c t : ℕ) → Theirs t → R s (class_counts w s c t)
    unfolding charge
    counts_made class back s c t its = joins s _ _ (class s t its _) (either _ _ _ _ (joins _ _ _ (back _ t its) (mark _ c _)) (stays _))

    module _ (places : Keeps w Theirs R Placed) where
      pub put_made : (s : State) (n t : ℕ) → Theirs t → (at : Put) → R s (put w s n t at)
      unfolding put
      put_made s n t its at = joins s _ _ (places s t its _) (over_mark _ _ _)

      pub put_where_made : (s : State) (n t : ℕ) → Theirs t → (at : Option Put) → R s (put_where w s n t at)
      unfolding put_where
      put_where_made s n t its None = stays s
      put_where_made s n t its (Some at) = put_made s n t its at

      reordered_at_made : (s : State) (n t old : ℕ) → Theirs t → (at : Option Put) (place : Place) → R s (reordered_at w s n t old at place)
      reordered_at_made s n t old its at (Running x) = either s _ _ (nat_lt (eff_of s t) old) (again s x.0) (stays s)
      reordered_at_made s n t old its at _ = put_where_made s n t its at

      pub reordered_made : (s : State) (n t old : ℕ) → Theirs t → (at : Option Put) → R s (reordered w s n t old at)
      unfolding reordered
      reordered_made s n t old its at = reordered_at_made s n t old its at (thread_of s t).place

      pub woken_made : Keeps w Theirs R Classed → (s : State) (n t : ℕ) → Theirs t → (at : Put) → R s (woken w s n t at)
      unfolding woken
      woken_made class s n t its at = joins s _ _ (class s t its _) (put_made _ n t its at)

      module _ (duties : Keeps w Theirs R Dutied) where
        willed_made : Keeps w Theirs R Numbered → Keeps w Theirs R Looped → (s : State) (n : ℕ) (c : CpuId) (l : LockId) (o : ThreadId) → Theirs o.0 → (at : Option Put) → R s (willed w s n c l o at)
        unfolding willed
        willed_made number loop s n c l o its at = joins s _ _ (number s o.0 its l _) (joins _ _ _ (loop _ o.0 its _) (joins _ _ _ (duties _ c.0 _) (reordered_made _ n o.0 _ its at)))

        roused_on_made : (s : State) (c : CpuId) (o : Option ℕ) → R s (roused_on s c o)
        roused_on_made s c None = duties s c.0 _
        roused_on_made s c (Some u) = stays s

        module _ (class : Keeps w Theirs R Classed) where
          roused_made : (s : State) (n : ℕ) (c : CpuId) (k : ChanId) (u : Option (ThreadId × Put)) → Of Theirs (thread_in u) → (d : Duty) → R s (roused w s n c k u d)
          unfolding roused
          roused_made s n c k None its d = duties s c.0 _
          roused_made s n c k (Some u) its d = joins s _ _ (woken_made class s n u.0.0 its u.1) (roused_on_made _ c _)

          aged_made : (s : State) (n : ℕ) (c : CpuId) (t : ℕ) → Theirs t → R s (aged w s n c t)
          unfolding aged
          aged_made s n c t its = joins s _ _ (class s t its _) (joins _ _ _ (either _ _ _ (eff_of (set_class s t _) t == eff_of s t) (stays _) (put_made _ n t its _)) (duties _ c.0 _))

          walk_from_made : (s : State) (c : CpuId) (u : ThreadId) (place : Place) → R s (walk_from s c u place)
          walk_from_made s c u (Waiting l side k) = duties s c.0 _
          walk_from_made s c u _ = stays s

          changed_by_made : (s : State) (n : ℕ) (c : CpuId) (u : ThreadId) → Theirs u.0 → (at : Option Put) (a : Result ClassParms Denied) → R s (changed_by w s n c u at a)
          changed_by_made s n c u its at (Err d) = stays s
          changed_by_made s n c u its at (Ok parms) = joins s _ _ (class s u.0 its _) (joins _ _ _ (reordered_made _ n u.0 _ its at) (walk_from_made _ c u _))

          changed_on_made : (s : State) (n : ℕ) (c : CpuId) (t : ℕ) (u : ThreadId) → Theirs u.0 → (at : Option Put) (o : Option Op) → R s (changed_on w s n c t u at o)
          changed_on_made s n c t u its at (Some (op.Prio v r)) = changed_by_made s n c u its at _
          changed_on_made s n c t u its at _ = stays s

          granted_made : Keeps w Theirs R Locked → Keeps w Theirs R Held → Keeps w Theirs R Over → Keeps w Theirs R Numbered → (s : State) (n : ℕ) (c : CpuId) (l : LockId) (u : ℕ) → Theirs u → (at : Put) (d : Duty) → R s (granted w s n c l u at d)
          unfolding granted_to_writer granted_to_reader
          granted_made locks held over number s n c l u its at (duty.GrantWriter j) =
              joins s _ _ (locks s l.0 _) (joins _ _ _ (held _ u its l) (joins _ _ _ (over _ u its) (joins _ _ _ (number _ u its l _) (joins _ _ _ (woken_made class _ n u its at) (duties _ c.0 _)))))
          granted_made locks held over number s n c l u its at _ = joins s _ _ (locks s l.0 _) (joins _ _ _ (held _ u its l) (joins _ _ _ (over _ u its) (woken_made class _ n u its at)))

  module _ (locks : Keeps w Theirs R Locked) (duties : Keeps w Theirs R Dutied) where
    lock_duty : (s : State) (c l : ℕ) (x : LockState) (d : Duty) → R s (set_duty (with_lock s l x) c d)
    lock_duty s c l x d = joins s _ _ (locks s l x) (duties _ c d)

    freed_made : (s : State) (c : CpuId) (l : LockId) (d : Duty) → R s (free_or_passed s c l d)
    freed_made s c l d = either s _ _ (has_waiters s l.0) (lock_duty s c.0 l.0 (Passing c 0) d) (locks s l.0 Free)

    release_made : (s : State) (c : CpuId) (l : LockId) (x : LockState) → R s (release_from w s c l x)
    release_made s c l Free = stays s
    release_made s c l (Owned o) = freed_made s c l _
    release_made s c l (ReadHeld n) = either s _ _ (nat_le n 1) (freed_made s c l _) (locks s l.0 _)
    release_made s c l (Passing d r) = locks s l.0 _

    last_made : (s : State) (c : CpuId) (l : LockId) (b : Bool) → R s (unblocked_on s c l b)
    last_made s c l true = stays s
    last_made s c l false = lock_duty s c.0 l.0 Free _

    passed_on_made : (s : State) (c : CpuId) (l : LockId) (x : LockState) → R s (passed_on s c l x)
    passed_on_made s c l (Passing d r) =
        either s _ _ (nat_lt 0 r) (lock_duty s c.0 l.0 (ReadHeld r) _) (either s _ _ (is_some (best_waiter s l.0 Writer)) (duties s c.0 _) (lock_duty s c.0 l.0 Free _))
    passed_on_made s c l _ = duties s c.0 _

    passed_made : (s : State) (c : CpuId) (l : LockId) → R s (passed s c l)
    unfolding passed
    passed_made s c l = passed_on_made s c l (lock_of s l.0)

  abbrev Each : List Kind → Type 0
  Each [] = ⊤
  Each (k ∷ ks) = Keeps w Theirs R k × Each ks

  deed_by : (n : ℕ) (c : CpuId) (s : State) (d : Deed) → Of Theirs (written_by d) → Each (kinds d) → R s (did w n c s d)
  unfolding preempted sent_away
  deed_by n c s CountsTick its k = k.0 s c.0
  deed_by n c s (RunsTick t) its k = k.0 s t its
  deed_by n c s (CountsClass t) its k = counts_made k.1.1.0 k.0 k.1.0 s c.0 t its
  deed_by n c s ClearsMarks its k = cleared_marks k.0 s c.0
  deed_by n c s LooksAgain its k = again k.0 s c.0
  deed_by n c s (ComesHere t) its k = k.0 s t its c
  deed_by n c s (GoesTo t whither) its k = k.0 s c.0 t its _
  deed_by n c s (GoesBack t end) its k = joins s _ _ (k.0 s t its _) (k.1.0 _ c.0 t its _)
  deed_by n c s (GoesAway t d) its k = joins s _ _ (k.0 s c.0 t its _) (over_mark k.1.0 _ d.0 _)
  deed_by n c s (WakesUp t at) its k = woken_made k.1.1.0 k.1.0 k.0 s n t its at
  deed_by n c s (WakesIf None) its k = stays s
  deed_by n c s (WakesIf (Some u)) its k = woken_made k.1.1.0 k.1.0 k.0 s n u.0.0 its u.1
  deed_by n c s (PutsThread t at) its k = put_made k.1.0 k.0 s n t its at
  deed_by n c s (EndsOp t) its k = k.0 s t its
  deed_by n c s (TakesLock t l) its k = k.0 s l.0 _
  deed_by n c s (ReadsLock l) its k = k.0 s l.0 _
  deed_by n c s (HoldsLock t l) its k = k.0 s t its l
  deed_by n c s (FreesLock l) its k = release_made k.0 k.1.0 s c l (lock_of s l.0)
  deed_by n c s (LetsGo t l) its k = k.0 s t its l
  deed_by n c s (FreesLast l) its k = last_made k.0 k.1.0 s c l _
  deed_by n c s (GrantsLock l u at) its k = granted_made k.1.1.1.1.1.1.0 k.1.1.1.1.1.0 k.1.1.1.1.1.1.1.0 k.1.1.1.1.0 k.0 k.1.0 k.1.1.0 k.1.1.1.0 s n c l u its at (cpu_of s c.0).duty
  deed_by n c s (PassesLock l) its k = passed_made k.0 k.1.0 s c l
  deed_by n c s (BeginsWalk t l) its k = k.0 s c.0 _
  deed_by n c s (WalksOn l o at) its k = willed_made k.1.1.1.1.0 k.1.1.1.0 k.1.1.0 k.0 k.1.0 s n c l o its at
  deed_by n c s EndsDuty its k = k.0 s c.0 _
  deed_by n c s (OrdersWake j) its k = either s _ _ _ (stays s) (k.0 s c.0 _)
  deed_by n c s (Rouses j u) its k = roused_made k.1.1.0 k.1.0 k.1.1.1.0 k.0 s n c j u its (cpu_of s c.0).duty
  deed_by n c s (Lifts t) its k = aged_made k.1.1.0 k.1.0 k.1.1.1.0 k.0 s n c t its
  deed_by n c s (Reclasses t u (Changed p at)) its k = changed_on_made k.1.1.0 k.1.0 k.1.1.1.0 k.0 s n c t u its at (op_of w t (thread_of s t).body)
  deed_by n c s (Reclasses t u (Refused denied)) its k = stays s
  deed_by n c s (TakesOne j) its k = k.0 s j.0 _
  deed_by n c s (CountsOne j) its k = k.0 s j.0 _
  deed_by n c s (MovesCpu d to assign.Changed) its k = joins s _ _ (k.0 s d to) (cleared_made k.1.0 _ d _)
  deed_by n c s (MovesCpu d to _) its k = stays s
  deed_by n c s (JoinsSet to) its k = k.0 s c to
  deed_by n c s (BindsThread u d (bind_answer.Changed at)) its k = joins s _ _ (tied d (thread_of s u).body.bound) (put_where_made k.1.1.0 k.1.0 _ n u its at)
    where
      tied : (d b : Option CpuId) → R s (rebound s u d b)
      tied (Some e) b = joins s _ _ (k.0.0 s u its e) (called_made k.1.1.0 _ e _)
      tied None (Some b) = k.0.1 s u its b
      tied None None = stays s
  deed_by n c s (BindsThread u d _) its k = stays s

  each_keeps : (keeps : (k : Kind) → Keeps w Theirs R k) (ks : List Kind) → Each ks
  each_keeps keeps [] = tt
  each_keeps keeps (k ∷ ks) = (keeps k, each_keeps keeps ks)

  -- of a deed that writes one of these threads, where each change of these threads keeps the relation
  pub deed_theirs : (keeps : (k : Kind) → Keeps w Theirs R k) (n : ℕ) (c : CpuId) (s : State) (d : Deed) → Of Theirs (written_by d) → R s (did w n c s d)
  deed_theirs keeps n c s d its = deed_by n c s d its (each_keeps keeps (kinds d))

of_any : (o : Option ℕ) → Of Any o
of_any None = tt
of_any (Some t) = tt

-- where the relation is kept by the kinds that are as said, whichever thread is written
module _ (w : Work) {R : State → State → Type 0} (stays : (s : State) → R s s) (joins : (s r q : State) → R s r → R r q → R s q) (ok : Kind → Bool) (keeps : (k : Kind) → ok k ≡ true → Keeps w Any R k) where
  each_kept : (ks : List Kind) → list_all ok ks ≡ true → Each w Any stays joins ks
  each_kept [] is = tt
  each_kept (k ∷ ks) is = let both = and_parts (ok k) (list_all ok ks) is in (keeps k both.0, each_kept ks both.1)

  pub deed_made : (n : ℕ) (c : CpuId) (s : State) (d : Deed) → list_all ok (kinds d) ≡ true → R s (did w n c s d)
  deed_made n c s d is = deed_by w Any stays joins n c s d (of_any (written_by d)) (each_kept (kinds d) is)

  pub effect_made : (s : State) (n : ℕ) (c : CpuId) (e : Event) → list_all (λ d. list_all ok (kinds d)) (deeds e) ≡ true → R s (effect w s n c e)
  effect_made s n c e is = subst (λ r. R s r) (sym (effect_did w s n c e)) (all_keep w n c stays joins (λ d. list_all ok (kinds d)) (λ r d made. deed_made n c r d made) s (deeds e) is)
