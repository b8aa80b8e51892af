-- An entry that a processor makes in a state of a run has a line of its own.
use Rattle.std.proofs.Common.{◌≡◌, ℕ, ◌<◌, ◌^◌, Bool, true, ◌&&◌, List, [], ◌∷◌, length, Option, Some, None, refl, sym, subst, arith}
use Rattle.std.specs.Prelude.{IfSome, nat_lt, IsTrue}
use Rattle.std.specs.List.{list_all}
use Rattle.std.proofs.lemmas.Bool.{and_from}
use Rattle.std.proofs.lemmas.Bool.Decides.{nat_tests}
use Rattle.sd_types.specs.declared.numbers.CpuId.{CpuId}
use Rattle.sd_types.specs.declared.numbers.ChanId.{ChanId}
use Rattle.sd_types.specs.declared.numbers.LockId.{LockId}
use Rattle.sd_types.specs.declared.numbers.SetId.{SetId}
use Rattle.sd_types.specs.declared.numbers.ThreadId.{ThreadId}
use Rattle.sd_types.specs.declared.bodies.ThreadBody.{ThreadBody}
use Rattle.sd_types.specs.declared.events.BindAnswer.{BindAnswer}
use Rattle.sd_types.specs.declared.events.BindAnswer.TheVariants as bind
use Rattle.sd_types.specs.declared.events.Event.{Event}
use Rattle.sd_types.specs.declared.events.Event.TheVariants.{Dispatch, Steal, Will, Age, Prio, SemaVCount}
use Rattle.sd_types.specs.declared.events.Entry.{Entry}
use Rattle.sd_types.specs.declared.events.PrioAnswer.{PrioAnswer}
use Rattle.sd_types.specs.declared.events.PrioAnswer.TheVariants.{Changed, Refused}
use Rattle.sd_types.specs.declared.events.Put.{Put}
use Rattle.sd_types.specs.declared.events.Put.TheVariants.{Cpu, RealTime as OnRealTime}
use Rattle.sd_types.specs.declared.works.Work.{Work}
use Rattle.sd_types.specs.Priorities.{base_of, eff_as}
use Rattle.sd_types.specs.Willed.{changed_number, with_number, without_number, with_willed}
use Rattle.sd_types.proofs.PriorityLemmas.{greatest-below}
use Rattle.sd_types.proofs.WilledLemmas.{sound-with, sound-without}
use Rattle.sd_state.specs.declared.states.State.{State}
use Rattle.sd_state.specs.States.{thread_of, eff_of}
use Rattle.sd_machine.specs.Bodies.{aged_class}
use Rattle.sd_machine.specs.Names.{Name, names, OfThread, OfLock, OfChan, OfCpu, OfCpuIf, OfSet, Priority, At, AtIf, Whom, ByPrio, ByBind, Off}
use Rattle.sd_machine.specs.Needs.{IsPut, IsPutIf, IsWoken, IsPrioPut, IsBindPut, CanInherit, Needs}
use Rattle.sd_machine.specs.Prioritising.{new_class}
use Rattle.sd_machine.specs.Shapes.{FitsFully}
use Rattle.sd_machine.specs.Threads.{greatest_waiting}
use Rattle.sd_machine.specs.Walking.{inherited_priority}
use Rattle.sd_machine.specs.Runs.{IsReached, IsStep}
use Rattle.sd_machine.proofs.NameLemmas.{IsThere, AreThere, names_there}
use Rattle.sd_frames.specs.Causes.{IsCause}
use Rattle.sd_invariants.proofs.BaseLemmas.{age_below, new_below}
use Rattle.sd_invariants.proofs.NumberLemmas.{AreFine, fine_eff}
use Rattle.sd_invariants.proofs.FineLemmas.{fine_reached}
use Rattle.sd_invariants.proofs.Ready.{ready_cause, reached_ready, maker_inside}
use Rattle.sd_invariants.proofs.Places.{threads_have_cpus}
use Rattle.sd_invariants.proofs.Range.{needs_reached}
use Rattle.sd_entries.specs.Fitting.{has_cpu, has_thread, has_lock, has_chan, has_set, put_fits, put_fits_if, woken_fits, cpu_fits_if, prio_fits, bind_fits, name_fits, event_fits, entry_fits, is_byte, prio_in_range, event_in_range, hints_in_range, in_range, IsSpelled}
use Rattle.sd_program.proofs.PlanLemmas.{IsTold, tells, reads_rightly}

-- All that an event names is the workload's.

module _ (w : Work) (s : State) (fits : FitsFully w s) where
  thread_ok : (t : ThreadId) → t.0 < length s.threads → has_thread w t ≡ true
  thread_ok t inside = let many = fits.threads in grind (arith, nat_tests)

  lock_ok : (l : LockId) → l.0 < length s.locks → has_lock w l ≡ true
  lock_ok l inside = let many = fits.locks in grind (arith, nat_tests)

  chan_ok : (k : ChanId) → k.0 < length s.counts → has_chan w k ≡ true
  chan_ok k inside = let many = fits.chans in grind (arith, nat_tests)

  cpu_ok : (d : CpuId) → d.0 < length s.cpus → has_cpu w d ≡ true
  cpu_ok d inside = let many = fits.cpus in grind (arith, nat_tests)

  set_ok : (p : SetId) → p.0 < length s.open_cpus → has_set w p ≡ true
  set_ok p inside = let many = fits.sets in grind (arith, nat_tests)

  put_ok : (at : Put) → IsPut s at → put_fits w at ≡ true
  put_ok (Cpu x) inside = cpu_ok x inside
  put_ok (OnRealTime x) inside = cpu_ok x inside

  put_ok_if : (at : Option Put) → IsPutIf s at → put_fits_if w at ≡ true
  put_ok_if None inside = refl
  put_ok_if (Some at) inside = put_ok at inside

  woken_ok : (u : Option (ThreadId × Put)) → IsWoken s u → woken_fits w u ≡ true
  woken_ok None is = refl
  woken_ok (Some u) is = rw (thread_ok u.0 is.thread, put_ok u.1 is.put) refl

  cpu_ok_if : (d : Option CpuId) → IfSome d (λ x. x.0 < length s.cpus) → cpu_fits_if w d ≡ true
  cpu_ok_if None inside = refl
  cpu_ok_if (Some d) inside = cpu_ok d inside

  prio_ok : (a : PrioAnswer) → IsPrioPut s a → prio_fits w a ≡ true
  prio_ok (Changed p at) inside = put_ok_if at inside
  prio_ok (Refused denied) inside = refl

  bind_ok : (a : BindAnswer) → IsBindPut s a → bind_fits w a ≡ true
  bind_ok (bind.Changed at) inside = put_ok_if at inside
  bind_ok bind.EPERM inside = refl
  bind_ok bind.ESRCH inside = refl
  bind_ok bind.EINVAL inside = refl
  bind_ok bind.EBUSY inside = refl

  name_ok : (x : Name) → IsThere s x → name_fits w x ≡ true
  name_ok (OfThread t) is = thread_ok t is
  name_ok (OfLock l) is = lock_ok l is
  name_ok (OfChan k) is = chan_ok k is
  name_ok (OfCpu d) is = cpu_ok d is
  name_ok (OfCpuIf d) is = cpu_ok_if d is
  name_ok (OfSet p) is = set_ok p is
  name_ok (At at) is = put_ok at is
  name_ok (AtIf at) is = put_ok_if at is
  name_ok (Whom u) is = woken_ok u is
  name_ok (ByPrio answer) is = prio_ok answer is
  name_ok (ByBind answer) is = bind_ok answer is
  name_ok (Off d) is = cpu_ok d is
  name_ok (Priority p) is = refl
  name_ok _ is = refl

  names_ok : (xs : List Name) → AreThere s xs → list_all (name_fits w) xs ≡ true
  names_ok [] are = refl
  names_ok (x ∷ xs) are = and_from (name_fits w x) (list_all (name_fits w) xs) (name_ok x are.0) (names_ok xs are.1)

  pub event_ok : (c : CpuId) (e : Event) → Needs w s c e → event_fits w e ≡ true
  unfolding event_fits
  event_ok c e n = names_ok (names e).1 (names_there w s c e n)

-- Its numbers have as many bits as their types.

-- what is one of a list beside others that tell no number
alone : {b : Bool} → b ≡ true → (b && true) ≡ true
alone {b} h = and_from b true h refl

byte_ok : (p : ℕ) → p < 160 → is_byte p ≡ true
byte_ok p less = grind (arith, nat_tests)

-- what the owner of a lock inherits is below 160
inherited_below : (s : State) (l : LockId) (o : ThreadId) → AreFine s → CanInherit s o l (greatest_waiting l.0 s.threads) → inherited_priority s l o.0 < 160
inherited_below s l o fine can = by (greatest_waiting l.0 s.threads) can.below
  where
    b : ThreadBody
    b = (thread_of s o.0).body

    by : (n : Option ℕ) → IfSome n (λ m. m < 160) → eff_as b.class (with_willed (changed_number l n b.willed.items) b) < 160
    by None below = greatest-below (base_of b.class) 160 (without_number l b.willed.items) (fine o.0).base (sound-without b l (without_number l b.willed.items) can.sound refl).below
    by (Some m) below = greatest-below (base_of b.class) 160 (with_number l m b.willed.items) (fine o.0).base (sound-with b l m (with_number l m b.willed.items) can.sound can.held below refl).below

module _ (w : Work) (s : State) (c : CpuId) (fine : AreFine s) where
  prio_byte : (t : ThreadId) (u : ThreadId) (a : PrioAnswer) → IsCause w s c.0 (Prio t u a) → prio_in_range a ≡ true
  prio_byte t u (Refused denied) cause = refl
  prio_byte t u (Changed p at) cause =
      let answered = cause.2 in
      let b = (thread_of s u.0).body in
      subst (λ (p : ℕ). is_byte p ≡ true) (sym answered.2)
      (byte_ok (eff_as (new_class w s u.0 answered.0) b)
      (greatest-below (base_of (new_class w s u.0 answered.0)) 160 b.willed.items (new_below w s t.0 u.0 cause.0 answered.0 answered.1) (fine u.0).sound.below))

  pub numbers_ok : (e : Event) → IsCause w s c.0 e → IsTold w s e → Needs w s c e → event_in_range e ≡ true
  numbers_ok (Dispatch t p) cause told n = alone (subst (λ (p : ℕ). is_byte p ≡ true) (sym told) (byte_ok (eff_of s t.0) (fine_eff (thread_of s t.0) (fine t.0))))
  numbers_ok (Steal v t p) cause told n = alone (subst (λ (p : ℕ). is_byte p ≡ true) (sym told) (byte_ok (eff_of s t.0) (fine_eff (thread_of s t.0) (fine t.0))))
  numbers_ok (Age t p) cause told n =
      let b = (thread_of s t.0).body in
      alone (subst (λ (p : ℕ). is_byte p ≡ true) (sym told)
      (byte_ok (eff_as (aged_class w b.class) b) (greatest-below (base_of (aged_class w b.class)) 160 b.willed.items (age_below w b.class (fine t.0).base) (fine t.0).sound.below)))
  numbers_ok (Will l o p at) cause told n = alone (subst (λ (p : ℕ). is_byte p ≡ true) (sym cause.2) (byte_ok (inherited_priority s l o.0) (inherited_below s l o fine n.2)))
  numbers_ok (Prio t u answer) cause told n = alone (prio_byte t u answer cause)
  numbers_ok (SemaVCount t k m) cause told n = let small = n.2 in let is = cause.2 in let low : nat_lt m (2 ^ 32) ≡ true = grind (arith, nat_tests) in alone low
  numbers_ok e cause told n = refl

pub spelled : (w : Work) (n : ℕ) (s : State) (e : Entry) → IsReached w n s → IsStep w s e → e.number < 2 ^ 64 → IsTrue (hints_in_range e.hints) → IsSpelled w e
unfolding entry_fits in_range
spelled w n s e reached step number hints =
    let ready = reached_ready w n s reached in
    let here = maker_inside w s e.cpu e.hints e.event step in
    let needs = needs_reached w n s e.cpu e.hints e.event reached step in
    let cause = ready_cause w s e.cpu e.hints e.event ready step in
    let cpu : has_cpu w e.cpu ≡ true = grind (arith, nat_tests) in
    let low : nat_lt e.number (2 ^ 64) ≡ true = grind (arith, nat_tests) in
    record {
      fits = rw (
        cpu,
        event_ok w s ready.fits e.cpu e.event needs,
        reads_rightly w s e.cpu e.hints e.event (λ t. (threads_have_cpus w n s reached t).some) step,
      ) refl;
      range = rw (low, numbers_ok w s e.cpu (fine_reached w n s reached) e.event cause (tells w s e.cpu e.hints e.event step) needs, hints) refl;
    }
