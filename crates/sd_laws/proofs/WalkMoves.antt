-- Events that take a walk on, end it, or begin one for another priority, as moves of the lock graph.
use Rattle.std.proofs.Common.{◌≡◌, ◌≢◌, ℕ, ◌<◌, Bool, true, false, ◌&&◌, ◌||◌, length, Option, Some, None, ℤ, refl, sym, ap, ◌∙◌, subst, inl, inr, ◌==◌, arith}
use Rattle.std.specs.Prelude.{int_lt}
use Rattle.std.specs.Ordering.{int_eq}
use Rattle.std.proofs.lemmas.Bool.{cases_Bool, false≢true, or_cases}
use Rattle.std.proofs.lemmas.Bool.Decides.{nat_tests}
use Rattle.std.proofs.lemmas.Int.{ints}
use Rattle.sd_types.specs.declared.numbers.CpuId.{CpuId}
use Rattle.sd_types.specs.declared.numbers.LockId.{LockId}
use Rattle.sd_types.specs.declared.numbers.ThreadId.{ThreadId}
use Rattle.sd_types.specs.declared.events.Denied.{Denied}
use Rattle.sd_types.specs.declared.events.Duty.TheVariants as duty
use Rattle.sd_types.specs.declared.events.Event.TheVariants.{Will, End as WalkEnd, Prio}
use Rattle.sd_types.specs.declared.events.PrioAnswer.{PrioAnswer}
use Rattle.sd_types.specs.declared.events.PrioAnswer.TheVariants.{Changed, Refused}
use Rattle.sd_types.specs.declared.events.Put.{Put}
use Rattle.sd_types.specs.declared.works.Work.{Work}
use Rattle.sd_types.specs.Willed.{changed_number}
use Rattle.sd_machine.specs.Graphs as G
use Rattle.sd_state.proofs.KeyLemmas.{IsPut}
use Rattle.sd_machine.proofs.Moves.{IsSame, IsQuiet, IsEnd, IsRebase, none_some, put_cases}
use Rattle.sd_machine.proofs.WillMove.{IsNext, IsClosed, IsWill}
use Rattle.sd_machine.proofs.WillMove.IsNext.{ends_free, ends_looped, ends_back, goes_anew, goes_same}
use Rattle.sd_state.specs.declared.states.LockState.{LockState}
use Rattle.sd_state.specs.declared.states.LockState.TheVariants.{Free, Owned, ReadHeld, Passing}
use Rattle.sd_state.specs.declared.states.Place.{Place}
use Rattle.sd_state.specs.declared.states.Place.TheVariants.{Running, Queued, RealTime, Waiting, Asleep, Napping, Ended}
use Rattle.sd_state.specs.declared.states.State.{State}
use Rattle.sd_state.specs.States.{thread_of, cpu_of}
use Rattle.sd_machine.specs.Threads.{lock_of, greatest_waiting}
use Rattle.sd_machine.specs.Changes.{set_duty}
use Rattle.sd_machine.specs.Walking.{is_back, next_walk}
use Rattle.sd_machine.specs.LockGraph.{wait_of, owner_of, walk_of, graph}
use Rattle.sd_machine.specs.Events.{dropped_duty, drop_ageing, effect, after}
use Rattle.sd_frames.specs.Causes.{IsCause}
use Rattle.sd_frames.specs.Moves.{step_of}
use Rattle.sd_invariants.proofs.AgreedAfter.{IsReady}
use Rattle.sd_frames.proofs.HoldTable.{numbers_part, numbers_same, looped_part, looped_same, Goes, willed_numbers, willed_looped}
use Rattle.sd_frames.proofs.LockTable.{quiet_locks}
use Rattle.sd_invariants.proofs.Movers.{mover_of, owner_thread}
use Rattle.sd_frames.proofs.PassLemmas.{drop_duties}
use Rattle.sd_invariants.proofs.ScriptLemmas.{step_away}
use Rattle.sd_frames.proofs.Words.{Same}
use Rattle.sd_laws.proofs.Begun.{WalkIs, duty_walk, none_walks, begun, prio_walk, refused_prio_walks, will_duty, end_duty}
use Rattle.sd_laws.proofs.ClassThreads.{after_but}
use Rattle.sd_laws.proofs.Exact.{exact_waiting}
use Rattle.sd_laws.proofs.QuietMoves.{seen_eff, steps}
use Rattle.sd_laws.proofs.Views.{quiet_waits, same_owners, same_willed, its_willed, other_willed, same_eff}
use Rattle.sd_laws.proofs.WalkTable.{cause_walks}
use Rattle.std.proofs.lemmas.Option.{same_Some}

abbrev pub walk : LockId → ThreadId → ℤ → G.Walk
walk l seek key = record { lock = l.0; seek = seek.0; key = key }

int_eq_true : (a b : ℤ) → int_eq a b ≡ true → a ≡ b
int_eq_true a b e = grind (arith, ints)

-- the duty that follows is one of the ways in which a walk goes on
next_is : (g : G.Graph) (l : LockId) (seek : ThreadId) (key : ℤ) (o : ThreadId) (looped : Bool) (place : Place) → g.waits o.0 ≡ wait_of place → g.looped o.0 ≡ looped
    → IsNext g (walk l seek key) o.0 (walk_of (next_walk (duty.Walk l seek key) o looped place))
next_is g l seek key o true (Waiting m side k) waits loop = ends_looped (record { lock = m.0; key = k }) waits loop refl
next_is g l seek key o false (Waiting m side k) waits loop = elim (cases_Bool ((seek.0 == o.0) && int_eq key k)) [
  | inl back ↦ rw back (ends_back (record { lock = m.0; key = k }) waits (grind (arith, nat_tests)) (int_eq_true key k (grind (arith, nat_tests))) refl)
  | inr on ↦ rw on (elim (cases_Bool (int_lt key k)) [
    | inl less ↦ rw less (goes_anew (record { lock = m.0; key = k }) waits (grind (arith, ints)) refl)
    | inr not_less ↦ rw not_less (goes_same (record { lock = m.0; key = k }) waits (grind (arith, ints)) refl)
  ])
]
next_is g l seek key o looped (Running c) waits loop = ends_free waits refl
next_is g l seek key o looped (Queued c k) waits loop = ends_free waits refl
next_is g l seek key o looped (RealTime q k) waits loop = ends_free waits refl
next_is g l seek key o looped (Asleep j k) waits loop = ends_free waits refl
next_is g l seek key o looped (Napping c due) waits loop = ends_free waits refl
next_is g l seek key o looped Ended waits loop = ends_free waits refl

closed_is : (g : G.Graph) (l : LockId) (seek : ThreadId) (key : ℤ) (o : ThreadId) (place : Place) → g.waits o.0 ≡ wait_of place → is_back (duty.Walk l seek key) o place ≡ true → IsClosed g (walk l seek key) o.0
closed_is g l seek key o (Waiting m side k) waits back = (record { lock = m.0; key = k }, waits, grind (arith, nat_tests), int_eq_true key k (grind (arith, nat_tests)))
closed_is g l seek key o place waits back = absurd (false≢true back)

module _ (w : Work) (s : State) (n : ℕ) (c : CpuId) (ready : IsReady w s) where
  -- A walk is taken on.

  will_numbers : (l : LockId) (o : ThreadId) (p : ℕ) (at : Option Put) → o.0 < length s.threads
      → Goes numbers_part s (after w s n c (Will l o p at)) o.0 (changed_number l (greatest_waiting l.0 s.threads) (thread_of s o.0).body.willed.items)
  unfolding after effect drop_ageing set_duty
  will_numbers l o p at here = record { put = (willed_numbers w (drop_ageing s c.0 (Will l o p at)) n c l o at here).put }

  will_looped : (l : LockId) (o : ThreadId) (p : ℕ) (at : Option Put) (seek : ThreadId) (key : ℤ) → (cpu_of s c.0).duty ≡ duty.Walk l seek key → o.0 < length s.threads
      → Goes looped_part s (after w s n c (Will l o p at)) o.0 ((thread_of s o.0).body.looped || is_back (duty.Walk l seek key) o (thread_of s o.0).place)
  unfolding after effect drop_ageing set_duty
  will_looped l o p at seek key is here =
      let same : (cpu_of (drop_ageing s c.0 (Will l o p at)) c.0).duty ≡ duty.Walk l seek key = (drop_duties s c.0 (Will l o p at) (ap (λ d. dropped_duty (Will l o p at) d) is ∙ sym is)).each c.0 ∙ is in
      record {
        put = subst (λ d. IsPut o.0 ((thread_of s o.0).body.looped || is_back d o (thread_of s o.0).place) (λ u. looped_part (thread_of s u)) (λ u. looped_part (thread_of (after w s n c (Will l o p at)) u))) same
            (willed_looped w (drop_ageing s c.0 (Will l o p at)) n c l o at here).put;
      }

  pub will_move : (l : LockId) (o : ThreadId) (p : ℕ) (at : Option Put) (seek : ThreadId) (key : ℤ) → c.0 < length s.cpus → (cpu_of s c.0).duty ≡ duty.Walk l seek key → IsCause w s c.0 (Will l o p at)
      → IsWill (graph s) (graph (after w s n c (Will l o p at))) c.0 (walk l seek key) o.0
  will_move l o p at seek key here is cause = record {
    was = ap walk_of is;
    own = ap owner_of cause.1;
    next = subst (IsNext (graph s) (walk l seek key) o.0) (sym walks.put.at) (next_is (graph s) l seek key o (thread_of s o.0).body.looped (thread_of s o.0).place refl refl);
    walks = walks.put.others;
    exact = subst (G.IsExact (graph s) l.0) (sym (its_willed s r o.0 l (greatest_waiting l.0 s.threads) numbers)) (exact_waiting s l.0);
    willed = other_willed s r o.0 l (greatest_waiting l.0 s.threads) numbers;
    looped = λ t loops. elim (put_cases o.0 _ _ _ looped.put t) [
      | inl me ↦ elim (or_cases (thread_of s o.0).body.looped (is_back (duty.Walk l seek key) o (thread_of s o.0).place) (sym me.1 ∙ loops)) [
        | inl before ↦ inl (ap (graph s).looped me.0 ∙ before)
        | inr back ↦ inr (me.0, closed_is (graph s) l seek key o (thread_of s o.0).place refl back)
      ]
      | inr other ↦ inl (sym other.1 ∙ loops)
    ];
    waits = quiet_waits (step_of w s n c (Will l o p at)) s r (steps w s n c ready (Will l o p at) cause) (step_away w s n c (Will l o p at) refl) (mover_of w s n c (Will l o p at) refl ready.fits ready.agreed cause);
    owner = same_owners s r (quiet_locks w s n c (Will l o p at) refl);
    eff = λ u v other on. same_eff s r u ((after_but w s n c (Will l o p at)).each u (λ e. none_some None u refl e)) (numbers.put.others u other);
  }
    where
      r : State
      r = after w s n c (Will l o p at)

      inside : o.0 < length s.threads
      inside = owner_thread s l o ready.agreed cause.1

      numbers : Goes numbers_part s r o.0 (changed_number l (greatest_waiting l.0 s.threads) (thread_of s o.0).body.willed.items)
      numbers = will_numbers l o p at inside

      looped : Goes looped_part s r o.0 ((thread_of s o.0).body.looped || is_back (duty.Walk l seek key) o (thread_of s o.0).place)
      looped = will_looped l o p at seek key is inside

      walks : WalkIs s r c.0 (walk_of (next_walk (duty.Walk l seek key) o (thread_of s o.0).body.looped (thread_of s o.0).place))
      walks = duty_walk s r c.0 _ (will_duty w s n c l o p at seek key here is)

  -- A walk ends where nobody owns its lock.

  nobody_owns : (x : LockState) → ((o : ThreadId) → x ≢ Owned o) → owner_of x ≡ None
  nobody_owns Free unlike = refl
  nobody_owns (Owned o) unlike = absurd (unlike o refl)
  nobody_owns (ReadHeld m) unlike = refl
  nobody_owns (Passing d k) unlike = refl

  pub end_move : (l : LockId) (seek : ThreadId) (key : ℤ) → c.0 < length s.cpus → (cpu_of s c.0).duty ≡ duty.Walk l seek key → IsCause w s c.0 (WalkEnd l)
      → IsEnd (graph s) (graph (after w s n c (WalkEnd l))) c.0 (walk l seek key)
  end_move l seek key here is cause =
      let r : State = after w s n c (WalkEnd l) in
      let numbers : Same numbers_part s r = numbers_same w s n c (WalkEnd l) refl in
      record {
        was = ap walk_of is;
        free = nobody_owns (lock_of s l.0) cause.1;
        walks = (duty_walk s r c.0 _ (end_duty w s n c l seek key here is)).put;
        waits = quiet_waits (step_of w s n c (WalkEnd l)) s r (steps w s n c ready (WalkEnd l) cause) tt tt;
        owner = same_owners s r (quiet_locks w s n c (WalkEnd l) refl);
        willed = same_willed s r numbers;
        looped = (looped_same w s n c (WalkEnd l) refl).each;
        eff = seen_eff None s r (after_but w s n c (WalkEnd l)) tt numbers;
      }

  -- Another priority: a walk begins where the thread waits.

  pub data IsChanged (r : State) (u : ℕ) : Type 0 where
    waits_on : (v : G.Wait) → IsRebase (graph s) (graph r) c.0 u v → IsChanged r u
    unseen : IsQuiet (graph s) (graph r) → IsChanged r u

  prio_waits : (t u : ThreadId) (answer : PrioAnswer) → IsCause w s c.0 (Prio t u answer) → IsSame (graph s).waits (graph (after w s n c (Prio t u answer))).waits
  prio_waits t u answer cause =
      quiet_waits (step_of w s n c (Prio t u answer)) s (after w s n c (Prio t u answer)) (steps w s n c ready (Prio t u answer) cause) (step_away w s n c (Prio t u answer) refl)
      (mover_of w s n c (Prio t u answer) refl ready.fits ready.agreed cause)

  refused_move : (t u : ThreadId) (denied : Denied) → IsCause w s c.0 (Prio t u (Refused denied)) → IsQuiet (graph s) (graph (after w s n c (Prio t u (Refused denied))))
  refused_move t u denied cause =
      let r : State = after w s n c (Prio t u (Refused denied)) in
      let numbers : Same numbers_part s r = numbers_same w s n c (Prio t u (Refused denied)) refl in
      record {
        waits = prio_waits t u (Refused denied) cause;
        owner = same_owners s r (quiet_locks w s n c (Prio t u (Refused denied)) refl);
        willed = same_willed s r numbers;
        looped = (looped_same w s n c (Prio t u (Refused denied)) refl).each;
        walks = (refused_prio_walks w s n c t u denied).each;
        eff = seen_eff None s r (after_but w s n c (Prio t u (Refused denied))) tt numbers;
      }

  changed_move : (t u : ThreadId) (p : ℕ) (at : Option Put) → c.0 < length s.cpus → IsCause w s c.0 (Prio t u (Changed p at)) → IsChanged (after w s n c (Prio t u (Changed p at))) u.0
  changed_move t u p at here cause = by (wait_of (thread_of s u.0).place) refl
    where
      r : State
      r = after w s n c (Prio t u (Changed p at))

      idle : walk_of (cpu_of s c.0).duty ≡ None
      idle = cause_walks w s c.0 (Prio t u (Changed p at)) refl cause

      numbers : Same numbers_part s r
      numbers = numbers_same w s n c (Prio t u (Changed p at)) refl

      looped : Same looped_part s r
      looped = looped_same w s n c (Prio t u (Changed p at)) refl

      waits : IsSame (graph s).waits (graph r).waits
      waits = prio_waits t u (Changed p at) cause

      walks : WalkIs s r c.0 (begun u (wait_of (thread_of s u.0).place))
      walks = prio_walk w s n c t u u cause.0 p at cause.2.0 cause.1.stands cause.2.1 here idle

      others_eff : (v : ℕ) → v ≢ u.0 → (graph r).eff v ≡ (graph s).eff v
      others_eff v other = same_eff s r v ((after_but w s n c (Prio t u (Changed p at))).each v (λ e. other (sym (same_Some u.0 v e)))) (numbers.each v)

      by : (x : Option G.Wait) → wait_of (thread_of s u.0).place ≡ x → IsChanged r u.0
      by None is = unseen (record {
        waits = waits;
        owner = same_owners s r (quiet_locks w s n c (Prio t u (Changed p at)) refl);
        willed = same_willed s r numbers;
        looped = looped.each;
        walks = (none_walks s r c.0 (subst (λ (x : Option G.Wait). WalkIs s r c.0 (begun u x)) is walks) idle).each;
        eff = λ v x on. others_eff v (λ me. none_some ((graph r).waits v) x (waits v ∙ ap (graph s).waits me ∙ is) on);
      })
      by (Some v) is = waits_on v (record {
        waiting = is;
        idle = idle;
        walks = (subst (λ (x : Option G.Wait). WalkIs s r c.0 (begun u x)) is walks).put;
        waits = waits;
        owner = same_owners s r (quiet_locks w s n c (Prio t u (Changed p at)) refl);
        willed = same_willed s r numbers;
        looped = looped.each;
        eff = λ x y other on. others_eff x other;
      })

  pub prio_move : (t u : ThreadId) (answer : PrioAnswer) → c.0 < length s.cpus → IsCause w s c.0 (Prio t u answer) → IsChanged (after w s n c (Prio t u answer)) u.0
  prio_move t u (Changed p at) here cause = changed_move t u p at here cause
  prio_move t u (Refused denied) here cause = unseen (refused_move t u denied cause)
