-- A thread that sleeps on a semaphore is woken only by a `semav` that hands it over; so the count of a semaphore, the operations
-- on it that are over, and the threads that sleep on it balance.
use Rattle.std.proofs.Common.{◌≡◌, ◌≢◌, ℕ, ◌+◌, ◌<◌, ◌≤◌, Bool, true, false, List, [], ◌∷◌, length, take, Some, refl, sym, ap, ◌∙◌, subst, inl, inr, arith}
use Rattle.std.specs.Prelude.{◌==◌, count_by, int_lt, ℤ}
use Rattle.std.specs.List.{sum_by}
use Rattle.std.proofs.lemmas.Bool.{false≢true, cases_Bool, cases_lt}
use Rattle.std.proofs.lemmas.Bool.Decides.{nat_tests}
use Rattle.std.proofs.lemmas.List.Sums.{sum_by-cons}
use Rattle.std.proofs.lemmas.Option.{same_Some}
use Rattle.sd_basics.proofs.Numbers.{ones, same_itself}
use Rattle.sd_basics.proofs.Truths.{and_left, same_truth}
use Rattle.sd_types.specs.declared.numbers.ChanId.{ChanId}
use Rattle.sd_types.specs.declared.numbers.CpuId.{CpuId}
use Rattle.sd_types.specs.declared.numbers.Side.TheVariants.{Writer, Reader}
use Rattle.sd_types.specs.declared.numbers.ThreadId.{ThreadId}
use Rattle.sd_types.specs.declared.events.Event.{Event}
use Rattle.sd_types.specs.declared.events.Event.TheVariants.{Napend, Sleep, Wake, Rouse, Unblock, Grant, CvWait, SemaP, SemaWait, SemaVWake, SemaVCount}
use Rattle.sd_types.specs.declared.events.Put.{Put}
use Rattle.sd_types.specs.declared.events.Put.TheVariants.{Cpu, RealTime as OnRealTime}
use Rattle.sd_types.specs.declared.scripts.Op.{Op}
use Rattle.sd_types.specs.declared.scripts.Op.TheVariants as op
use Rattle.sd_types.specs.declared.works.ThreadDecl.{ThreadDecl}
use Rattle.sd_types.specs.declared.works.Work.{Work}
use Rattle.sd_types.specs.Works.{is_chan, is_mutex, is_sema}
use Rattle.sd_state.specs.declared.states.Place.{Place}
use Rattle.sd_state.specs.declared.states.Place.TheVariants.{Asleep}
use Rattle.sd_state.specs.declared.states.State.{State}
use Rattle.sd_state.specs.Operations.{script_of}
use Rattle.sd_state.specs.Opening.{first_thread, opening}
use Rattle.sd_state.specs.States.{thread_of, cpu_of, thread_numbers}
use Rattle.sd_state.proofs.Declared.{opening_each}
use Rattle.sd_machine.specs.Changes.{back_key, place_put}
use Rattle.sd_machine.specs.Events.{after}
use Rattle.sd_machine.specs.Runs.{final, IsReached}
use Rattle.sd_machine.specs.Threads.{thread_id, count_of, best_sleeper, is_asleep, is_asleep_below, is_waiting_at, is_due}
use Rattle.sd_frames.specs.Causes.{IsCause}
use Rattle.sd_invariants.specs.Laws.{woken_by, HoldsWhenReached}
use Rattle.sd_frames.specs.Moves.Step.{Go}
use Rattle.sd_invariants.proofs.AgreedAfter.{IsReady}
use Rattle.sd_frames.proofs.Found.{runner_found, waiter_found, sleeper_found, sleeper_below_found, due_found}
use Rattle.sd_frames.proofs.PlaceTable.{Stepped}
use Rattle.sd_invariants.proofs.Ready.{kept_reached}
use Rattle.sd_invariants.proofs.Works.{op_named}
use Rattle.sd_laws.specs.HistoryLaws.{put_to_sleep, finds_nobody, chan_kind, declared_count, is_taken, is_counted_up, is_sema_p, is_sema_v, ops_done, sleepers_on, SemaphoresBalance, SemaphoreWaitersSleepUntilHanded, SleepersWaitAtZero}
use Rattle.sd_laws.proofs.Balance.{ends_one, grows, in_work, p_blind, v_blind, sums_above, sums_put}
use Rattle.sd_laws.proofs.Carried.{IsCarried, carried_from, met_from, reached_at, split}
use Rattle.sd_laws.proofs.Counts.{zeros_law, count_goes, opening_count, opening_awake, fell_asleep, chan_no_sema}
use Rattle.sd_laws.proofs.Rousing.{RousingChans, rouses_chan, rousing_after, rousing_reached, opening_rousing}
use Rattle.sd_laws.proofs.Runnable.{steps_after}
use Rattle.sd_laws.proofs.Sleepers.{sleeps, found, falls, running_awake, sleeper_kept}

-- Who wakes a thread that sleeps on a semaphore.

-- the event hands semaphore k to thread u
abbrev HandsTo : Event → ChanId → ℕ → Type 0
HandsTo e k u = (t : ThreadId) × (at : Put) × (e ≡ SemaVWake t k (thread_id u) at)

same_chan : (j k : ChanId) → (k.0 == j.0) ≡ true → j ≡ k
same_chan j k test = let same : j.0 ≡ k.0 = grind (arith, nat_tests) in ap (λ i. chan i) same
  where
    chan : ℕ → ChanId
    chan i = record { 0 = i }

no_sema : (w : Work) (j k : ChanId) → is_chan (chan_kind w j.0) ≡ true → is_sema (chan_kind w k.0) ≡ true → j ≡ k → ⊥
no_sema w j k plain sema same = false≢true (sym (chan_no_sema (chan_kind w j.0) plain) ∙ subst (λ (i : ChanId). is_sema (chan_kind w i.0) ≡ true) (sym same) sema)

module _ (w : Work) (s : State) (c : ℕ) (k : ChanId) (sema : is_sema (chan_kind w k.0) ≡ true) where
  -- the sleeper that a search finds on channel j is on k
  found_on : (j : ChanId) (u v : ℕ) (key : ℤ) → best_sleeper s j.0 ≡ Some v → Some v ≡ Some u → (thread_of s u).place ≡ Asleep k key → j ≡ k
  found_on j u v key best is asleep =
      let stands : is_asleep j.0 (thread_of s v).place ≡ true = (sleeper_found s j.0 v best).stands in
      let at : is_asleep j.0 (thread_of s u).place ≡ true = subst (λ x. is_asleep j.0 (thread_of s x).place ≡ true) (same_Some v u is) stands in
      same_chan j k (sym (ap (is_asleep j.0) asleep) ∙ at)

  not_asleep : (test : Place → Bool) (u v : ℕ) (key : ℤ) → test (thread_of s v).place ≡ true → Some v ≡ Some u → (thread_of s u).place ≡ Asleep k key → test (Asleep k key) ≡ true
  not_asleep test u v key stands is asleep = subst (λ p. test p ≡ true) asleep (subst (λ x. test (thread_of s x).place ≡ true) (same_Some v u is) stands)

  pub sema_woken : (e : Event) (u : ℕ) (key : ℤ) → IsCause w s c e → RousingChans w s → (thread_of s u).place ≡ Asleep k key → woken_by e ≡ Some u → HandsTo e k u
  sema_woken (SemaVWake t j v at) u key cause rousing asleep is =
      let chan = found_on j u v.0 key cause.1.best is asleep in
      let thread : v.0 ≡ u = same_Some v.0 u is in
      (t, at, ap (λ (i : ChanId). SemaVWake t i v at) chan ∙ ap (λ x. SemaVWake t k (thread_id x) at) thread)
  sema_woken (Wake t j (Some v)) u key cause rousing asleep is =
      absurd (no_sema w j k (op_named w t.0 (thread_of s t.0).body.op (op.Wake j) cause.0.stands) sema (found_on j u v.0.0 key cause.1.best is asleep))
  sema_woken (Rouse j (Some v)) u key cause rousing asleep is =
      let below : is_asleep_below j.0 cause.0 (Asleep k key) ≡ true = not_asleep (is_asleep_below j.0 cause.0) u v.0.0 key (sleeper_below_found s j.0 cause.0 v.0.0 cause.2.0).stands is asleep in
      absurd (no_sema w j k (rouses_chan w s c j cause.0 rousing cause.1) sema (same_chan j k (and_left (k.0 == j.0) (int_lt key cause.0) below)))
  sema_woken (Napend t at) u key cause rousing asleep is =
      absurd (false≢true (not_asleep (is_due c (cpu_of s c).count) u t.0 key (due_found s c t.0 cause.0).stands is asleep))
  sema_woken (Unblock l v at) u key cause rousing asleep is =
      absurd (false≢true (not_asleep (is_waiting_at l.0 Writer) u v.0 key (waiter_found s l.0 Writer v.0 cause.1).stands is asleep))
  sema_woken (Grant l v at) u key (inl cause) rousing asleep is =
      absurd (false≢true (not_asleep (is_waiting_at l.0 Writer) u v.0 key (waiter_found s l.0 Writer v.0 cause.1).stands is asleep))
  sema_woken (Grant l v at) u key (inr cause) rousing asleep is =
      absurd (false≢true (not_asleep (is_waiting_at l.0 Reader) u v.0 key (waiter_found s l.0 Reader v.0 cause.1).stands is asleep))
  sema_woken _ u key cause rousing asleep is = cc

-- Until it is handed over.

handed_carried : (w : Work) (t : ThreadId) (k : ChanId) (key : ℤ) → is_sema (chan_kind w k.0) ≡ true
    → IsCarried w (λ s. ((thread_of s t.0).place ≡ Asleep k key) × RousingChans w s) (λ e. (u : ThreadId) (at : Put) → e ≢ SemaVWake u k t at)
handed_carried w t k key sema = record {
  step = λ s n c e ready cause unhanded (asleep, rousing).
      let unwoken : woken_by e ≢ Some t.0 = λ wakes. let hands = sema_woken w s c.0 k sema e t.0 key cause rousing asleep wakes in unhanded hands.0 hands.1 hands.2 in
      (sleeper_kept w s n c e t.0 ready cause unwoken (ap sleeps asleep) ∙ asleep, rousing_after w s n c e cause rousing);
}

wait_names : (w : Work) (s : State) (c : ℕ) (e : Event) (t : ThreadId) (k : ChanId) → IsCause w s c e → e ≡ SemaWait t k → is_sema (chan_kind w k.0) ≡ true
wait_names w s c e t k cause is = let here : IsCause w s c (SemaWait t k) = subst (λ x. IsCause w s c x) is cause in op_named w t.0 (thread_of s t.0).body.op (op.SemaP k) here.0.stands

pub handed_law : SemaphoreWaitersSleepUntilHanded
handed_law = λ w es more e t k run waits unhanded.
    let at = split w es more e run in
    let s : State = final w (opening w) es in
    let r : State = after w s e.number e.cpu e.event in
    let key : ℤ = back_key e.number in
    let sema = wait_names w s e.cpu.0 e.event t k at.cause waits in
    let asleep : (thread_of r t.0).place ≡ Asleep k key = falls w s e.number e.cpu e.event t k at.ready at.cause (ap put_to_sleep waits) in
    let rousing : RousingChans w r = rousing_after w s e.number e.cpu e.event at.cause (rousing_reached w (length es) s (reached_at w es at.run)) in
    let stays = handed_carried w t k key sema in
    let holds : State → Type 0 = λ x. ((thread_of x t.0).place ≡ Asleep k key) × RousingChans w x in
    let unserved : Event → Type 0 = λ x. (u : ThreadId) (put : Put) → x ≢ SemaVWake u k t put in (
      subst (λ x. (thread_of x t.0).place ≡ Asleep k key) (sym at.ends) (carried_from w holds unserved stays r _ more at.there (asleep, rousing) at.rest unhanded).0,
      met_from w holds unserved stays (λ x. finds_nobody x ≢ Some k) (λ x c y ready cause at. found w t.0 k key x c y ready cause at.0) r _ more at.there (asleep, rousing) at.rest unhanded,
    )

-- The threads that sleep on a semaphore.

-- an event that puts a thread to sleep on semaphore k, and one that hands it over
abbrev waits_on : ℕ → Event → Bool
waits_on k (SemaWait t j) = j.0 == k
waits_on k _ = false

abbrev hands_on : ℕ → Event → Bool
hands_on k (SemaVWake t j u at) = j.0 == k
hands_on k _ = false

asleep_is : (k : ChanId) (p : Place) → is_asleep k.0 p ≡ true → (key : ℤ) × (p ≡ Asleep k key)
asleep_is k (Asleep j key) is = (key, ap (λ (i : ChanId). Asleep i key) (sym (same_chan k j is)))
asleep_is k p is = cc

is_at : (k : ChanId) (p : Place) (key : ℤ) → p ≡ Asleep k key → is_asleep k.0 p ≡ true
is_at k p key is = ap (is_asleep k.0) is ∙ same_itself k.0

-- what puts a thread to sleep on a semaphore waits for it
waits_there : (w : Work) (s : State) (c : ℕ) (e : Event) (t : ThreadId) (k : ChanId) → is_sema (chan_kind w k.0) ≡ true → IsCause w s c e → put_to_sleep e ≡ Some (t, k) → waits_on k.0 e ≡ true
waits_there w s c (SemaWait u j) t k sema cause is = subst (λ (i : ChanId). (j.0 == i.0) ≡ true) (ap (λ x. x.1) (same_Some (u, j) (t, k) is)) (same_itself j.0)
waits_there w s c (Sleep u j) t k sema cause is = absurd (no_sema w j k (op_named w u.0 (thread_of s u.0).body.op (op.Sleep j) cause.stands) sema (ap (λ x. x.1) (same_Some (u, j) (t, k) is)))
waits_there w s c (CvWait u j l) t k sema cause is =
    absurd (no_sema w j k (and_left _ (is_mutex _) (op_named w u.0 (thread_of s u.0).body.op (op.CvWait j l) cause.stands)) sema (ap (λ x. x.1) (same_Some (u, j) (t, k) is)))
waits_there w s c _ t k sema cause is = cc

module _ (w : Work) (s : State) (n : ℕ) (c : CpuId) (ready : IsReady w s) (rousing : RousingChans w s) (k : ChanId) (sema : is_sema (chan_kind w k.0) ≡ true) where
  abbrev SleepersGo : Event → Type 0
  SleepersGo e = sleepers_on w (after w s n c e) k.0 + ones (hands_on k.0 e) ≡ sleepers_on w s k.0 + ones (waits_on k.0 e)

  same_asleep : (e : Event) → IsCause w s c.0 e → waits_on k.0 e ≡ false → hands_on k.0 e ≡ false → (u : ℕ) → is_asleep k.0 (thread_of (after w s n c e) u).place ≡ is_asleep k.0 (thread_of s u).place
  same_asleep e cause unwaited unhanded u = same_truth (is_asleep k.0 (thread_of (after w s n c e) u).place) (is_asleep k.0 (thread_of s u).place) to from
    where
      to : is_asleep k.0 (thread_of (after w s n c e) u).place ≡ true → is_asleep k.0 (thread_of s u).place ≡ true
      to is =
          let (key, asleep) = asleep_is k (thread_of (after w s n c e) u).place is in
          elim (fell_asleep w s n c e u k key ready cause asleep) [
            | inl before ↦ is_at k (thread_of s u).place key before
            | inr puts ↦ absurd (false≢true (sym unwaited ∙ waits_there w s c.0 e puts.0 k sema cause puts.1))
          ]

      from : is_asleep k.0 (thread_of s u).place ≡ true → is_asleep k.0 (thread_of (after w s n c e) u).place ≡ true
      from is =
          let (key, asleep) = asleep_is k (thread_of s u).place is in
          let unwoken : woken_by e ≢ Some u = λ wakes.
          let hands = sema_woken w s c.0 k sema e u key cause rousing asleep wakes in
          false≢true (sym unhanded ∙ ap (hands_on k.0) hands.2 ∙ same_itself k.0) in
          is_at k (thread_of (after w s n c e) u).place key (sleeper_kept w s n c e u ready cause unwoken (ap sleeps asleep) ∙ asleep)

  same_sleepers : (e : Event) → IsCause w s c.0 e → waits_on k.0 e ≡ false → hands_on k.0 e ≡ false → SleepersGo e
  same_sleepers e cause unwaited unhanded =
      let same : sleepers_on w (after w s n c e) k.0 ≡ sleepers_on w s k.0 =
      sums_above (λ u. ones (is_asleep k.0 (thread_of s u).place)) (λ u. ones (is_asleep k.0 (thread_of (after w s n c e) u).place)) 0 (length w.threads) (λ u past. ap ones (same_asleep e cause unwaited unhanded u)) in
      let a : ones (hands_on k.0 e) ≡ 0 = ap ones unhanded in
      let b : ones (waits_on k.0 e) ≡ 0 = ap ones unwaited in
      omega (arith, same, a, b)

  awake_test : (p : Place) → sleeps p ≡ false → is_asleep k.0 p ≡ false
  awake_test (Asleep j key) awake = cc
  awake_test p awake = refl

  one_waits : (t : ThreadId) (j : ChanId) → IsCause w s c.0 (SemaWait t j) → (j.0 == k.0) ≡ true → SleepersGo (SemaWait t j)
  one_waits t j cause test =
      let r : State = after w s n c (SemaWait t j) in
      let a : Stepped (Go t.0 (Asleep j (back_key n))) s r = steps_after w s n c (SemaWait t j) ready cause in
      let before : ones (is_asleep k.0 (thread_of s t.0).place) ≡ 0 = ap ones (awake_test (thread_of s t.0).place (running_awake c.0 (thread_of s t.0).place (runner_found s c.0 t.0 cause.0.runs).stands)) in
      let now : ones (is_asleep k.0 (thread_of r t.0).place) ≡ 1 = ap ones (ap (is_asleep k.0) a.at ∙ test) in
      let one : ones (is_asleep k.0 (thread_of r t.0).place) ≡ ones (is_asleep k.0 (thread_of s t.0).place) + 1 = omega (arith, before, now) in
      let more : sleepers_on w r k.0 ≡ sleepers_on w s k.0 + 1 =
      sums_put (λ u. ones (is_asleep k.0 (thread_of s u).place)) (λ u. ones (is_asleep k.0 (thread_of r u).place)) t.0 1
      (record { at = one; others = λ u other. ap (λ p. ones (is_asleep k.0 p)) (a.others u other) }) 0 (length w.threads) (omega arith) (let inside : t.0 < length w.threads = in_work w s ready t.0 (runner_found s c.0 t.0 cause.0.runs).inside in omega (arith, inside)) in
      let waits : ones (j.0 == k.0) ≡ 1 = ap ones test in
      omega (arith, more, waits)

  put_awake : (m t : ℕ) (at : Put) → is_asleep k.0 (place_put w m t at) ≡ false
  put_awake m t (Cpu d) = refl
  put_awake m t (OnRealTime d) = refl

  one_handed : (t : ThreadId) (j : ChanId) (v : ThreadId) (at : Put) → IsCause w s c.0 (SemaVWake t j v at) → (j.0 == k.0) ≡ true → SleepersGo (SemaVWake t j v at)
  one_handed t j v at cause test =
      let r : State = after w s n c (SemaVWake t j v at) in
      let a : Stepped (Go v.0 (place_put w n v.0 at)) s r = steps_after w s n c (SemaVWake t j v at) ready cause in
      let slept = sleeper_found s j.0 v.0 cause.1.best in
      let same : j ≡ k = sym (same_chan k j test) in
      let on_k : is_asleep k.0 (thread_of s v.0).place ≡ true = subst (λ (i : ChanId). is_asleep i.0 (thread_of s v.0).place ≡ true) same slept.stands in
      let before : ones (is_asleep k.0 (thread_of s v.0).place) ≡ 1 = ap ones on_k in
      let now : ones (is_asleep k.0 (thread_of r v.0).place) ≡ 0 = ap ones (ap (is_asleep k.0) a.at ∙ put_awake n v.0 at) in
      let one : ones (is_asleep k.0 (thread_of s v.0).place) ≡ ones (is_asleep k.0 (thread_of r v.0).place) + 1 = omega (arith, before, now) in
      let fewer : sleepers_on w s k.0 ≡ sleepers_on w r k.0 + 1 =
      sums_put (λ u. ones (is_asleep k.0 (thread_of r u).place)) (λ u. ones (is_asleep k.0 (thread_of s u).place)) v.0 1
      (record { at = one; others = λ u other. ap (λ p. ones (is_asleep k.0 p)) (sym (a.others u other)) }) 0 (length w.threads) (omega arith) (let inside : v.0 < length w.threads = in_work w s ready v.0 slept.inside in omega (arith, inside)) in
      let hands : ones (j.0 == k.0) ≡ 1 = ap ones test in
      omega (arith, fewer, hands)

  sleepers_go : (e : Event) → IsCause w s c.0 e → SleepersGo e
  sleepers_go (SemaWait t j) cause = elim (cases_Bool (j.0 == k.0)) [
    | inl test ↦ one_waits t j cause test
    | inr other ↦ same_sleepers (SemaWait t j) cause other refl
  ]
  sleepers_go (SemaVWake t j v at) cause = elim (cases_Bool (j.0 == k.0)) [
    | inl test ↦ one_handed t j v at cause test
    | inr other ↦ same_sleepers (SemaVWake t j v at) cause refl other
  ]
  sleepers_go e cause = same_sleepers e cause refl refl

-- The balance.

p_parts : (k : ℕ) (e : Event) → ones (ends_one (is_sema_p k) e) ≡ ones (is_taken k e) + ones (waits_on k e)
p_parts k (SemaP t j) = omega arith
p_parts k (SemaWait t j) = omega arith
p_parts k _ = omega arith

v_parts : (k : ℕ) (e : Event) → ones (ends_one (is_sema_v k) e) ≡ ones (is_counted_up k e) + ones (hands_on k e)
v_parts k (SemaVCount t j m) = omega arith
v_parts k (SemaVWake t j u at) = omega arith
v_parts k _ = omega arith

balance_after : (w : Work) (s : State) (n : ℕ) (c : CpuId) (e : Event) → IsReady w s → IsCause w s c.0 e → RousingChans w s → SemaphoresBalance w s → SemaphoresBalance w (after w s n c e)
balance_after w s n c e ready cause rousing balance = λ k sema.
    let before = balance k sema in
    let counts = count_goes w s n c e k ready cause in
    let ps = grows (is_sema_p k) (p_blind k) w s n c ready e cause in
    let vs = grows (is_sema_v k) (v_blind k) w s n c ready e cause in
    let asleep : sleepers_on w (after w s n c e) k + ones (hands_on k e) ≡ sleepers_on w s k + ones (waits_on k e) = sleepers_go w s n c ready rousing (record { 0 = k }) sema e cause in
    let p = p_parts k e in
    let v = v_parts k e in
    omega (arith, before, counts, ps, vs, asleep, p, v)

-- The initial state.

first_op : (w : Work) (t : ℕ) (d : ThreadDecl) → (first_thread w t d).body.op ≡ 0
unfolding first_thread
first_op w t d = refl

opening_op : (w : Work) (t : ℕ) → (thread_of (opening w) t).body.op ≡ 0
opening_op w t = opening_each w t (λ x. x.body.op ≡ 0) refl (λ d is. first_op w t d)

zeros : (f : ℕ → ℕ) (xs : List ℕ) → ((t : ℕ) → f t ≡ 0) → sum_by f xs ≡ 0
zeros f [] none = refl
zeros f (x ∷ xs) none = let here = none x in let rest = zeros f xs none in let all = sum_by-cons f x xs in omega (arith, here, rest, all)

opening_ops : (test : Op → Bool) (w : Work) → ops_done test w (opening w) ≡ 0
opening_ops test w = zeros (λ t. count_by test (take (thread_of (opening w) t).body.op (script_of w t))) (thread_numbers w) (λ t. ap (λ i. count_by test (take i (script_of w t))) (opening_op w t))

opening_sleepers : (w : Work) (k : ℕ) → sleepers_on w (opening w) k ≡ 0
opening_sleepers w k = zeros (λ u. ones (is_asleep k (thread_of (opening w) u).place)) (thread_numbers w) (λ u. ap ones (awake_at_first (thread_of (opening w) u).place (opening_awake w u)))
  where
    awake_at_first : (p : Place) → sleeps p ≡ false → is_asleep k p ≡ false
    awake_at_first (Asleep j key) awake = cc
    awake_at_first p awake = refl

opening_balance : (w : Work) → SemaphoresBalance w (opening w)
opening_balance w = λ k sema.
    let count = opening_count w k in
    let ps = opening_ops (is_sema_p k) w in
    let vs = opening_ops (is_sema_v k) w in
    let asleep = opening_sleepers w k in
    omega (arith, count, ps, vs, asleep)

-- what is carried from state to state
record IsBalanced (w : Work) (s : State) : Type 0 where
  balance : SemaphoresBalance w s
  rousing : RousingChans w s

balanced : HoldsWhenReached IsBalanced
balanced = kept_reached IsBalanced (record {
  start = λ w. record { balance = opening_balance w; rousing = opening_rousing w };
  step = λ w s n c e ready cause h. record { balance = balance_after w s n c e ready cause h.rousing h.balance; rousing = rousing_after w s n c e cause h.rousing };
})

pub balance_law : HoldsWhenReached SemaphoresBalance
balance_law = λ w n s reached. (balanced w n s reached).balance

-- nobody sleeps on a semaphore whose count is above 0
pub bounded_law : (w : Work) (n : ℕ) (s : State) → IsReached w n s → (k : ℕ) → count_of s k ≤ declared_count w k + ops_done (is_sema_v k) w s
bounded_law w n s reached k =
    let waits = zeros_law w n s reached in
    elim (cases_Bool (is_sema (chan_kind w k))) [
      | inl sema ↦ elim (cases_lt 0 (count_of s k)) [
        | inl some ↦
            let nobody : sleepers_on w s k ≡ 0 = zeros (λ u. ones (is_asleep k (thread_of s u).place)) (thread_numbers w) (λ u. ap ones (awake waits some u)) in
            let balance = balance_law w n s reached k sema in
            omega (arith, nobody, balance)
        | inr none ↦ omega (arith, none)
      ]
      | inr plain ↦ let none = waits.uncounted k plain in omega (arith, none)
    ]
  where
    chan : ℕ → ChanId
    chan i = record { 0 = i }

    awake : SleepersWaitAtZero w s → 0 < count_of s k → (u : ℕ) → is_asleep k (thread_of s u).place ≡ false
    awake waits some u = elim (cases_Bool (is_asleep k (thread_of s u).place)) [
      | inl asleep ↦ let (key, is) = asleep_is (chan k) (thread_of s u).place asleep in let none : count_of s k ≡ 0 = waits.asleep u (chan k) key is in absurd (omega (arith, none, some))
      | inr not ↦ not
    ]
