-- The state after an entry, of states whose keys have the same order: they have it again, whatever number the entry has in
-- each.
use Rattle.std.proofs.Common.{◌≡◌, ℕ, ◌+◌, ◌-◌, ◌<◌, Bool, true, false, ◌||◌, List, [], ◌∷◌, length, ℤ, Option, Some, None, Result, Ok, Err, refl, sym, ap, ◌∙◌, subst}
use Rattle.std.specs.Prelude.{if◌then◌else◌, ⊤, is_none, not, ◌&&◌}
use Rattle.std.specs.List.{list_all}
use Rattle.std.proofs.lemmas.Bool.{and_parts}
use Rattle.sd_types.specs.declared.numbers.ChanId.{ChanId}
use Rattle.sd_types.specs.declared.numbers.CpuId.{CpuId}
use Rattle.sd_types.specs.declared.numbers.LockId.{LockId}
use Rattle.sd_types.specs.declared.numbers.Side.{Side}
use Rattle.sd_types.specs.declared.numbers.ThreadId.{ThreadId}
use Rattle.sd_types.specs.declared.bodies.ThreadBody.{ThreadBody}
use Rattle.sd_types.specs.declared.classes.ClassParms.{ClassParms}
use Rattle.sd_types.specs.declared.classes.ClassState.{ClassState}
use Rattle.sd_types.specs.declared.events.Denied.{Denied}
use Rattle.sd_types.specs.declared.events.AssignAnswer.TheVariants as assign
use Rattle.sd_types.specs.declared.events.BindAnswer.TheVariants as bind_answer
use Rattle.sd_types.specs.declared.events.End.TheVariants as end
use Rattle.sd_types.specs.declared.events.Duty.{Duty}
use Rattle.sd_types.specs.declared.events.Duty.TheVariants as duty
use Rattle.sd_types.specs.declared.events.Event.{Event}
use Rattle.sd_types.specs.declared.events.Event.TheVariants.{Block, Prio}
use Rattle.sd_types.specs.declared.events.PrioAnswer.{PrioAnswer}
use Rattle.sd_types.specs.declared.events.PrioAnswer.TheVariants.{Changed, Refused}
use Rattle.sd_types.specs.declared.events.Put.{Put}
use Rattle.sd_types.specs.declared.scripts.Op.{Op}
use Rattle.sd_types.specs.declared.scripts.Op.TheVariants as op
use Rattle.sd_types.specs.declared.scripts.Request.{Request}
use Rattle.sd_types.specs.declared.works.Work.{Work}
use Rattle.sd_rules.specs.Priocntl.{entered, judged}
use Rattle.sd_state.specs.declared.states.Place.{Place}
use Rattle.sd_state.specs.declared.states.Place.TheVariants.{Running, Waiting}
use Rattle.sd_state.specs.declared.states.LockState.TheVariants.{Owned}
use Rattle.sd_state.specs.declared.states.State.{State}
use Rattle.sd_state.specs.States.{cpu_of, thread_of, eff_of}
use Rattle.sd_state.specs.Operations.{op_of}
use Rattle.sd_machine.specs.Bodies.{parms_of}
use Rattle.sd_machine.specs.Changes.{back_key, close, leave, put_where, set_class, set_duty, set_looped, set_number}
use Rattle.sd_machine.specs.Events.{after, drop_ageing, dropped_duty, effect, keeps_ageing}
use Rattle.sd_machine.specs.Needs.{IsUnmoved, Needs}
use Rattle.sd_machine.specs.Prioritising.{answer_to, changed_by, changed_on, changed_to, is_privileged, new_class, reprioritised, target_of, uid_of, walk_from}
use Rattle.sd_machine.specs.Requeueing.{reordered, reordered_at}
use Rattle.sd_machine.specs.Locking.{one_more, release_from, side_of}
use Rattle.sd_machine.specs.SetChanges.{rebound}
use Rattle.sd_machine.specs.Sleeping.{nap_ticks, rouse_key, roused, roused_on, woken}
use Rattle.sd_machine.specs.Threads.{best_sleeper, best_sleeper_below, count_of, greatest_waiting, has_ended, has_waiters, lock_of, runner, thread_id}
use Rattle.sd_machine.specs.Walking.{is_back, walked, willed}
use Rattle.sd_machine.specs.Deeds.{Deed, CountsTick, RunsTick, CountsClass, ClearsMarks, LooksAgain, ComesHere, GoesTo, GoesBack, GoesAway, WakesUp, WakesIf, PutsThread, EndsOp, TakesLock, ReadsLock, HoldsLock, FreesLock, LetsGo, FreesLast, GrantsLock, PassesLock, BeginsWalk, WalksOn, EndsDuty, OrdersWake, Rouses, Lifts, Reclasses, TakesOne, CountsOne, MovesCpu, JoinsSet, BindsThread, Whither, ToQueue, ToSleep, ToWait, ToNap, ToEnd, place_to, did, all_did, deeds}
use Rattle.sd_machine.proofs.DeedLemmas.{effect_did}
use Rattle.sd_machine.proofs.PlaceLemmas.{class_place}
use Rattle.sd_store.specs.declared.spots.Chore.TheVariants as chore
use Rattle.sd_store.specs.declared.spots.Destination.TheVariants as to
use Rattle.sd_store.specs.Walks.{walk_gone_on}
use Rattle.sd_encoding.specs.Order.{OfThread, OfCpu, key_held, key_in}
use Rattle.sd_encoding.specs.Order.{key_at as key_of_place}
use Rattle.sd_encoding.proofs.AlikeLemmas.{IsBlind, blind_place, body_same, duty_with, key_or_zero, place_alike, place_with}
use Rattle.sd_encoding.proofs.ChangeLemmas.{clear_alike, close_alike, count_alike, duty_alike_after, duty_step, gone_alike, join_alike, leave_alike, lock_alike, rouse_alike, run_alike}
use Rattle.sd_encoding.proofs.PassLemmas.{cleared_by, duty_given, granted_alike, lock_given, passed_alike, rebound_by, release_alike, tokens_given, unblocked_by}
use Rattle.sd_encoding.proofs.PutLemmas.{class_given, finish_alike, hold_alike, if_alike, leave_given, let_go_alike, looped_alike, number_alike, put_alike, put_where_alike, remark_alike, reordered_alike, requeue_alike, run_tick_alike, woken_alike}
use Rattle.sd_encoding.proofs.RunLemmas.{aged_alike, blocked_alike, class_counts_alike, preempted_alike, sent_away_alike}
use Rattle.sd_encoding.proofs.SeekLemmas.{duty_is, is_back_same, place_is, rouse_same}
use Rattle.sd_encoding.proofs.SourceLemmas.{AreAlike, From}
use Rattle.sd_encoding.proofs.StepLemmas.{alike_later}
use Rattle.sd_encoding.proofs.TellLemmas.{best_sleeper_same, count_of_same, count_same, eff_same, greatest_same, has_waiters_same, lock_same, runner_same}
use Rattle.sd_store.proofs.WokenDuties.{next_after_woken}

-- Walks.

module _ (n m : ℕ) (x s : State) (h : AreAlike n m x s) where
  walked_alike : (c : CpuId) (l : LockId) (o : ThreadId) → AreAlike n m (walked x c l o) (walked s c l o)
  unfolding set_duty set_looped set_number walk_gone_on
  walked_alike c l o =
      let gone = gone_alike n m x s h c o in
      let number = number_alike n m (walk_gone_on x c o) (walk_gone_on s c o) gone o.0 l (greatest_waiting l.0 x.threads) (greatest_waiting l.0 s.threads) (greatest_same x s h.same l.0) in
      looped_alike n m (set_number (walk_gone_on x c o) o.0 l (greatest_waiting l.0 x.threads)) (set_number (walk_gone_on s c o) o.0 l (greatest_waiting l.0 s.threads)) number o.0
      ((thread_of x o.0).body.looped || is_back (cpu_of x c.0).duty o (thread_of x o.0).place) ((thread_of s o.0).body.looped || is_back (cpu_of s c.0).duty o (thread_of s o.0).place)
      (λ i. (body_same x s h.same.bare o.0 i).looped || is_back_same n m x s h c o i)

  willed_alike : (w : Work) (c : CpuId) (l : LockId) (o : ThreadId) (at : Option Put) → AreAlike (n + 1) (m + 1) (willed w x n c l o at) (willed w s m c l o at)
  unfolding willed
  willed_alike w c l o at = reordered_alike n m (walked x c l o) (walked s c l o) (walked_alike c l o) w o.0 (eff_of x o.0) (eff_of s o.0) at (eff_same x s h.same o.0)

-- Sleepers that are woken one after another: the duty stays what it was.

roused_by : (n m : ℕ) (x s : State) → AreAlike n m x s → (c : CpuId) (o p : Option ℕ) → o ≡ p → AreAlike n m (roused_on x c o) (roused_on s c p)
roused_by n m x s h c o p e = subst (λ z. AreAlike n m (roused_on x c o) (roused_on s c z)) e (by o)
  where
    by : (o : Option ℕ) → AreAlike n m (roused_on x c o) (roused_on s c o)
    by None = duty_alike_after n m x s h c.0 chore.Nothing
    by (Some u) = h

roused_alike : (n m : ℕ) (x s : State) → AreAlike n m x s → (w : Work) (c : CpuId) (k : ChanId) (u : Option (ThreadId × Put))
    → AreAlike (n + 1) (m + 1) (roused w x n c k u (cpu_of x c.0).duty) (roused w s m c k u (cpu_of s c.0).duty)
unfolding roused
roused_alike n m x s h w c k None = alike_later n m _ _ (duty_alike_after n m x s h c.0 chore.Nothing)
roused_alike n m x s h w c k (Some u) =
    let up = woken_alike n m x s h w u.0.0 u.1 in
    let y = woken w x n u.0.0 u.1 in
    let z = woken w s m u.0.0 u.1 in
    roused_by (n + 1) (m + 1) y z up c (best_sleeper_below y k.0 (rouse_key (cpu_of x c.0).duty)) (best_sleeper_below z k.0 (rouse_key (cpu_of s c.0).duty))
    (sym (next_after_woken w x n u.0.0 u.1 c k) ∙ rouse_same (n + 1) (m + 1) y z up c k ∙ next_after_woken w s m u.0.0 u.1 c k)

-- Class parameters. A thread that waits stays where it is, so that the walk which begins seeks it with its own key.

ended_blind : IsBlind has_ended
ended_blind (Running c) = refl
ended_blind _ = refl

module _ (n m : ℕ) (x s : State) (h : AreAlike n m x s) where
  pub ended_same : (u : ℕ) → has_ended (thread_of x u).place ≡ has_ended (thread_of s u).place
  ended_same u = blind_place has_ended ended_blind (thread_of x u).place (thread_of s u).place (place_alike x s h.same.bare u)

  target_same : (w : Work) (u : ℕ) → target_of w x u ≡ target_of w s u
  target_same w u i = if ended_same u i then None else Some (uid_of w u, parms_of (body_same x s h.same.bare u i).class)

  pub answer_same : (w : Work) (t u : ℕ) (r : Request) → answer_to w x t u r ≡ answer_to w s t u r
  answer_same w t u r i = judged (uid_of w t) (is_privileged w t) (target_same w u i) r

-- Thread u is given another class state, and a walk begins where it waits.
module _ (n m : ℕ) (x s : State) (h : AreAlike n m x s) (w : Work) (c : CpuId) (u : ThreadId) (p : ℕ) (at : Option Put) (a b : ClassState) (e : a ≡ b) where
  y : State
  y = set_class x u.0 a

  z : State
  z = set_class s u.0 b

  classed : AreAlike n m y z
  unfolding y z
  classed = class_given n m x s h u.0 a b e

  moved_on : AreAlike (n + 1) (m + 1) (reordered w y n u.0 (eff_of x u.0) at) (reordered w z m u.0 (eff_of s u.0) at)
  moved_on = reordered_alike n m y z classed w u.0 (eff_of x u.0) (eff_of s u.0) at (eff_same x s h.same u.0)

  -- who waits stays
  stays : (k old : ℕ) (v : State) (l : LockId) (side : Side) (key : ℤ) → (thread_of v u.0).place ≡ Waiting l side key → at ≡ None → reordered w v k u.0 old at ≡ v
  unfolding reordered put_where
  stays k old v l side key is none =
      ap (reordered_at w v k u.0 old at) is ∙ ap (λ o. put_where w v k u.0 o) none

  begins : (q : Place) (j : ℤ) → (thread_of x u.0).place ≡ q → (thread_of s u.0).place ≡ place_with q j → IsUnmoved (place_with q j) (Changed p at)
      → AreAlike (n + 1) (m + 1) (walk_from (reordered w y n u.0 (eff_of x u.0) at) c u q) (walk_from (reordered w z m u.0 (eff_of s u.0) at) c u (place_with q j))
  unfolding y z
  begins (Waiting l side key) j px ps none =
      let here : (thread_of y u.0).place ≡ Waiting l side key = class_place x u.0 u.0 a ∙ px in
      let there : (thread_of z u.0).place ≡ Waiting l side j = class_place s u.0 u.0 b ∙ ps in
      let begun : AreAlike n m (set_duty y c.0 (duty.Walk l u key)) (set_duty z c.0 (duty.Walk l u j)) =
      duty_step n m y z classed c.0 (duty.Walk l u key) (duty.Walk l u j) (From (OfThread u.0)) refl (sym (ap key_of_place here)) (sym (ap key_of_place there)) in
      rw (stays n (eff_of x u.0) y l side key here none, stays m (eff_of s u.0) z l side j there none) (alike_later n m (set_duty y c.0 (duty.Walk l u key)) (set_duty z c.0 (duty.Walk l u j)) begun)
  begins q j px ps none = moved_on

  changed_to_alike : IsUnmoved (thread_of s u.0).place (Changed p at) → AreAlike (n + 1) (m + 1) (changed_to w x n c u at a) (changed_to w s m c u at b)
  unfolding y z
  changed_to_alike unmoved =
      let j = key_or_zero (key_of_place (thread_of s u.0).place) in
      let is = place_is n m x s h u.0 in
      subst (λ q. AreAlike (n + 1) (m + 1) (changed_to w x n c u at a) (walk_from (reordered w z m u.0 (eff_of s u.0) at) c u q)) (sym is)
      (begins (thread_of x u.0).place j refl is (subst (λ q. IsUnmoved q (Changed p at)) is unmoved))

module _ (n m : ℕ) (x s : State) (h : AreAlike n m x s) (w : Work) (c : CpuId) (t : ℕ) (u : ThreadId) (p : ℕ) (at : Option Put) (unmoved : IsUnmoved (thread_of s u.0).place (Changed p at)) where
  changed_by_alike : (answer : Result ClassParms Denied) → AreAlike (n + 1) (m + 1) (changed_by w x n c u at answer) (changed_by w s m c u at answer)
  changed_by_alike (Err denied) = alike_later n m x s h
  changed_by_alike (Ok parms) =
      changed_to_alike n m x s h w c u p at (new_class w x u.0 parms) (new_class w s u.0 parms) (ap (λ (b : ThreadBody). entered w.ts w.fx w.rt parms b.class) (body_same x s h.same.bare u.0)) unmoved

  changed_on_alike : (o : Option Op) → AreAlike (n + 1) (m + 1) (changed_on w x n c t u at o) (changed_on w s m c t u at o)
  changed_on_alike (Some (op.Prio v r)) =
      subst (λ answer. AreAlike (n + 1) (m + 1) (changed_by w x n c u at (answer_to w x t u.0 r)) (changed_by w s m c u at answer)) (answer_same n m x s h w t u.0 r) (changed_by_alike (answer_to w x t u.0 r))
  changed_on_alike o = alike_later n m x s h

prio_alike : (n m : ℕ) (x s : State) → AreAlike n m x s → (w : Work) (c : CpuId) (t : ℕ) (u : ThreadId) (answer : PrioAnswer) → IsUnmoved (thread_of s u.0).place answer
    → AreAlike (n + 1) (m + 1) (reprioritised w x n c t u answer) (reprioritised w s m c t u answer)
unfolding reprioritised
prio_alike n m x s h w c t u (Changed p at) unmoved =
    let on : AreAlike (n + 1) (m + 1) (changed_on w x n c t u at (op_of w t (thread_of x t).body)) (changed_on w s m c t u at (op_of w t (thread_of s t).body)) =
    subst (λ (b : ThreadBody). AreAlike (n + 1) (m + 1) (changed_on w x n c t u at (op_of w t (thread_of x t).body)) (changed_on w s m c t u at (op_of w t b))) (body_same x s h.same.bare t)
    (changed_on_alike n m x s h w c t u p at unmoved (op_of w t (thread_of x t).body)) in
    finish_alike (n + 1) (m + 1) _ _ on w t
prio_alike n m x s h w c t u (Refused denied) unmoved = alike_later n m _ _ (finish_alike n m x s h w t)

-- All events.

-- what the law asks of a state: the thread that blocks is there, and one that waits stays where it is
abbrev IsFit : State → Event → Type 0
IsFit s (Block t l) = t.0 < length s.threads
IsFit s (Prio t u answer) = IsUnmoved (thread_of s u.0).place answer
IsFit s e = ⊤

-- the deed takes the key of the entry
abbrev is_keyed : Deed → Bool
is_keyed (GoesTo t whither) = true
is_keyed (GoesBack t end) = true
is_keyed (GoesAway t d) = true
is_keyed (WakesUp t at) = true
is_keyed (WakesIf u) = true
is_keyed (PutsThread t at) = true
is_keyed (OrdersWake k) = true
is_keyed (Rouses k u) = true
is_keyed (GrantsLock l u at) = true
is_keyed (WalksOn l o at) = true
is_keyed (Lifts t) = true
is_keyed (BindsThread u d answer) = true
is_keyed _ = false

-- the deed asks something of the state besides
abbrev asks_more : Deed → Bool
asks_more (BeginsWalk t l) = true
asks_more (Reclasses t u answer) = true
asks_more _ = false

not_true : (b : Bool) → not b ≡ true → b ≡ false
not_true true is = cc
not_true false is = refl

goes_alike : (n m : ℕ) (x s : State) → AreAlike n m x s → (w : Work) (c : CpuId) (t : ℕ) (whither : Whither) → AreAlike (n + 1) (m + 1) (leave x c.0 t (place_to w n c x t whither)) (leave s c.0 t (place_to w m c s t whither))
goes_alike n m x s h w c t ToQueue = requeue_alike n m x s h w c t end.Back (thread_of x t).body (thread_of s t).body (body_same x s h.same.bare t)
goes_alike n m x s h w c t (ToSleep k) = leave_alike n m x s h c t (to.SleepQueue k)
goes_alike n m x s h w c t (ToWait l) =
    leave_given n m x s h c t (to.Turnstile l (side_of (op_of w t (thread_of x t).body))) (to.Turnstile l (side_of (op_of w t (thread_of s t).body)))
    (ap (λ (b : ThreadBody). to.Turnstile l (side_of (op_of w t b))) (body_same x s h.same.bare t))
goes_alike n m x s h w c t ToNap =
    leave_given n m x s h c t (to.Nap ((cpu_of x c.0).count + nap_ticks (op_of w t (thread_of x t).body))) (to.Nap ((cpu_of s c.0).count + nap_ticks (op_of w t (thread_of s t).body)))
    (λ i. to.Nap (count_same x s h.same c.0 i + nap_ticks (op_of w t (body_same x s h.same.bare t i))))
goes_alike n m x s h w c t ToEnd = leave_alike n m x s h c t to.Nowhere

module _ (n m : ℕ) (w : Work) (c : CpuId) where
  keyed_alike : (x s : State) (d : Deed) → AreAlike n m x s → is_keyed d ≡ true → AreAlike (n + 1) (m + 1) (did w n c x d) (did w m c s d)
  keyed_alike x s (GoesTo t whither) h is = goes_alike n m x s h w c t whither
  keyed_alike x s (GoesBack t end) h is = preempted_alike n m x s h w c t end
  keyed_alike x s (GoesAway t d) h is = sent_away_alike n m x s h c t d
  keyed_alike x s (WakesUp t at) h is = woken_alike n m x s h w t at
  keyed_alike x s (WakesIf None) h is = alike_later n m x s h
  keyed_alike x s (WakesIf (Some u)) h is = woken_alike n m x s h w u.0.0 u.1
  keyed_alike x s (PutsThread t at) h is = put_alike n m x s h w t at
  keyed_alike x s (OrdersWake k) h is =
      if_alike (n + 1) (m + 1) x (set_duty x c.0 (duty.Rouse k (back_key n))) s (set_duty s c.0 (duty.Rouse k (back_key m))) (is_none (best_sleeper x k.0)) (is_none (best_sleeper s k.0))
      (ap (λ o. is_none o) (best_sleeper_same x s h.same k.0)) (alike_later n m x s h) (rouse_alike n m x s h c.0 k)
  keyed_alike x s (Rouses k u) h is = roused_alike n m x s h w c k u
  keyed_alike x s (GrantsLock l u at) h is = granted_alike n m x s h w c l u at
  keyed_alike x s (WalksOn l o at) h is = willed_alike n m x s h w c l o at
  keyed_alike x s (Lifts t) h is = aged_alike n m x s h w c t
  keyed_alike x s (BindsThread u d (bind_answer.Changed at)) h is =
      let tied : AreAlike n m (rebound x u d (thread_of x u).body.bound) (rebound s u d (thread_of s u).body.bound) =
      subst (λ b. AreAlike n m (rebound x u d (thread_of x u).body.bound) (rebound s u d b.bound)) (body_same x s h.same.bare u) (rebound_by n m x s h u d (thread_of x u).body.bound) in
      put_where_alike n m (rebound x u d (thread_of x u).body.bound) (rebound s u d (thread_of s u).body.bound) tied w u at
  keyed_alike x s (BindsThread u d _) h is = alike_later n m x s h
  keyed_alike x s d h is = cc

  -- a deed that takes none, in any two states, of any two entries
  plain_alike : (p q : ℕ) (x s : State) (d : Deed) → AreAlike p q x s → is_keyed d ≡ false → asks_more d ≡ false → AreAlike p q (did w n c x d) (did w m c s d)
  plain_alike p q x s CountsTick h is none = count_alike p q x s h w c.0
  plain_alike p q x s (RunsTick t) h is none = run_tick_alike p q x s h w t
  plain_alike p q x s (CountsClass t) h is none = class_counts_alike p q x s h w c.0 t
  plain_alike p q x s ClearsMarks h is none = clear_alike p q x s h c.0
  plain_alike p q x s LooksAgain h is none = remark_alike p q x s h c.0
  plain_alike p q x s (ComesHere t) h is none = run_alike p q x s h t c
  plain_alike p q x s (EndsOp t) h is none = finish_alike p q x s h w t
  plain_alike p q x s (TakesLock t l) h is none = lock_alike p q x s h l.0 (Owned (thread_id t))
  plain_alike p q x s (ReadsLock l) h is none = lock_given p q x s h l.0 (one_more (lock_of x l.0)) (one_more (lock_of s l.0)) (ap one_more (lock_same x s h.same l.0))
  plain_alike p q x s (HoldsLock t l) h is none = hold_alike p q x s h t l
  plain_alike p q x s (FreesLock l) h is none =
      subst (λ z. AreAlike p q (release_from w x c l (lock_of x l.0)) (release_from w s c l z)) (lock_same x s h.same l.0) (release_alike p q x s h w c l (lock_of x l.0))
  plain_alike p q x s (LetsGo t l) h is none = let_go_alike p q x s h t l
  plain_alike p q x s (FreesLast l) h is none = unblocked_by p q x s h c l (has_waiters x l.0) (has_waiters s l.0) (has_waiters_same x s h.same l.0)
  plain_alike p q x s (PassesLock l) h is none = passed_alike p q x s h c l
  plain_alike p q x s EndsDuty h is none = duty_given p q x s h c.0 duty.Nothing duty.Nothing refl refl
  plain_alike p q x s (TakesOne k) h is none = tokens_given p q x s h k.0 (count_of x k.0 - 1) (count_of s k.0 - 1) (ap (λ c. c - 1) (count_of_same x s h.same k.0))
  plain_alike p q x s (CountsOne k) h is none = tokens_given p q x s h k.0 (count_of x k.0 + 1) (count_of s k.0 + 1) (ap (λ c. c + 1) (count_of_same x s h.same k.0))
  plain_alike p q x s (MovesCpu d to assign.Changed) h is none = cleared_by p q (close x d to) (close s d to) (close_alike p q x s h d to) d (runner x d.0) (runner s d.0) (runner_same x s h.same d.0)
  plain_alike p q x s (MovesCpu d to _) h is none = h
  plain_alike p q x s (JoinsSet to) h is none = join_alike p q x s h c to
  plain_alike p q x s d h is none = cc

  -- at most one of the deeds takes the key, and none asks more
  abbrev all_plain : List Deed → Bool
  all_plain ds = list_all (λ d. not (is_keyed d) && not (asks_more d)) ds

  abbrev keyed_once : List Deed → Bool
  keyed_once [] = true
  keyed_once (d ∷ ds) = not (asks_more d) && (if is_keyed d then all_plain ds else keyed_once ds)

  plains_alike : (p q : ℕ) (x s : State) (ds : List Deed) → AreAlike p q x s → all_plain ds ≡ true → AreAlike p q (all_did w n c x ds) (all_did w m c s ds)
  plains_alike p q x s [] h is = h
  plains_alike p q x s (d ∷ ds) h is =
      let both = and_parts (not (is_keyed d) && not (asks_more d)) (all_plain ds) is in
      let plain = and_parts (not (is_keyed d)) (not (asks_more d)) both.0 in
      plains_alike p q (did w n c x d) (did w m c s d) ds (plain_alike p q x s d h (not_true (is_keyed d) plain.0) (not_true (asks_more d) plain.1)) both.1

  deeds_alike : (x s : State) (ds : List Deed) → AreAlike n m x s → keyed_once ds ≡ true → AreAlike (n + 1) (m + 1) (all_did w n c x ds) (all_did w m c s ds)
  deeds_alike x s [] h once = alike_later n m x s h
  deeds_alike x s (d ∷ ds) h once =
      let both = and_parts (not (asks_more d)) (if is_keyed d then all_plain ds else keyed_once ds) once in
      by (λ g. deeds_alike (did w n c x d) (did w m c s d) ds g) (is_keyed d) refl (not_true (asks_more d) both.0) both.1
    where
      by : (AreAlike n m (did w n c x d) (did w m c s d) → keyed_once ds ≡ true → AreAlike (n + 1) (m + 1) (all_did w n c (did w n c x d) ds) (all_did w m c (did w m c s d) ds)) → (b : Bool) → is_keyed d ≡ b → asks_more d ≡ false
          → (if b then all_plain ds else keyed_once ds) ≡ true → AreAlike (n + 1) (m + 1) (all_did w n c (did w n c x d) ds) (all_did w m c (did w m c s d) ds)
      by later true is none rest = plains_alike (n + 1) (m + 1) (did w n c x d) (did w m c s d) ds (keyed_alike x s d h is) rest
      by later false is none rest = later (plain_alike n m x s d h is none) rest

effect_alike : (n m : ℕ) (x s : State) → AreAlike n m x s → (w : Work) (c : CpuId) (e : Event) → IsFit s e → AreAlike (n + 1) (m + 1) (effect w x n c e) (effect w s m c e)
unfolding effect
effect_alike n m x s h w c (Block t l) fit = blocked_alike n m x s h w c t l fit
effect_alike n m x s h w c (Prio t u answer) fit = prio_alike n m x s h w c t.0 u answer fit
effect_alike n m x s h w c e fit = rw (effect_did w x n c e, effect_did w s m c e) (deeds_alike n m w c x s (deeds e) h refl)

module _ (n m : ℕ) (x s : State) (h : AreAlike n m x s) where
  drop_by : (c : ℕ) (e : Event) (d : Duty) (j : ℤ) → key_in d ≡ key_held x (OfCpu c) → key_in (duty_with d j) ≡ key_held s (OfCpu c)
      → AreAlike n m (set_duty x c (dropped_duty e d)) (set_duty s c (dropped_duty e (duty_with d j)))
  drop_by c e (duty.Age u) j kx ks = aged (keeps_ageing e)
    where
      aged : (keeps : Bool) → AreAlike n m (set_duty x c (if keeps then duty.Age u else duty.Nothing)) (set_duty s c (if keeps then duty.Age u else duty.Nothing))
      aged true = duty_alike_after n m x s h c (chore.Age u)
      aged false = duty_alike_after n m x s h c chore.Nothing
  drop_by c e duty.Nothing j kx ks = duty_alike_after n m x s h c chore.Nothing
  drop_by c e (duty.Walk l seek key) j kx ks = duty_step n m x s h c (duty.Walk l seek key) (duty.Walk l seek j) (From (OfCpu c)) refl kx ks
  drop_by c e (duty.WakeMutex l) j kx ks = duty_alike_after n m x s h c (chore.WakeMutex l)
  drop_by c e (duty.GrantWriter l) j kx ks = duty_alike_after n m x s h c (chore.GrantWriter l)
  drop_by c e (duty.GrantReaders l) j kx ks = duty_alike_after n m x s h c (chore.GrantReaders l)
  drop_by c e (duty.Rouse k below) j kx ks = duty_step n m x s h c (duty.Rouse k below) (duty.Rouse k j) (From (OfCpu c)) refl kx ks

  drop_alike : (c : ℕ) (e : Event) → AreAlike n m (drop_ageing x c e) (drop_ageing s c e)
  unfolding drop_ageing
  drop_alike c e =
      let j = key_or_zero (key_in (cpu_of s c).duty) in
      let is = duty_is n m x s h c in
      subst (λ d. AreAlike n m (set_duty x c (dropped_duty e (cpu_of x c).duty)) (set_duty s c (dropped_duty e d))) (sym is) (drop_by c e (cpu_of x c).duty j refl (ap key_in (sym is)))

needed : (w : Work) (s : State) (c : CpuId) (e : Event) → Needs w s c e → IsFit (drop_ageing s c.0 e) e
unfolding drop_ageing set_duty
needed w s c (Block t l) needs = needs.0.thread
needed w s c (Prio t u answer) needs = needs.1.unmoved
needed w s c e needs = tt

pub after_alike : (n m : ℕ) (x s : State) → AreAlike n m x s → (w : Work) (c : CpuId) (e : Event) → Needs w s c e → AreAlike (n + 1) (m + 1) (after w x n c e) (after w s m c e)
unfolding after
after_alike n m x s h w c e needs =
    effect_alike n m (drop_ageing x c.0 e) (drop_ageing s c.0 e) (drop_alike n m x s h c.0 e) w c e (needed w s c e needs)
