-- Entries that tick, dispatch, and send threads from their processors, of states whose keys have the same order.
use Rattle.std.proofs.Common.{◌≡◌, ℕ, ◌+◌, ◌<◌, ◌==◌, Bool, length, refl, sym, ap, subst, get_or-set_same}
use Rattle.sd_types.specs.declared.numbers.CpuId.{CpuId}
use Rattle.sd_types.specs.declared.numbers.LockId.{LockId}
use Rattle.sd_types.specs.declared.numbers.Side.{Side}
use Rattle.sd_types.specs.declared.numbers.ThreadId.{ThreadId}
use Rattle.sd_types.specs.declared.bodies.ThreadBody.{ThreadBody}
use Rattle.sd_types.specs.declared.events.Duty.TheVariants as duty
use Rattle.sd_types.specs.declared.events.End.{End}
use Rattle.sd_types.specs.declared.events.End.TheVariants as end
use Rattle.sd_types.specs.declared.events.Put.TheVariants as at_put
use Rattle.sd_types.specs.declared.works.Work.{Work}
use Rattle.sd_rules.specs.ClassRules.{class_expires, class_requeue}
use Rattle.sd_state.specs.declared.states.Place.TheVariants.{Waiting}
use Rattle.sd_state.specs.declared.states.ThreadState.{ThreadState}
use Rattle.sd_state.specs.declared.states.State.{State}
use Rattle.sd_state.specs.States.{cpu_of, no_thread, thread_of, eff_of}
use Rattle.sd_state.specs.Operations.{op_of}
use Rattle.sd_machine.specs.Bodies.{aged_class, departed, ticked_class}
use Rattle.sd_machine.specs.Changes.{back_key, leave, priority_or_zero, put, send_back, set_class, set_duty, set_mark}
use Rattle.sd_machine.specs.Dispatching.{charge, class_counts, is_rivalled, preempted, sent_away}
use Rattle.sd_machine.specs.Locking.{blocked, side_of}
use Rattle.sd_machine.specs.Prioritising.{aged, lifted}
use Rattle.sd_machine.specs.Threads.{best_ready, priority_of}
use Rattle.sd_store.specs.declared.spots.Destination.TheVariants as to
use Rattle.sd_encoding.specs.Order.{OfThread}
use Rattle.sd_encoding.specs.Order.{key_at as key_of_place}
use Rattle.sd_encoding.proofs.AlikeLemmas.{body_same, threads_many}
use Rattle.sd_encoding.proofs.ChangeLemmas.{duty_step, leave_alike}
use Rattle.sd_encoding.proofs.PutLemmas.{class_alike, if_alike, leave_given, mark_given, mark_over_alike, put_alike, ready_same, requeue_alike, send_back_alike}
use Rattle.sd_encoding.proofs.SourceLemmas.{AreAlike, From, Gone}
use Rattle.sd_encoding.proofs.StepLemmas.{alike_later}
use Rattle.sd_encoding.proofs.TellLemmas.{eff_same}

module _ (n m : ℕ) (x s : State) (h : AreAlike n m x s) where
  charge_alike : (c t : ℕ) (a b : Bool) → a ≡ b → AreAlike n m (charge x c t a) (charge s c t b)
  unfolding charge
  charge_alike c t a b e =
      if_alike n m (set_mark (send_back x t) c (priority_or_zero (priority_of x (best_ready x c)))) x (set_mark (send_back s t) c (priority_or_zero (priority_of s (best_ready s c)))) s
      (is_rivalled a (eff_of x t) (priority_of x (best_ready x c))) (is_rivalled b (eff_of s t) (priority_of s (best_ready s c)))
      (λ i. is_rivalled (e i) (eff_same x s h.same t i) (ready_same n m x s h c i))
      (mark_given n m (send_back x t) (send_back s t) (send_back_alike n m x s h t) c (priority_or_zero (priority_of x (best_ready x c))) (priority_or_zero (priority_of s (best_ready s c))) (ap priority_or_zero (ready_same n m x s h c))) h

pub class_counts_alike : (n m : ℕ) (x s : State) → AreAlike n m x s → (w : Work) (c t : ℕ) → AreAlike n m (class_counts w x c t) (class_counts w s c t)
class_counts_alike n m x s h w c t =
    charge_alike n m (set_class x t (ticked_class w (thread_of x t).body.class)) (set_class s t (ticked_class w (thread_of s t).body.class))
    (class_alike n m x s h t (λ b. ticked_class w b.class)) c t (class_expires (thread_of x t).body.class) (class_expires (thread_of s t).body.class)
    (ap (λ (b : ThreadBody). class_expires b.class) (body_same x s h.same.bare t))

module _ (n m : ℕ) (x s : State) (h : AreAlike n m x s) where
  pub preempted_alike : (w : Work) (c : CpuId) (t : ℕ) (end : End) → AreAlike (n + 1) (m + 1) (preempted w x n c t end) (preempted w s m c t end)
  unfolding preempted
  preempted_alike w c t end =
      requeue_alike n m (set_class x t (class_requeue (thread_of x t).body.back (thread_of x t).body.class)) (set_class s t (class_requeue (thread_of s t).body.back (thread_of s t).body.class))
      (class_alike n m x s h t (λ b. class_requeue b.back b.class)) w c t end (thread_of x t).body (thread_of s t).body (body_same x s h.same.bare t)

  pub sent_away_alike : (c : CpuId) (t : ℕ) (d : CpuId) → AreAlike (n + 1) (m + 1) (sent_away x n c t d) (sent_away s m c t d)
  unfolding sent_away
  sent_away_alike c t d =
      let left = leave_alike n m x s h c t (to.Queue d end.Back) in
      mark_over_alike (n + 1) (m + 1) _ _ left d.0 (eff_of x t) (eff_of s t) (eff_same x s h.same t)

  pub aged_alike : (w : Work) (c : CpuId) (t : ℕ) → AreAlike (n + 1) (m + 1) (aged w x n c t) (aged w s m c t)
  unfolding aged
  aged_alike w c t =
      let y = set_class x t (aged_class w (thread_of x t).body.class) in
      let z = set_class s t (aged_class w (thread_of s t).body.class) in
      let classed : AreAlike n m y z = class_alike n m x s h t (λ b. aged_class w b.class) in
      let up : AreAlike (n + 1) (m + 1) (lifted w y n c t (eff_of x t)) (lifted w z m c t (eff_of s t)) =
      if_alike (n + 1) (m + 1) y (put w y n t (at_put.Cpu c)) z (put w z m t (at_put.Cpu c)) (eff_of y t == eff_of x t) (eff_of z t == eff_of s t)
      (λ i. eff_same y z classed.same t i == eff_same x s h.same t i) (alike_later n m y z classed) (put_alike n m y z classed w t (at_put.Cpu c)) in
      duty_step (n + 1) (m + 1) (lifted w y n c t (eff_of x t)) (lifted w z m c t (eff_of s t)) up c.0 (duty.Age (record { 0 = t + 1 })) (duty.Age (record { 0 = t + 1 })) Gone refl refl refl

  -- the key of the walk is that of the thread which waits now
  pub block_alike : (c : CpuId) (t : ThreadId) (l : LockId) (side side' : Side) → side ≡ side' → t.0 < length s.threads
      → AreAlike (n + 1) (m + 1) (set_duty (leave x c.0 t.0 (Waiting l side (back_key n))) c.0 (duty.Walk l t (back_key n))) (set_duty (leave s c.0 t.0 (Waiting l side' (back_key m))) c.0 (duty.Walk l t (back_key m)))
  unfolding leave
  block_alike c t l side side' same inside =
      let left = leave_given n m x s h c t.0 (to.Turnstile l side) (to.Turnstile l side') (ap (λ z. to.Turnstile l z) same) in
      let y : ThreadState = record { body = departed (cpu_of x c.0).count (thread_of x t.0).body; place = Waiting l side (back_key n) } in
      let z : ThreadState = record { body = departed (cpu_of s c.0).count (thread_of s t.0).body; place = Waiting l side' (back_key m) } in
      let inside' : t.0 < length x.threads = subst (λ k. t.0 < k) (sym (threads_many x s h.same.bare)) inside in
      let there = get_or-set_same x.threads t.0 y no_thread inside' in
      let there' = get_or-set_same s.threads t.0 z no_thread inside in
      duty_step (n + 1) (m + 1) (leave x c.0 t.0 (Waiting l side (back_key n))) (leave s c.0 t.0 (Waiting l side' (back_key m))) left c.0 (duty.Walk l t (back_key n)) (duty.Walk l t (back_key m)) (From (OfThread t.0)) refl
      (sym (ap (λ (u : ThreadState). key_of_place u.place) there)) (sym (ap (λ (u : ThreadState). key_of_place u.place) there'))

  pub blocked_alike : (w : Work) (c : CpuId) (t : ThreadId) (l : LockId) → t.0 < length s.threads → AreAlike (n + 1) (m + 1) (blocked w x n c t.0 l) (blocked w s m c t.0 l)
  unfolding blocked
  blocked_alike w c t l inside =
      block_alike c t l (side_of (op_of w t.0 (thread_of x t.0).body)) (side_of (op_of w t.0 (thread_of s t.0).body)) (ap (λ (b : ThreadBody). side_of (op_of w t.0 b)) (body_same x s h.same.bare t.0)) inside
