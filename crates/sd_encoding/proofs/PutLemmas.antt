-- What threads and processors of states whose keys have the same order come to by the steps that many events have in common.
use Rattle.std.proofs.Common.{◌≡◌, ℕ, ◌+◌, Bool, true, false, ◌&&◌, ℤ, Option, Some, None, is_none, refl, sym, ap, ◌∙◌, subst}
use Rattle.std.specs.Prelude.{if◌then◌else◌, nat_le, nat_lt}
use Rattle.sd_types.specs.declared.numbers.CpuId.{CpuId}
use Rattle.sd_types.specs.declared.numbers.LockId.{LockId}
use Rattle.sd_types.specs.declared.bodies.ThreadBody.{ThreadBody}
use Rattle.sd_types.specs.declared.classes.ClassState.{ClassState}
use Rattle.sd_types.specs.declared.events.End.{End}
use Rattle.sd_types.specs.declared.events.Put.{Put}
use Rattle.sd_types.specs.declared.works.Work.{Work}
use Rattle.sd_types.specs.Priorities.{eff}
use Rattle.sd_types.specs.Willed.{changed_number, with_willed, with_lock as with_held, released as without_held}
use Rattle.sd_state.specs.declared.states.Place.{Place}
use Rattle.sd_state.specs.declared.states.Place.TheVariants.{Running, Queued, RealTime, Waiting, Asleep, Napping, Ended}
use Rattle.sd_state.specs.declared.states.State.{State}
use Rattle.sd_state.specs.States.{thread_of, set_of, eff_of}
use Rattle.sd_state.specs.Operations.{op_over, ran, script_of}
use Rattle.sd_machine.specs.Bodies.{with_class, woken_class}
use Rattle.sd_machine.specs.Changes.{cpu_put, finish_op, hold, key_at, leave, let_go, mark_over, place_put, priority_or_zero, put, put_where, queue_place, remark, rivals, run_tick, runs_below, send_back, set_class, set_looped, set_mark, set_number, with_place}
use Rattle.sd_machine.specs.Requeueing.{reordered, reordered_at}
use Rattle.sd_machine.specs.Sleeping.{woken}
use Rattle.sd_machine.specs.Threads.{best_ready, priority_of, runner}
use Rattle.sd_store.specs.declared.spots.Destination.{Destination}
use Rattle.sd_store.specs.declared.spots.Destination.TheVariants as to
use Rattle.sd_store.specs.Keyless.{place_by}
use Rattle.sd_encoding.specs.Order.{key_at as key_of_place}
use Rattle.sd_encoding.proofs.AlikeLemmas.{key_or_zero, place_with}
use Rattle.sd_encoding.proofs.ChangeLemmas.{body_alike, enqueue_alike, leave_alike, mark_alike}
use Rattle.sd_encoding.proofs.SeekLemmas.{place_is}
use Rattle.sd_encoding.proofs.SourceLemmas.{AreAlike}
use Rattle.sd_encoding.proofs.StepLemmas.{alike_later}
use Rattle.sd_encoding.proofs.TellLemmas.{best_ready_same, eff_same, runner_same}

-- the same choice in both
pub if_alike : (n m : ℕ) (x x' s s' : State) (a b : Bool) → a ≡ b → AreAlike n m x s → AreAlike n m x' s' → AreAlike n m (if a then x else x') (if b then s else s')
if_alike n m x x' s s' a b e h h' = subst (λ t. AreAlike n m (if a then x else x') (if t then s else s')) e (by a)
  where
    by : (t : Bool) → AreAlike n m (if t then x else x') (if t then s else s')
    by true = h
    by false = h'

module _ (n m : ℕ) (x s : State) (h : AreAlike n m x s) where
  pub finish_alike : (w : Work) (t : ℕ) → AreAlike n m (finish_op w x t) (finish_op w s t)
  unfolding finish_op
  finish_alike w t = body_alike n m x s h t (op_over (script_of w t))

  pub run_tick_alike : (w : Work) (t : ℕ) → AreAlike n m (run_tick w x t) (run_tick w s t)
  unfolding run_tick
  run_tick_alike w t = body_alike n m x s h t (ran (script_of w t))

  pub class_alike : (t : ℕ) (f : ThreadBody → ClassState) → AreAlike n m (set_class x t (f (thread_of x t).body)) (set_class s t (f (thread_of s t).body))
  unfolding set_class
  class_alike t f = body_alike n m x s h t (λ b. with_class b (f b))

  pub class_given : (t : ℕ) (a b : ClassState) → a ≡ b → AreAlike n m (set_class x t a) (set_class s t b)
  unfolding set_class
  class_given t a b e = subst (λ z. AreAlike n m (set_class x t a) (set_class s t z)) e (body_alike n m x s h t (λ y. with_class y a))

  pub send_back_alike : (t : ℕ) → AreAlike n m (send_back x t) (send_back s t)
  unfolding send_back
  send_back_alike t = body_alike n m x s h t (λ b. record b { back = true })

  pub hold_alike : (t : ℕ) (l : LockId) → AreAlike n m (hold x t l) (hold s t l)
  unfolding hold
  hold_alike t l = body_alike n m x s h t (with_held l)

  pub let_go_alike : (t : ℕ) (l : LockId) → AreAlike n m (let_go x t l) (let_go s t l)
  unfolding let_go
  let_go_alike t l = body_alike n m x s h t (without_held l)

  pub number_alike : (t : ℕ) (l : LockId) (p q : Option ℕ) → p ≡ q → AreAlike n m (set_number x t l p) (set_number s t l q)
  unfolding set_number
  number_alike t l p q e = subst (λ r. AreAlike n m (set_number x t l p) (set_number s t l r)) e (body_alike n m x s h t (λ b. with_willed (changed_number l p b.willed.items) b))

  pub looped_alike : (t : ℕ) (p q : Bool) → p ≡ q → AreAlike n m (set_looped x t p) (set_looped s t q)
  unfolding set_looped
  looped_alike t p q e = subst (λ r. AreAlike n m (set_looped x t p) (set_looped s t r)) e (body_alike n m x s h t (λ b. record b { looped = p }))

  -- Marks.

  pub priority_same : (o p : Option ℕ) → o ≡ p → priority_of x o ≡ priority_of s p
  priority_same o p e = by o ∙ ap (priority_of s) e
    where
      by : (o : Option ℕ) → priority_of x o ≡ priority_of s o
      by None = refl
      by (Some t) = ap Some (eff_same x s h.same t)

  pub runs_same : (c : ℕ) → priority_of x (runner x c) ≡ priority_of s (runner s c)
  runs_same c = priority_same (runner x c) (runner s c) (runner_same x s h.same c)

  pub ready_same : (c : ℕ) → priority_of x (best_ready x c) ≡ priority_of s (best_ready s c)
  ready_same c = priority_same (best_ready x c) (best_ready s c) (best_ready_same x s h.same c)

  pub mark_given : (c p q : ℕ) → p ≡ q → AreAlike n m (set_mark x c p) (set_mark s c q)
  mark_given c p q e = subst (λ r. AreAlike n m (set_mark x c p) (set_mark s c r)) e (mark_alike n m x s h c p)

  pub mark_over_alike : (c p q : ℕ) → p ≡ q → AreAlike n m (mark_over x c p) (mark_over s c q)
  unfolding mark_over
  mark_over_alike c p q e =
      if_alike n m (set_mark x c p) x (set_mark s c q) s (runs_below p (priority_of x (runner x c))) (runs_below q (priority_of s (runner s c)))
      (λ i. runs_below (e i) (runs_same c i)) (mark_given c p q e) h

  pub remark_alike : (c : ℕ) → AreAlike n m (remark x c) (remark s c)
  unfolding remark
  remark_alike c =
      if_alike n m (set_mark x c (priority_or_zero (priority_of x (best_ready x c)))) x (set_mark s c (priority_or_zero (priority_of s (best_ready s c)))) s
      (rivals (priority_of x (best_ready x c)) (priority_of x (runner x c))) (rivals (priority_of s (best_ready s c)) (priority_of s (runner s c)))
      (λ i. rivals (ready_same c i) (runs_same c i))
      (mark_given c (priority_or_zero (priority_of x (best_ready x c))) (priority_or_zero (priority_of s (best_ready s c))) (ap priority_or_zero (ready_same c))) h

-- Threads that are made runnable.
module _ (n m : ℕ) (x s : State) (h : AreAlike n m x s) where
  pub put_alike : (w : Work) (t : ℕ) (at : Put) → AreAlike (n + 1) (m + 1) (put w x n t at) (put w s m t at)
  unfolding put
  put_alike w t at =
      mark_over_alike (n + 1) (m + 1) (with_place x t (place_put w n t at)) (with_place s t (place_put w m t at)) (enqueue_alike n m x s h w t at)
      (cpu_put at).0 (eff_of x t) (eff_of s t) (eff_same x s h.same t)

  pub put_where_alike : (w : Work) (t : ℕ) (at : Option Put) → AreAlike (n + 1) (m + 1) (put_where w x n t at) (put_where w s m t at)
  unfolding put_where
  put_where_alike w t None = alike_later n m x s h
  put_where_alike w t (Some at) = put_alike w t at

  -- Threads that leave.

  -- where the queue of a thread is to which it goes
  queue_to : Work → ℕ → CpuId → End → ThreadBody → Destination
  queue_to w t c end b = if nat_le 100 (eff b) && is_none b.bound then to.RealTime (set_of w t) end else to.Queue c end

  queue_is : (w : Work) (k t : ℕ) (c : CpuId) (end : End) (b : ThreadBody) → place_by k c (queue_to w t c end b) ≡ queue_place w t c (key_at k end) b
  unfolding queue_to
  queue_is w k t c end b = by (nat_le 100 (eff b) && is_none b.bound)
    where
      by : (test : Bool) → place_by k c (if test then to.RealTime (set_of w t) end else to.Queue c end) ≡ (if test then RealTime (set_of w t) (key_at k end) else Queued c (key_at k end))
      by true = refl
      by false = refl

  pub leave_given : (c : CpuId) (t : ℕ) (p q : Destination) → p ≡ q → AreAlike (n + 1) (m + 1) (leave x c.0 t (place_by n c p)) (leave s c.0 t (place_by m c q))
  leave_given c t p q e = subst (λ r. AreAlike (n + 1) (m + 1) (leave x c.0 t (place_by n c p)) (leave s c.0 t (place_by m c r))) e (leave_alike n m x s h c t p)

  pub requeue_alike : (w : Work) (c : CpuId) (t : ℕ) (end : End) (a b : ThreadBody) → a ≡ b
      → AreAlike (n + 1) (m + 1) (leave x c.0 t (queue_place w t c (key_at n end) a)) (leave s c.0 t (queue_place w t c (key_at m end) b))
  requeue_alike w c t end a b e =
      rw (sym (queue_is w n t c end a), sym (queue_is w m t c end b)) (leave_given c t (queue_to w t c end a) (queue_to w t c end b) (ap (queue_to w t c end) e))

pub woken_alike : (n m : ℕ) (x s : State) → AreAlike n m x s → (w : Work) (t : ℕ) (at : Put) → AreAlike (n + 1) (m + 1) (woken w x n t at) (woken w s m t at)
unfolding woken
woken_alike n m x s h w t at =
    put_alike n m (set_class x t (woken_class w (thread_of x t).body.class)) (set_class s t (woken_class w (thread_of s t).body.class))
    (class_alike n m x s h t (λ b. woken_class w b.class)) w t at

-- Threads whose priority changed.

reordered_by : (n m : ℕ) (x s : State) → AreAlike n m x s → (w : Work) (t old old' : ℕ) (at : Option Put) (p : Place) (j : ℤ) → old ≡ old'
    → AreAlike (n + 1) (m + 1) (reordered_at w x n t old at p) (reordered_at w s m t old' at (place_with p j))
reordered_by n m x s h w t old old' at (Running d) j e =
    let marked = alike_later n m (remark x d.0) (remark s d.0) (remark_alike n m x s h d.0) in
    let less : nat_lt (eff_of x t) old ≡ nat_lt (eff_of s t) old' = λ i. nat_lt (eff_same x s h.same t i) (e i) in
    if_alike (n + 1) (m + 1) (remark x d.0) x (remark s d.0) s (nat_lt (eff_of x t) old) (nat_lt (eff_of s t) old') less marked (alike_later n m x s h)
reordered_by n m x s h w t old old' at (Queued c k) j e = put_where_alike n m x s h w t at
reordered_by n m x s h w t old old' at (RealTime q k) j e = put_where_alike n m x s h w t at
reordered_by n m x s h w t old old' at (Waiting l side k) j e = put_where_alike n m x s h w t at
reordered_by n m x s h w t old old' at (Asleep r k) j e = put_where_alike n m x s h w t at
reordered_by n m x s h w t old old' at (Napping c due) j e = put_where_alike n m x s h w t at
reordered_by n m x s h w t old old' at Ended j e = put_where_alike n m x s h w t at

pub reordered_alike : (n m : ℕ) (x s : State) → AreAlike n m x s → (w : Work) (t old old' : ℕ) (at : Option Put) → old ≡ old'
    → AreAlike (n + 1) (m + 1) (reordered w x n t old at) (reordered w s m t old' at)
unfolding reordered
reordered_alike n m x s h w t old old' at e =
    let j = key_or_zero (key_of_place (thread_of s t).place) in
    subst (λ q. AreAlike (n + 1) (m + 1) (reordered w x n t old at) (reordered_at w s m t old' at q)) (sym (place_is n m x s h t))
    (reordered_by n m x s h w t old old' at (thread_of x t).place j e)
