-- Where the changes of which events are made take a thread, and with what priority.
use Rattle.std.proofs.Common.{◌≡◌, ℕ, ◌<◌, length, Some, ap, subst, arith}
use Rattle.sd_types.specs.declared.numbers.ChanId.{ChanId}
use Rattle.sd_types.specs.declared.numbers.CpuId.{CpuId}
use Rattle.sd_types.specs.declared.numbers.LockId.{LockId}
use Rattle.sd_types.specs.declared.numbers.ThreadId.{ThreadId}
use Rattle.sd_types.specs.declared.classes.ClassState.{ClassState}
use Rattle.sd_types.specs.declared.events.Duty.{Duty}
use Rattle.sd_types.specs.declared.events.End.{End}
use Rattle.sd_types.specs.declared.events.Put.{Put}
use Rattle.sd_types.specs.declared.works.Work.{Work}
use Rattle.sd_types.specs.Willed.{without_number, changed_number}
use Rattle.sd_rules.specs.ClassRules.{class_requeue}
use Rattle.sd_state.specs.declared.states.Place.{Place}
use Rattle.sd_state.specs.declared.states.Place.TheVariants.{Asleep}
use Rattle.sd_state.specs.declared.states.LockState.TheVariants.{Owned}
use Rattle.sd_state.specs.declared.states.State.{State}
use Rattle.sd_state.specs.States.{thread_of}
use Rattle.sd_machine.specs.Threads.{thread_id, lock_of, with_lock, greatest_waiting, has_waiters, best_sleeper_below}
use Rattle.sd_machine.specs.Bodies.{woken_class}
use Rattle.sd_machine.specs.Changes.{back_key, key_at, queue_place, place_put, finish_op, hold, set_class, set_number, set_looped, leave}
use Rattle.sd_machine.specs.Dispatching.{preempted, yielded}
use Rattle.sd_machine.specs.Sleeping.{fallen_asleep, woken, woke, rouse_key, roused}
use Rattle.sd_machine.specs.Locking.{release_from, released, unblocked, others_waiting, one_reader_more, granted_to_writer, granted_to_reader}
use Rattle.sd_machine.specs.Walking.{walked}
use Rattle.sd_machine.specs.Conditions.{cv_waited, sema_handed}
use Rattle.sd_laws.proofs.Alike.{Weight, weight_part, Calm, Weighs, then_calm, calm_alike, calm_weighs, weighs_calm, lock_calm, set_duty_calm, finish_op_calm, hold_calm, set_looped_calm, set_class_weighs, set_number_weighs, let_go_weighs, release_calm, unblocked_on_calm, roused_on_calm}
use Rattle.sd_laws.proofs.Goes.{All, Others, Goes, Puts, weighs_goes, goes_alike, goes_to, calm_puts, weighs_puts, puts_alike, puts_to, woken_puts, leave_goes}

pub weighs_to : (s r : State) (t : ℕ) (x y : Weight) → Weighs s r t x → x ≡ y → Weighs s r t y
weighs_to s r t x y a is = subst (λ z. Weighs s r t z) is a

-- A thread leaves its processor.

module _ (w : Work) (s : State) (n : ℕ) (c : CpuId) (t : ℕ) (inside : t < length s.threads) (here : c.0 < length s.cpus) where
  pub preempted_goes : (end : End) → Goes (Others c.0) s (preempted w s n c t end) t (queue_place w t c (key_at n end) (thread_of s t).body)
      (class_requeue (thread_of s t).body.back (thread_of s t).body.class, (thread_of s t).body.willed.items)
  unfolding preempted set_class
  preempted_goes end =
      let k : ClassState = class_requeue (thread_of s t).body.back (thread_of s t).body.class in
      let before : Weighs s (set_class s t k) t (k, (thread_of s t).body.willed.items) = set_class_weighs s t k inside in
      let many = before.keeps.many in
      goes_to (Others c.0) s _ t _ _ _
      (weighs_goes (Others c.0) s (set_class s t k) _ t _ _ _ before (leave_goes (set_class s t k) c.0 t (queue_place w t c (key_at n end) (thread_of s t).body) (omega (arith, many, inside)) here))
      before.weights.at

  pub left_goes : (r : State) (place : Place) → Calm (leave s c.0 t place) r → Goes (Others c.0) s r t place (weight_part (thread_of s t))
  left_goes r place a = goes_alike (Others c.0) s (leave s c.0 t place) r t place (weight_part (thread_of s t)) (leave_goes s c.0 t place inside here) (calm_alike _ r a)

  pub yielded_goes : Goes (Others c.0) s (yielded w s n c t) t (queue_place w t c (back_key n) (thread_of s t).body) (weight_part (thread_of s t))
  unfolding yielded
  yielded_goes = left_goes _ (queue_place w t c (back_key n) (thread_of s t).body) (finish_op_calm w _ t)

  pub asleep_goes : (k : ChanId) → Goes (Others c.0) s (fallen_asleep w s n c t k) t (Asleep k (back_key n)) (weight_part (thread_of s t))
  unfolding fallen_asleep
  asleep_goes k = left_goes _ (Asleep k (back_key n)) (finish_op_calm w _ t)

  pub released_weighs : (l : LockId) → Weighs s (released w s c t l) t ((thread_of s t).body.class, without_number l (thread_of s t).body.willed.items)
  unfolding released
  released_weighs l =
      let q : State = release_from w s c l (lock_of s l.0) in
      let before : Calm s q = release_calm w s c l (lock_of s l.0) in
      let many = before.keeps.many in
      weighs_to s _ t _ _ (calm_weighs s q _ t _ before (let_go_weighs q t l (omega (arith, many, inside)))) (ap (λ (x : Weight). (x.0, without_number l x.1)) (before.weights t))

pub cv_waited_goes : (w : Work) (s : State) (n : ℕ) (c : CpuId) (t : ℕ) → t < length s.threads → c.0 < length s.cpus → (k : ChanId) (l : LockId)
    → Goes (Others c.0) s (cv_waited w s n c t k l) t (Asleep k (back_key n)) ((thread_of s t).body.class, without_number l (thread_of s t).body.willed.items)
unfolding cv_waited
cv_waited_goes w s n c t inside here k l =
    let before = released_weighs w s n c t inside here l in
    let many = before.keeps.many in
    let cpus = before.keeps.cpus in
    goes_to (Others c.0) s _ t _ _ _
    (weighs_goes (Others c.0) s (released w s c t l) _ t _ _ _ before (asleep_goes w (released w s c t l) n c t (omega (arith, many, inside)) (omega (arith, cpus, here)) k))
    before.weights.at

-- A thread is woken.

abbrev pub woken_weight : Work → Weight → Weight
woken_weight w x = (woken_class w x.0, x.1)

module _ (w : Work) (s : State) (n u : ℕ) (at : Put) (inside : u < length s.threads) where
  pub woke_puts : (t : ℕ) → Puts All s (finish_op w (woken w s n u at) t) u (place_put w n u at) (woken_weight w (weight_part (thread_of s u)))
  woke_puts t = puts_alike All s (woken w s n u at) _ u _ _ (woken_puts w s n u at inside) (calm_alike _ _ (finish_op_calm w _ t))

  pub handed_puts : (t : ℕ) → Puts All s (sema_handed w s n t u at) u (place_put w n u at) (woken_weight w (weight_part (thread_of s u)))
  unfolding sema_handed
  handed_puts t = woke_puts t

  pub unblocked_puts : (c : CpuId) (l : LockId) → Puts All s (unblocked w s n c l u at) u (place_put w n u at) (woken_weight w (weight_part (thread_of s u)))
  unfolding unblocked
  unblocked_puts c l = puts_alike All s (woken w s n u at) _ u _ _ (woken_puts w s n u at inside) (calm_alike _ _ (unblocked_on_calm (woken w s n u at) c l (has_waiters (woken w s n u at) l.0)))

  -- woken after changes that leave what priorities are made of
  pub later_puts : (r : State) → Calm s r → Puts All s (woken w r n u at) u (place_put w n u at) (woken_weight w (weight_part (thread_of s u)))
  later_puts r a =
      let many = a.keeps.many in
      puts_to All s _ u _ _ _ (calm_puts All s r _ u _ _ a (woken_puts w r n u at (omega (arith, many, inside)))) (ap (woken_weight w) (a.weights u))

  -- or that give it other numbers
  pub renumbered_puts : (r : State) (x : Weight) → Weighs s r u x → Puts All s (woken w r n u at) u (place_put w n u at) (woken_weight w x)
  renumbered_puts r x a =
      let many = a.keeps.many in
      puts_to All s _ u _ _ _ (weighs_puts All s r _ u _ _ _ a (woken_puts w r n u at (omega (arith, many, inside)))) (ap (woken_weight w) a.weights.at)

  pub reader_puts : (l : LockId) → Puts All s (granted_to_reader w s n l u at) u (place_put w n u at) (woken_weight w (weight_part (thread_of s u)))
  unfolding granted_to_reader
  reader_puts l = later_puts _ (then_calm s (with_lock s l.0 (one_reader_more (lock_of s l.0))) _ (lock_calm s l.0 _) (then_calm _ _ _ (hold_calm _ u l) (finish_op_calm w _ u)))

  pub writer_puts : (c : CpuId) (l : LockId) → Puts All s (granted_to_writer w s n c l u at) u (place_put w n u at)
      (woken_weight w ((thread_of s u).body.class, changed_number l (others_waiting s l u) (thread_of s u).body.willed.items))
  unfolding granted_to_writer
  writer_puts c l =
      let q : State = finish_op w (hold (with_lock s l.0 (Owned (thread_id u))) u l) u in
      let before : Calm s q = then_calm s (with_lock s l.0 (Owned (thread_id u))) _ (lock_calm s l.0 _) (then_calm _ _ _ (hold_calm _ u l) (finish_op_calm w _ u)) in
      let many = before.keeps.many in
      let numbered : Weighs s (set_number q u l (others_waiting s l u)) u ((thread_of s u).body.class, changed_number l (others_waiting s l u) (thread_of s u).body.willed.items) =
      weighs_to s _ u _ _ (calm_weighs s q _ u _ before (set_number_weighs q u l (others_waiting s l u) (omega (arith, many, inside)))) (ap (λ (x : Weight). (x.0, changed_number l (others_waiting s l u) x.1)) (before.weights u)) in
      puts_alike All s (woken w (set_number q u l (others_waiting s l u)) n u at) _ u _ _ (renumbered_puts (set_number q u l (others_waiting s l u)) _ numbered) (calm_alike _ _ (set_duty_calm _ c.0 _))

pub roused_puts : (w : Work) (s : State) (n : ℕ) (c : CpuId) (k : ChanId) (u : ThreadId × Put) (d : Duty) → u.0.0 < length s.threads
    → Puts All s (roused w s n c k (Some u) d) u.0.0 (place_put w n u.0.0 u.1) (woken_weight w (weight_part (thread_of s u.0.0)))
unfolding roused
roused_puts w s n c k u d inside =
    puts_alike All s (woken w s n u.0.0 u.1) _ u.0.0 _ _ (woken_puts w s n u.0.0 u.1 inside)
    (calm_alike _ _ (roused_on_calm (woken w s n u.0.0 u.1) c (best_sleeper_below (woken w s n u.0.0 u.1) k.0 (rouse_key d))))

pub woke_puts_one : (w : Work) (s : State) (n t : ℕ) (u : ThreadId × Put) → u.0.0 < length s.threads
    → Puts All s (woke w s n t (Some u)) u.0.0 (place_put w n u.0.0 u.1) (woken_weight w (weight_part (thread_of s u.0.0)))
unfolding woke
woke_puts_one w s n t u inside = woke_puts w s n u.0.0 u.1 inside t

-- A walk gives the owner its number.

pub walked_weighs : (s : State) (c : CpuId) (l : LockId) (o : ThreadId) → o.0 < length s.threads
    → Weighs s (walked s c l o) o.0 ((thread_of s o.0).body.class, changed_number l (greatest_waiting l.0 s.threads) (thread_of s o.0).body.willed.items)
walked_weighs s c l o inside =
    weighs_calm s (set_number s o.0 l (greatest_waiting l.0 s.threads)) _ o.0 _ (set_number_weighs s o.0 l (greatest_waiting l.0 s.threads) inside)
    (then_calm _ (set_looped (set_number s o.0 l (greatest_waiting l.0 s.threads)) o.0 _) _ (set_looped_calm _ o.0 _) (set_duty_calm _ c.0 _))
