-- What a change does to states whose keys have the same order: they have it afterwards.
use Rattle.std.proofs.Common.{◌≡◌, ℕ, ◌+◌, ◌-◌, ◌%◌, ◌==◌, Bool, true, false, ◌&&◌, ◌||◌, ℤ, pos, int_lt, Some, None, refl, sym, ap, ◌∙◌, subst, arith}
use Rattle.std.specs.Ordering.{int_eq}
use Rattle.std.specs.Prelude.{if◌then◌else◌, nat_le}
use Rattle.std.proofs.lemmas.Bool.Decides.{nat_tests}
use Rattle.std.proofs.lemmas.Int.{ints}
use Rattle.sd_types.specs.declared.numbers.ChanId.{ChanId}
use Rattle.sd_types.specs.declared.numbers.CpuId.{CpuId}
use Rattle.sd_types.specs.declared.numbers.LockId.{LockId}
use Rattle.sd_types.specs.declared.numbers.SetId.{SetId}
use Rattle.sd_types.specs.declared.numbers.ThreadId.{ThreadId}
use Rattle.sd_types.specs.declared.bodies.ThreadBody.{ThreadBody}
use Rattle.sd_types.specs.declared.events.Duty.{Duty}
use Rattle.sd_types.specs.declared.events.Duty.TheVariants as duty
use Rattle.sd_types.specs.declared.events.End.{End}
use Rattle.sd_types.specs.declared.events.End.TheVariants as end
use Rattle.sd_types.specs.declared.events.Put.{Put}
use Rattle.sd_types.specs.declared.events.Put.TheVariants as put
use Rattle.sd_types.specs.declared.works.Work.{Work}
use Rattle.sd_state.specs.declared.states.CpuState.{CpuState}
use Rattle.sd_state.specs.declared.states.LockState.{LockState}
use Rattle.sd_state.specs.declared.states.Place.{Place}
use Rattle.sd_state.specs.declared.states.Place.TheVariants.{Running, Queued, RealTime, Waiting, Asleep, Napping, Ended}
use Rattle.sd_state.specs.declared.states.ThreadState.{ThreadState}
use Rattle.sd_state.specs.declared.states.State.{State}
use Rattle.sd_state.specs.States.{cpu_of, thread_of, with_cpu, with_thread}
use Rattle.sd_machine.specs.Bodies.{arrived, departed}
use Rattle.sd_machine.specs.Changes.{back_key, bind, clear_marks, close, count_tick, counted, join, leave, marked, place_put, run_on, set_duty, set_kernel_mark, set_mark, unbind, unmarked, with_body, with_cpu_in, with_place, without_cpu}
use Rattle.sd_machine.specs.Prioritising.{walk_from}
use Rattle.sd_machine.specs.Threads.{open_of, with_count, with_lock, with_open}
use Rattle.sd_machine.specs.Walking.{next_walk}
use Rattle.sd_store.specs.declared.spots.Chore.{Chore}
use Rattle.sd_store.specs.declared.spots.Chore.TheVariants as chore
use Rattle.sd_store.specs.declared.spots.Destination.{Destination}
use Rattle.sd_store.specs.declared.spots.Destination.TheVariants as to
use Rattle.sd_store.specs.Keyless.{duty_of, place_by}
use Rattle.sd_store.specs.Walks.{walk_begun, walk_gone_on}
use Rattle.sd_encoding.specs.Order.{OfThread, OfCpu, IsSleeperKey, bare_cpu, bare_duty, bare_place, is_below, key_at, key_held, key_in}
use Rattle.sd_encoding.proofs.AlikeLemmas.{body_same, cpu_alike, duty_with, key_or_zero, place_alike, place_with}
use Rattle.sd_encoding.proofs.SeekLemmas.{duty_is, equal_same, place_is}
use Rattle.sd_encoding.proofs.SourceLemmas.{AreAlike, Source, Gone, From, Back, Front, key_from, since}
use Rattle.sd_encoding.proofs.StepLemmas.{alike_later, count_step, cpu_step, lock_step, open_step, thread_step}
use Rattle.sd_encoding.proofs.TellLemmas.{count_same, open_same, set_same}

-- The duty, the count and the marks of a processor.

chore_key : (chore : Chore) → key_in (duty_of chore) ≡ None
chore_key chore.Nothing = refl
chore_key chore = refl

bare_counted_by : (test : Bool) (d : Duty) → bare_duty (if test then duty.Age (record { 0 = 0 }) else d) ≡ (if test then duty.Age (record { 0 = 0 }) else bare_duty d)
bare_counted_by true d = refl
bare_counted_by false d = refl

bare_counted : (w : Work) (y : CpuState) → bare_cpu (counted w y) ≡ counted w (bare_cpu y)
bare_counted w y = ap (λ (d : Duty). let z : CpuState = record (counted w y) { duty = d } in z) (bare_counted_by (((y.count + 1) % w.hz) == 0) y.duty)

bare_marked_by : (test : Bool) (y : CpuState) → bare_cpu (if test then (record y { kernel = true }) else (record y { user = true })) ≡ (if test then (record (bare_cpu y) { kernel = true }) else (record (bare_cpu y) { user = true }))
bare_marked_by true y = refl
bare_marked_by false y = refl

duty_marked_by : (test : Bool) (y : CpuState) → key_in (if test then (record y { kernel = true }) else (record y { user = true })).duty ≡ key_in y.duty
duty_marked_by true y = refl
duty_marked_by false y = refl

-- The keys that an entry gives.

end_source : End → Source
end_source end.Back = Back
end_source end.Front = Front

abbrev to_source : Destination → Source
to_source (to.Queue d end) = end_source end
to_source (to.RealTime p end) = end_source end
to_source (to.Turnstile l side) = Back
to_source (to.SleepQueue k) = Back
to_source (to.Nap due) = Gone
to_source to.Nowhere = Gone

to_key : (n : ℕ) (z : State) (c : CpuId) (at : Destination) → key_at (place_by n c at) ≡ key_from n z (to_source at)
unfolding end_source
to_key n z c (to.Queue d end.Back) = refl
to_key n z c (to.RealTime p end.Back) = refl
to_key n z c at = refl

to_bare : (n m : ℕ) (c : CpuId) (at : Destination) → bare_place (place_by n c at) ≡ bare_place (place_by m c at)
to_bare n m c (to.Queue d end) = refl
to_bare n m c at = refl

back_sleeps : (n : ℕ) → int_lt (back_key n) (pos 0) ≡ false
back_sleeps n = grind (arith, nat_tests, ints)

to_sleeper : (n : ℕ) (c : CpuId) (at : Destination) → IsSleeperKey (place_by n c at)
to_sleeper n c (to.SleepQueue k) = back_sleeps n
to_sleeper n c at = tt

since_later : (n m : ℕ) (b : Source) (x s : State) → AreAlike (since n b) (since m b) x s → AreAlike (n + 1) (m + 1) x s
since_later n m Gone x s h = alike_later n m x s h
since_later n m (From a) x s h = alike_later n m x s h
since_later n m Back x s h = h
since_later n m Front x s h = h

module _ (n m : ℕ) (x s : State) (h : AreAlike n m x s) where
  -- processor c with another duty, whose key comes from b
  pub duty_step : (c : ℕ) (d e : Duty) (b : Source) → bare_duty d ≡ bare_duty e → key_in d ≡ key_from n x b → key_in e ≡ key_from m s b → AreAlike (since n b) (since m b) (set_duty x c d) (set_duty s c e)
  unfolding set_duty
  duty_step c d e b same kx ks =
      cpu_step n m x s c (record (cpu_of x c) { duty = d }) (record (cpu_of s c) { duty = e }) b h
      (λ i. record (cpu_alike x s h.same.bare c i) { duty = same i }) kx ks

  pub duty_alike_after : (c : ℕ) (chore : Chore) → AreAlike n m (set_duty x c (duty_of chore)) (set_duty s c (duty_of chore))
  duty_alike_after c chore = duty_step c (duty_of chore) (duty_of chore) Gone refl (chore_key chore) (chore_key chore)

  pub rouse_alike : (c : ℕ) (k : ChanId) → AreAlike (n + 1) (m + 1) (set_duty x c (duty.Rouse k (back_key n))) (set_duty s c (duty.Rouse k (back_key m)))
  rouse_alike c k = duty_step c (duty.Rouse k (back_key n)) (duty.Rouse k (back_key m)) Back refl refl refl

  begun_from : (c : CpuId) (t : ThreadId) (p : Place) (j : ℤ) → key_at p ≡ key_held x (OfThread t.0) → key_at (place_with p j) ≡ key_held s (OfThread t.0)
      → AreAlike n m (walk_from x c t p) (walk_from s c t (place_with p j))
  begun_from c t (Waiting l side k) j e f = duty_step c.0 (duty.Walk l t k) (duty.Walk l t j) (From (OfThread t.0)) refl e f
  begun_from c t p j e f = h

  pub begun_alike : (c : CpuId) (t : ThreadId) → AreAlike n m (walk_begun x c t) (walk_begun s c t)
  unfolding walk_begun
  begun_alike c t =
      let j = key_or_zero (key_at (thread_of s t.0).place) in
      let is = place_is n m x s h t.0 in
      subst (λ p. AreAlike n m (walk_begun x c t) (walk_from s c t p)) (sym is) (begun_from c t (thread_of x t.0).place j refl (ap key_at (sym is)))

  -- the walk ends, seeks the owner from here on, or goes on seeking whom it sought
  gone_by : (c : CpuId) (o : ThreadId) (at : LockId) (seek : ThreadId) (key k i j : ℤ) (ends greater : Bool)
      → Some key ≡ key_held x (OfCpu c.0) → Some j ≡ key_held s (OfCpu c.0) → Some k ≡ key_held x (OfThread o.0) → Some i ≡ key_held s (OfThread o.0)
      → AreAlike n m (set_duty x c.0 (if ends then duty.Nothing else if greater then duty.Walk at o k else duty.Walk at seek key)) (set_duty s c.0 (if ends then duty.Nothing else if greater then duty.Walk at o i else duty.Walk at seek j))
  gone_by c o at seek key k i j true greater a b d e = duty_step c.0 duty.Nothing duty.Nothing Gone refl refl refl
  gone_by c o at seek key k i j false true a b d e = duty_step c.0 (duty.Walk at o k) (duty.Walk at o i) (From (OfThread o.0)) refl d e
  gone_by c o at seek key k i j false false a b d e = duty_step c.0 (duty.Walk at seek key) (duty.Walk at seek j) (From (OfCpu c.0)) refl a b

  gone_from : (c : CpuId) (o : ThreadId) (looped : Bool) (d : Duty) (p : Place) (i j : ℤ)
      → key_in d ≡ key_held x (OfCpu c.0) → key_in (duty_with d j) ≡ key_held s (OfCpu c.0) → key_at p ≡ key_held x (OfThread o.0) → key_at (place_with p i) ≡ key_held s (OfThread o.0)
      → is_below (key_in d) (key_at p) ≡ is_below (key_in (duty_with d j)) (key_at (place_with p i)) → is_below (key_at p) (key_in d) ≡ is_below (key_at (place_with p i)) (key_in (duty_with d j))
      → AreAlike n m (set_duty x c.0 (next_walk d o looped p)) (set_duty s c.0 (next_walk (duty_with d j) o looped (place_with p i)))
  gone_from c o looped (duty.Walk l seek key) (Waiting at side k) i j a b e f less more =
      let ends : (looped || ((seek.0 == o.0) && int_eq key k)) ≡ (looped || ((seek.0 == o.0) && int_eq j i)) = ap (λ t. looped || ((seek.0 == o.0) && t)) (equal_same key k j i less more) in
      rw (ends, less) (gone_by c o at seek key k i j (looped || ((seek.0 == o.0) && int_eq j i)) (int_lt j i) a b e f)
  gone_from c o looped (duty.Walk l seek key) (Running d) i j a b e f less more = duty_alike_after c.0 chore.Nothing
  gone_from c o looped (duty.Walk l seek key) (Queued d k) i j a b e f less more = duty_alike_after c.0 chore.Nothing
  gone_from c o looped (duty.Walk l seek key) (RealTime q k) i j a b e f less more = duty_alike_after c.0 chore.Nothing
  gone_from c o looped (duty.Walk l seek key) (Asleep r k) i j a b e f less more = duty_alike_after c.0 chore.Nothing
  gone_from c o looped (duty.Walk l seek key) (Napping d due) i j a b e f less more = duty_alike_after c.0 chore.Nothing
  gone_from c o looped (duty.Walk l seek key) Ended i j a b e f less more = duty_alike_after c.0 chore.Nothing
  gone_from c o looped duty.Nothing p i j a b e f less more = duty_alike_after c.0 chore.Nothing
  gone_from c o looped (duty.WakeMutex l) p i j a b e f less more = duty_alike_after c.0 chore.Nothing
  gone_from c o looped (duty.GrantWriter l) p i j a b e f less more = duty_alike_after c.0 chore.Nothing
  gone_from c o looped (duty.GrantReaders l) p i j a b e f less more = duty_alike_after c.0 chore.Nothing
  gone_from c o looped (duty.Rouse k below) p i j a b e f less more = duty_alike_after c.0 chore.Nothing
  gone_from c o looped (duty.Age u) p i j a b e f less more = duty_alike_after c.0 chore.Nothing

  pub gone_alike : (c : CpuId) (o : ThreadId) → AreAlike n m (walk_gone_on x c o) (walk_gone_on s c o)
  unfolding walk_gone_on
  gone_alike c o =
      let i = key_or_zero (key_at (thread_of s o.0).place) in
      let j = key_or_zero (key_in (cpu_of s c.0).duty) in
      let pis = place_is n m x s h o.0 in
      let dis = duty_is n m x s h c.0 in
      let less = h.same.order (OfCpu c.0) (OfThread o.0) ∙ (λ a. is_below (key_in (dis a)) (key_at (pis a))) in
      let more = h.same.order (OfThread o.0) (OfCpu c.0) ∙ (λ a. is_below (key_at (pis a)) (key_in (dis a))) in
      let same : AreAlike n m (walk_gone_on x c o) (set_duty s c.0 (next_walk (duty_with (cpu_of x c.0).duty j) o (thread_of x o.0).body.looped (place_with (thread_of x o.0).place i))) =
      gone_from c o (thread_of x o.0).body.looped (cpu_of x c.0).duty (thread_of x o.0).place i j refl (ap key_in (sym dis)) refl (ap key_at (sym pis)) less more in
      subst (λ z. AreAlike n m (walk_gone_on x c o) z) (sym (λ a. set_duty s c.0 (next_walk (dis a) o (sym (body_same x s h.same.bare o.0) a).looped (pis a)))) same

  count_by : (w : Work) (c : ℕ) (test : Bool) → ((((cpu_of x c).count + 1) % w.hz) == 0) ≡ test → ((((cpu_of s c).count + 1) % w.hz) == 0) ≡ test → AreAlike n m (count_tick w x c) (count_tick w s c)
  unfolding count_tick
  count_by w c true e f =
      cpu_step n m x s c (counted w (cpu_of x c)) (counted w (cpu_of s c)) Gone h (bare_counted w (cpu_of x c) ∙ ap (counted w) (cpu_alike x s h.same.bare c) ∙ sym (bare_counted w (cpu_of s c)))
      (rw e refl) (rw f refl)
  count_by w c false e f =
      cpu_step n m x s c (counted w (cpu_of x c)) (counted w (cpu_of s c)) (From (OfCpu c)) h (bare_counted w (cpu_of x c) ∙ ap (counted w) (cpu_alike x s h.same.bare c) ∙ sym (bare_counted w (cpu_of s c)))
      (rw e refl) (rw f refl)

  pub count_alike : (w : Work) (c : ℕ) → AreAlike n m (count_tick w x c) (count_tick w s c)
  count_alike w c = count_by w c ((((cpu_of s c).count + 1) % w.hz) == 0) (ap (λ count. ((count + 1) % w.hz) == 0) (count_same x s h.same c)) refl

  pub clear_alike : (c : ℕ) → AreAlike n m (clear_marks x c) (clear_marks s c)
  unfolding clear_marks
  clear_alike c = cpu_step n m x s c (unmarked (cpu_of x c)) (unmarked (cpu_of s c)) (From (OfCpu c)) h (ap unmarked (cpu_alike x s h.same.bare c)) refl refl

  pub mark_alike : (c p : ℕ) → AreAlike n m (set_mark x c p) (set_mark s c p)
  unfolding set_mark
  mark_alike c p =
      cpu_step n m x s c (marked p (cpu_of x c)) (marked p (cpu_of s c)) (From (OfCpu c)) h
      (bare_marked_by (nat_le 100 p) (cpu_of x c) ∙ ap (marked p) (cpu_alike x s h.same.bare c) ∙ sym (bare_marked_by (nat_le 100 p) (cpu_of s c)))
      (duty_marked_by (nat_le 100 p) (cpu_of x c)) (duty_marked_by (nat_le 100 p) (cpu_of s c))

  pub kernel_alike : (c : ℕ) → AreAlike n m (set_kernel_mark x c) (set_kernel_mark s c)
  unfolding set_kernel_mark
  kernel_alike c =
      cpu_step n m x s c (record (cpu_of x c) { kernel = true }) (record (cpu_of s c) { kernel = true }) (From (OfCpu c)) h
      (λ i. record (cpu_alike x s h.same.bare c i) { kernel = true }) refl refl

  -- The bodies and the places of threads.

  pub body_alike : (t : ℕ) (f : ThreadBody → ThreadBody) → AreAlike n m (with_body x t (f (thread_of x t).body)) (with_body s t (f (thread_of s t).body))
  body_alike t f =
      thread_step n m x s t (record (thread_of x t) { body = f (thread_of x t).body }) (record (thread_of s t) { body = f (thread_of s t).body }) (From (OfThread t)) h
      (λ i. record { body = f (body_same x s h.same.bare t i); place = place_alike x s h.same.bare t i }) refl refl (h.own.sleepers t) (h.keys.sleepers t)

  pub run_alike : (t : ℕ) (c : CpuId) → AreAlike n m (run_on x t c) (run_on s t c)
  unfolding run_on
  run_alike t c =
      thread_step n m x s t (record { body = arrived c (thread_of x t).body; place = Running c }) (record { body = arrived c (thread_of s t).body; place = Running c }) Gone h
      (λ i. record { body = arrived c (body_same x s h.same.bare t i); place = Running c }) refl refl tt tt

  pub enqueue_alike : (w : Work) (t : ℕ) (at : Put) → AreAlike (n + 1) (m + 1) (with_place x t (place_put w n t at)) (with_place s t (place_put w m t at))
  enqueue_alike w t (put.Cpu c) =
      thread_step n m x s t (record (thread_of x t) { place = Queued c (back_key n) }) (record (thread_of s t) { place = Queued c (back_key m) }) Back h
      (λ i. record { body = body_same x s h.same.bare t i; place = Queued c (pos 0) }) refl refl tt tt
  enqueue_alike w t (put.RealTime c) =
      thread_step n m x s t (record (thread_of x t) { place = place_put w n t (put.RealTime c) }) (record (thread_of s t) { place = place_put w m t (put.RealTime c) }) Back h
      (λ i. record { body = body_same x s h.same.bare t i; place = bare_place (place_put w n t (put.RealTime c)) }) refl refl tt tt

  pub lock_alike : (l : ℕ) (lock : LockState) → AreAlike n m (with_lock x l lock) (with_lock s l lock)
  lock_alike l lock = lock_step n m x s l lock h

  pub tokens_alike : (k tokens : ℕ) → AreAlike n m (with_count x k tokens) (with_count s k tokens)
  tokens_alike k tokens = count_step n m x s k tokens h

-- a change of what a processor shows beside its duty
cpu_shown : (n m : ℕ) (x s : State) → AreAlike n m x s → (c : ℕ) (f : CpuState → CpuState) → ((y : CpuState) → bare_cpu (f y) ≡ f (bare_cpu y)) → ((y : CpuState) → (f y).duty ≡ y.duty)
    → AreAlike n m (with_cpu x c (f (cpu_of x c))) (with_cpu s c (f (cpu_of s c)))
cpu_shown n m x s h c f bare same =
    cpu_step n m x s c (f (cpu_of x c)) (f (cpu_of s c)) (From (OfCpu c)) h (bare (cpu_of x c) ∙ ap f (cpu_alike x s h.same.bare c) ∙ sym (bare (cpu_of s c)))
    (ap key_in (same (cpu_of x c))) (ap key_in (same (cpu_of s c)))

-- Changes of two parts.
module _ (n m : ℕ) (x s : State) (h : AreAlike n m x s) where
  pub leave_alike : (c : CpuId) (t : ℕ) (at : Destination) → AreAlike (n + 1) (m + 1) (leave x c.0 t (place_by n c at)) (leave s c.0 t (place_by m c at))
  unfolding leave
  leave_alike c t at =
      let y : ThreadState = record { body = departed (cpu_of x c.0).count (thread_of x t).body; place = place_by n c at } in
      let z : ThreadState = record { body = departed (cpu_of s c.0).count (thread_of s t).body; place = place_by m c at } in
      let b = to_source at in
      let first : AreAlike (since n b) (since m b) (with_thread x t y) (with_thread s t z) =
      thread_step n m x s t y z b h (λ i. record { body = departed (count_same x s h.same c.0 i) (body_same x s h.same.bare t i); place = to_bare n m c at i })
      (to_key n x c at) (to_key m s c at) (to_sleeper n c at) (to_sleeper m c at) in
      since_later n m b (leave x c.0 t (place_by n c at)) (leave s c.0 t (place_by m c at)) (cpu_shown (since n b) (since m b) (with_thread x t y) (with_thread s t z) first c.0 unmarked (λ y. refl) (λ y. refl))

  pub close_alike : (d : CpuId) (at : SetId) → AreAlike n m (close x d at) (close s d at)
  unfolding close
  close_alike d at =
      let p = (cpu_of x d.0).set.0 in
      let q = (cpu_of s d.0).set.0 in
      let listed : AreAlike n m (with_open x p (without_cpu d (open_of x p))) (with_open s q (without_cpu d (open_of s q))) =
      subst (λ z. AreAlike n m (with_open x p (without_cpu d (open_of x p))) z)
      (ap (λ cpus. with_open s p (without_cpu d cpus)) (open_same x s h.same p) ∙ ap (λ r. with_open s r (without_cpu d (open_of s r))) (set_same x s h.same d.0))
      (open_step n m x s p (without_cpu d (open_of x p)) h) in
      cpu_shown n m (with_open x p (without_cpu d (open_of x p))) (with_open s q (without_cpu d (open_of s q))) listed d.0 (λ y. record y { closing = Some at }) (λ y. refl) (λ y. refl)

  pub join_alike : (c : CpuId) (set : SetId) → AreAlike n m (join x c set) (join s c set)
  unfolding join
  join_alike c set =
      let listed : AreAlike n m (with_open x set.0 (with_cpu_in c (open_of x set.0))) (with_open s set.0 (with_cpu_in c (open_of s set.0))) =
      subst (λ cpus. AreAlike n m (with_open x set.0 (with_cpu_in c (open_of x set.0))) (with_open s set.0 (with_cpu_in c cpus))) (open_same x s h.same set.0)
      (open_step n m x s set.0 (with_cpu_in c (open_of x set.0)) h) in
      cpu_shown n m (with_open x set.0 (with_cpu_in c (open_of x set.0))) (with_open s set.0 (with_cpu_in c (open_of s set.0))) listed c.0 (λ y. record y { set = set; closing = None }) (λ y. refl) (λ y. refl)

  pub bind_alike : (t : ℕ) (d : CpuId) → AreAlike n m (bind x t d) (bind s t d)
  unfolding bind
  bind_alike t d =
      let bound = body_alike n m x s h t (λ b. record b { bound = Some d }) in
      cpu_shown n m (with_body x t (record (thread_of x t).body { bound = Some d })) (with_body s t (record (thread_of s t).body { bound = Some d })) bound d.0 (λ y. record y { bound = y.bound + 1 }) (λ y. refl) (λ y. refl)

  pub unbind_alike : (t : ℕ) (b : CpuId) → AreAlike n m (unbind x t b) (unbind s t b)
  unfolding unbind
  unbind_alike t b =
      let free = body_alike n m x s h t (λ y. record y { bound = None }) in
      cpu_shown n m (with_body x t (record (thread_of x t).body { bound = None })) (with_body s t (record (thread_of s t).body { bound = None })) free b.0 (λ y. record y { bound = y.bound - 1 }) (λ y. refl) (λ y. refl)
