-- Entries at locks, channels and sets, of states whose keys have the same order.
use Rattle.std.proofs.Common.{◌≡◌, ℕ, ◌+◌, ◌-◌, ◌==◌, Bool, true, false, ℤ, Option, Some, None, is_some, refl, sym, ap, ◌∙◌, subst}
use Rattle.std.specs.Prelude.{if◌then◌else◌, nat_le, nat_lt}
use Rattle.sd_types.specs.declared.numbers.CpuId.{CpuId}
use Rattle.sd_types.specs.declared.numbers.LockId.{LockId}
use Rattle.sd_types.specs.declared.numbers.Side.TheVariants.{Writer, Reader}
use Rattle.sd_types.specs.declared.events.Duty.{Duty}
use Rattle.sd_types.specs.declared.events.Duty.TheVariants as duty
use Rattle.sd_types.specs.declared.events.Put.{Put}
use Rattle.sd_types.specs.declared.works.Work.{Work}
use Rattle.sd_types.specs.Works.{is_mutex}
use Rattle.sd_state.specs.declared.states.LockState.{LockState}
use Rattle.sd_state.specs.declared.states.LockState.TheVariants.{Free, Owned, ReadHeld, Passing}
use Rattle.sd_state.specs.declared.states.Place.{Place}
use Rattle.sd_state.specs.declared.states.Place.TheVariants.{Running}
use Rattle.sd_state.specs.declared.states.State.{State}
use Rattle.sd_state.specs.States.{cpu_of, thread_of}
use Rattle.sd_machine.specs.Changes.{bind, set_duty, set_kernel_mark}
use Rattle.sd_machine.specs.Locking.{after_owner, after_reader, after_writer, free_or_passed, granted, granted_to_reader, granted_to_writer, kind_of, one_reader_more, others_waiting, passed, passed_on, release_from, unblocked_on, writer_first}
use Rattle.sd_machine.specs.SetChanges.{called_back, cleared, rebound}
use Rattle.sd_machine.specs.Threads.{best_waiter, has_waiters, lock_of, priority_of, thread_id, with_count, with_lock}
use Rattle.sd_encoding.specs.Order.{bare_duty, key_in}
use Rattle.sd_encoding.specs.Order.{key_at as key_of_place}
use Rattle.sd_encoding.proofs.AlikeLemmas.{duty_with, key_or_zero, place_with}
use Rattle.sd_encoding.proofs.ChangeLemmas.{bind_alike, duty_step, kernel_alike, lock_alike, tokens_alike, unbind_alike}
use Rattle.sd_encoding.proofs.PutLemmas.{finish_alike, hold_alike, if_alike, number_alike, priority_same, woken_alike}
use Rattle.sd_encoding.proofs.SeekLemmas.{duty_is, place_is}
use Rattle.sd_encoding.proofs.SourceLemmas.{AreAlike, Gone}
use Rattle.sd_encoding.proofs.TellLemmas.{best_waiter_same, has_waiters_same, lock_same, others_same}

module _ (n m : ℕ) (x s : State) (h : AreAlike n m x s) where
  pub lock_given : (l : ℕ) (a b : LockState) → a ≡ b → AreAlike n m (with_lock x l a) (with_lock s l b)
  lock_given l a b e = subst (λ z. AreAlike n m (with_lock x l a) (with_lock s l z)) e (lock_alike n m x s h l a)

  pub tokens_given : (k a b : ℕ) → a ≡ b → AreAlike n m (with_count x k a) (with_count s k b)
  tokens_given k a b e = subst (λ z. AreAlike n m (with_count x k a) (with_count s k z)) e (tokens_alike n m x s h k a)

  -- a duty without a key
  pub duty_given : (c : ℕ) (a b : Duty) → a ≡ b → key_in a ≡ None → AreAlike n m (set_duty x c a) (set_duty s c b)
  duty_given c a b e none = duty_step n m x s h c a b Gone (ap bare_duty e) none (ap key_in (sym e) ∙ none)

  waiter_priority : (l : LockId) → priority_of x (best_waiter x l.0 Writer) ≡ priority_of s (best_waiter s l.0 Writer)
  waiter_priority l = priority_same n m x s h (best_waiter x l.0 Writer) (best_waiter s l.0 Writer) (best_waiter_same x s h.same l.0 Writer)

  reader_priority : (l : LockId) → priority_of x (best_waiter x l.0 Reader) ≡ priority_of s (best_waiter s l.0 Reader)
  reader_priority l = priority_same n m x s h (best_waiter x l.0 Reader) (best_waiter s l.0 Reader) (best_waiter_same x s h.same l.0 Reader)

  after_writer_same : (l : LockId) → after_writer x l ≡ after_writer s l
  after_writer_same l i = if writer_first (waiter_priority l i) (reader_priority l i) then duty.GrantWriter l else duty.GrantReaders l

  after_owner_same : (w : Work) (l : LockId) → after_owner w x l ≡ after_owner w s l
  after_owner_same w l i = if is_mutex (kind_of w l) then duty.WakeMutex l else after_writer_same l i

  after_reader_same : (l : LockId) → after_reader x l ≡ after_reader s l
  after_reader_same l i = if is_some (best_waiter_same x s h.same l.0 Writer i) then duty.GrantWriter l else duty.GrantReaders l

if_key : (test : Bool) (a b : Duty) → key_in a ≡ None → key_in b ≡ None → key_in (if test then a else b) ≡ None
if_key true a b e f = e
if_key false a b e f = f

module _ (n m : ℕ) (x s : State) (h : AreAlike n m x s) where
  free_alike : (c : CpuId) (l : LockId) (a b : Duty) → a ≡ b → key_in a ≡ None → AreAlike n m (free_or_passed x c l a) (free_or_passed s c l b)
  free_alike c l a b e none =
      if_alike n m (set_duty (with_lock x l.0 (Passing c 0)) c.0 a) (with_lock x l.0 Free) (set_duty (with_lock s l.0 (Passing c 0)) c.0 b) (with_lock s l.0 Free)
      (has_waiters x l.0) (has_waiters s l.0) (has_waiters_same x s h.same l.0)
      (duty_given n m (with_lock x l.0 (Passing c 0)) (with_lock s l.0 (Passing c 0)) (lock_alike n m x s h l.0 (Passing c 0)) c.0 a b e none) (lock_alike n m x s h l.0 Free)

  owner_key : (w : Work) (l : LockId) → key_in (after_owner w x l) ≡ None
  owner_key w l = if_key (is_mutex (kind_of w l)) (duty.WakeMutex l) (after_writer x l) refl (if_key (writer_first (priority_of x (best_waiter x l.0 Writer)) (priority_of x (best_waiter x l.0 Reader))) (duty.GrantWriter l) (duty.GrantReaders l) refl refl)

  pub release_alike : (w : Work) (c : CpuId) (l : LockId) (lock : LockState) → AreAlike n m (release_from w x c l lock) (release_from w s c l lock)
  release_alike w c l Free = h
  release_alike w c l (Owned o) = free_alike c l (after_owner w x l) (after_owner w s l) (after_owner_same n m x s h w l) (owner_key w l)
  release_alike w c l (ReadHeld r) =
      if_alike n m (free_or_passed x c l (after_reader x l)) (with_lock x l.0 (ReadHeld (r - 1))) (free_or_passed s c l (after_reader s l)) (with_lock s l.0 (ReadHeld (r - 1))) (nat_le r 1) (nat_le r 1) refl
      (free_alike c l (after_reader x l) (after_reader s l) (after_reader_same n m x s h l) (if_key (is_some (best_waiter x l.0 Writer)) (duty.GrantWriter l) (duty.GrantReaders l) refl refl))
      (lock_alike n m x s h l.0 (ReadHeld (r - 1)))
  release_alike w c l (Passing d r) = lock_alike n m x s h l.0 (Passing d (r - 1))

pub unblocked_by : (n m : ℕ) (x s : State) → AreAlike n m x s → (c : CpuId) (l : LockId) (a b : Bool) → a ≡ b → AreAlike n m (unblocked_on x c l a) (unblocked_on s c l b)
unblocked_by n m x s h c l a b e = subst (λ z. AreAlike n m (unblocked_on x c l a) (unblocked_on s c l z)) e (by a)
  where
    by : (a : Bool) → AreAlike n m (unblocked_on x c l a) (unblocked_on s c l a)
    by true = h
    by false = duty_given n m (with_lock x l.0 Free) (with_lock s l.0 Free) (lock_alike n m x s h l.0 Free) c.0 duty.Nothing duty.Nothing refl refl

module _ (n m : ℕ) (x s : State) (h : AreAlike n m x s) where
  to_writer_alike : (w : Work) (c : CpuId) (l : LockId) (u : ℕ) (at : Put) → AreAlike (n + 1) (m + 1) (granted_to_writer w x n c l u at) (granted_to_writer w s m c l u at)
  unfolding granted_to_writer
  to_writer_alike w c l u at =
      let held = finish_alike n m _ _ (hold_alike n m _ _ (lock_alike n m x s h l.0 (Owned (thread_id u))) u l) w u in
      duty_given (n + 1) (m + 1) _ _ (woken_alike n m _ _ (number_alike n m _ _ held u l (others_waiting x l u) (others_waiting s l u) (others_same x s h.same l u)) w u at) c.0 duty.Nothing duty.Nothing refl refl

  to_reader_alike : (w : Work) (l : LockId) (u : ℕ) (at : Put) → AreAlike (n + 1) (m + 1) (granted_to_reader w x n l u at) (granted_to_reader w s m l u at)
  unfolding granted_to_reader
  to_reader_alike w l u at =
      woken_alike n m _ _ (finish_alike n m _ _ (hold_alike n m _ _ (lock_given n m x s h l.0 (one_reader_more (lock_of x l.0)) (one_reader_more (lock_of s l.0)) (ap one_reader_more (lock_same x s h.same l.0))) u l) w u) w u at

  granted_by : (w : Work) (c : CpuId) (l : LockId) (u : ℕ) (at : Put) (d : Duty) (j : ℤ) → AreAlike (n + 1) (m + 1) (granted w x n c l u at d) (granted w s m c l u at (duty_with d j))
  granted_by w c l u at (duty.GrantWriter r) j = to_writer_alike w c l u at
  granted_by w c l u at d j = to_reader_alike w l u at

  pub granted_alike : (w : Work) (c : CpuId) (l : LockId) (u : ℕ) (at : Put) → AreAlike (n + 1) (m + 1) (granted w x n c l u at (cpu_of x c.0).duty) (granted w s m c l u at (cpu_of s c.0).duty)
  granted_alike w c l u at =
      let j = key_or_zero (key_in (cpu_of s c.0).duty) in
      subst (λ d. AreAlike (n + 1) (m + 1) (granted w x n c l u at (cpu_of x c.0).duty) (granted w s m c l u at d)) (sym (duty_is n m x s h c.0)) (granted_by w c l u at (cpu_of x c.0).duty j)

  ended_alike : (c : CpuId) → AreAlike n m (set_duty x c.0 duty.Nothing) (set_duty s c.0 duty.Nothing)
  ended_alike c = duty_given n m x s h c.0 duty.Nothing duty.Nothing refl refl

  over_alike : (c : CpuId) (l : LockId) (lock : LockState) → AreAlike n m (set_duty (with_lock x l.0 lock) c.0 duty.Nothing) (set_duty (with_lock s l.0 lock) c.0 duty.Nothing)
  over_alike c l lock = duty_given n m (with_lock x l.0 lock) (with_lock s l.0 lock) (lock_alike n m x s h l.0 lock) c.0 duty.Nothing duty.Nothing refl refl

  passed_by : (c : CpuId) (l : LockId) (lock : LockState) → AreAlike n m (passed_on x c l lock) (passed_on s c l lock)
  passed_by c l (Passing d r) =
      if_alike n m (set_duty (with_lock x l.0 (ReadHeld r)) c.0 duty.Nothing) (if is_some (best_waiter x l.0 Writer) then set_duty x c.0 (duty.GrantWriter l) else set_duty (with_lock x l.0 Free) c.0 duty.Nothing)
      (set_duty (with_lock s l.0 (ReadHeld r)) c.0 duty.Nothing) (if is_some (best_waiter s l.0 Writer) then set_duty s c.0 (duty.GrantWriter l) else set_duty (with_lock s l.0 Free) c.0 duty.Nothing)
      (nat_lt 0 r) (nat_lt 0 r) refl (over_alike c l (ReadHeld r))
      (if_alike n m (set_duty x c.0 (duty.GrantWriter l)) (set_duty (with_lock x l.0 Free) c.0 duty.Nothing) (set_duty s c.0 (duty.GrantWriter l)) (set_duty (with_lock s l.0 Free) c.0 duty.Nothing)
      (is_some (best_waiter x l.0 Writer)) (is_some (best_waiter s l.0 Writer)) (ap (λ o. is_some o) (best_waiter_same x s h.same l.0 Writer))
      (duty_given n m x s h c.0 (duty.GrantWriter l) (duty.GrantWriter l) refl refl) (over_alike c l Free))
  passed_by c l Free = ended_alike c
  passed_by c l (Owned o) = ended_alike c
  passed_by c l (ReadHeld r) = ended_alike c

  pub passed_alike : (c : CpuId) (l : LockId) → AreAlike n m (passed x c l) (passed s c l)
  unfolding passed
  passed_alike c l = subst (λ z. AreAlike n m (passed_on x c l (lock_of x l.0)) (passed_on s c l z)) (lock_same x s h.same l.0) (passed_by c l (lock_of x l.0))

-- Processors that change their set, and bindings.

pub cleared_by : (n m : ℕ) (x s : State) → AreAlike n m x s → (d : CpuId) (o p : Option ℕ) → o ≡ p → AreAlike n m (cleared x d o) (cleared s d p)
cleared_by n m x s h d o p e = subst (λ z. AreAlike n m (cleared x d o) (cleared s d z)) e (by o)
  where
    by : (o : Option ℕ) → AreAlike n m (cleared x d o) (cleared s d o)
    by None = h
    by (Some r) = kernel_alike n m x s h d.0

called_by : (n m : ℕ) (x s : State) → AreAlike n m x s → (d : CpuId) (p : Place) (j : ℤ) → AreAlike n m (called_back x d p) (called_back s d (place_with p j))
called_by n m x s h d (Running c) j = if_alike n m x (set_kernel_mark x c.0) s (set_kernel_mark s c.0) (c.0 == d.0) (c.0 == d.0) refl h (kernel_alike n m x s h c.0)
called_by n m x s h d _ j = h

module _ (n m : ℕ) (x s : State) (h : AreAlike n m x s) where
  pub rebound_by : (u : ℕ) (d bound : Option CpuId) → AreAlike n m (rebound x u d bound) (rebound s u d bound)
  rebound_by u (Some d) bound =
      let tied = bind_alike n m x s h u d in
      let j = key_or_zero (key_of_place (thread_of s u).place) in
      subst (λ p. AreAlike n m (called_back (bind x u d) d (thread_of x u).place) (called_back (bind s u d) d p)) (sym (place_is n m x s h u)) (called_by n m (bind x u d) (bind s u d) tied d (thread_of x u).place j)
  rebound_by u None (Some b) = unbind_alike n m x s h u b
  rebound_by u None None = h
