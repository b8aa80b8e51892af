-- Which locks a thread holds, which priorities it inherits, whether it is looped and where it is bound: what the events make
-- of these that take a lock, give one up, hand a priority on or bind a thread. The others leave them.
use Rattle.std.proofs.Common.{◌≡◌, ℕ, ◌<◌, Bool, true, false, ◌||◌, List, [], ◌∷◌, ◌++◌, length, Option, Some, None, refl, ap, arith}
use Rattle.sd_types.specs.Scripts.{without_lock}
use Rattle.sd_types.specs.Willed.{Numbers, without_number, changed_number}
use Rattle.sd_state.proofs.KeyLemmas.{IsPut}
use Rattle.sd_machine.proofs.ShapeLemmas.{IsShaped, deeds_shape, lock_shape, set_number_shape, release_from_shape}
use Rattle.sd_frames.proofs.Parts.{same_item, put_item, put_same, same_put, put_is, same_is_put}
use Rattle.sd_frames.proofs.Words.{then_same, lock_same, set_duty_same, called_back_same, Same, of_threads}
use Rattle.sd_frames.proofs.Made.{Kind, kinds, Over, Ran, Held, Given, Numbered, Looped, Placed, Bound}
use Rattle.sd_frames.proofs.ThreadParts.{Leaves, after_same, makes_only, ran_left, same_keeps, put_where_same, reordered_same, deeds_same}
use Rattle.sd_machine.specs.Deeds.{Deed, EndsOp, FreesLock, GoesTo, HoldsLock, LooksAgain, TakesLock, ToSleep, WakesUp, EndsDuty, all_did}
use Rattle.std.specs.List.{list_all}
use Rattle.sd_types.specs.declared.numbers.ChanId.{ChanId}
use Rattle.sd_types.specs.declared.numbers.CpuId.{CpuId}
use Rattle.sd_types.specs.declared.numbers.LockId.{LockId}
use Rattle.sd_types.specs.declared.numbers.ThreadId.{ThreadId}
use Rattle.sd_types.specs.declared.bodies.ThreadBody.{ThreadBody}
use Rattle.sd_types.specs.declared.events.BindAnswer.{BindAnswer}
use Rattle.sd_types.specs.declared.events.BindAnswer.TheVariants as bind_answer
use Rattle.sd_types.specs.declared.events.Event.{Event}
use Rattle.sd_types.specs.declared.events.Put.{Put}
use Rattle.sd_machine.specs.Events.{after}
use Rattle.sd_types.specs.declared.works.Work.{Work}
use Rattle.sd_state.specs.declared.states.LockState.{LockState}
use Rattle.sd_state.specs.declared.states.LockState.TheVariants.{Owned}
use Rattle.sd_state.specs.declared.states.CpuState.{CpuState}
use Rattle.sd_state.specs.declared.states.ThreadState.{ThreadState}
use Rattle.sd_state.specs.declared.states.State.{State}
use Rattle.sd_state.specs.States.{no_thread, thread_of, cpu_of, with_cpu}
use Rattle.sd_machine.specs.Threads.{thread_id, lock_of, with_lock, greatest_waiting}
use Rattle.sd_machine.specs.Changes.{with_body, finish_op, hold, let_go, set_number, set_looped, put_where, bind, unbind}
use Rattle.sd_machine.specs.Sleeping.{fallen_asleep}
use Rattle.sd_machine.specs.Locking.{release_from, released, exited, others_waiting, one_reader_more, granted_to_writer, granted_to_reader}
use Rattle.sd_machine.specs.Walking.{is_back, walked, willed}
use Rattle.sd_machine.specs.Conditions.{cv_waited}
use Rattle.sd_machine.specs.SetChanges.{rebound, pbound}

abbrev pub held_part : ThreadState → List LockId
held_part x = x.body.held.items

abbrev pub numbers_part : ThreadState → Numbers
numbers_part x = x.body.willed.items

abbrev pub looped_part : ThreadState → Bool
looped_part x = x.body.looped

abbrev pub bound_part : ThreadState → Option CpuId
bound_part x = x.body.bound

-- the kinds of changes that leave each of them

abbrev pub leaves_held : Kind → Bool
leaves_held Held = false
leaves_held Given = false
leaves_held _ = true

pub held_left : (k : Kind) → leaves_held k ≡ true → Leaves held_part k
held_left Ran is = ran_left held_part (λ x ops. refl) (λ x n. refl)
held_left Held is = cc
held_left Given is = cc
held_left _ is = λ x y. refl

abbrev pub leaves_numbers : Kind → Bool
leaves_numbers Given = false
leaves_numbers Numbered = false
leaves_numbers _ = true

pub numbers_left : (k : Kind) → leaves_numbers k ≡ true → Leaves numbers_part k
numbers_left Ran is = ran_left numbers_part (λ x ops. refl) (λ x n. refl)
numbers_left Given is = cc
numbers_left Numbered is = cc
numbers_left _ is = λ x y. refl

abbrev pub leaves_looped : Kind → Bool
leaves_looped Looped = false
leaves_looped _ = true

pub looped_left : (k : Kind) → leaves_looped k ≡ true → Leaves looped_part k
looped_left Ran is = ran_left looped_part (λ x ops. refl) (λ x n. refl)
looped_left Looped is = cc
looped_left _ is = λ x y. refl

abbrev pub leaves_bound : Kind → Bool
leaves_bound Bound = false
leaves_bound _ = true

pub bound_left : (k : Kind) → leaves_bound k ≡ true → Leaves bound_part k
bound_left Ran is = ran_left bound_part (λ x ops. refl) (λ x n. refl)
bound_left Bound is = cc
bound_left _ is = λ x y. refl

-- what an event leaves that makes such changes alone

pub numbers_same : (w : Work) (s : State) (n : ℕ) (c : CpuId) (e : Event) → makes_only leaves_numbers e ≡ true → Same numbers_part s (after w s n c e)
numbers_same w s n c e is = after_same numbers_part leaves_numbers numbers_left w s n c e is

pub looped_same : (w : Work) (s : State) (n : ℕ) (c : CpuId) (e : Event) → makes_only leaves_looped e ≡ true → Same looped_part s (after w s n c e)
looped_same w s n c e is = after_same looped_part leaves_looped looped_left w s n c e is

pub bound_same : (w : Work) (s : State) (n : ℕ) (c : CpuId) (e : Event) → makes_only leaves_bound e ≡ true → Same bound_part s (after w s n c e)
bound_same w s n c e is = after_same bound_part leaves_bound bound_left w s n c e is

-- the part of thread t becomes y, and no other's
pub record Goes {X : Type 0} (part : ThreadState → X) (s r : State) (t : ℕ) (y : X) : Type 0 where
  pub put : IsPut t y (of_threads part s) (of_threads part r)

module _ {X : Type 0} (part : ThreadState → X) where
  pub same_then : (s r q : State) (t : ℕ) (y : X) → Same part s r → Goes part r q t y → Goes part s q t y
  same_then s r q t y a b = record { put = same_put t y a.each b.put }

  pub put_then : (s r q : State) (t : ℕ) (y : X) → Goes part s r t y → Same part r q → Goes part s q t y
  put_then s r q t y a b = record { put = put_same t y a.put b.each }

  pub put_to : (s r : State) (t : ℕ) (y z : X) → Goes part s r t y → y ≡ z → Goes part s r t z
  put_to s r t y z a is = record { put = put_is t y z a.put is }

  pub body_put : (s : State) (t : ℕ) (b : ThreadBody) → t < length s.threads → Goes part s (with_body s t b) t (part (record (thread_of s t) { body = b }))
  body_put s t b here = record { put = put_item part s.threads no_thread t (record (thread_of s t) { body = b }) here }

  pub body_same : (s : State) (t : ℕ) (b : ThreadBody) → part (record (thread_of s t) { body = b }) ≡ part (thread_of s t) → Same part s (with_body s t b)
  body_same s t b same = record { each = same_item part s.threads no_thread t (record (thread_of s t) { body = b }) same }

  cpu_same : (s : State) (c : ℕ) (x : CpuState) → Same part s (with_cpu s c x)
  cpu_same s c x = record { each = λ u. refl }

pub there : (s r : State) (t : ℕ) → IsShaped s r → t < length s.threads → t < length r.threads
there s r t a here = omega (arith, a.threads)

pub hold_put : (s : State) (t : ℕ) (l : LockId) → t < length s.threads → Goes held_part s (hold s t l) t ((thread_of s t).body.held.items ++ l ∷ [])
unfolding hold
hold_put s t l here = body_put held_part s t _ here

pub let_go_held : (s : State) (t : ℕ) (l : LockId) → t < length s.threads → Goes held_part s (let_go s t l) t (without_lock l (thread_of s t).body.held.items)
unfolding let_go
let_go_held s t l here = body_put held_part s t _ here

pub let_go_numbers : (s : State) (t : ℕ) (l : LockId) → t < length s.threads → Goes numbers_part s (let_go s t l) t (without_number l (thread_of s t).body.willed.items)
unfolding let_go
let_go_numbers s t l here = body_put numbers_part s t _ here

pub set_number_put : (s : State) (t : ℕ) (l : LockId) (o : Option ℕ) → t < length s.threads → Goes numbers_part s (set_number s t l o) t (changed_number l o (thread_of s t).body.willed.items)
unfolding set_number
set_number_put s t l o here = body_put numbers_part s t _ here

pub set_looped_put : (s : State) (t : ℕ) (b : Bool) → t < length s.threads → Goes looped_part s (set_looped s t b) t b
unfolding set_looped
set_looped_put s t b here = body_put looped_part s t _ here

numbers_deeds : (w : Work) (n : ℕ) (c : CpuId) (s : State) (ds : List Deed) → list_all (λ d. list_all leaves_numbers (kinds d)) ds ≡ true → Same numbers_part s (all_did w n c s ds)
numbers_deeds w n c s ds is = deeds_same numbers_part leaves_numbers numbers_left w n c s ds is

-- A thread gives up a lock.

released_numbers : (w : Work) (s : State) (c : CpuId) (t : ℕ) (l : LockId) → t < length s.threads → Goes numbers_part s (released w s c t l) t (without_number l (thread_of s t).body.willed.items)
unfolding released
released_numbers w s c t l here =
    let before = numbers_deeds w 0 c s (FreesLock l ∷ []) refl in
    put_to numbers_part s _ t _ _ (same_then numbers_part s (release_from w s c l (lock_of s l.0)) _ t _ before (let_go_numbers _ t l (there s _ t (release_from_shape w s c l (lock_of s l.0)) here)))
    (ap (λ (xs : Numbers). without_number l xs) (before.each t))

pub exited_numbers : (w : Work) (s : State) (c : CpuId) (t : ℕ) (l : LockId) → t < length s.threads → Goes numbers_part s (exited w s c t l) t (without_number l (thread_of s t).body.willed.items)
unfolding exited
exited_numbers w s c t l here = put_then numbers_part s (released w s c t l) _ t _ (released_numbers w s c t l here) (numbers_deeds w 0 c (released w s c t l) (EndsOp t ∷ LooksAgain ∷ []) refl)

pub cv_waited_numbers : (w : Work) (s : State) (n : ℕ) (c : CpuId) (t : ℕ) (k : ChanId) (l : LockId) → t < length s.threads → Goes numbers_part s (cv_waited w s n c t k l) t (without_number l (thread_of s t).body.willed.items)
unfolding cv_waited fallen_asleep
cv_waited_numbers w s n c t k l here = put_then numbers_part s (released w s c t l) _ t _ (released_numbers w s c t l here) (numbers_deeds w n c (released w s c t l) (GoesTo t (ToSleep k) ∷ EndsOp t ∷ []) refl)

-- A thread is given one.

taken_held : (w : Work) (s : State) (n : ℕ) (c : CpuId) (l : LockId) (x : LockState) (u : ℕ) (ds : List Deed) → list_all (λ d. list_all leaves_held (kinds d)) ds ≡ true → u < length s.threads
    → Goes held_part s (all_did w n c (hold (with_lock s l.0 x) u l) ds) u ((thread_of s u).body.held.items ++ l ∷ [])
taken_held w s n c l x u ds is here =
    put_then held_part s (hold (with_lock s l.0 x) u l) _ u _ (same_then held_part s (with_lock s l.0 x) _ u _ (lock_same held_part s l.0 x) (hold_put _ u l (there s _ u (lock_shape s l.0 x) here)))
    (deeds_same held_part leaves_held held_left w n c (hold (with_lock s l.0 x) u l) ds is)

pub granted_to_writer_held : (w : Work) (s : State) (n : ℕ) (c : CpuId) (l : LockId) (u : ℕ) (at : Put) → u < length s.threads → Goes held_part s (granted_to_writer w s n c l u at) u ((thread_of s u).body.held.items ++ l ∷ [])
unfolding granted_to_writer
granted_to_writer_held w s n c l u at here =
    let r : State = finish_op w (hold (with_lock s l.0 (Owned (thread_id u))) u l) u in
    put_then held_part s (set_number r u l (others_waiting s l u)) _ u _
    (put_then held_part s r _ u _ (taken_held w s n c l (Owned (thread_id u)) u (EndsOp u ∷ []) refl here) (same_keeps held_part w Numbered (held_left Numbered refl) r u tt l (others_waiting s l u)))
    (deeds_same held_part leaves_held held_left w n c (set_number r u l (others_waiting s l u)) (WakesUp u at ∷ EndsDuty ∷ []) refl)

pub granted_to_writer_numbers : (w : Work) (s : State) (n : ℕ) (c : CpuId) (l : LockId) (u : ℕ) (at : Put) → u < length s.threads → Goes numbers_part s (granted_to_writer w s n c l u at) u (changed_number l (others_waiting s l u) (thread_of s u).body.willed.items)
unfolding granted_to_writer
granted_to_writer_numbers w s n c l u at here =
    let ds : List Deed = TakesLock u l ∷ HoldsLock u l ∷ EndsOp u ∷ [] in
    let r : State = all_did w n c s ds in
    let before = numbers_deeds w n c s ds refl in
    put_then numbers_part s (set_number r u l (others_waiting s l u)) _ u _
    (put_to numbers_part s _ u _ _ (same_then numbers_part s r _ u _ before (set_number_put r u l (others_waiting s l u) (there s r u (deeds_shape w n c s ds) here)))
    (ap (λ (xs : Numbers). changed_number l (others_waiting s l u) xs) (before.each u)))
    (numbers_deeds w n c (set_number r u l (others_waiting s l u)) (WakesUp u at ∷ EndsDuty ∷ []) refl)

pub granted_to_reader_held : (w : Work) (s : State) (n : ℕ) (c : CpuId) (l : LockId) (u : ℕ) (at : Put) → u < length s.threads → Goes held_part s (granted_to_reader w s n l u at) u ((thread_of s u).body.held.items ++ l ∷ [])
unfolding granted_to_reader
granted_to_reader_held w s n c l u at here = taken_held w s n c l (one_reader_more (lock_of s l.0)) u (EndsOp u ∷ WakesUp u at ∷ []) refl here

pub granted_to_reader_numbers : (w : Work) (s : State) (n : ℕ) (c : CpuId) (l : LockId) (u : ℕ) (at : Put) → Same numbers_part s (granted_to_reader w s n l u at)
unfolding granted_to_reader
granted_to_reader_numbers w s n c l u at =
    then_same numbers_part s (with_lock s l.0 (one_reader_more (lock_of s l.0))) _ (lock_same numbers_part s l.0 _)
    (numbers_deeds w n c (with_lock s l.0 (one_reader_more (lock_of s l.0))) (HoldsLock u l ∷ EndsOp u ∷ WakesUp u at ∷ []) refl)

-- A walk hands a priority on.

pub willed_numbers : (w : Work) (s : State) (n : ℕ) (c : CpuId) (l : LockId) (o : ThreadId) (at : Option Put) → o.0 < length s.threads
    → Goes numbers_part s (willed w s n c l o at) o.0 (changed_number l (greatest_waiting l.0 s.threads) (thread_of s o.0).body.willed.items)
unfolding willed
willed_numbers w s n c l o at here =
    put_then numbers_part s (set_number s o.0 l (greatest_waiting l.0 s.threads)) _ o.0 _ (set_number_put s o.0 l _ here)
    (then_same numbers_part _ (walked s c l o) _ (then_same numbers_part _ _ _ (same_keeps numbers_part w Looped (numbers_left Looped refl) _ o.0 tt _) (set_duty_same numbers_part _ c.0 _)) (reordered_same numbers_part w (numbers_left Placed refl) _ n o.0 _ at))

pub willed_looped : (w : Work) (s : State) (n : ℕ) (c : CpuId) (l : LockId) (o : ThreadId) (at : Option Put) → o.0 < length s.threads
    → Goes looped_part s (willed w s n c l o at) o.0 ((thread_of s o.0).body.looped || is_back (cpu_of s c.0).duty o (thread_of s o.0).place)
unfolding willed
willed_looped w s n c l o at here =
    put_then looped_part s (set_looped (set_number s o.0 l (greatest_waiting l.0 s.threads)) o.0 ((thread_of s o.0).body.looped || is_back (cpu_of s c.0).duty o (thread_of s o.0).place)) _ o.0 _
    (same_then looped_part s (set_number s o.0 l (greatest_waiting l.0 s.threads)) _ o.0 _ (same_keeps looped_part w Numbered (looped_left Numbered refl) s o.0 tt l _) (set_looped_put _ o.0 _ (there s _ o.0 (set_number_shape s o.0 l _) here)))
    (then_same looped_part _ (walked s c l o) _ (set_duty_same looped_part _ c.0 _) (reordered_same looped_part w (looped_left Placed refl) _ n o.0 _ at))

-- A thread is bound to d, or to none any more.

bind_put : (s : State) (t : ℕ) (d : CpuId) → t < length s.threads → Goes bound_part s (bind s t d) t (Some d)
unfolding bind
bind_put s t d here = put_then bound_part s _ _ t _ (body_put bound_part s t (record (thread_of s t).body { bound = Some d }) here) (cpu_same bound_part _ d.0 _)

unbind_put : (s : State) (t : ℕ) (b : CpuId) → t < length s.threads → Goes bound_part s (unbind s t b) t None
unfolding unbind
unbind_put s t b here = put_then bound_part s _ _ t _ (body_put bound_part s t (record (thread_of s t).body { bound = None }) here) (cpu_same bound_part _ b.0 _)

rebound_bound : (s : State) (u : ℕ) (d b : Option CpuId) → (thread_of s u).body.bound ≡ b → u < length s.threads → Goes bound_part s (rebound s u d b) u d
rebound_bound s u (Some d) b e here = put_then bound_part s (bind s u d) _ u _ (bind_put s u d here) (called_back_same bound_part _ d _)
rebound_bound s u None (Some b) e here = unbind_put s u b here
rebound_bound s u None None e here = record { put = same_is_put u _ (λ v. refl) e }

finished_bound : (w : Work) (s : State) (t : ℕ) → Same bound_part s (finish_op w s t)
finished_bound w s t = same_keeps bound_part w Over (bound_left Over refl) s t tt

pub pbound_bound : (w : Work) (s : State) (n t u : ℕ) (d : Option CpuId) (at : Option Put) → u < length s.threads → Goes bound_part s (pbound w s n t u d (bind_answer.Changed at)) u d
unfolding pbound
pbound_bound w s n t u d at here =
    put_then bound_part s (rebound s u d (thread_of s u).body.bound) _ u _ (rebound_bound s u d (thread_of s u).body.bound refl here)
    (then_same bound_part _ (put_where w (rebound s u d (thread_of s u).body.bound) n u at) _ (put_where_same bound_part w (bound_left Placed refl) _ n u at) (finished_bound w _ t))

pub refused_bound : (w : Work) (s : State) (n t u : ℕ) (d : Option CpuId) (answer : BindAnswer) → ((at : Option Put) → answer ≡ bind_answer.Changed at → ⊥) → Same bound_part s (pbound w s n t u d answer)
unfolding pbound
refused_bound w s n t u d (bind_answer.Changed at) unlike = absurd (unlike at refl)
refused_bound w s n t u d bind_answer.ESRCH unlike = finished_bound w s t
refused_bound w s n t u d bind_answer.EINVAL unlike = finished_bound w s t
refused_bound w s n t u d bind_answer.EPERM unlike = finished_bound w s t
refused_bound w s n t u d bind_answer.EBUSY unlike = finished_bound w s t
