-- The count of a semaphore, the operations on it that are over, and the threads that sleep on it.
use Rattle.std.proofs.Common.{◌≡◌, ◌≢◌, ℕ, zero, suc, ◌+◌, ◌<◌, ◌≤◌, Bool, true, false, List, [], ◌∷◌, length, take, get_or, Some, refl, sym, ap, ◌∙◌, subst, inl, inr, arith}
use Rattle.std.specs.Prelude.{count_by, slice_get}
use Rattle.std.specs.List.{range_with_len, sum_by}
use Rattle.std.proofs.lemmas.Bool.{cases_eq}
use Rattle.std.proofs.lemmas.List.Sums.{sum_by-cons, sum_by_more}
use Rattle.std.proofs.lemmas.Option.{same_Some}
use Rattle.sd_basics.proofs.Numbers.{ones}
use Rattle.sd_types.specs.declared.numbers.CpuId.{CpuId}
use Rattle.sd_types.specs.declared.numbers.LockId.{LockId}
use Rattle.sd_types.specs.declared.numbers.Side.{Side}
use Rattle.sd_types.specs.declared.numbers.Side.TheVariants.{Writer, Reader}
use Rattle.sd_types.specs.declared.events.Event.{Event}
use Rattle.sd_types.specs.declared.events.Event.TheVariants.{Tick, Yield, Nap, Sleep, Wake, Wakeall, Enter, Read, Write, Exit, Grant, Prio, CvWait, SemaP, SemaWait, SemaVWake, SemaVCount, Assign, Bind}
use Rattle.sd_types.specs.declared.scripts.Op.{Op}
use Rattle.sd_types.specs.declared.scripts.Op.TheVariants as op
use Rattle.sd_types.specs.declared.works.Work.{Work}
use Rattle.sd_state.proofs.KeyLemmas.{IsPut}
use Rattle.sd_state.specs.declared.states.State.{State}
use Rattle.sd_state.specs.Operations.{script_of}
use Rattle.sd_state.specs.States.{thread_of}
use Rattle.sd_machine.specs.Events.{after}
use Rattle.sd_machine.specs.Threads.{runner, best_waiter}
use Rattle.sd_frames.specs.Causes.{wants, IsCause}
use Rattle.sd_invariants.proofs.AgreedAfter.{IsReady}
use Rattle.sd_frames.proofs.Found.{runner_found, waiter_found}
use Rattle.sd_frames.proofs.OpTable.{op_part, Finished, after_ops}
use Rattle.sd_invariants.proofs.ScriptLemmas.{waits_here, ender_in}
use Rattle.sd_frames.proofs.Words.{Same}
use Rattle.sd_laws.specs.HistoryLaws.{is_sema_p, is_sema_v, ops_done}

-- Sums over threads.

pub sums_above : (f g : ℕ → ℕ) (a n : ℕ) → ((t : ℕ) → a ≤ t → g t ≡ f t) → sum_by g (range_with_len a n) ≡ sum_by f (range_with_len a n)
sums_above f g a zero same = refl
sums_above f g a (suc n) same =
    let here : g a ≡ f a = same a (omega arith) in
    let rest : sum_by g (range_with_len (a + 1) n) ≡ sum_by f (range_with_len (a + 1) n) = sums_above f g (a + 1) n (λ t past. same t (omega (arith, past))) in
    let x = sum_by-cons g a (range_with_len (a + 1) n) in
    let y = sum_by-cons f a (range_with_len (a + 1) n) in
    omega (arith, here, rest, x, y)

-- one number grows by m
pub sums_put : (f g : ℕ → ℕ) (t m : ℕ) → IsPut t (f t + m) f g → (a n : ℕ) → a ≤ t → t < a + n → sum_by g (range_with_len a n) ≡ sum_by f (range_with_len a n) + m
sums_put f g t m put a zero low high = absurd (omega (arith, low, high))
sums_put f g t m put a (suc n) low high =
    let x = sum_by-cons g a (range_with_len (a + 1) n) in
    let y = sum_by-cons f a (range_with_len (a + 1) n) in
    elim (cases_eq a t) [
      | inl is ↦
          let here : g a ≡ f a + m = subst (λ v. g v ≡ f v + m) (sym is) put.at in
          let rest : sum_by g (range_with_len (a + 1) n) ≡ sum_by f (range_with_len (a + 1) n) = sums_above f g (a + 1) n (λ u past. put.others u (λ same. above u past same is)) in
          omega (arith, here, rest, x, y)
      | inr other ↦
          let here : g a ≡ f a = put.others a other in
          let rest : sum_by g (range_with_len (a + 1) n) ≡ sum_by f (range_with_len (a + 1) n) + m = sums_put f g t m put (a + 1) n (next other) (omega (arith, high)) in
          omega (arith, here, rest, x, y)
    ]
  where
    above : (u : ℕ) → a + 1 ≤ u → u ≡ t → a ≡ t → ⊥
    above u past same is = omega (arith, past, same, is)

    next : a ≢ t → a + 1 ≤ t
    next other = omega (arith, low, other)

-- Operations that are over.

-- those of thread t
abbrev pub over_in : (Op → Bool) → Work → State → ℕ → ℕ
over_in test w s t = count_by test (take (thread_of s t).body.op (script_of w t))

abbrev pub Grows : (Op → Bool) → Work → State → State → Bool → Type 0
Grows test w s r one = ops_done test w r ≡ ops_done test w s + ones one

none_over : (test : Op → Bool) (w : Work) (s r : State) → Same op_part s r → Grows test w s r false
none_over test w s r a =
    let same = sums_above (over_in test w s) (over_in test w r) 0 (length w.threads) (λ t past. ap (λ i. count_by test (take i (script_of w t))) (a.each t)) in
    omega (arith, same)

op_at : (ops : List Op) (i : ℕ) (o : Op) → slice_get ops i ≡ Some o → (i < length ops) × (get_or ops i o ≡ o)
op_at [] i o e = cc
op_at (x ∷ xs) zero o e = (omega arith, same_Some x o e)
op_at (x ∷ xs) (suc i) o e = let rest = op_at xs i o e in (let inside = rest.0 in omega (arith, inside), rest.1)

one_over : (test : Op → Bool) (w : Work) (s r : State) (t : ℕ) (o : Op) → t < length w.threads → Finished s r t → slice_get (script_of w t) (thread_of s t).body.op ≡ Some o → Grows test w s r (test o)
one_over test w s r t o inside a stands =
    let (there, is) = op_at (script_of w t) (thread_of s t).body.op o stands in
    let i : ℕ = (thread_of s t).body.op in
    let more : over_in test w r t ≡ over_in test w s t + ones (test o) =
    ap (λ j. count_by test (take j (script_of w t))) a.ops.at ∙ sum_by_more (λ x. ones (test x)) (script_of w t) i o there ∙ ap (λ x. over_in test w s t + ones (test x)) is in
    sums_put (over_in test w s) (over_in test w r) t (ones (test o)) (record { at = more; others = λ u other. ap (λ j. count_by test (take j (script_of w u))) (a.ops.others u other) }) 0 (length w.threads) (omega arith) (omega (arith, inside))

-- an operation on a semaphore
abbrev pub is_sema_op : Op → Bool
is_sema_op (op.SemaP k) = true
is_sema_op (op.SemaV k) = true
is_sema_op _ = false

-- the event ends an operation on a semaphore that passes the test
abbrev pub ends_one : (Op → Bool) → Event → Bool
ends_one test (SemaP t k) = test (op.SemaP k)
ends_one test (SemaWait t k) = test (op.SemaP k)
ends_one test (SemaVWake t k u at) = test (op.SemaV k)
ends_one test (SemaVCount t k m) = test (op.SemaV k)
ends_one test _ = false

wants_no_sema : (o : Op) (l : LockId) (side : Side) → wants o ≡ Some (l, side) → is_sema_op o ≡ false
wants_no_sema (op.Enter m) l side is = refl
wants_no_sema (op.Write m) l side is = refl
wants_no_sema (op.Read m) l side is = refl
wants_no_sema o l side is = cc

-- a thread of a state is one of the workload's
pub in_work : (w : Work) (s : State) → IsReady w s → (t : ℕ) → t < length s.threads → t < length w.threads
in_work w s ready t inside = let many : length s.threads ≡ length w.threads = ready.fits.threads in omega (arith, inside, many)

module _ (test : Op → Bool) (blind : (o : Op) → is_sema_op o ≡ false → test o ≡ false) (w : Work) (s : State) (n : ℕ) (c : CpuId) (ready : IsReady w s) where
  runs_inside : (t : ℕ) → runner s c.0 ≡ Some t → t < length w.threads
  runs_inside t runs = in_work w s ready t (runner_found s c.0 t runs).inside

  -- an operation on no semaphore is over
  other_over : (r : State) (t : ℕ) (o : Op) → t < length w.threads → Finished s r t → slice_get (script_of w t) (thread_of s t).body.op ≡ Some o → is_sema_op o ≡ false → Grows test w s r false
  other_over r t o inside a stands other = subst (λ b. Grows test w s r b) (blind o other) (one_over test w s r t o inside a stands)

  granted_over : (r : State) (l : LockId) (side : Side) (u : ℕ) → best_waiter s l.0 side ≡ Some u → Finished s r u → Grows test w s r false
  granted_over r l side u best a =
      let found = waiter_found s l.0 side u best in
      let (k, is) = waits_here l side (thread_of s u).place found.stands in
      let (o, stands, wanted) = (ready.scripted u found.inside).waits l side k is in
      other_over r u o (in_work w s ready u found.inside) a stands (wants_no_sema o l side wanted)

  pub grows : (e : Event) → IsCause w s c.0 e → Grows test w s (after w s n c e) (ends_one test e)
  grows (Tick t) cause = elim (after_ops w s n c (Tick t) (ender_in w s c.0 (Tick t) cause)) [
    | inl a ↦ none_over test w s (after w s n c (Tick t)) a
    | inr a ↦ other_over (after w s n c (Tick t)) t.0 (op.Run cause.0.0) (runs_inside t.0 cause.0.1.runs) a cause.0.1.stands refl
  ]
  grows (Yield t) cause = other_over (after w s n c (Yield t)) t.0 op.Yield (runs_inside t.0 cause.runs) (after_ops w s n c (Yield t) (ender_in w s c.0 (Yield t) cause)) cause.stands refl
  grows (Nap t) cause = other_over (after w s n c (Nap t)) t.0 (op.Nap cause.0) (runs_inside t.0 cause.1.runs) (after_ops w s n c (Nap t) (ender_in w s c.0 (Nap t) cause)) cause.1.stands refl
  grows (Sleep t k) cause = other_over (after w s n c (Sleep t k)) t.0 (op.Sleep k) (runs_inside t.0 cause.runs) (after_ops w s n c (Sleep t k) (ender_in w s c.0 (Sleep t k) cause)) cause.stands refl
  grows (Wake t k u) cause = other_over (after w s n c (Wake t k u)) t.0 (op.Wake k) (runs_inside t.0 cause.0.runs) (after_ops w s n c (Wake t k u) (ender_in w s c.0 (Wake t k u) cause)) cause.0.stands refl
  grows (Wakeall t k) cause = other_over (after w s n c (Wakeall t k)) t.0 (op.WakeAll k) (runs_inside t.0 cause.runs) (after_ops w s n c (Wakeall t k) (ender_in w s c.0 (Wakeall t k) cause)) cause.stands refl
  grows (Enter t l) cause = other_over (after w s n c (Enter t l)) t.0 (op.Enter l) (runs_inside t.0 cause.0.runs) (after_ops w s n c (Enter t l) (ender_in w s c.0 (Enter t l) cause)) cause.0.stands refl
  grows (Read t l) cause = other_over (after w s n c (Read t l)) t.0 (op.Read l) (runs_inside t.0 cause.0.runs) (after_ops w s n c (Read t l) (ender_in w s c.0 (Read t l) cause)) cause.0.stands refl
  grows (Write t l) cause = other_over (after w s n c (Write t l)) t.0 (op.Write l) (runs_inside t.0 cause.0.runs) (after_ops w s n c (Write t l) (ender_in w s c.0 (Write t l) cause)) cause.0.stands refl
  grows (Exit t l) cause = other_over (after w s n c (Exit t l)) t.0 (op.Exit l) (runs_inside t.0 cause.runs) (after_ops w s n c (Exit t l) (ender_in w s c.0 (Exit t l) cause)) cause.stands refl
  grows (Grant l u at) (inl cause) = granted_over (after w s n c (Grant l u at)) l Writer u.0 cause.1 (after_ops w s n c (Grant l u at) (ender_in w s c.0 (Grant l u at) (inl cause)))
  grows (Grant l u at) (inr cause) = granted_over (after w s n c (Grant l u at)) l Reader u.0 cause.1 (after_ops w s n c (Grant l u at) (ender_in w s c.0 (Grant l u at) (inr cause)))
  grows (Prio t u answer) cause = other_over (after w s n c (Prio t u answer)) t.0 (op.Prio u cause.0) (runs_inside t.0 cause.1.runs) (after_ops w s n c (Prio t u answer) (ender_in w s c.0 (Prio t u answer) cause)) cause.1.stands refl
  grows (CvWait t k l) cause = other_over (after w s n c (CvWait t k l)) t.0 (op.CvWait k l) (runs_inside t.0 cause.runs) (after_ops w s n c (CvWait t k l) (ender_in w s c.0 (CvWait t k l) cause)) cause.stands refl
  grows (SemaP t k) cause = one_over test w s (after w s n c (SemaP t k)) t.0 (op.SemaP k) (runs_inside t.0 cause.0.runs) (after_ops w s n c (SemaP t k) (ender_in w s c.0 (SemaP t k) cause)) cause.0.stands
  grows (SemaWait t k) cause = one_over test w s (after w s n c (SemaWait t k)) t.0 (op.SemaP k) (runs_inside t.0 cause.0.runs) (after_ops w s n c (SemaWait t k) (ender_in w s c.0 (SemaWait t k) cause)) cause.0.stands
  grows (SemaVWake t k u at) cause = one_over test w s (after w s n c (SemaVWake t k u at)) t.0 (op.SemaV k) (runs_inside t.0 cause.0.runs) (after_ops w s n c (SemaVWake t k u at) (ender_in w s c.0 (SemaVWake t k u at) cause)) cause.0.stands
  grows (SemaVCount t k m) cause = one_over test w s (after w s n c (SemaVCount t k m)) t.0 (op.SemaV k) (runs_inside t.0 cause.0.runs) (after_ops w s n c (SemaVCount t k m) (ender_in w s c.0 (SemaVCount t k m) cause)) cause.0.stands
  grows (Assign t d to answer) cause = other_over (after w s n c (Assign t d to answer)) t.0 (op.Assign d to) (runs_inside t.0 cause.0.runs) (after_ops w s n c (Assign t d to answer) (ender_in w s c.0 (Assign t d to answer) cause)) cause.0.stands refl
  grows (Bind t u d answer) cause = other_over (after w s n c (Bind t u d answer)) t.0 (op.Pbind u d) (runs_inside t.0 cause.0.runs) (after_ops w s n c (Bind t u d answer) (ender_in w s c.0 (Bind t u d answer) cause)) cause.0.stands refl
  grows e cause = none_over test w s (after w s n c e) (after_ops w s n c e (ender_in w s c.0 e cause))

pub p_blind : (k : ℕ) (o : Op) → is_sema_op o ≡ false → is_sema_p k o ≡ false
p_blind k (op.SemaP j) none = cc
p_blind k _ none = refl

pub v_blind : (k : ℕ) (o : Op) → is_sema_op o ≡ false → is_sema_v k o ≡ false
v_blind k (op.SemaV j) none = cc
v_blind k _ none = refl
