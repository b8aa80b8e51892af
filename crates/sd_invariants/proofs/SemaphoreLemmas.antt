-- The count of a semaphore is at most its first count and the operations that are over.
use Rattle.std.proofs.Common.{◌≡◌, ℕ, ◌<◌, ◌≤◌, false, List, length, Option, Some, None, refl, sym, ap, ◌∙◌, subst, arith, inl, inr}
use Rattle.sd_types.specs.declared.numbers.ChanId.{ChanId}
use Rattle.sd_types.specs.declared.numbers.CpuId.{CpuId}
use Rattle.sd_types.specs.declared.numbers.ThreadId.{ThreadId}
use Rattle.sd_types.specs.declared.events.Event.{Event}
use Rattle.sd_types.specs.declared.events.Event.TheVariants.{Tick, SemaP, SemaVCount, Assign, Joined}
use Rattle.sd_types.specs.declared.works.Work.{Work}
use Rattle.sd_state.specs.declared.states.State.{State}
use Rattle.sd_state.specs.States.{thread_of}
use Rattle.sd_machine.specs.Threads.{runner}
use Rattle.sd_frames.specs.Causes.{IsCause}
use Rattle.std.proofs.Common.{get_or, set, zero, suc, ◌+◌, ◌-◌, ◌≤◌}
use Rattle.std.proofs.lemmas.Bool.{cases_eq, cases_lt}
use Rattle.std.proofs.lemmas.List.{get_or-set_same, get_or-set_other}
use Rattle.std.proofs.lemmas.List.{set_past}
use Rattle.sd_types.specs.declared.events.AssignAnswer.{AssignAnswer}
use Rattle.sd_types.specs.declared.events.AssignAnswer.TheVariants as assign
use Rattle.sd_types.specs.declared.numbers.SetId.{SetId}
use Rattle.sd_state.specs.Opening.{opening}
use Rattle.sd_machine.specs.Threads.{count_of, with_count}
use Rattle.sd_machine.specs.Changes.{finish_op, set_duty, close, join}
use Rattle.sd_machine.specs.Conditions.{sema_taken, sema_counted}
use Rattle.sd_machine.specs.SetChanges.{cleared, assigned, joined}
use Rattle.sd_machine.specs.Events.{drop_ageing, effect, after}
use Rattle.sd_machine.proofs.ShapeLemmas.{after_shape}
use Rattle.sd_frames.proofs.FieldWords as F
use Rattle.sd_frames.proofs.SideFields.{is_side, after_keeps}
use Rattle.sd_frames.proofs.Words.{Same}
use Rattle.sd_frames.proofs.OpTable.{op_part, Finished, ender, IsEnderThere, OpsBy, OpsGo, after_ops}
use Rattle.sd_invariants.proofs.ScriptLemmas.{ender_in}
use Rattle.sd_invariants.proofs.AgreedAfter.{IsReady}
use Rattle.sd_invariants.proofs.Ready.{IsKept}
use Rattle.sd_state.proofs.KeyLemmas.{IsPut}

-- a sum over the first numbers
abbrev pub total : (ℕ → ℕ) → ℕ → ℕ
total f zero = 0
total f (suc k) = f k + total f k

total_same : (f g : ℕ → ℕ) (k : ℕ) → ((t : ℕ) → g t ≡ f t) → total g k ≡ total f k
total_same f g zero same = refl
total_same f g (suc k) same = rw (same k) (rw (total_same f g k same) refl)

total_put : (f g : ℕ → ℕ) (t k : ℕ) → t < k → IsPut t (f t + 1) f g → total g k ≡ total f k + 1
total_put f g t zero here put = absurd (omega arith)
total_put f g t (suc k) here put = elim (cases_eq t k) [
  | inl is ↦
      let at : g k ≡ f k + 1 = subst (λ v. g v ≡ f v + 1) is put.at in
      let rest : total g k ≡ total f k = below k (λ u lt. put.others u (λ same. less u lt (same ∙ is))) in
      omega (arith, at, rest)
  | inr other ↦
      let at : g k ≡ f k = put.others k (λ same. other (sym same)) in
      let rest : total g k ≡ total f k + 1 = total_put f g t k (omega arith) put in
      omega (arith, at, rest)
]
  where
    less : (u : ℕ) → u < k → u ≡ k → ⊥
    less u lt same = omega (arith, lt, same)

    below : (m : ℕ) → ((u : ℕ) → u < m → g u ≡ f u) → total g m ≡ total f m
    below zero same = refl
    below (suc m) same = rw (same m (omega arith)) (rw (below m (λ u lt. same u (omega arith))) refl)

-- the operations that are over, of all threads
abbrev pub ops_over : State → ℕ
ops_over s = total (λ t. op_part (thread_of s t)) (length s.threads)

abbrev pub CountsHold : Work → State → Type 0
CountsHold w s = (k : ℕ) → count_of s k ≤ count_of (opening w) k + ops_over s

-- Operations are over, and stay so.

same_over : (s r : State) → length r.threads ≡ length s.threads → Same op_part s r → ops_over r ≡ ops_over s
same_over s r many a = ap (λ n. total (λ t. op_part (thread_of r t)) n) many ∙ total_same (λ t. op_part (thread_of s t)) (λ t. op_part (thread_of r t)) (length s.threads) a.each

one_over : (s r : State) (t : ℕ) → length r.threads ≡ length s.threads → t < length s.threads → Finished s r t → ops_over r ≡ ops_over s + 1
one_over s r t many inside a = ap (λ n. total (λ u. op_part (thread_of r u)) n) many ∙ total_put (λ u. op_part (thread_of s u)) (λ u. op_part (thread_of r u)) t (length s.threads) inside a.ops

same_more : (s r : State) → length r.threads ≡ length s.threads → Same op_part s r → ops_over s ≤ ops_over r
same_more s r many a = let e = same_over s r many a in omega arith

one_more_over : (s r : State) (t : ℕ) → length r.threads ≡ length s.threads → t < length s.threads → Finished s r t → ops_over s ≤ ops_over r
one_more_over s r t many inside a = let e = one_over s r t many inside a in omega arith

more_by : (s r : State) (o : Option ℕ) → length r.threads ≡ length s.threads → IsEnderThere s o → OpsBy s r o → ops_over s ≤ ops_over r
more_by s r None many here a = same_more s r many a
more_by s r (Some t) many here a = one_more_over s r t many here a

more_over : (s r : State) (e : Event) → length r.threads ≡ length s.threads → IsEnderThere s (ender e) → OpsGo s r e → ops_over s ≤ ops_over r
more_over s r (Tick t) many here (inl a) = same_more s r many a
more_over s r (Tick t) many here (inr a) = one_more_over s r t.0 many here a
more_over s r e many here a = more_by s r (ender e) many here a

-- Counts.

abbrev pub counts_field : State → List ℕ
counts_field s = s.counts

lower_count : (xs : List ℕ) (i j n : ℕ) → n ≤ get_or xs i 0 → get_or (set xs i n) j 0 ≤ get_or xs j 0
lower_count xs i j n low = elim (cases_lt i (length xs)) [
  | inl here ↦ elim (cases_eq j i) [
    | inl is ↦ let at : get_or (set xs i n) j 0 ≡ n = ap (λ v. get_or (set xs i n) v 0) is ∙ get_or-set_same xs i n 0 here in let old : get_or xs j 0 ≡ get_or xs i 0 = ap (λ v. get_or xs v 0) is in omega (arith, at, old, low)
    | inr other ↦ let at : get_or (set xs i n) j 0 ≡ get_or xs j 0 = get_or-set_other xs i j n 0 other in omega (arith, at)
  ]
  | inr past ↦ let at : get_or (set xs i n) j 0 ≡ get_or xs j 0 = ap (λ (ys : List ℕ). get_or ys j 0) (set_past xs i n past) in omega (arith, at)
]

raise_count : (xs : List ℕ) (i j : ℕ) → get_or (set xs i (get_or xs i 0 + 1)) j 0 ≤ get_or xs j 0 + 1
raise_count xs i j = elim (cases_lt i (length xs)) [
  | inl here ↦ elim (cases_eq j i) [
    | inl is ↦ let at : get_or (set xs i (get_or xs i 0 + 1)) j 0 ≡ get_or xs i 0 + 1 = ap (λ v. get_or (set xs i (get_or xs i 0 + 1)) v 0) is ∙ get_or-set_same xs i (get_or xs i 0 + 1) 0 here in let old : get_or xs j 0 ≡ get_or xs i 0 = ap (λ v. get_or xs v 0) is in omega (arith, at, old)
    | inr other ↦ let at : get_or (set xs i (get_or xs i 0 + 1)) j 0 ≡ get_or xs j 0 = get_or-set_other xs i j (get_or xs i 0 + 1) 0 other in omega (arith, at)
  ]
  | inr past ↦ let at : get_or (set xs i (get_or xs i 0 + 1)) j 0 ≡ get_or xs j 0 = ap (λ (ys : List ℕ). get_or ys j 0) (set_past xs i (get_or xs i 0 + 1) past) in omega (arith, at)
]

pub finish_counts : (w : Work) (s : State) (t : ℕ) → (finish_op w s t).counts ≡ s.counts
unfolding finish_op
finish_counts w s t = refl

taken_counts : (w : Work) (s : State) (t : ℕ) (k : ChanId) → (sema_taken w s t k).counts ≡ set s.counts k.0 (count_of s k.0 - 1)
unfolding sema_taken
taken_counts w s t k = finish_counts w (with_count s k.0 (count_of s k.0 - 1)) t

counted_counts : (w : Work) (s : State) (t : ℕ) (k : ChanId) → (sema_counted w s t k).counts ≡ set s.counts k.0 (count_of s k.0 + 1)
unfolding sema_counted
counted_counts w s t k = finish_counts w (with_count s k.0 (count_of s k.0 + 1)) t

pub close_counts : (s : State) (d : CpuId) (to : SetId) → (close s d to).counts ≡ s.counts
unfolding close
close_counts s d to = refl

pub joined_counts : (s : State) (c : CpuId) (to : SetId) → (joined s c to).counts ≡ s.counts
unfolding joined join
joined_counts s c to = refl

pub assigned_counts : (w : Work) (s : State) (t : ℕ) (d : CpuId) (to : SetId) (answer : AssignAnswer) → (assigned w s t d to answer).counts ≡ s.counts
unfolding assigned
assigned_counts w s t d to assign.Changed =
    finish_counts w (cleared (close s d to) d (runner s d.0)) t ∙ (F.cleared_kept counts_field (λ s t x. refl) (λ s c x. refl) (close s d to) d (runner s d.0)).same ∙ closed
  where
    closed : (close s d to).counts ≡ s.counts
    closed = close_counts s d to
assigned_counts w s t d to assign.EPERM = finish_counts w s t
assigned_counts w s t d to assign.EINVAL = finish_counts w s t
assigned_counts w s t d to assign.EBUSY = finish_counts w s t

-- a count is no greater, but where a semaphore is counted up
count_less : (w : Work) (s : State) (n : ℕ) (c : CpuId) (e : Event) → is_side e ≡ false → (k : ℕ) → count_of (after w s n c e) k ≡ count_of s k
count_less w s n c e quiet k = ap (λ (xs : List ℕ). get_or xs k 0) (after_keeps counts_field (λ s t x. refl) (λ s c x. refl) (λ s l x. refl) w s n c e quiet).same

assign_counts : (w : Work) (s : State) (n : ℕ) (c : CpuId) (t : ThreadId) (d : CpuId) (to : SetId) (answer : AssignAnswer) → (after w s n c (Assign t d to answer)).counts ≡ s.counts
unfolding after effect drop_ageing set_duty
assign_counts w s n c t d to answer = assigned_counts w (drop_ageing s c.0 (Assign t d to answer)) t.0 d to answer

join_counts : (w : Work) (s : State) (n : ℕ) (c : CpuId) (to : SetId) → (after w s n c (Joined to)).counts ≡ s.counts
unfolding after effect drop_ageing set_duty
join_counts w s n c to = joined_counts (drop_ageing s c.0 (Joined to)) c to

sema_p_counts : (w : Work) (s : State) (n : ℕ) (c : CpuId) (t : ThreadId) (k : ChanId) → (after w s n c (SemaP t k)).counts ≡ set s.counts k.0 (count_of s k.0 - 1)
unfolding after effect drop_ageing set_duty
sema_p_counts w s n c t k = taken_counts w (drop_ageing s c.0 (SemaP t k)) t.0 k

sema_v_counts : (w : Work) (s : State) (n : ℕ) (c : CpuId) (t : ThreadId) (k : ChanId) (m : ℕ) → (after w s n c (SemaVCount t k m)).counts ≡ set s.counts k.0 (count_of s k.0 + 1)
unfolding after effect drop_ageing set_duty
sema_v_counts w s n c t k m = counted_counts w (drop_ageing s c.0 (SemaVCount t k m)) t.0 k

module _ (w : Work) (s : State) (n : ℕ) (c : CpuId) (ready : IsReady w s) (holds : CountsHold w s) where
  -- where counts are no greater, they stay below
  kept_below : (e : Event) → IsCause w s c.0 e → ((k : ℕ) → count_of (after w s n c e) k ≤ count_of s k) → CountsHold w (after w s n c e)
  kept_below e cause less k =
      let more = more_over s (after w s n c e) e (after_shape w s n c e).threads (ender_in w s c.0 e cause) (after_ops w s n c e (ender_in w s c.0 e cause)) in
      let a = less k in
      let b = holds k in
      omega arith

  quiet_below : (e : Event) → IsCause w s c.0 e → is_side e ≡ false → CountsHold w (after w s n c e)
  quiet_below e cause quiet = kept_below e cause (λ k. let same = count_less w s n c e quiet k in omega arith)

  pub after_holds : (e : Event) → IsCause w s c.0 e → CountsHold w (after w s n c e)
  after_holds (SemaP t k) cause = kept_below (SemaP t k) cause (λ j. subst (λ (xs : List ℕ). get_or xs j 0 ≤ count_of s j) (sym (sema_p_counts w s n c t k)) (lower_count s.counts k.0 j (count_of s k.0 - 1) (omega arith)))
  after_holds (SemaVCount t k m) cause = λ j.
      let inside : t.0 < length s.threads = ender_in w s c.0 (SemaVCount t k m) cause in
      let more = one_over s (after w s n c (SemaVCount t k m)) t.0 (after_shape w s n c (SemaVCount t k m)).threads inside (after_ops w s n c (SemaVCount t k m) inside) in
      let up : count_of (after w s n c (SemaVCount t k m)) j ≤ count_of s j + 1 = subst (λ (xs : List ℕ). get_or xs j 0 ≤ count_of s j + 1) (sym (sema_v_counts w s n c t k m)) (raise_count s.counts k.0 j) in
      let old = holds j in
      omega (arith, more, up, old)
  after_holds (Assign t d to answer) cause = kept_below (Assign t d to answer) cause (λ j. let same : count_of (after w s n c (Assign t d to answer)) j ≡ count_of s j = ap (λ (xs : List ℕ). get_or xs j 0) (assign_counts w s n c t d to answer) in omega arith)
  after_holds (Joined to) cause = kept_below (Joined to) cause (λ j. let same : count_of (after w s n c (Joined to)) j ≡ count_of s j = ap (λ (xs : List ℕ). get_or xs j 0) (join_counts w s n c to) in omega arith)
  after_holds e cause = quiet_below e cause refl

pub holds_kept : IsKept (λ w n s. CountsHold w s)
holds_kept = record { start = λ w k. omega arith; step = λ w s n c e ready cause holds. after_holds w s n c ready holds e cause }
