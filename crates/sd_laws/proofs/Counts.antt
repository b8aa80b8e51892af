-- The counts of semaphores: what each event makes of them, and that threads sleep only on those whose count is 0.
use Rattle.std.proofs.Common.{◌≡◌, ◌≢◌, ℕ, zero, suc, ◌+◌, ◌-◌, ◌<◌, Bool, true, false, List, [], ◌∷◌, length, get_or, set, cond, Option, Some, None, refl, sym, ap, ◌∙◌, subst, ◌⊎◌, inl, inr, arith}
use Rattle.std.specs.Prelude.{◌==◌, if◌then◌else◌, map, slice_get, ℤ, pos}
use Rattle.std.proofs.lemmas.Bool.{false≢true, cases_Bool, cases_eq, cases_lt}
use Rattle.std.proofs.lemmas.Bool.Decides.{nat_tests}
use Rattle.std.proofs.lemmas.List.{get_or_past, get_or-set_same, get_or-set_other, length-map}
use Rattle.std.proofs.lemmas.List.Sums.{sum_by-cons}
use Rattle.std.proofs.lemmas.Option.{same_Some, slice_get_within}
use Rattle.sd_basics.proofs.Numbers.{ones, same_itself}
use Rattle.sd_basics.proofs.Truths.{and_left}
use Rattle.sd_types.specs.declared.names.Name.{Name}
use Rattle.sd_types.specs.declared.numbers.ChanId.{ChanId}
use Rattle.sd_types.specs.declared.numbers.CpuId.{CpuId}
use Rattle.sd_types.specs.declared.numbers.ThreadId.{ThreadId}
use Rattle.sd_types.specs.declared.events.Entry.{Entry}
use Rattle.sd_types.specs.declared.events.Event.{Event}
use Rattle.sd_types.specs.declared.events.Event.TheVariants.{Done, Nap, Sleep, Block, CvWait, SemaP, SemaWait, SemaVCount, Assign, Joined}
use Rattle.sd_types.specs.declared.scripts.Op.TheVariants as op
use Rattle.sd_types.specs.declared.works.ChanKind.{ChanKind}
use Rattle.sd_types.specs.declared.works.ChanKind.TheVariants.{Chan, Sema}
use Rattle.sd_types.specs.declared.works.ThreadDecl.{ThreadDecl}
use Rattle.sd_types.specs.declared.works.Work.{Work}
use Rattle.sd_types.specs.Works.{is_chan, is_mutex, is_sema}
use Rattle.sd_machine.proofs.Moves.{put_cases}
use Rattle.sd_state.specs.declared.states.Place.{Place}
use Rattle.sd_state.specs.declared.states.Place.TheVariants.{Queued, RealTime, Asleep, Ended}
use Rattle.sd_state.specs.declared.states.State.{State}
use Rattle.sd_state.specs.Opening.{count_of as count_in, first_count, first_cpu, is_urgent, first_thread, opening}
use Rattle.sd_state.specs.States.{thread_of}
use Rattle.sd_state.proofs.Declared.{opening_each}
use Rattle.sd_machine.specs.Accounts.{entries_of}
use Rattle.sd_machine.specs.Changes.{back_key, finish_op, set_duty}
use Rattle.sd_machine.specs.Conditions.{sema_taken, sema_counted}
use Rattle.sd_machine.specs.Events.{drop_ageing, effect, after}
use Rattle.sd_machine.specs.Runs.{final, IsRunFrom}
use Rattle.sd_machine.specs.Threads.{count_of, best_sleeper}
use Rattle.sd_machine.proofs.RunLemmas.{IsRun-from}
use Rattle.sd_frames.specs.Causes.{IsCause}
use Rattle.sd_invariants.specs.Laws.{HoldsWhenReached}
use Rattle.sd_frames.specs.Moves.{Step, step_of}
use Rattle.sd_frames.specs.Moves.Step.{Stay, Go}
use Rattle.sd_invariants.proofs.AgreedAfter.{IsReady}
use Rattle.sd_frames.proofs.PlaceTable.{Stepped}
use Rattle.sd_invariants.proofs.Ready.{kept_reached, next_ready, opening_ready, ready_cause}
use Rattle.sd_frames.proofs.SideFields.{after_keeps}
use Rattle.sd_invariants.proofs.Works.{op_named}
use Rattle.sd_invariants.proofs.SemaphoreLemmas.{assigned_counts, counts_field, joined_counts}
use Rattle.sd_laws.specs.HistoryLaws.{put_to_sleep, runs_or_is_runnable, is_taken, is_counted_up, declared_count, chan_kind, SemaphoresAreCounted, SleepersWaitAtZero}
use Rattle.sd_laws.proofs.Runnable.{IsLiveStep, live_step, steps_after}
use Rattle.sd_laws.proofs.Sleepers.{sleeps, someone_asleep}

-- What an event makes of the counts.

abbrev CountsGo : State → State → Event → Type 0
CountsGo s r (SemaP t k) = r.counts ≡ set s.counts k.0 (count_of s k.0 - 1)
CountsGo s r (SemaVCount t k m) = r.counts ≡ set s.counts k.0 (count_of s k.0 + 1)
CountsGo s r _ = r.counts ≡ s.counts

counts_after : (w : Work) (s : State) (n : ℕ) (c : CpuId) (e : Event) → CountsGo s (after w s n c e) e
unfolding after effect drop_ageing set_duty sema_taken sema_counted finish_op
counts_after w s n c (SemaP t k) = refl
counts_after w s n c (SemaVCount t k m) = refl
counts_after w s n c (Assign t d to answer) = assigned_counts w (drop_ageing s c.0 (Assign t d to answer)) t.0 d to answer
counts_after w s n c (Joined to) = joined_counts (drop_ageing s c.0 (Joined to)) c to
counts_after w s n c e = (after_keeps counts_field (λ s t x. refl) (λ s c x. refl) (λ s l x. refl) w s n c e refl).same

-- One less, or one more.

positive_inside : (xs : List ℕ) (i : ℕ) → 0 < get_or xs i 0 → i < length xs
positive_inside xs i some = elim (cases_lt i (length xs)) [
  | inl inside ↦ inside
  | inr past ↦ absurd (let none : get_or xs i 0 ≡ 0 = get_or_past xs i 0 past in omega (arith, none, some))
]

other_test : (i k : ℕ) → k ≢ i → (i == k) ≡ false
other_test i k other = elim (cases_Bool (i == k)) [
  | inl is ↦ absurd (other (let same : i ≡ k = grind (arith, nat_tests) in sym same))
  | inr not ↦ not
]

one_less : (xs : List ℕ) (i k : ℕ) → 0 < get_or xs i 0 → get_or (set xs i (get_or xs i 0 - 1)) k 0 + ones (i == k) ≡ get_or xs k 0
one_less xs i k some = elim (cases_eq k i) [
  | inl is ↦
      let at : get_or (set xs i (get_or xs i 0 - 1)) k 0 ≡ get_or xs i 0 - 1 = ap (λ v. get_or (set xs i (get_or xs i 0 - 1)) v 0) is ∙ get_or-set_same xs i (get_or xs i 0 - 1) 0 (positive_inside xs i some) in
      let old : get_or xs k 0 ≡ get_or xs i 0 = ap (λ v. get_or xs v 0) is in
      let one : ones (i == k) ≡ 1 = ap ones (ap (λ v. i == v) is ∙ same_itself i) in
      omega (arith, at, old, one, some)
  | inr other ↦
      let at : get_or (set xs i (get_or xs i 0 - 1)) k 0 ≡ get_or xs k 0 = get_or-set_other xs i k (get_or xs i 0 - 1) 0 other in
      let none : ones (i == k) ≡ 0 = ap ones (other_test i k other) in
      omega (arith, at, none)
]

one_more : (xs : List ℕ) (i k : ℕ) → i < length xs → get_or (set xs i (get_or xs i 0 + 1)) k 0 ≡ get_or xs k 0 + ones (i == k)
one_more xs i k inside = elim (cases_eq k i) [
  | inl is ↦
      let at : get_or (set xs i (get_or xs i 0 + 1)) k 0 ≡ get_or xs i 0 + 1 = ap (λ v. get_or (set xs i (get_or xs i 0 + 1)) v 0) is ∙ get_or-set_same xs i (get_or xs i 0 + 1) 0 inside in
      let old : get_or xs k 0 ≡ get_or xs i 0 = ap (λ v. get_or xs v 0) is in
      let one : ones (i == k) ≡ 1 = ap ones (ap (λ v. i == v) is ∙ same_itself i) in
      omega (arith, at, old, one)
  | inr other ↦
      let at : get_or (set xs i (get_or xs i 0 + 1)) k 0 ≡ get_or xs k 0 = get_or-set_other xs i k (get_or xs i 0 + 1) 0 other in
      let none : ones (i == k) ≡ 0 = ap ones (other_test i k other) in
      omega (arith, at, none)
]

-- a semaphore that is named is one of the workload's
sema_inside : (w : Work) (k : ℕ) → is_sema (chan_kind w k) ≡ true → k < length w.chans
sema_inside w k sema = by (chan_kind w k) refl sema
  where
    by : (o : Option ChanKind) → chan_kind w k ≡ o → is_sema o ≡ true → k < length w.chans
    by None at is = cc
    by (Some x) at is =
        let inside = slice_get_within (map (λ (x : Name × ChanKind). x.1) w.chans) k x at in
        let many = length-map w.chans (λ (x : Name × ChanKind). x.1) in
        omega (arith, inside, many)

same_goes : (s r : State) (k : ℕ) → r.counts ≡ s.counts → count_of r k + 0 ≡ count_of s k + 0
same_goes s r k same = ap (λ (xs : List ℕ). get_or xs k 0 + 0) same

-- each count after an event
pub count_goes : (w : Work) (s : State) (n : ℕ) (c : CpuId) (e : Event) (k : ℕ) → IsReady w s → IsCause w s c.0 e
    → count_of (after w s n c e) k + ones (is_taken k e) ≡ count_of s k + ones (is_counted_up k e)
count_goes w s n c (SemaP t j) k ready cause =
    let go : (after w s n c (SemaP t j)).counts ≡ set s.counts j.0 (count_of s j.0 - 1) = counts_after w s n c (SemaP t j) in
    let at : count_of (after w s n c (SemaP t j)) k ≡ get_or (set s.counts j.0 (count_of s j.0 - 1)) k 0 = ap (λ (xs : List ℕ). get_or xs k 0) go in
    let less = one_less s.counts j.0 k cause.1 in
    omega (arith, at, less)
count_goes w s n c (SemaVCount t j m) k ready cause =
    let go : (after w s n c (SemaVCount t j m)).counts ≡ set s.counts j.0 (count_of s j.0 + 1) = counts_after w s n c (SemaVCount t j m) in
    let at : count_of (after w s n c (SemaVCount t j m)) k ≡ get_or (set s.counts j.0 (count_of s j.0 + 1)) k 0 = ap (λ (xs : List ℕ). get_or xs k 0) go in
    let there = sema_inside w j.0 (op_named w t.0 (thread_of s t.0).body.op (op.SemaV j) cause.0.stands) in
    let many : length s.counts ≡ length w.chans = ready.fits.chans in
    let more = one_more s.counts j.0 k (omega (arith, there, many)) in
    omega (arith, at, more)
count_goes w s n c e k ready cause = same_goes s (after w s n c e) k (counts_after w s n c e)

-- The counts of a run.

entries_cons : (p : Event → Bool) (x : Entry) (xs : List Entry) → entries_of p (x ∷ xs) ≡ ones (p x.event) + entries_of p xs
unfolding entries_of
entries_cons p x xs = sum_by-cons (λ (e : Entry). cond (p e.event) 1 0) x xs

entries_nil : (p : Event → Bool) → entries_of p [] ≡ 0
unfolding entries_of
entries_nil p = refl

counted_from : (w : Work) (k : ℕ) (s : State) (n : ℕ) (es : List Entry) → IsReady w s → IsRunFrom w s n es
    → count_of (final w s es) k + entries_of (is_taken k) es ≡ count_of s k + entries_of (is_counted_up k) es
unfolding final IsRunFrom
counted_from w k s n [] ready run = let a = entries_nil (is_taken k) in let b = entries_nil (is_counted_up k) in omega (arith, a, b)
counted_from w k s n (x ∷ xs) ready (number, step, run) =
    let r : State = after w s x.number x.cpu x.event in
    let one : count_of r k + ones (is_taken k x.event) ≡ count_of s k + ones (is_counted_up k x.event) =
    count_goes w s x.number x.cpu x.event k ready (ready_cause w s x.cpu x.hints x.event ready step) in
    let rest : count_of (final w r xs) k + entries_of (is_taken k) xs ≡ count_of r k + entries_of (is_counted_up k) xs = counted_from w k r (n + 1) xs (next_ready w s x.number x.cpu x.hints x.event ready step) run in
    let a = entries_cons (is_taken k) x xs in
    let b = entries_cons (is_counted_up k) x xs in
    omega (arith, one, rest, a, b)

pub opening_count : (w : Work) (k : ℕ) → count_of (opening w) k ≡ declared_count w k
unfolding opening
opening_count w k = refl

pub counts_law : SemaphoresAreCounted
counts_law = λ w es k run.
    let whole = counted_from w k (opening w) 0 es (opening_ready w) (IsRun-from w es run) in
    let first = opening_count w k in
    omega (arith, whole, first)

-- Who sleeps after an event slept there before, or the event put it to sleep.

live_asleep : (p : Place) (k : ChanId) (key : ℤ) → runs_or_is_runnable p ≡ true → p ≡ Asleep k key → ⊥
live_asleep p k key live is = let bad : false ≡ true = sym (ap runs_or_is_runnable is) ∙ live in cc

unmoved : (u : ℕ) (s r : State) (step : Step) → IsLiveStep u step → Stepped step s r → (k : ChanId) (key : ℤ) → (thread_of r u).place ≡ Asleep k key → (thread_of s u).place ≡ Asleep k key
unmoved u s r Stay is a k key asleep = sym (a u) ∙ asleep
unmoved u s r (Go t place) is a k key asleep = elim (put_cases t place _ _ a u) [
  | inl me ↦ absurd (live_asleep place k key (is (sym me.0)) (sym me.1 ∙ asleep))
  | inr other ↦ sym other.1 ∙ asleep
]

-- an event that puts a thread to sleep on channel k
abbrev pub PutsOn : Event → ChanId → Type 0
PutsOn e k = (t : ThreadId) × (put_to_sleep e ≡ Some (t, k))

asleep_chan : (j k : ChanId) (x y : ℤ) → Asleep j x ≡ Asleep k y → j ≡ k
asleep_chan j k x y same = ap (λ (p : Place). chan_of p) same
  where
    chan_of : Place → ChanId
    chan_of (Asleep i z) = i
    chan_of _ = j

fell_on : (s r : State) (n u : ℕ) (e : Event) (t : ThreadId) (j k : ChanId) (key : ℤ) → put_to_sleep e ≡ Some (t, j) → Stepped (Go t.0 (Asleep j (back_key n))) s r → (thread_of r u).place ≡ Asleep k key
    → ((thread_of s u).place ≡ Asleep k key) ⊎ PutsOn e k
fell_on s r n u e t j k key puts a asleep = elim (put_cases t.0 (Asleep j (back_key n)) _ _ a u) [
  | inl me ↦ inr (t, subst (λ (i : ChanId). put_to_sleep e ≡ Some (t, i)) (asleep_chan j k (back_key n) key (sym me.1 ∙ asleep)) puts)
  | inr other ↦ inl (sym other.1 ∙ asleep)
]

-- a thread that goes where nobody sleeps
went : (s r : State) (u t : ℕ) (place : Place) (k : ChanId) (key : ℤ) → sleeps place ≡ false → Stepped (Go t place) s r → (thread_of r u).place ≡ Asleep k key → (thread_of s u).place ≡ Asleep k key
went s r u t place k key awake a asleep = elim (put_cases t place _ _ a u) [
  | inl me ↦ absurd (false≢true (sym awake ∙ ap sleeps (sym me.1 ∙ asleep)))
  | inr other ↦ sym other.1 ∙ asleep
]

pub fell_asleep : (w : Work) (s : State) (n : ℕ) (c : CpuId) (e : Event) (u : ℕ) (k : ChanId) (key : ℤ) → IsReady w s → IsCause w s c.0 e → (thread_of (after w s n c e) u).place ≡ Asleep k key
    → ((thread_of s u).place ≡ Asleep k key) ⊎ PutsOn e k
fell_asleep w s n c (Sleep t j) u k key ready cause asleep = fell_on s (after w s n c (Sleep t j)) n u (Sleep t j) t j k key refl (steps_after w s n c (Sleep t j) ready cause) asleep
fell_asleep w s n c (CvWait t j l) u k key ready cause asleep = fell_on s (after w s n c (CvWait t j l)) n u (CvWait t j l) t j k key refl (steps_after w s n c (CvWait t j l) ready cause) asleep
fell_asleep w s n c (SemaWait t j) u k key ready cause asleep = fell_on s (after w s n c (SemaWait t j)) n u (SemaWait t j) t j k key refl (steps_after w s n c (SemaWait t j) ready cause) asleep
fell_asleep w s n c (Nap t) u k key ready cause asleep = inl (went s (after w s n c (Nap t)) u t.0 _ k key refl (steps_after w s n c (Nap t) ready cause) asleep)
fell_asleep w s n c (Block t l) u k key ready cause asleep = inl (went s (after w s n c (Block t l)) u t.0 _ k key refl (steps_after w s n c (Block t l) ready cause) asleep)
fell_asleep w s n c (Done t) u k key ready cause asleep = inl (went s (after w s n c (Done t)) u t.0 Ended k key refl (steps_after w s n c (Done t) ready cause) asleep)
fell_asleep w s n c e u k key ready cause asleep = inl (unmoved u s (after w s n c e) (step_of w s n c e) (live_step u w s n c e (λ is. cc)) (steps_after w s n c e ready cause) k key asleep)

-- What is counted up is a semaphore on which nobody sleeps.

ups_sema : (w : Work) (s : State) (c : ℕ) (e : Event) (k : ℕ) → IsCause w s c e → is_counted_up k e ≡ true → is_sema (chan_kind w k) ≡ true
ups_sema w s c (SemaVCount t j m) k cause up =
    let same : j.0 ≡ k = grind (arith, nat_tests) in
    subst (λ i. is_sema (chan_kind w i) ≡ true) same (op_named w t.0 (thread_of s t.0).body.op (op.SemaV j) cause.0.stands)
ups_sema w s c _ k cause up = cc

ups_nobody : (w : Work) (s : State) (c : ℕ) (e : Event) (k : ℕ) → IsCause w s c e → is_counted_up k e ≡ true → best_sleeper s k ≡ None
ups_nobody w s c (SemaVCount t j m) k cause up = let same : j.0 ≡ k = grind (arith, nat_tests) in subst (λ i. best_sleeper s i ≡ None) same cause.1
ups_nobody w s c _ k cause up = cc

-- a count of 0 stays unless it is counted up
stays_zero : (w : Work) (s : State) (n : ℕ) (c : CpuId) (e : Event) (k : ℕ) → IsReady w s → IsCause w s c.0 e → count_of s k ≡ 0 → (is_counted_up k e ≡ true → ⊥) → count_of (after w s n c e) k ≡ 0
stays_zero w s n c e k ready cause zero_ down =
    let go = count_goes w s n c e k ready cause in
    let none : ones (is_counted_up k e) ≡ 0 = elim (cases_Bool (is_counted_up k e)) [ inl up ↦ absurd (down up) | inr not ↦ ap ones not ] in
    omega (arith, go, none, zero_)

pub chan_no_sema : (o : Option ChanKind) → is_chan o ≡ true → is_sema o ≡ false
chan_no_sema (Some Chan) is = refl
chan_no_sema (Some (Sema n)) is = cc
chan_no_sema None is = cc

-- where an event puts a thread to sleep, the count is 0 before, and it is not counted up
sleep_at_zero : (w : Work) (s : State) (c : ℕ) (e : Event) (t : ThreadId) (k : ChanId) → SleepersWaitAtZero w s → IsCause w s c e → put_to_sleep e ≡ Some (t, k) → (count_of s k.0 ≡ 0) × (is_counted_up k.0 e ≡ true → ⊥)
sleep_at_zero w s c (Sleep u j) t k zeros cause is =
    let at : is_chan (chan_kind w j.0) ≡ true = op_named w u.0 (thread_of s u.0).body.op (op.Sleep j) cause.stands in
    (subst (λ (i : ChanId). count_of s i.0 ≡ 0) (ap (λ x. x.1) (same_Some (u, j) (t, k) is)) (zeros.uncounted j.0 (chan_no_sema (chan_kind w j.0) at)), λ up. cc)
sleep_at_zero w s c (CvWait u j l) t k zeros cause is =
    let at : is_chan (chan_kind w j.0) ≡ true = and_left _ (is_mutex _) (op_named w u.0 (thread_of s u.0).body.op (op.CvWait j l) cause.stands) in
    (subst (λ (i : ChanId). count_of s i.0 ≡ 0) (ap (λ x. x.1) (same_Some (u, j) (t, k) is)) (zeros.uncounted j.0 (chan_no_sema (chan_kind w j.0) at)), λ up. cc)
sleep_at_zero w s c (SemaWait u j) t k zeros cause is = (subst (λ (i : ChanId). count_of s i.0 ≡ 0) (ap (λ x. x.1) (same_Some (u, j) (t, k) is)) cause.1, λ up. cc)
sleep_at_zero w s c _ t k zeros cause is = cc

zeros_after : (w : Work) (s : State) (n : ℕ) (c : CpuId) (e : Event) → IsReady w s → IsCause w s c.0 e → SleepersWaitAtZero w s → SleepersWaitAtZero w (after w s n c e)
zeros_after w s n c e ready cause zeros = record {
  asleep = λ u k key asleep. elim (fell_asleep w s n c e u k key ready cause asleep) [
    | inl before ↦ stays_zero w s n c e k.0 ready cause (zeros.asleep u k key before) (λ up. someone_asleep s u k key before (ups_nobody w s c.0 e k.0 cause up))
    | inr puts ↦ let at = sleep_at_zero w s c.0 e puts.0 k zeros cause puts.1 in stays_zero w s n c e k.0 ready cause at.0 at.1
  ];
  uncounted = λ k plain. stays_zero w s n c e k ready cause (zeros.uncounted k plain) (λ up. false≢true (sym plain ∙ ups_sema w s c.0 e k cause up));
}

-- The initial state: nobody sleeps, and only semaphores have a count.

first_awake : (w : Work) (t : ℕ) (d : ThreadDecl) → sleeps (first_thread w t d).place ≡ false
unfolding first_thread
first_awake w t d = elim (is_urgent d) as (λ b. sleeps (if b then RealTime d.set (pos t) else Queued (first_cpu w t d) (pos t)) ≡ false) [ true ↦ refl | false ↦ refl ]

pub opening_awake : (w : Work) (t : ℕ) → sleeps (thread_of (opening w) t).place ≡ false
opening_awake w t = opening_each w t (λ x. sleeps x.place ≡ false) refl (λ d is. first_awake w t d)

uncounted_at : (xs : List (Name × ChanKind)) (k : ℕ) → is_sema (slice_get (map (λ (x : Name × ChanKind). x.1) xs) k) ≡ false → get_or (map first_count xs) k 0 ≡ 0
uncounted_at [] k plain = refl
uncounted_at (x ∷ xs) zero plain = by x.1 plain
  where
    by : (kind : ChanKind) → is_sema (Some kind) ≡ false → count_in kind ≡ 0
    by Chan is = refl
    by (Sema n) is = cc
uncounted_at (x ∷ xs) (suc k) plain = uncounted_at xs k plain

opening_zeros : (w : Work) → SleepersWaitAtZero w (opening w)
opening_zeros w = record {
  asleep = λ t k key asleep. absurd (false≢true (sym (opening_awake w t) ∙ ap sleeps asleep));
  uncounted = λ k plain. opening_count w k ∙ uncounted_at w.chans k plain;
}

pub zeros_law : HoldsWhenReached SleepersWaitAtZero
zeros_law = kept_reached SleepersWaitAtZero (record { start = opening_zeros; step = λ w s n c e ready cause zeros. zeros_after w s n c e ready cause zeros })
