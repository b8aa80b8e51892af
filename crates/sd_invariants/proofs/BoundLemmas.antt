-- A processor counts the threads that are bound to it.
use Rattle.std.proofs.Common.{◌≡◌, ◌≢◌, ℕ, ◌+◌, ◌-◌, ◌<◌, Bool, true, false, ◌||◌, List, length, Option, Some, None, refl, ◌∙◌, sym, ap, subst, arith}
use Rattle.sd_machine.specs.Holders as H
use Rattle.sd_frames.proofs.Parts.{same_item, put_item}
use Rattle.sd_frames.proofs.CpuWords as C
use Rattle.sd_types.specs.declared.numbers.CpuId.{CpuId}
use Rattle.sd_types.specs.declared.events.BindAnswer.{BindAnswer}
use Rattle.sd_types.specs.declared.events.BindAnswer.TheVariants as bind_answer
use Rattle.sd_types.specs.declared.events.Event.{Event}
use Rattle.sd_types.specs.declared.events.Event.TheVariants.{Bind}
use Rattle.sd_types.specs.declared.events.Put.{Put}
use Rattle.sd_types.specs.declared.works.Work.{Work}
use Rattle.std.specs.Prelude.{if◌then◌else◌, is_none, is_some, ◌==◌, not, ◌&&◌}
use Rattle.sd_state.specs.declared.states.CpuState.{CpuState}
use Rattle.sd_state.specs.declared.states.State.{State}
use Rattle.sd_state.specs.States.{no_cpu, thread_of, cpu_of, set_of}
use Rattle.sd_machine.specs.Changes.{with_body, finish_op, set_duty, put, put_where, bind, unbind}
use Rattle.sd_machine.specs.SetChanges.{rebound, pbound}
use Rattle.sd_machine.specs.Events.{dropped_duty, drop_ageing, effect, after}
use Rattle.sd_frames.specs.Causes.{IsCause}
use Rattle.sd_frames.proofs.Made.{Kind, Bound, Dutied}
use Rattle.std.proofs.Common.{get_or, ◌≤◌, inl, inr, ◌⊎◌, zero, suc, [], ◌∷◌}
use Rattle.std.specs.Prelude.{map}
use Rattle.std.specs.List.{range_with_len}
use Rattle.sd_state.specs.States.{with_cpu}
use Rattle.std.proofs.lemmas.Bool.{cases_eq, cases_lt}
use Rattle.std.proofs.lemmas.Bool.Decides.{nat_tests}
use Rattle.std.proofs.lemmas.List.{set_past}
use Rattle.sd_basics.proofs.Numbers.{same_itself}
use Rattle.sd_state.specs.Opening.{first_cpu_state, first_thread, opening}
use Rattle.sd_state.proofs.Declared.{opening_each}
use Rattle.sd_machine.specs.Changes.{bind, unbind, put_where}
use Rattle.sd_machine.specs.Prioritising.{is_privileged, uid_of}
use Rattle.sd_machine.specs.SetChanges.{is_misbound, is_closing, bind_to, bind_put}
use Rattle.sd_machine.specs.Threads.{has_ended}
use Rattle.sd_machine.proofs.ShapeLemmas.{IsShaped, set_duty_shape, pbound_shape, after_shape}
use Rattle.sd_machine.proofs.HolderLemmas.{count_same, count_more}
use Rattle.sd_frames.proofs.Words.{Same}
use Rattle.sd_frames.proofs.HoldTable.{bound_part, bound_same, Goes, pbound_bound, refused_bound}
use Rattle.sd_invariants.proofs.Movers.{bind_thread}
use Rattle.sd_invariants.proofs.AgreedAfter.{IsReady}
use Rattle.sd_invariants.proofs.Ready.{IsKept, none_counted}

abbrev number_part : CpuState → ℕ
number_part x = x.bound

number_marks : C.Markless number_part
number_marks = record { marks = λ x u k. refl }

abbrev leaves_number : Kind → Bool
leaves_number Bound = false
leaves_number _ = true

number_left : (k : Kind) → leaves_number k ≡ true → C.Leaves number_part k
number_left Bound is = cc
number_left _ is = λ x y. refl

abbrev SameNumbers : State → State → Type 0
SameNumbers s r = C.Kept number_part s r

then_numbers : (s r q : State) → SameNumbers s r → SameNumbers r q → SameNumbers s q
then_numbers s r q a b = C.then_kept number_part s r q a b

-- no binding
abbrev pub is_unbinding : Event → Bool
is_unbinding (Bind t u d answer) = false
is_unbinding _ = true

cpus_same : (w : Work) (s : State) (n : ℕ) (c : CpuId) (e : Event) → is_unbinding e ≡ true → SameNumbers s (after w s n c e)
cpus_same w s n c (Bind t u d answer) quiet = cc
cpus_same w s n c e quiet = C.after_left number_part leaves_number number_left w refl s n c e refl

-- Threads.

pub threads_same : (w : Work) (s : State) (n : ℕ) (c : CpuId) (e : Event) → is_unbinding e ≡ true → Same bound_part s (after w s n c e)
threads_same w s n c (Bind t u d answer) quiet = cc
threads_same w s n c e quiet = bound_same w s n c e refl

-- The threads that are bound to a processor.

abbrev pub is_bound_at : ℕ → Option CpuId → Bool
is_bound_at d None = false
is_bound_at d (Some e) = e.0 == d

abbrev pub bound_threads : State → ℕ → ℕ
bound_threads s d = H.counted (λ t. is_bound_at d (bound_part (thread_of s t))) (length s.threads)

abbrev pub BoundHold : State → Type 0
BoundHold s = (d : ℕ) → d < length s.cpus → (cpu_of s d).bound ≡ bound_threads s d

same_threads : (s r : State) (d : ℕ) → length r.threads ≡ length s.threads → ((t : ℕ) → is_bound_at d (bound_part (thread_of r t)) ≡ is_bound_at d (bound_part (thread_of s t))) → bound_threads r d ≡ bound_threads s d
same_threads s r d many same =
    ap (λ n. H.counted (λ t. is_bound_at d (bound_part (thread_of r t))) n) many
    ∙ count_same (λ t. is_bound_at d (bound_part (thread_of s t))) (λ t. is_bound_at d (bound_part (thread_of r t))) (length s.threads) (λ t lt. same t)

quiet_hold : (w : Work) (s : State) (n : ℕ) (c : CpuId) (e : Event) → is_unbinding e ≡ true → BoundHold s → BoundHold (after w s n c e)
quiet_hold w s n c e quiet holds d inside =
    let many : length (after w s n c e).cpus ≡ length s.cpus = (after_shape w s n c e).cpus in
    let numbers : (cpu_of (after w s n c e) d).bound ≡ (cpu_of s d).bound = (cpus_same w s n c e quiet).each d in
    let threads = same_threads s (after w s n c e) d (after_shape w s n c e).threads (λ t. ap (is_bound_at d) ((threads_same w s n c e quiet).each t)) in
    let old = holds d (omega (arith, inside, many)) in
    omega (arith, numbers, threads, old)

-- A binding.

-- what a processor's number is where it is written
data Wrote (s r : State) (c n d : ℕ) : Type 0 where
  here : d ≡ c → (cpu_of r d).bound ≡ n → Wrote s r c n d
  apart : d ≢ c → (cpu_of r d).bound ≡ (cpu_of s d).bound → Wrote s r c n d
  past : length s.cpus ≤ d → Wrote s r c n d

wrote_number : (s : State) (c : ℕ) (x : CpuState) (d : ℕ) → Wrote s (with_cpu s c x) c x.bound d
wrote_number s c x d = elim (cases_lt c (length s.cpus)) [
  | inl inside ↦ elim (cases_eq d c) [
    | inl is ↦ here is (ap (λ e. (cpu_of (with_cpu s c x) e).bound) is ∙ (put_item number_part s.cpus no_cpu c x inside).at)
    | inr other ↦ apart other ((put_item number_part s.cpus no_cpu c x inside).others d other)
  ]
  | inr out ↦ elim (cases_eq d c) [
    | inl is ↦ past (subst (λ i. length s.cpus ≤ i) (sym is) out)
    | inr other ↦ apart other (ap (λ xs. number_part (get_or xs d no_cpu)) (set_past s.cpus c x out))
  ]
]

wrote_then : (s r q : State) (c n d : ℕ) → Wrote s r c n d → SameNumbers r q → Wrote s q c n d
wrote_then s r q c n d (here is at) same = here is (same.each d ∙ at)
wrote_then s r q c n d (apart other at) same = apart other (same.each d ∙ at)
wrote_then s r q c n d (past out) same = past out

bind_number : (s : State) (t : ℕ) (x : CpuId) (d : ℕ) → Wrote s (bind s t x) x.0 ((cpu_of s x.0).bound + 1) d
unfolding bind
bind_number s t x d = by (wrote_number (with_body s t (record (thread_of s t).body { bound = Some x })) x.0 (record (cpu_of s x.0) { bound = (cpu_of s x.0).bound + 1 }) d)
  where
    by : Wrote (with_body s t (record (thread_of s t).body { bound = Some x })) (with_cpu (with_body s t (record (thread_of s t).body { bound = Some x })) x.0 (record (cpu_of s x.0) { bound = (cpu_of s x.0).bound + 1 })) x.0 ((cpu_of s x.0).bound + 1) d
        → Wrote s (with_cpu (with_body s t (record (thread_of s t).body { bound = Some x })) x.0 (record (cpu_of s x.0) { bound = (cpu_of s x.0).bound + 1 })) x.0 ((cpu_of s x.0).bound + 1) d
    by (here is at) = here is at
    by (apart other at) = apart other at
    by (past out) = past out

unbind_number : (s : State) (t : ℕ) (x : CpuId) (d : ℕ) → Wrote s (unbind s t x) x.0 ((cpu_of s x.0).bound - 1) d
unfolding unbind
unbind_number s t x d = by (wrote_number (with_body s t (record (thread_of s t).body { bound = None })) x.0 (record (cpu_of s x.0) { bound = (cpu_of s x.0).bound - 1 }) d)
  where
    by : Wrote (with_body s t (record (thread_of s t).body { bound = None })) (with_cpu (with_body s t (record (thread_of s t).body { bound = None })) x.0 (record (cpu_of s x.0) { bound = (cpu_of s x.0).bound - 1 })) x.0 ((cpu_of s x.0).bound - 1) d
        → Wrote s (with_cpu (with_body s t (record (thread_of s t).body { bound = None })) x.0 (record (cpu_of s x.0) { bound = (cpu_of s x.0).bound - 1 })) x.0 ((cpu_of s x.0).bound - 1) d
    by (here is at) = here is at
    by (apart other at) = apart other at
    by (past out) = past out

-- a binding that is granted was asked of a thread that is not bound, and the end of one of a thread that is
answered : (a b c d : Bool) (put at : Option Put)
    → (if a then bind_answer.ESRCH else if b then bind_answer.EINVAL else if c then bind_answer.EPERM else if d then bind_answer.EBUSY else bind_answer.Changed put) ≡ bind_answer.Changed at → b ≡ false
answered true b c d put at e = cc
answered false true c d put at e = cc
answered false false true d put at e = cc
answered false false false true put at e = cc
answered false false false false put at e = refl

granted_binding : (w : Work) (s : State) (t u : ℕ) (d : Option CpuId) (at : Option Put) → bind_answer.Changed at ≡ bind_to w s t u d → is_misbound w s u (thread_of s u).body.bound d ≡ false
unfolding bind_to
granted_binding w s t u d at e =
    answered (has_ended (thread_of s u).place) (is_misbound w s u (thread_of s u).body.bound d) (not (is_privileged w t) && not (uid_of w t == uid_of w u)) (is_closing s d) (bind_put s u d) at (sym e)

not_bound : (o : Option CpuId) (b : Bool) → (is_some o || b) ≡ false → o ≡ None
not_bound None b e = refl
not_bound (Some x) b e = cc

-- what comes after the binding leaves numbers
rest_numbers : (w : Work) (s : State) (n t u : ℕ) (at : Option Put) → SameNumbers s (finish_op w (put_where w s n u at) t)
rest_numbers w s n t u at = then_numbers s (put_where w s n u at) _ (C.put_where_kept number_part number_marks w s n u at) (C.finish_op_kept number_part number_marks w _ t)

refused_numbers : (w : Work) (s : State) (t : ℕ) → SameNumbers s (finish_op w s t)
refused_numbers w s t = C.finish_op_kept number_part number_marks w s t

other_id : (x : CpuId) (d : ℕ) → d ≢ x.0 → (x.0 == d) ≡ false
other_id x d other = by (x.0 == d) refl
  where
    by : (b : Bool) → (x.0 == d) ≡ b → b ≡ false
    by false e = refl
    by true e = absurd (other (grind (arith, nat_tests)))

is_some_of : (o : Option CpuId) → is_none o ≡ false → (x : CpuId) × (o ≡ Some x)
is_some_of None e = cc
is_some_of (Some x) e = (x, refl)

-- one thread more is bound to x
more_threads : (s r : State) (u : ℕ) (x : CpuId) → length r.threads ≡ length s.threads → u < length s.threads → Goes bound_part s r u (Some x) → bound_part (thread_of s u) ≡ None → (d : ℕ)
    → ((d ≡ x.0) × (bound_threads r d ≡ suc (bound_threads s d))) ⊎ ((d ≢ x.0) × (bound_threads r d ≡ bound_threads s d))
more_threads s r u x many inside goes free d = elim (cases_eq d x.0) [
  | inl is ↦ inl (
    is,
    ap (λ n. H.counted (λ t. is_bound_at d (bound_part (thread_of r t))) n) many
        ∙ count_more (λ t. is_bound_at d (bound_part (thread_of s t))) (λ t. is_bound_at d (bound_part (thread_of r t))) u (length s.threads) inside (ap (is_bound_at d) free)
        (record { at = ap (is_bound_at d) goes.put.at ∙ subst (λ e. (x.0 == e) ≡ true) (sym is) (same_itself x.0); others = λ t other. ap (is_bound_at d) (goes.put.others t other) }),
  )
  | inr other ↦ inr (
    other,
    same_threads s r d many (λ t. elim (cases_eq t u) [
      | inl me ↦ subst (λ v. is_bound_at d (bound_part (thread_of r v)) ≡ is_bound_at d (bound_part (thread_of s v))) (sym me) (ap (is_bound_at d) goes.put.at ∙ other_id x d other ∙ sym (ap (is_bound_at d) free))
      | inr him ↦ ap (is_bound_at d) (goes.put.others t him)
    ]),
  )
]

-- one thread fewer is bound to x
fewer_threads : (s r : State) (u : ℕ) (x : CpuId) → length r.threads ≡ length s.threads → u < length s.threads → Goes bound_part s r u None → bound_part (thread_of s u) ≡ Some x → (d : ℕ)
    → ((d ≡ x.0) × (bound_threads s d ≡ suc (bound_threads r d))) ⊎ ((d ≢ x.0) × (bound_threads r d ≡ bound_threads s d))
fewer_threads s r u x many inside goes was d = elim (cases_eq d x.0) [
  | inl is ↦ inl (
    is,
    count_more (λ t. is_bound_at d (bound_part (thread_of r t))) (λ t. is_bound_at d (bound_part (thread_of s t))) u (length s.threads) inside (ap (is_bound_at d) goes.put.at)
        (record { at = ap (is_bound_at d) was ∙ subst (λ e. (x.0 == e) ≡ true) (sym is) (same_itself x.0); others = λ t other. sym (ap (is_bound_at d) (goes.put.others t other)) })
        ∙ ap (λ n. suc (H.counted (λ t. is_bound_at d (bound_part (thread_of r t))) n)) (sym many),
  )
  | inr other ↦ inr (
    other,
    same_threads s r d many (λ t. elim (cases_eq t u) [
      | inl me ↦ subst (λ v. is_bound_at d (bound_part (thread_of r v)) ≡ is_bound_at d (bound_part (thread_of s v))) (sym me) (ap (is_bound_at d) goes.put.at ∙ sym (ap (is_bound_at d) was ∙ other_id x d other))
      | inr him ↦ ap (is_bound_at d) (goes.put.others t him)
    ]),
  )
]

changed_numbers : (w : Work) (s : State) (n t u : ℕ) (d b : Option CpuId) (at : Option Put) → (thread_of s u).body.bound ≡ b → SameNumbers (rebound s u d b) (pbound w s n t u d (bind_answer.Changed at))
unfolding pbound
changed_numbers w s n t u d b at e = subst (λ o. SameNumbers (rebound s u d o) (finish_op w (put_where w (rebound s u d (thread_of s u).body.bound) n u at) t)) e (rest_numbers w (rebound s u d (thread_of s u).body.bound) n t u at)

to_cpu : (w : Work) (s : State) (n t u : ℕ) (x : CpuId) (at : Option Put) → IsShaped s (pbound w s n t u (Some x) (bind_answer.Changed at)) → u < length s.threads → (thread_of s u).body.bound ≡ None → BoundHold s → BoundHold (pbound w s n t u (Some x) (bind_answer.Changed at))
to_cpu w s n t u x at shape inside free holds d here_then =
    by (wrote_then s (bind s u x) (pbound w s n t u (Some x) (bind_answer.Changed at)) x.0 ((cpu_of s x.0).bound + 1) d (bind_number s u x d)
    (then_numbers (bind s u x) (rebound s u (Some x) (thread_of s u).body.bound) _ (C.called_back_kept number_part number_marks (bind s u x) x (thread_of s u).place) (changed_numbers w s n t u (Some x) (thread_of s u).body.bound at refl)))
    (more_threads s (pbound w s n t u (Some x) (bind_answer.Changed at)) u x shape.threads inside (pbound_bound w s n t u (Some x) at inside) free d)
  where
    before : d < length s.cpus
    before = let many : length (pbound w s n t u (Some x) (bind_answer.Changed at)).cpus ≡ length s.cpus = shape.cpus in omega (arith, here_then, many)

    by : Wrote s (pbound w s n t u (Some x) (bind_answer.Changed at)) x.0 ((cpu_of s x.0).bound + 1) d
        → ((d ≡ x.0) × (bound_threads (pbound w s n t u (Some x) (bind_answer.Changed at)) d ≡ suc (bound_threads s d))) ⊎ ((d ≢ x.0) × (bound_threads (pbound w s n t u (Some x) (bind_answer.Changed at)) d ≡ bound_threads s d))
        → (cpu_of (pbound w s n t u (Some x) (bind_answer.Changed at)) d).bound ≡ bound_threads (pbound w s n t u (Some x) (bind_answer.Changed at)) d
    by (here is wrote) (inl (also, more)) =
        let same : (cpu_of s x.0).bound ≡ (cpu_of s d).bound = ap (λ e. (cpu_of s e).bound) (sym is) in
        let old = holds d before in
        omega (arith, wrote, more, same, old)
    by (here is wrote) (inr (other, more)) = absurd (other is)
    by (apart other wrote) (inl (is, more)) = absurd (other is)
    by (apart other wrote) (inr (also, more)) = let old = holds d before in omega (arith, wrote, more, old)
    by (past out) more = absurd (omega (arith, out, before))

to_none : (w : Work) (s : State) (n t u : ℕ) (x : CpuId) (at : Option Put) → IsShaped s (pbound w s n t u None (bind_answer.Changed at)) → u < length s.threads → (thread_of s u).body.bound ≡ Some x → BoundHold s → BoundHold (pbound w s n t u None (bind_answer.Changed at))
to_none w s n t u x at shape inside was holds d here_then =
    by (wrote_then s (unbind s u x) (pbound w s n t u None (bind_answer.Changed at)) x.0 ((cpu_of s x.0).bound - 1) d (unbind_number s u x d) (changed_numbers w s n t u None (Some x) at was))
    (fewer_threads s (pbound w s n t u None (bind_answer.Changed at)) u x shape.threads inside (pbound_bound w s n t u None at inside) was d)
  where
    before : d < length s.cpus
    before = let many : length (pbound w s n t u None (bind_answer.Changed at)).cpus ≡ length s.cpus = shape.cpus in omega (arith, here_then, many)

    by : Wrote s (pbound w s n t u None (bind_answer.Changed at)) x.0 ((cpu_of s x.0).bound - 1) d
        → ((d ≡ x.0) × (bound_threads s d ≡ suc (bound_threads (pbound w s n t u None (bind_answer.Changed at)) d))) ⊎ ((d ≢ x.0) × (bound_threads (pbound w s n t u None (bind_answer.Changed at)) d ≡ bound_threads s d))
        → (cpu_of (pbound w s n t u None (bind_answer.Changed at)) d).bound ≡ bound_threads (pbound w s n t u None (bind_answer.Changed at)) d
    by (here is wrote) (inl (also, less)) =
        let same : (cpu_of s x.0).bound ≡ (cpu_of s d).bound = ap (λ e. (cpu_of s e).bound) (sym is) in
        let old = holds d before in
        omega (arith, wrote, less, same, old)
    by (here is wrote) (inr (other, less)) = absurd (other is)
    by (apart other wrote) (inl (is, less)) = absurd (other is)
    by (apart other wrote) (inr (also, less)) = let old = holds d before in omega (arith, wrote, less, old)
    by (past out) less = absurd (omega (arith, out, before))

refused_hold : (s r : State) → IsShaped s r → SameNumbers s r → Same bound_part s r → BoundHold s → BoundHold r
refused_hold s r shape numbers threads holds d inside =
    let many : length r.cpus ≡ length s.cpus = shape.cpus in
    let a : (cpu_of r d).bound ≡ (cpu_of s d).bound = numbers.each d in
    let b = same_threads s r d shape.threads (λ t. ap (is_bound_at d) (threads.each t)) in
    let old = holds d (omega (arith, inside, many)) in
    omega (arith, a, b, old)

abbrev is_refusal : BindAnswer → Bool
is_refusal (bind_answer.Changed at) = false
is_refusal _ = true

refused_by : (w : Work) (s : State) (n t u : ℕ) (d : Option CpuId) (answer : BindAnswer) → is_refusal answer ≡ true → SameNumbers s (pbound w s n t u d answer)
unfolding pbound
refused_by w s n t u d (bind_answer.Changed at) e = cc
refused_by w s n t u d bind_answer.ESRCH e = refused_numbers w s t
refused_by w s n t u d bind_answer.EINVAL e = refused_numbers w s t
refused_by w s n t u d bind_answer.EPERM e = refused_numbers w s t
refused_by w s n t u d bind_answer.EBUSY e = refused_numbers w s t

drop_set : (s : State) (c : ℕ) (e : Event) (x : ℕ) → (cpu_of (drop_ageing s c e) x).set ≡ (cpu_of s x).set
unfolding drop_ageing set_duty
drop_set s c e x = same_item (λ (y : CpuState). y.set) s.cpus no_cpu c (record (cpu_of s c) { duty = dropped_duty e (cpu_of s c).duty }) refl x

bound_after : (w : Work) (s0 : State) (n t u : ℕ) (d : Option CpuId) (answer : BindAnswer) → IsShaped s0 (pbound w s0 n t u d answer) → u < length s0.threads
    → ((at : Option Put) → answer ≡ bind_answer.Changed at → is_misbound w s0 u (thread_of s0 u).body.bound d ≡ false) → BoundHold s0 → BoundHold (pbound w s0 n t u d answer)
bound_after w s0 n t u (Some x) (bind_answer.Changed at) shape inside fits holds =
    to_cpu w s0 n t u x at shape inside (not_bound (thread_of s0 u).body.bound (not ((cpu_of s0 x.0).set.0 == (set_of w u).0)) (fits at refl)) holds
bound_after w s0 n t u None (bind_answer.Changed at) shape inside fits holds =
    let (x, was) = is_some_of (thread_of s0 u).body.bound (fits at refl) in to_none w s0 n t u x at shape inside was holds
bound_after w s0 n t u d bind_answer.ESRCH shape inside fits holds = refused_hold s0 _ shape (refused_by w s0 n t u d bind_answer.ESRCH refl) (refused_bound w s0 n t u d bind_answer.ESRCH (λ at e. cc)) holds
bound_after w s0 n t u d bind_answer.EINVAL shape inside fits holds = refused_hold s0 _ shape (refused_by w s0 n t u d bind_answer.EINVAL refl) (refused_bound w s0 n t u d bind_answer.EINVAL (λ at e. cc)) holds
bound_after w s0 n t u d bind_answer.EPERM shape inside fits holds = refused_hold s0 _ shape (refused_by w s0 n t u d bind_answer.EPERM refl) (refused_bound w s0 n t u d bind_answer.EPERM (λ at e. cc)) holds
bound_after w s0 n t u d bind_answer.EBUSY shape inside fits holds = refused_hold s0 _ shape (refused_by w s0 n t u d bind_answer.EBUSY refl) (refused_bound w s0 n t u d bind_answer.EBUSY (λ at e. cc)) holds

drop_hold : (s : State) (c : ℕ) (e : Event) → BoundHold s → BoundHold (drop_ageing s c e)
unfolding drop_ageing set_duty
drop_hold s c e holds = refused_hold s (drop_ageing s c e) (set_duty_shape s c (dropped_duty e (cpu_of s c).duty)) (C.drop_left number_part (number_left Dutied refl) s c e) (record { each = λ u. refl }) holds

pub bound_kept : (w : Work) (s : State) (n : ℕ) (c : CpuId) (e : Event) → IsReady w s → IsCause w s c.0 e → BoundHold s → BoundHold (after w s n c e)
unfolding after effect drop_ageing set_duty
bound_kept w s n c (Bind t u d answer) ready cause holds =
    bound_after w (drop_ageing s c.0 (Bind t u d answer)) n t.0 u.0 d answer (pbound_shape w (drop_ageing s c.0 (Bind t u d answer)) n t.0 u.0 d answer) (bind_thread w s c.0 t.0 u d ready.fits cause.0)
    (λ at e. dropped_misbound at (granted_binding w s t.0 u.0 d at (sym e ∙ cause.1))) (drop_hold s c.0 (Bind t u d answer) holds)
  where
    dropped_misbound : (at : Option Put) → is_misbound w s u.0 (thread_of s u.0).body.bound d ≡ false → is_misbound w (drop_ageing s c.0 (Bind t u d answer)) u.0 (thread_of s u.0).body.bound d ≡ false
    dropped_misbound at e = misbound_same d (thread_of s u.0).body.bound e
      where
        misbound_same : (o b : Option CpuId) → is_misbound w s u.0 b o ≡ false → is_misbound w (drop_ageing s c.0 (Bind t u d answer)) u.0 b o ≡ false
        misbound_same None b e = e
        misbound_same (Some x) None e = let same : (cpu_of (drop_ageing s c.0 (Bind t u d answer)) x.0).set ≡ (cpu_of s x.0).set = drop_set s c.0 (Bind t u d answer) x.0 in rw same e
        misbound_same (Some x) (Some y) e = cc
bound_kept w s n c e ready cause holds = quiet_hold w s n c e refl holds

first_number : (w : Work) (ns : List ℕ) (c : ℕ) → (get_or (map (first_cpu_state w) ns) c no_cpu).bound ≡ 0
unfolding first_cpu_state
first_number w [] c = refl
first_number w (n ∷ ns) zero = refl
first_number w (n ∷ ns) (suc c) = first_number w ns c

pub first_free : (w : Work) (t : ℕ) → bound_part (thread_of (opening w) t) ≡ None
unfolding first_thread
first_free w t = opening_each w t (λ x. bound_part x ≡ None) refl (λ d is. refl)

opening_bound : (w : Work) → BoundHold (opening w)
unfolding opening
opening_bound w d inside =
    first_number w (range_with_len 0 w.cpus) d
    ∙ sym (none_counted (λ t. is_bound_at d (bound_part (thread_of (opening w) t))) (length (opening w).threads) (λ t. ap (is_bound_at d) (first_free w t)))

pub bound_is_kept : IsKept (λ w n s. BoundHold s)
bound_is_kept = record { start = opening_bound; step = bound_kept }
