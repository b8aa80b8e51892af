-- The set of a processor changes only where it joins another, with no thread on it and none on its queue.
use Rattle.std.proofs.Common.{◌≡◌, ◌≢◌, ℕ, ◌<◌, false, length, Option, Some, None, refl, sym, ap, ◌∙◌, subst, inl, inr, ◌⊎◌}
use Rattle.std.proofs.lemmas.Bool.{cases_eq}
use Rattle.sd_types.specs.declared.numbers.CpuId.{CpuId}
use Rattle.sd_types.specs.declared.numbers.SetId.{SetId}
use Rattle.sd_types.specs.declared.events.AssignAnswer.{AssignAnswer}
use Rattle.sd_types.specs.declared.events.AssignAnswer.TheVariants as assign
use Rattle.sd_types.specs.declared.events.Event.{Event}
use Rattle.sd_types.specs.declared.events.Event.TheVariants.{Assign, Joined}
use Rattle.sd_types.specs.declared.works.Work.{Work}
use Rattle.sd_state.specs.declared.states.CpuState.{CpuState}
use Rattle.sd_state.specs.declared.states.ThreadState.{ThreadState}
use Rattle.sd_state.specs.declared.states.State.{State}
use Rattle.sd_state.specs.States.{no_thread, no_cpu, thread_of, cpu_of, is_queued}
use Rattle.sd_state.specs.Best.{beats}
use Rattle.sd_state.proofs.OrderLemmas.{beats_order}
use Rattle.sd_machine.specs.Threads.{open_of, with_open, runner, best_queued}
use Rattle.sd_machine.specs.Changes.{with_cpu_in, close, join}
use Rattle.sd_machine.specs.SetChanges.{cleared, assigned, joined}
use Rattle.sd_machine.specs.Events.{drop_ageing, effect, after}
use Rattle.sd_frames.specs.Causes.{IsCause}
use Rattle.sd_frames.proofs.Parts.{same_item}
use Rattle.sd_frames.proofs.CpuWords as C
use Rattle.sd_invariants.proofs.OpenLemmas.{place_part, place_marks, drop_places, SamePlaces, cpus_same, other_place}
use Rattle.sd_invariants.proofs.Ready.{ready_cause, reached_ready}
use Rattle.sd_frames.proofs.Searches.{none_stands, nobody_runs}
use Rattle.sd_laws.specs.Changes.{IsEmpty, IsJoining, SetsChangeByJoining}

-- where no best is found, none is queued
pub nobody_queued : (s : State) (c : ℕ) → best_queued s c ≡ None → (t : ℕ) → t < length s.threads → is_queued c (thread_of s t).place ≡ false
unfolding best_queued
nobody_queued s c none t inside = none_stands (λ (x : ThreadState). is_queued c x.place) beats no_thread beats_order s.threads none t inside

-- Sets of processors.

abbrev pub SameSets : State → State → Type 0
SameSets s r = (d : ℕ) → (cpu_of r d).set ≡ (cpu_of s d).set

sets_of : (s r : State) → SamePlaces s r → SameSets s r
sets_of s r same d = ap (λ (x : SetId × Option SetId). x.0) (same.each d)

close_sets : (s : State) (d : CpuId) (to : SetId) → SameSets s (close s d to)
unfolding close
close_sets s d to u = same_item (λ (x : CpuState). x.set) s.cpus no_cpu d.0 (record (cpu_of s d.0) { closing = Some to }) refl u

pub assigned_sets : (w : Work) (s : State) (t : ℕ) (d : CpuId) (to : SetId) (answer : AssignAnswer) → SameSets s (assigned w s t d to answer)
unfolding assigned
assigned_sets w s t d to assign.Changed u =
    sets_of (close s d to) _ (C.then_kept place_part (close s d to) (cleared (close s d to) d (runner s d.0)) _ (C.cleared_kept place_part place_marks (close s d to) d (runner s d.0)) (C.finish_op_kept place_part place_marks w _ t)) u
    ∙ close_sets s d to u
assigned_sets w s t d to assign.EPERM u = sets_of s _ (C.finish_op_kept place_part place_marks w s t) u
assigned_sets w s t d to assign.EINVAL u = sets_of s _ (C.finish_op_kept place_part place_marks w s t) u
assigned_sets w s t d to assign.EBUSY u = sets_of s _ (C.finish_op_kept place_part place_marks w s t) u

pub joined_others : (s : State) (c : CpuId) (to : SetId) (d : ℕ) → d ≢ c.0 → (cpu_of (joined s c to) d).set ≡ (cpu_of s d).set
unfolding joined join
joined_others s c to d other =
    ap (λ (x : SetId × Option SetId). x.0) (other_place (with_open s to.0 (with_cpu_in c (open_of s to.0))) c.0 (record (cpu_of s c.0) { set = to; closing = None }) d other)

pub drop_sets : (s : State) (c : ℕ) (e : Event) → SameSets s (drop_ageing s c e)
drop_sets s c e = sets_of s (drop_ageing s c e) (drop_places s c e)

sets_by : (w : Work) (s : State) (n : ℕ) (c : CpuId) (e : Event) → IsCause w s c.0 e → (d : ℕ) → ((cpu_of (after w s n c e) d).set ≡ (cpu_of s d).set) ⊎ IsJoining s c e d
unfolding after effect
sets_by w s n c (Assign t x to answer) cause d = inl (assigned_sets w (drop_ageing s c.0 (Assign t x to answer)) t.0 x to answer d ∙ drop_sets s c.0 (Assign t x to answer) d)
sets_by w s n c (Joined to) cause d = elim (cases_eq d c.0) [
  | inl is ↦ inr (record {
    to = to;
    itself = is;
    event = refl;
    closing = subst (λ i. (cpu_of s i).closing ≡ Some to) (sym is) cause.1;
    empty = subst (λ i. IsEmpty s i) (sym is) (λ t inside. (nobody_runs s c.0 cause.0.nobody t, nobody_queued s c.0 cause.2 t inside));
  })
  | inr other ↦ inl (joined_others (drop_ageing s c.0 (Joined to)) c to d other ∙ drop_sets s c.0 (Joined to) d)
]
sets_by w s n c e cause d = inl (sets_of s (after w s n c e) (cpus_same w s n c e refl) d)

pub sets_change : SetsChangeByJoining
sets_change w n s c hints e reached makes d = sets_by w s n c e (ready_cause w s c hints e (reached_ready w n s reached) makes) d
