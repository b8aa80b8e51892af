-- The processor to which a thread is bound is there, and counts the threads that are bound to it.
use Rattle.std.proofs.Common.{◌≡◌, ℕ, ◌<◌, length, Option, Some, None, refl, sym, ◌∙◌, subst, inl, inr, arith}
use Rattle.sd_types.specs.declared.numbers.CpuId.{CpuId}
use Rattle.sd_types.specs.declared.events.BindAnswer.{BindAnswer}
use Rattle.sd_types.specs.declared.events.BindAnswer.TheVariants as bind_answer
use Rattle.sd_types.specs.declared.events.Event.{Event}
use Rattle.sd_types.specs.declared.events.Event.TheVariants.{Bind}
use Rattle.sd_types.specs.declared.scripts.Op.TheVariants as op
use Rattle.sd_types.specs.declared.works.Work.{Work}
use Rattle.sd_machine.proofs.HolderLemmas.{count_same}
use Rattle.sd_machine.proofs.Moves.{put_cases}
use Rattle.sd_state.specs.declared.states.State.{State}
use Rattle.sd_state.specs.States.{thread_of}
use Rattle.sd_state.specs.Opening.{opening}
use Rattle.sd_machine.specs.Shapes.{FitsFully}
use Rattle.sd_machine.specs.Changes.{set_duty}
use Rattle.sd_machine.specs.Requeueing.{is_bound_to}
use Rattle.sd_machine.specs.SetChanges.{pbound}
use Rattle.sd_machine.specs.Events.{drop_ageing, effect, after}
use Rattle.sd_frames.specs.Causes.{IsCause}
use Rattle.sd_invariants.specs.Laws.{HoldsWhenReached}
use Rattle.sd_frames.proofs.Words.{Same}
use Rattle.sd_frames.proofs.HoldTable.{bound_part, Goes, pbound_bound, refused_bound}
use Rattle.sd_invariants.proofs.BoundLemmas.{threads_same, is_bound_at, first_free}
use Rattle.sd_invariants.proofs.Movers.{bind_thread}
use Rattle.sd_invariants.proofs.Whole.{reached_whole}
use Rattle.sd_invariants.specs.There.{IsBoundThere, BoundAreCounted}
use Rattle.sd_invariants.proofs.Induction.{held_reached}
use Rattle.sd_invariants.proofs.Named.{acts_named, bind_cpu}

abbrev pub BoundsAreThere : Work → State → Type 0
BoundsAreThere w s = (t : ℕ) → IsBoundThere w (thread_of s t).body.bound

same_bounds : (w : Work) (s r : State) → Same bound_part s r → BoundsAreThere w s → BoundsAreThere w r
same_bounds w s r same there t = subst (λ b. IsBoundThere w b) (sym (same.each t)) (there t)

put_bounds : (w : Work) (s r : State) (u : ℕ) (d : Option CpuId) → Goes bound_part s r u d → IsBoundThere w d → BoundsAreThere w s → BoundsAreThere w r
put_bounds w s r u d goes is there t = elim (put_cases u d _ _ goes.put t) [
  | inl me ↦ subst (λ b. IsBoundThere w b) (sym me.1) is
  | inr other ↦ subst (λ b. IsBoundThere w b) (sym other.1) (there t)
]

pbound_bounds : (w : Work) (s : State) (n t u : ℕ) (d : Option CpuId) (answer : BindAnswer) → u < length s.threads → IsBoundThere w d → BoundsAreThere w s → BoundsAreThere w (pbound w s n t u d answer)
pbound_bounds w s n t u d (bind_answer.Changed at) inside is there = put_bounds w s _ u d (pbound_bound w s n t u d at inside) is there
pbound_bounds w s n t u d bind_answer.ESRCH inside is there = same_bounds w s _ (refused_bound w s n t u d bind_answer.ESRCH (λ at e. cc)) there
pbound_bounds w s n t u d bind_answer.EINVAL inside is there = same_bounds w s _ (refused_bound w s n t u d bind_answer.EINVAL (λ at e. cc)) there
pbound_bounds w s n t u d bind_answer.EPERM inside is there = same_bounds w s _ (refused_bound w s n t u d bind_answer.EPERM (λ at e. cc)) there
pbound_bounds w s n t u d bind_answer.EBUSY inside is there = same_bounds w s _ (refused_bound w s n t u d bind_answer.EBUSY (λ at e. cc)) there

bounds_kept : (w : Work) (s : State) (n : ℕ) (c : CpuId) (e : Event) → FitsFully w s → IsCause w s c.0 e → BoundsAreThere w s → BoundsAreThere w (after w s n c e)
unfolding after effect drop_ageing set_duty
bounds_kept w s n c (Bind t u d answer) fits cause there =
    pbound_bounds w (drop_ageing s c.0 (Bind t u d answer)) n t.0 u.0 d answer (bind_thread w s c.0 t.0 u d fits cause.0) (bind_cpu w u d (acts_named w s c.0 t.0 (op.Pbind u d) cause.0)) there
bounds_kept w s n c e fits cause there = same_bounds w s (after w s n c e) (threads_same w s n c e refl) there

opening_bounds : (w : Work) → BoundsAreThere w (opening w)
opening_bounds w t = subst (λ b. IsBoundThere w b) (sym (first_free w t)) tt

pub bounds_are_there : HoldsWhenReached BoundsAreThere
bounds_are_there = held_reached BoundsAreThere (record {
  start = opening_bounds;
  step = λ w s n c e reached here cause there. bounds_kept w s n c e (reached_whole w n s reached).ready.fits cause there;
})

same_test : (d : CpuId) (b : Option CpuId) → is_bound_to d b ≡ is_bound_at d.0 b
same_test d None = refl
same_test d (Some e) = refl

pub bound_are_counted : HoldsWhenReached BoundAreCounted
bound_are_counted w n s reached d inside =
    let whole = reached_whole w n s reached in
    let many : length s.cpus ≡ w.cpus = whole.ready.fits.cpus in
    whole.bound d.0 (omega (arith, inside, many))
    ∙ sym (count_same (λ t. is_bound_at d.0 (bound_part (thread_of s t))) (λ t. is_bound_to d (thread_of s t).body.bound) (length s.threads) (λ t lt. same_test d (thread_of s t).body.bound))
