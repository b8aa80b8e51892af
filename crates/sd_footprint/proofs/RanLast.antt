-- Where a thread runs, it ran last; and what each event of a run changes.
use Rattle.std.proofs.Common.{◌≡◌, ℕ, ◌⊎◌, true, Option, Some, ap, ◌∙◌, sym, subst, inl, inr, eqb, arith}
use Rattle.std.proofs.lemmas.Bool.{false≢true}
use Rattle.std.proofs.lemmas.Bool.Decides.{nat_tests}
use Rattle.sd_types.specs.declared.numbers.CpuId.{CpuId}
use Rattle.sd_types.specs.declared.events.Event.{Event}
use Rattle.sd_types.specs.declared.events.Event.TheVariants.{Done}
use Rattle.sd_types.specs.declared.events.Hints.{Hints}
use Rattle.sd_types.specs.declared.works.Work.{Work}
use Rattle.sd_state.specs.declared.states.Place.{Place}
use Rattle.sd_state.specs.declared.states.State.{State}
use Rattle.sd_state.specs.Opening.{opening}
use Rattle.sd_state.specs.States.{is_running, thread_of}
use Rattle.sd_machine.specs.Events.{after, next}
use Rattle.sd_machine.specs.Runs.{IsReached}
use Rattle.sd_step.specs.Touched.{after_parts}
use Rattle.sd_state.proofs.Openings.{opening_runs_none}
use Rattle.sd_frames.specs.Causes.{IsCause}
use Rattle.sd_frames.proofs.Found.{runner_found}
use Rattle.sd_invariants.proofs.Ready.{kept_reached, reached_ready, ready_cause}
use Rattle.sd_invariants.proofs.Whole.{running_on}
use Rattle.sd_footprint.specs.Changed.{ChangesOnly, MovesWithin, RanThere}
use Rattle.sd_footprint.proofs.EffectLemmas.{EndsHere, after_changes}

abbrev pub AllRan : Work → State → Type 0
AllRan w s = (t : ℕ) → RanThere (thread_of s t)

ends_here : (w : Work) (s : State) (c : CpuId) (e : Event) → IsCause w s c.0 e → AllRan w s → EndsHere s c e
ends_here w s c (Done t) cause ran = (running_on c (thread_of s t.0).place (runner_found s c.0 t.0 cause.runs).stands, ran t.0)
ends_here w s c _ cause ran = tt

event_changes : (w : Work) (s : State) (n : ℕ) (c : CpuId) (e : Event) → IsCause w s c.0 e → AllRan w s → ChangesOnly (after_parts w s c e) s (after w s n c e)
event_changes w s n c e cause ran = after_changes w s n c e (ends_here w s c e cause ran)

opening_ran : (w : Work) → AllRan w (opening w)
opening_ran w t c is =
    let here : eqb c.0 c.0 ≡ true = grind (arith, nat_tests) in
    absurd (false≢true (sym (opening_runs_none w t c.0) ∙ (ap (λ (p : Place). is_running c.0 p) is ∙ here)))

after_ran : (w : Work) (s : State) (n : ℕ) (c : CpuId) (e : Event) → IsCause w s c.0 e → AllRan w s → AllRan w (after w s n c e)
after_ran w s n c e cause ran t = by ((event_changes w s n c e cause ran).threads t)
  where
    by : (thread_of (after w s n c e) t ≡ thread_of s t) ⊎ MovesWithin (after_parts w s c e) t (thread_of s t) (thread_of (after w s n c e) t) → RanThere (thread_of (after w s n c e) t)
    by (inl same) = subst RanThere (sym same) (ran t)
    by (inr m) = m.ran (ran t)

pub reached_ran : (w : Work) (n : ℕ) (s : State) → IsReached w n s → AllRan w s
reached_ran w n s reached = kept_reached AllRan (record { start = opening_ran; step = λ w s n c e ready cause ran. after_ran w s n c e cause ran }) w n s reached

pub reached_changes : (w : Work) (n : ℕ) (s : State) (c : CpuId) (hints : Option Hints) (e : Event) → IsReached w n s → next w s c hints ≡ Some e → ChangesOnly (after_parts w s c e) s (after w s n c e)
reached_changes w n s c hints e reached is = event_changes w s n c e (ready_cause w s c hints e (reached_ready w n s reached) is) (reached_ran w n s reached)
