-- In every state of every run each thread stands where its set, its binding and its priority ask.
use Rattle.std.proofs.Common.{◌≡◌, ℕ, ◌<◌, true, length, refl, sym, ap, ◌∙◌, subst, inl, inr, arith}
use Rattle.std.proofs.lemmas.Bool.{cases_lt, false≢true}
use Rattle.std.proofs.lemmas.List.{get_or_past}
use Rattle.sd_types.specs.declared.numbers.CpuId.{CpuId}
use Rattle.sd_types.specs.declared.events.AssignAnswer.TheVariants as assign
use Rattle.sd_types.specs.declared.events.BindAnswer.TheVariants as bind_answer
use Rattle.sd_types.specs.declared.events.Event.{Event}
use Rattle.sd_types.specs.declared.events.Event.TheVariants.{Assign, Joined, Bind}
use Rattle.sd_types.specs.declared.scripts.Op.TheVariants as op
use Rattle.sd_types.specs.declared.works.Work.{Work}
use Rattle.sd_state.specs.declared.states.Place.{Place}
use Rattle.sd_state.specs.declared.states.Place.TheVariants.{Running, Queued, RealTime, Waiting, Asleep, Napping, Ended}
use Rattle.sd_state.specs.declared.states.ThreadState.{ThreadState}
use Rattle.sd_state.specs.declared.states.State.{State}
use Rattle.sd_state.specs.States.{no_thread, thread_of, is_running, set_of, eff_of}
use Rattle.sd_state.specs.Opening.{opening}
use Rattle.sd_machine.specs.Events.{after}
use Rattle.sd_machine.specs.Runs.{IsReached}
use Rattle.sd_state.specs.Invariants.{OneRuns, IsPlaceThere, IsInItsSet, SuitsQueue}
use Rattle.sd_state.proofs.OpeningQueues.{opening_suits}
use Rattle.sd_state.proofs.OpeningSets.{opening_well}
use Rattle.sd_frames.specs.Causes.{IsCause}
use Rattle.sd_invariants.specs.Laws.{HoldsWhenReached}
use Rattle.sd_invariants.proofs.BoundLemmas.{first_free}
use Rattle.sd_invariants.proofs.Movers.{bind_thread}
use Rattle.sd_invariants.proofs.Whole.{reached_whole}
use Rattle.sd_invariants.proofs.Induction.{held_reached}
use Rattle.sd_invariants.proofs.Named.{acts_named, assign_cpu}
use Rattle.sd_invariants.proofs.Places.{threads_have_cpus}
use Rattle.sd_invariants.proofs.All.{threads_law}
use Rattle.sd_laws.specs.Belonging.{BelongsAt, ThreadsBelong}
use Rattle.sd_laws.proofs.Events.{keeps_sets, event_out}
use Rattle.sd_laws.proofs.Goes.{Single}
use Rattle.sd_laws.proofs.Homes.{outcome_belongs}
use Rattle.sd_laws.proofs.OnePlace.{one_runs}
use Rattle.sd_laws.proofs.Outcomes.{Known}
use Rattle.sd_laws.proofs.Settle.{assigned_belongs, joined_belongs, bound_belongs}
use Rattle.std.proofs.lemmas.Option.{none-some}

-- What is known of a state of a run, if its threads belong to their places.

pub runs_inside : (s : State) (d t : ℕ) → is_running d (thread_of s t).place ≡ true → t < length s.threads
runs_inside s d t runs = elim (cases_lt t (length s.threads)) [
  | inl inside ↦ inside
  | inr past ↦ absurd (false≢true (sym (ap (λ (x : ThreadState). is_running d x.place) (get_or_past s.threads t no_thread past)) ∙ runs))
]

pub single : (s : State) → OneRuns s → Single s
single s one d a b ra rb = one a b d (runs_inside s d a ra) (runs_inside s d b rb) ra rb

pub known : (w : Work) (n : ℕ) (s : State) → IsReached w n s → ThreadsBelong w s → Known w s
known w n s reached homes = record {
  whole = reached_whole w n s reached;
  one = single s (one_runs w n s reached);
  some = λ t. (threads_have_cpus w n s reached t).some;
  homes = homes;
}

-- the processor on which a thread runs is there
pub runs_there : (w : Work) (n : ℕ) (s : State) → IsReached w n s → (u : ℕ) (x : CpuId) → (thread_of s u).place ≡ Running x → x.0 < length s.cpus
runs_there w n s reached u x is =
    let there : x.0 < w.cpus = subst (λ p. IsPlaceThere w p) is (threads_law w n s reached u).place in
    let many = (reached_whole w n s reached).ready.fits.cpus in
    omega (arith, there, many)

-- Each event.

module _ (w : Work) (n : ℕ) (s : State) (reached : IsReached w n s) (homes : ThreadsBelong w s) (c : CpuId) (here : c.0 < w.cpus) where
  inside : c.0 < length s.cpus
  inside = let many = (reached_whole w n s reached).ready.fits.cpus in omega (arith, here, many)

  settled : (m : ℕ) (e : Event) → keeps_sets e ≡ true → IsCause w s c.0 e → ThreadsBelong w (after w s m c e)
  settled m e is cause = outcome_belongs w s (after w s m c e) c.0 (single s (one_runs w n s reached)) homes (event_out w s (known w n s reached homes) m c inside e is cause)

  kept : (m : ℕ) (e : Event) → IsCause w s c.0 e → ThreadsBelong w (after w s m c e)
  kept m (Assign t d to assign.Changed) cause =
      assigned_belongs w s (known w n s reached homes) m c t d to
      (let there = assign_cpu w d to (acts_named w s c.0 t.0 (op.Assign d to) cause.0) in let many = (reached_whole w n s reached).ready.fits.cpus in omega (arith, there, many)) cause
  kept m (Joined to) cause = joined_belongs w s (known w n s reached homes) m c to cause
  kept m (Bind t u d (bind_answer.Changed at)) cause =
      bound_belongs w s (known w n s reached homes) m c t u d at (bind_thread w s c.0 t.0 u d (reached_whole w n s reached).ready.fits cause.0) cause (runs_there w n s reached u.0)
  kept m e cause = settled m e refl cause

-- The initial state.

opening_belongs : (w : Work) → ThreadsBelong w (opening w)
opening_belongs w t = record {
  place = elim (cases_lt t (length s.threads)) [
    | inl inside ↦ by (thread_of s t).place (opening_well w t).0 (opening_suits w t)
    | inr past ↦ subst (λ (x : ThreadState). BelongsAt s (set_of w t) (eff_of s t) (thread_of s t).body.bound x.place) (sym (get_or_past s.threads t no_thread past)) tt
  ];
  bound = λ d is. absurd (none-some d (sym (first_free w t) ∙ is));
}
  where
    s : State
    s = opening w

    by : (p : Place) → IsInItsSet w s t p → SuitsQueue (eff_of s t) (thread_of s t).body.bound p → BelongsAt s (set_of w t) (eff_of s t) (thread_of s t).body.bound p
    by (Queued c k) own (inl low) = (own, inl (first_free w t, low))
    by (Queued c k) own (inr here) = (own, inr here)
    by (RealTime q k) own suits = (suits.0, suits.1, own)
    by (Running c) own suits = (own, λ d is other. absurd (none-some d (sym (first_free w t) ∙ is)))
    by (Waiting l side k) own suits = tt
    by (Asleep j k) own suits = tt
    by (Napping c due) own suits = tt
    by Ended own suits = tt

pub threads_belong : HoldsWhenReached ThreadsBelong
threads_belong = held_reached ThreadsBelong (record {
  start = opening_belongs;
  step = λ w s n c e reached here cause homes. kept w n s reached homes c here n e cause;
})
