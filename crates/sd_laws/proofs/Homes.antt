-- Threads belong to their places behind each event that changes no set and no binding.
use Rattle.std.proofs.Common.{◌≡◌, ℕ, true, false, Option, Some, sym, ap, ◌∙◌, subst, inl, inr, ◌⊎◌, arith}
use Rattle.std.proofs.lemmas.Bool.{false≢true}
use Rattle.sd_basics.proofs.Numbers.{same_itself}
use Rattle.sd_types.specs.declared.numbers.CpuId.{CpuId}
use Rattle.sd_types.specs.declared.numbers.SetId.{SetId}
use Rattle.sd_types.specs.declared.works.Work.{Work}
use Rattle.sd_state.specs.declared.states.Place.{Place}
use Rattle.sd_state.specs.declared.states.Place.TheVariants.{Running, Queued, RealTime, Waiting, Asleep, Napping, Ended}
use Rattle.sd_state.specs.declared.states.State.{State}
use Rattle.sd_state.specs.States.{thread_of, cpu_of, is_running, is_queued, set_of, eff_of}
use Rattle.sd_invariants.specs.Laws.{is_runnable}
use Rattle.sd_machine.proofs.Moves.{IsSame, put_cases}
use Rattle.sd_frames.proofs.CpuWords.{of_cpus}
use Rattle.sd_invariants.proofs.OpenLemmas.{place_part as set_part}
use Rattle.sd_laws.specs.Belonging.{MayQueue, BelongsAt, IsBoundInSet, Belongs, ThreadsBelong}
use Rattle.sd_laws.proofs.Alike.{Weight, heft}
use Rattle.sd_laws.proofs.Goes.{Single}
use Rattle.sd_laws.proofs.Outcomes.{IsOff, Outcome}
use Rattle.sd_laws.proofs.Outcomes.Outcome.{alike, weighed, puts, leaves, comes}

-- What has to stay for a thread that keeps its place: of the processors by which it stands.
pub record Frame (s r : State) (t : ℕ) : Type 0 where
  pub place : (thread_of r t).place ≡ (thread_of s t).place
  pub bound : (thread_of r t).body.bound ≡ (thread_of s t).body.bound
  pub rests : (eff_of r t ≡ eff_of s t) ⊎ (is_runnable (thread_of s t).place ≡ false)
  pub runs : (d : ℕ) → is_running d (thread_of s t).place ≡ true → ((cpu_of r d).set ≡ (cpu_of s d).set) × ((cpu_of s d).kernel ≡ true → (cpu_of r d).kernel ≡ true)
  pub queued : (d : ℕ) → is_queued d (thread_of s t).place ≡ true → (cpu_of r d).set ≡ (cpu_of s d).set
  pub bounds : (d : CpuId) → (thread_of s t).body.bound ≡ Some d → ((cpu_of r d.0).set ≡ (cpu_of s d.0).set) × ((cpu_of r d.0).closing ≡ (cpu_of s d.0).closing)

pub frame_belongs : (w : Work) (s r : State) (t : ℕ) → Frame s r t → Belongs w s t → Belongs w r t
frame_belongs w s r t f home = record {
  place = subst (λ b. BelongsAt r (set_of w t) (eff_of r t) b (thread_of r t).place) (sym f.bound)
      (subst (λ p. BelongsAt r (set_of w t) (eff_of r t) (thread_of s t).body.bound p) (sym f.place) (by (thread_of s t).place home.place f.rests f.runs f.queued));
  bound = λ d is. let was : (thread_of s t).body.bound ≡ Some d = sym f.bound ∙ is in let old = home.bound d was in let now = f.bounds d was in (now.0 ∙ old.0, now.1 ∙ old.1);
}
  where
    b : Option CpuId
    b = (thread_of s t).body.bound

    set : SetId
    set = set_of w t

    may : (c : CpuId) → MayQueue (eff_of s t) b c → eff_of r t ≡ eff_of s t → MayQueue (eff_of r t) b c
    may c (inl low) same = let less = low.1 in inl (low.0, omega (arith, less, same))
    may c (inr here) same = inr here

    by : (p : Place) → BelongsAt s set (eff_of s t) b p → (eff_of r t ≡ eff_of s t) ⊎ (is_runnable p ≡ false)
        → ((d : ℕ) → is_running d p ≡ true → ((cpu_of r d).set ≡ (cpu_of s d).set) × ((cpu_of s d).kernel ≡ true → (cpu_of r d).kernel ≡ true))
        → ((d : ℕ) → is_queued d p ≡ true → (cpu_of r d).set ≡ (cpu_of s d).set) → BelongsAt r set (eff_of r t) b p
    by (Running c) at rests runs queued = let now = runs c.0 (same_itself c.0) in (now.0 ∙ at.0, λ d is other. now.1 (at.1 d is other))
    by (Queued c k) at (inl same) runs queued = (queued c.0 (same_itself c.0) ∙ at.0, may c at.1 same)
    by (Queued c k) at (inr off) runs queued = cc
    by (RealTime q k) at (inl same) runs queued = ((let high = at.0 in omega (arith, high, same)), at.1, at.2)
    by (RealTime q k) at (inr off) runs queued = cc
    by (Waiting l side k) at rests runs queued = tt
    by (Asleep j k) at rests runs queued = tt
    by (Napping c due) at rests runs queued = tt
    by Ended at rests runs queued = tt

-- a thread that has gone to a place off the processors
pub moved_belongs : (s r : State) (set : SetId) (p : ℕ) (b : Option CpuId) (place : Place) → ((d : ℕ) → (cpu_of r d).set ≡ (cpu_of s d).set) → IsOff place → BelongsAt s set p b place → BelongsAt r set p b place
moved_belongs s r set p b (Running c) same off at = absurd (false≢true (sym (off c.0) ∙ same_itself c.0))
moved_belongs s r set p b (Queued c k) same off at = (same c.0 ∙ at.0, at.1)
moved_belongs s r set p b (RealTime q k) same off at = at
moved_belongs s r set p b (Waiting l side k) same off at = tt
moved_belongs s r set p b (Asleep j k) same off at = tt
moved_belongs s r set p b (Napping c due) same off at = tt
moved_belongs s r set p b Ended same off at = tt

module _ (w : Work) (s r : State) (c : ℕ) (one : Single s) (homes : ThreadsBelong w s) where
  -- where sets and bindings stay
  module _ (sets : IsSame (of_cpus set_part s) (of_cpus set_part r)) (bounds : (u : ℕ) → (thread_of r u).body.bound ≡ (thread_of s u).body.bound) where
    own : (d : ℕ) → (cpu_of r d).set ≡ (cpu_of s d).set
    own d = ap (λ (x : SetId × Option SetId). x.0) (sets d)

    closes : (d : ℕ) → (cpu_of r d).closing ≡ (cpu_of s d).closing
    closes d = ap (λ (x : SetId × Option SetId). x.1) (sets d)

    keeps_home : (u : ℕ) → (thread_of r u).place ≡ (thread_of s u).place → (eff_of r u ≡ eff_of s u) ⊎ (is_runnable (thread_of s u).place ≡ false)
        → ((d : ℕ) → is_running d (thread_of s u).place ≡ true → (cpu_of s d).kernel ≡ true → (cpu_of r d).kernel ≡ true) → Belongs w r u
    keeps_home u place rests kernel = frame_belongs w s r u (record {
      place = place;
      bound = bounds u;
      rests = rests;
      runs = λ d runs. (own d, kernel d runs);
      queued = λ d queued. own d;
      bounds = λ d is. (own d.0, closes d.0);
    }) (homes u)

    bound_stays : (u : ℕ) → IsBoundInSet r (set_of w u) (thread_of r u).body.bound
    bound_stays u d is = let old = (homes u).bound d (sym (bounds u) ∙ is) in (own d.0 ∙ old.0, closes d.0 ∙ old.1)

    -- a thread that has gone to a place
    goes_home : (t : ℕ) (place : Place) (x : Weight) → (thread_of r t).place ≡ place → eff_of r t ≡ heft x → BelongsAt r (set_of w t) (heft x) (thread_of s t).body.bound place → Belongs w r t
    goes_home t place x is weight at = record {
      place = subst (λ b. BelongsAt r (set_of w t) (eff_of r t) b (thread_of r t).place) (sym (bounds t))
          (subst (λ p. BelongsAt r (set_of w t) (eff_of r t) (thread_of s t).body.bound p) (sym is) (subst (λ m. BelongsAt r (set_of w t) m (thread_of s t).body.bound place) (sym weight) at));
      bound = bound_stays t;
    }

  pub outcome_belongs : Outcome w s r c → ThreadsBelong w r
  outcome_belongs (alike a) u = keeps_home a.keeps.sets a.keeps.bounds u (a.keeps.places u) (inl (ap heft (a.weights u))) (λ d runs e. a.marks.kernel d e)
  outcome_belongs (weighed t x a rests remarks) u = keeps_home a.keeps.sets a.keeps.bounds u (a.keeps.places u) (elim (put_cases t x _ _ a.weights u) [
    | inl me ↦ elim rests [
      | inl same ↦ inl (ap heft me.1 ∙ same ∙ ap (eff_of s) (sym me.0))
      | inr off ↦ inr (ap (λ v. is_runnable (thread_of s v).place) me.0 ∙ off)
    ]
    | inr other ↦ inl (ap heft other.1)
  ]) (λ d runs e. a.marks.kernel d e)
  outcome_belongs (puts t place x a home off was) u = elim (put_cases t place _ _ a.goes.places u) [
    | inl me ↦ subst (Belongs w r) (sym me.0)
        (goes_home a.goes.sets a.goes.bounds t place x a.goes.places.at (ap heft a.goes.weights.at) (moved_belongs s r (set_of w t) (heft x) (thread_of s t).body.bound place (own a.goes.sets a.goes.bounds) off home))
    | inr other ↦ keeps_home a.goes.sets a.goes.bounds u other.1 (inl (ap heft (a.goes.weights.others u other.0))) (λ d runs e. a.goes.kernel d tt e)
  ]
  outcome_belongs (leaves t place x a runs_t home off calls) u = elim (put_cases t place _ _ a.places u) [
    | inl me ↦ subst (Belongs w r) (sym me.0)
        (goes_home a.sets a.bounds t place x a.places.at (ap heft a.weights.at) (moved_belongs s r (set_of w t) (heft x) (thread_of s t).body.bound place (own a.sets a.bounds) off home))
    | inr other ↦ keeps_home a.sets a.bounds u other.1 (inl (ap heft (a.weights.others u other.0)))
        (λ d runs e. a.kernel d (λ is. other.0 (one c u t (subst (λ i. is_running i (thread_of s u).place ≡ true) is runs) runs_t)) e)
  ]
  outcome_belongs (comes t k x is a nobody own_set bound top off) u = elim (put_cases t (Running k) _ _ a.places u) [
    | inl me ↦ subst (Belongs w r) (sym me.0)
        (goes_home a.sets a.bounds t (Running k) x a.places.at (ap heft a.weights.at)
        (own a.sets a.bounds k.0 ∙ ap (λ i. (cpu_of s i).set) is ∙ own_set, λ d bound_is other. absurd (other (bound d bound_is ∙ sym is))))
    | inr other ↦ keeps_home a.sets a.bounds u other.1 (inl (ap heft (a.weights.others u other.0)))
        (λ d runs e. a.kernel d (λ same. false≢true (sym (nobody u) ∙ subst (λ i. is_running i (thread_of s u).place ≡ true) same runs)) e)
  ]
