-- Marks stand where a thread of a greater priority waits on the queue of the same processor, and nowhere without a running thread.
use Rattle.std.proofs.Common.{◌≡◌, ◌≢◌, ℕ, ◌<◌, true, length, Option, Some, None, refl, sym, ap, ◌∙◌, subst, inl, inr, ◌⊎◌, arith}
use Rattle.std.proofs.lemmas.Bool.{cases_eq, cases_Bool, eqb-true, false≢true}
use Rattle.sd_types.specs.declared.numbers.CpuId.{CpuId}
use Rattle.sd_types.specs.declared.numbers.SetId.{SetId}
use Rattle.sd_types.specs.declared.numbers.ThreadId.{ThreadId}
use Rattle.sd_types.specs.declared.events.AssignAnswer.TheVariants as assign
use Rattle.sd_types.specs.declared.events.BindAnswer.TheVariants as bind_answer
use Rattle.sd_types.specs.declared.events.Event.{Event}
use Rattle.sd_types.specs.declared.events.Event.TheVariants.{Assign, Joined, Bind}
use Rattle.sd_types.specs.declared.events.Put.{Put}
use Rattle.sd_types.specs.declared.works.Work.{Work}
use Rattle.sd_state.specs.declared.states.Place.{Place}
use Rattle.sd_state.specs.declared.states.Place.TheVariants.{Running}
use Rattle.sd_state.specs.declared.states.State.{State}
use Rattle.sd_state.specs.States.{thread_of, cpu_of, is_running, is_queued, eff_of}
use Rattle.sd_state.specs.Opening.{opening}
use Rattle.sd_machine.specs.Changes.{place_put}
use Rattle.sd_machine.specs.SetChanges.{bound_put, unbound_put, bind_put}
use Rattle.sd_machine.specs.Events.{effect, after}
use Rattle.sd_machine.specs.Runs.{IsReached}
use Rattle.sd_state.specs.Invariants.{is_marked, MarksStand}
use Rattle.sd_state.proofs.Chosen.{running_not_queued}
use Rattle.sd_state.proofs.Openings.{opening_runs_none, opening_unmarked}
use Rattle.sd_frames.specs.Causes.{IsCause}
use Rattle.sd_invariants.specs.Laws.{HoldsWhenReached, is_runnable}
use Rattle.sd_invariants.proofs.Movers.{bind_thread, bind_put_is}
use Rattle.sd_invariants.proofs.Whole.{reached_whole}
use Rattle.sd_invariants.proofs.Induction.{held_reached}
use Rattle.sd_laws.proofs.Alike.{Weight, weight_part, heft, IsBusy}
use Rattle.sd_laws.proofs.All.{runs_inside, single, known, runs_there, threads_belong}
use Rattle.sd_laws.proofs.Basics.{runs_one, queued_runnable}
use Rattle.sd_laws.proofs.Events.{keeps_sets, event_out}
use Rattle.sd_laws.proofs.Goes.{All, Single, Puts}
use Rattle.sd_laws.proofs.OnePlace.{one_runs}
use Rattle.sd_laws.proofs.Outcomes.{IsOff, Outcome, put_off}
use Rattle.sd_laws.proofs.Outcomes.Outcome.{alike, weighed, puts, leaves, comes}
use Rattle.sd_laws.proofs.Settle.{drop_stands, bind_is}
use Rattle.sd_laws.proofs.Special.{Stands, BindIs, alike_stands, then_stands, joined_stands, assigned_stands}
use Rattle.std.proofs.lemmas.Option.{none-some}

-- what is kept of the marks
pub record Marked (s : State) : Type 0 where
  pub wanted : (d v u : ℕ) → is_running d (thread_of s v).place ≡ true → is_queued d (thread_of s u).place ≡ true → eff_of s v < eff_of s u → is_marked (cpu_of s d) ≡ true
  pub busy : (d : ℕ) → is_marked (cpu_of s d) ≡ true → IsBusy s d

-- the processor on which a thread runs is there
abbrev pub RunnersThere : State → Type 0
RunnersThere s = (d v : ℕ) → is_running d (thread_of s v).place ≡ true → d < length s.cpus

module _ (s r : State) (one : Single s) (there : RunnersThere s) (marked : Marked s) where
  pub stands_marked : Stands s r → Marked r
  stands_marked a = record {
    wanted = λ d v u rv qu less.
        let p : eff_of r v ≡ eff_of s v = ap heft (a.weights v) in
        let q : eff_of r u ≡ eff_of s u = ap heft (a.weights u) in
        a.marks.marks d (marked.wanted d v u (ap (is_running d) (sym (a.places v)) ∙ rv) (ap (is_queued d) (sym (a.places u)) ∙ qu) (omega (arith, p, q, less)));
    busy = λ d m. on d (elim (a.marks.fresh d m) [ inl was ↦ marked.busy d was | inr busy ↦ busy ]);
  }
    where
      on : (d : ℕ) → IsBusy s d → IsBusy r d
      on d b = record { who = b.who; runs = ap (is_running d) (a.places b.who) ∙ b.runs }

  -- who runs in a place off the processors
  off_other : (t : ℕ) (place : Place) (d v : ℕ) → IsOff place → (thread_of r t).place ≡ place → is_running d (thread_of r v).place ≡ true → v ≢ t
  off_other t place d v off is runs e = false≢true (sym (off d) ∙ ap (is_running d) (sym is) ∙ subst (λ i. is_running d (thread_of r i).place ≡ true) e runs)

  pub puts_marked : (t : ℕ) (place : Place) (x : Weight) → Puts All s r t place x → IsOff place → IsOff (thread_of s t).place → Marked r
  puts_marked t place x a off was = record { wanted = wanted; busy = busy }
    where
      wanted : (d v u : ℕ) → is_running d (thread_of r v).place ≡ true → is_queued d (thread_of r u).place ≡ true → eff_of r v < eff_of r u → is_marked (cpu_of r d) ≡ true
      wanted d v u rv qu less =
          let other : v ≢ t = off_other t place d v off a.goes.places.at rv in
          let ran : is_running d (thread_of s v).place ≡ true = ap (is_running d) (sym (a.goes.places.others v other)) ∙ rv in
          let p : eff_of r v ≡ eff_of s v = ap heft (a.goes.weights.others v other) in
          elim (cases_eq u t) [
            | inl is ↦
                let queued : is_queued d place ≡ true = ap (is_queued d) (sym (ap (λ i. (thread_of r i).place) is ∙ a.goes.places.at)) ∙ qu in
                let q : eff_of r u ≡ heft x = ap (eff_of r) is ∙ ap heft a.goes.weights.at in
                a.called one d v (there d v ran) queued rv (omega (arith, q, less))
            | inr apart ↦
                let q : eff_of r u ≡ eff_of s u = ap heft (a.goes.weights.others u apart) in
                a.goes.marks d tt (marked.wanted d v u ran (ap (is_queued d) (sym (a.goes.places.others u apart)) ∙ qu) (omega (arith, p, q, less)))
          ]

      on : (d : ℕ) → IsBusy s d → IsBusy r d
      on d b = record { who = b.who; runs = ap (is_running d) (a.goes.places.others b.who (λ e. false≢true (sym (was d) ∙ subst (λ i. is_running d (thread_of s i).place ≡ true) e b.runs))) ∙ b.runs }

      busy : (d : ℕ) → is_marked (cpu_of r d) ≡ true → IsBusy r d
      busy d m = elim (a.goes.fresh d m) [ inl old ↦ on d (marked.busy d old.1) | inr now ↦ now ]

  pub outcome_marked : (w : Work) (c : ℕ) → Outcome w s r c → Marked r
  outcome_marked w c (alike a) = stands_marked (alike_stands s r a)
  outcome_marked w c (puts t place x a home off was) = puts_marked t place x a off was
  outcome_marked w c (weighed t x a rests remarks) = record { wanted = wanted; busy = busy }
    where
      wanted : (d v u : ℕ) → is_running d (thread_of r v).place ≡ true → is_queued d (thread_of r u).place ≡ true → eff_of r v < eff_of r u → is_marked (cpu_of r d) ≡ true
      wanted d v u rv qu less = by (cases_eq v t) (cases_eq u t)
        where
          ran : is_running d (thread_of s v).place ≡ true
          ran = ap (is_running d) (sym (a.keeps.places v)) ∙ rv

          queued : is_queued d (thread_of s u).place ≡ true
          queued = ap (is_queued d) (sym (a.keeps.places u)) ∙ qu

          before : eff_of s v < eff_of s u → is_marked (cpu_of r d) ≡ true
          before more = a.marks.marks d (marked.wanted d v u ran queued more)

          by : (v ≡ t) ⊎ (v ≢ t) → (u ≡ t) ⊎ (u ≢ t) → is_marked (cpu_of r d) ≡ true
          by (inl is) (inl too) = absurd (false≢true (sym (running_not_queued d d (thread_of s v).place ran) ∙ subst (λ i. is_queued d (thread_of s i).place ≡ true) (too ∙ sym is) queued))
          by (inl is) (inr apart) =
              let p : eff_of r v ≡ heft x = ap (eff_of r) is ∙ ap heft a.weights.at in
              let q : eff_of r u ≡ eff_of s u = ap heft (a.weights.others u apart) in
              elim (remarks d u (there d v ran) (subst (λ i. is_running d (thread_of s i).place ≡ true) is ran) queued (omega (arith, p, q, less))) [
                | inl now ↦ now
                | inr more ↦ before (let same : eff_of s v ≡ eff_of s t = ap (eff_of s) is in omega (arith, same, more))
              ]
          by (inr other) (inl is) =
              let p : eff_of r v ≡ eff_of s v = ap heft (a.weights.others v other) in
              elim rests [
                | inl same ↦
                    let q : eff_of r u ≡ heft x = ap (eff_of r) is ∙ ap heft a.weights.at in
                    let old : eff_of s u ≡ eff_of s t = ap (eff_of s) is in
                    before (omega (arith, p, q, old, same, less))
                | inr off ↦ absurd (false≢true (sym (ap (λ i. is_runnable (thread_of s i).place) is ∙ off) ∙ queued_runnable d (thread_of s u).place queued))
              ]
          by (inr other) (inr apart) =
              let p : eff_of r v ≡ eff_of s v = ap heft (a.weights.others v other) in
              let q : eff_of r u ≡ eff_of s u = ap heft (a.weights.others u apart) in
              before (omega (arith, p, q, less))

      on : (d : ℕ) → IsBusy s d → IsBusy r d
      on d b = record { who = b.who; runs = ap (is_running d) (a.keeps.places b.who) ∙ b.runs }

      busy : (d : ℕ) → is_marked (cpu_of r d) ≡ true → IsBusy r d
      busy d m = on d (elim (a.marks.fresh d m) [ inl was ↦ marked.busy d was | inr now ↦ now ])
  outcome_marked w c (leaves t place x a runs_t home off calls) = record { wanted = wanted; busy = busy }
    where
      wanted : (d v u : ℕ) → is_running d (thread_of r v).place ≡ true → is_queued d (thread_of r u).place ≡ true → eff_of r v < eff_of r u → is_marked (cpu_of r d) ≡ true
      wanted d v u rv qu less =
          let other : v ≢ t = off_other t place d v off a.places.at rv in
          let ran : is_running d (thread_of s v).place ≡ true = ap (is_running d) (sym (a.places.others v other)) ∙ rv in
          let away : d ≢ c = λ e. other (one c v t (subst (λ i. is_running i (thread_of s v).place ≡ true) e ran) runs_t) in
          let p : eff_of r v ≡ eff_of s v = ap heft (a.weights.others v other) in
          elim (cases_eq u t) [
            | inl is ↦
                let queued : is_queued d place ≡ true = ap (is_queued d) (sym (ap (λ i. (thread_of r i).place) is ∙ a.places.at)) ∙ qu in
                let q : eff_of r u ≡ heft x = ap (eff_of r) is ∙ ap heft a.weights.at in
                calls d v (there d v ran) away queued rv (omega (arith, q, less))
            | inr apart ↦
                let q : eff_of r u ≡ eff_of s u = ap heft (a.weights.others u apart) in
                a.marks d away (marked.wanted d v u ran (ap (is_queued d) (sym (a.places.others u apart)) ∙ qu) (omega (arith, p, q, less)))
          ]

      on : (d : ℕ) → d ≢ c → IsBusy s d → IsBusy r d
      on d away b = record { who = b.who; runs = ap (is_running d) (a.places.others b.who (λ e. away (runs_one (thread_of s t).place c d runs_t (subst (λ i. is_running d (thread_of s i).place ≡ true) e b.runs)))) ∙ b.runs }

      busy : (d : ℕ) → is_marked (cpu_of r d) ≡ true → IsBusy r d
      busy d m = elim (a.fresh d m) [ inl old ↦ on d old.0 (marked.busy d old.1) | inr now ↦ now ]
  outcome_marked w c (comes t k x is_c a nobody own_set bound top off) = record { wanted = wanted; busy = busy }
    where
      wanted : (d v u : ℕ) → is_running d (thread_of r v).place ≡ true → is_queued d (thread_of r u).place ≡ true → eff_of r v < eff_of r u → is_marked (cpu_of r d) ≡ true
      wanted d v u rv qu less = by (cases_eq v t) (cases_eq u t)
        where
          by : (v ≡ t) ⊎ (v ≢ t) → (u ≡ t) ⊎ (u ≢ t) → is_marked (cpu_of r d) ≡ true
          by vs (inl is) = absurd (false≢true (ap (is_queued d) (sym (ap (λ i. (thread_of r i).place) is ∙ a.places.at)) ∙ qu))
          by (inl is) (inr apart) =
              let here : d ≡ c = sym (eqb-true k.0 d (ap (is_running d) (sym (ap (λ i. (thread_of r i).place) is ∙ a.places.at)) ∙ rv)) ∙ is_c in
              let most = top u (subst (λ i. is_queued i (thread_of s u).place ≡ true) here (ap (is_queued d) (sym (a.places.others u apart)) ∙ qu)) in
              let p : eff_of r v ≡ heft x = ap (eff_of r) is ∙ ap heft a.weights.at in
              let q : eff_of r u ≡ eff_of s u = ap heft (a.weights.others u apart) in
              absurd (omega (arith, p, q, most, less))
          by (inr other) (inr apart) =
              let ran : is_running d (thread_of s v).place ≡ true = ap (is_running d) (sym (a.places.others v other)) ∙ rv in
              let away : d ≢ c = λ e. false≢true (sym (nobody v) ∙ subst (λ i. is_running i (thread_of s v).place ≡ true) e ran) in
              let p : eff_of r v ≡ eff_of s v = ap heft (a.weights.others v other) in
              let q : eff_of r u ≡ eff_of s u = ap heft (a.weights.others u apart) in
              a.marks d away (marked.wanted d v u ran (ap (is_queued d) (sym (a.places.others u apart)) ∙ qu) (omega (arith, p, q, less)))

      on : (d : ℕ) → IsBusy s d → IsBusy r d
      on d b = record { who = b.who; runs = ap (is_running d) (a.places.others b.who (λ e. false≢true (sym (off d) ∙ subst (λ i. is_running d (thread_of s i).place ≡ true) e b.runs))) ∙ b.runs }

      busy : (d : ℕ) → is_marked (cpu_of r d) ≡ true → IsBusy r d
      busy d m = elim (a.fresh d m) [ inl old ↦ on d (marked.busy d old.1) | inr now ↦ now ]

-- A binding that puts a thread puts one that does not run.

bound_off : (d : CpuId) (p : Place) (a : Put) → bound_put d p ≡ Some a → IsOff p
bound_off d (Running c) a e x = absurd (none-some a e)
bound_off d p a e x = refl

unbound_off : (m : ℕ) (b : Option CpuId) (p : Place) (a : Put) → unbound_put m b p ≡ Some a → IsOff p
unbound_off m (Some b) (Running c) a e x = absurd (none-some a e)
unbound_off m None (Running c) a e x = absurd (none-some a e)
unbound_off m b p a e x = refl

bind_off : (s : State) (u : ℕ) (d : Option CpuId) (a : Put) → bind_put s u d ≡ Some a → IsOff (thread_of s u).place
bind_off s u (Some d) a e = bound_off d (thread_of s u).place a e
bind_off s u None a e = unbound_off (eff_of s u) (thread_of s u).body.bound (thread_of s u).place a e

bind_marked : (w : Work) (s r : State) (n u : ℕ) (d : Option CpuId) (at : Option Put) → Single s → RunnersThere s → Marked s → bind_put s u d ≡ at → BindIs w s r n u at → Marked r
bind_marked w s r n u d None one there marked put is = stands_marked s r one there marked is
bind_marked w s r n u d (Some a) one there marked put (q, stands, puts_it) =
    puts_marked q r
    (λ x v y rv ry. one x v y (ap (is_running x) (sym (stands.places v)) ∙ rv) (ap (is_running x) (sym (stands.places y)) ∙ ry))
    (λ x v rv. let inside = there x v (ap (is_running x) (sym (stands.places v)) ∙ rv) in let many = stands.cpus in omega (arith, inside, many))
    (stands_marked s q one there marked stands) u (place_put w n u a) (weight_part (thread_of q u)) puts_it (put_off w n u a)
    (λ x. ap (is_running x) (stands.places u) ∙ bind_off s u d a put x)

-- Every run.

assign_stands : (w : Work) (s : State) (n : ℕ) (c : CpuId) (t : ThreadId) (d : CpuId) (to : SetId) → Stands s (after w s n c (Assign t d to assign.Changed))
unfolding after effect
assign_stands w s n c t d to = then_stands s _ _ (drop_stands s c.0 (Assign t d to assign.Changed)) (assigned_stands w _ t.0 d to)

join_stands : (w : Work) (s : State) (n : ℕ) (c : CpuId) (to : SetId) → Stands s (after w s n c (Joined to))
unfolding after effect
join_stands w s n c to = then_stands s _ _ (drop_stands s c.0 (Joined to)) (joined_stands _ c to)

module _ (w : Work) (n : ℕ) (s : State) (reached : IsReached w n s) (marked : Marked s) (c : CpuId) (here : c.0 < w.cpus) where
  inside : c.0 < length s.cpus
  inside = let many = (reached_whole w n s reached).ready.fits.cpus in omega (arith, here, many)

  one : Single s
  one = single s (one_runs w n s reached)

  there : RunnersThere s
  there d v runs = by (thread_of s v).place refl runs
    where
      by : (p : Place) → (thread_of s v).place ≡ p → is_running d p ≡ true → d < length s.cpus
      by (Running x) is on = let same : x.0 ≡ d = eqb-true x.0 d on in let inside = runs_there w n s reached v x is in omega (arith, same, inside)
      by p is on = cc

  settled : (m : ℕ) (e : Event) → keeps_sets e ≡ true → IsCause w s c.0 e → Marked (after w s m c e)
  settled m e is cause = outcome_marked s (after w s m c e) one there marked w c.0 (event_out w s (known w n s reached (threads_belong w n s reached)) m c inside e is cause)

  kept : (m : ℕ) (e : Event) → IsCause w s c.0 e → Marked (after w s m c e)
  kept m (Assign t d to assign.Changed) cause = stands_marked s (after w s m c (Assign t d to assign.Changed)) one there marked (assign_stands w s m c t d to)
  kept m (Joined to) cause = stands_marked s (after w s m c (Joined to)) one there marked (join_stands w s m c to)
  kept m (Bind t u d (bind_answer.Changed at)) cause =
      bind_marked w s (after w s m c (Bind t u d (bind_answer.Changed at))) m u.0 d at one there marked (bind_put_is w s t.0 u.0 d at (sym cause.1))
      (bind_is w s (known w n s reached (threads_belong w n s reached)) m c t u d at (bind_thread w s c.0 t.0 u d (reached_whole w n s reached).ready.fits cause.0) cause)
  kept m e cause = settled m e refl cause

opening_marked : (w : Work) → Marked (opening w)
opening_marked w = record {
  wanted = λ d v u rv qu less. absurd (false≢true (sym (opening_runs_none w v d) ∙ rv));
  busy = λ d m. absurd (false≢true (sym (opening_unmarked w d) ∙ m));
}

pub marked : HoldsWhenReached (λ w s. Marked s)
marked = held_reached (λ w s. Marked s) (record {
  start = opening_marked;
  step = λ w s n c e reached here cause marks. kept w n s reached marks c here n e cause;
})

pub marks_stand : HoldsWhenReached (λ w s. MarksStand s)
marks_stand w n s reached =
    let is = marked w n s reached in
    record {
      wanted = λ c v u _ _ rv qu less. is.wanted c v u rv qu less;
      unwanted = λ c none. elim (cases_Bool (is_marked (cpu_of s c))) [
        | inl set ↦ let busy = is.busy c set in absurd (false≢true (sym (none busy.who (runs_inside s c busy.who busy.runs)) ∙ busy.runs))
        | inr not ↦ not
      ];
    }
