-- What each event comes to, but for those that change a set or a binding.
use Rattle.std.proofs.Common.{◌≡◌, ◌≢◌, ℕ, ◌<◌, ◌≤◌, Bool, true, false, ◌&&◌, List, ◌∷◌, length, Option, Some, None, is_none, refl, sym, ap, ◌∙◌, subst, inl, inr, ◌⊎◌, arith, ℤ}
use Rattle.std.specs.Prelude.{if◌then◌else◌, nat_lt, ◌==◌}
use Rattle.std.specs.List.{list_all}
use Rattle.std.proofs.lemmas.Bool.{cases_eq, eqb-true, false≢true, and_parts, or_parts}
use Rattle.std.proofs.lemmas.Bool.Decides.{nat_tests}
use Rattle.sd_basics.proofs.Numbers.{same_itself}
use Rattle.sd_basics.proofs.Truths.{and_left, and_right}
use Rattle.sd_types.specs.declared.numbers.ChanId.{ChanId}
use Rattle.sd_types.specs.declared.numbers.CpuId.{CpuId}
use Rattle.sd_types.specs.declared.numbers.LockId.{LockId}
use Rattle.sd_types.specs.declared.numbers.Side.TheVariants.{Writer, Reader}
use Rattle.sd_types.specs.declared.numbers.ThreadId.{ThreadId}
use Rattle.sd_types.specs.declared.classes.ClassState.{ClassState}
use Rattle.sd_types.specs.declared.classes.ClassState.TheVariants.{Ts, Fx, Sys, Rt}
use Rattle.sd_types.specs.declared.events.AssignAnswer.TheVariants as assign
use Rattle.sd_types.specs.declared.events.BindAnswer.TheVariants as bind_answer
use Rattle.sd_types.specs.declared.events.Duty.{Duty}
use Rattle.sd_types.specs.declared.events.Duty.TheVariants as duty
use Rattle.sd_types.specs.declared.events.End.{End}
use Rattle.sd_types.specs.declared.events.Event.{Event}
use Rattle.sd_types.specs.declared.events.Event.TheVariants.{Tick, Spin, Dispatch, Steal, Preempt, Yield, Napend, Wake, Rouse, Will, Exit, Unblock, Grant, Age, Prio, CvWait, SemaVWake, Assign, Move, Joined, Bind, Away}
use Rattle.sd_types.specs.declared.events.PrioAnswer.{PrioAnswer}
use Rattle.sd_types.specs.declared.events.PrioAnswer.TheVariants.{Changed, Refused}
use Rattle.sd_types.specs.declared.events.Put.{Put}
use Rattle.sd_types.specs.declared.events.Put.TheVariants.{Cpu}
use Rattle.sd_types.specs.declared.scripts.Request.{Request}
use Rattle.sd_types.specs.declared.works.Work.{Work}
use Rattle.sd_types.specs.Priorities.{base_of, eff_as, greatest_willed}
use Rattle.sd_types.specs.Willed.{without_number, changed_number}
use Rattle.sd_rules.specs.ClassRules.{class_expires, class_requeue}
use Rattle.sd_state.specs.declared.states.Place.{Place}
use Rattle.sd_state.specs.declared.states.Place.TheVariants.{Running, Queued, RealTime, Waiting, Asleep, Napping, Ended}
use Rattle.sd_state.specs.declared.states.State.{State}
use Rattle.sd_state.specs.States.{thread_of, cpu_of, is_running, is_queued, is_ready, eff_of}
use Rattle.sd_state.specs.Operations.{op_of}
use Rattle.sd_machine.specs.Threads.{runner, greatest_waiting, is_ts, is_waiting_at, is_asleep, is_asleep_below, is_due}
use Rattle.sd_machine.specs.Bodies.{ticked_class, aged_class}
use Rattle.sd_machine.specs.Changes.{back_key, key_at, queue_place, place_put, finish_op, run_tick, set_class, set_duty, count_tick, remark, leave, put, put_where}
use Rattle.sd_machine.specs.Dispatching.{must_leave, charge, class_counts, ticked, spun}
use Rattle.sd_machine.specs.Sleeping.{woke, roused}
use Rattle.sd_machine.specs.Locking.{released, exited, others_waiting, writer_priority, granted}
use Rattle.sd_machine.specs.Requeueing.{reordered_at, reordered}
use Rattle.sd_machine.specs.Walking.{walked, willed}
use Rattle.sd_machine.specs.Prioritising.{new_class, walk_from, changed_by, changed_on, reprioritised, lifted, aged}
use Rattle.sd_machine.specs.SetChanges.{moved}
use Rattle.sd_machine.specs.Events.{dropped_duty, drop_ageing, effect, after}
use Rattle.sd_machine.specs.Deeds.{Deed, GoesTo, MovesCpu, BindsThread, Whither, ToQueue, ToSleep, ToWait, ToNap, ToEnd, place_to, did, all_did, deeds, first}
use Rattle.sd_machine.proofs.DeedLemmas.{all_keep, effect_did}
use Rattle.sd_frames.specs.Moves.{leaver, moves, stride_of}
use Rattle.sd_frames.proofs.Leavers.{leaver_runs}
use Rattle.sd_frames.proofs.Made.{Kind, Keeps, Any, kinds, deed_made, Over, Ran, Back, Held, Looped, Dutied, Ticked, Locked, Counted}
use Rattle.sd_state.specs.Invariants.{is_marked}
use Rattle.sd_state.proofs.Chosen.{running_not_queued}
use Rattle.sd_frames.specs.Causes.{Runs, IsPut as IsPutAt, IsRequeuedAt, WakesBest, RousesBest, IsAnswered, IsCause}
use Rattle.sd_frames.proofs.Found.{runner_found, ready_found, queued_found, unbound_found, waiter_found, sleeper_found, sleeper_below_found, due_found, age_found}
use Rattle.sd_invariants.proofs.Movers.{owner_thread, prio_thread}
use Rattle.sd_frames.proofs.PassLemmas.{drop_duties}
use Rattle.sd_frames.proofs.Searches.{nobody_runs}
use Rattle.sd_laws.proofs.Alike.{Weight, weight_part, heft, Calm, Alike, Weighs, Weighed, all_calm, then_calm, calm_alike, then_alike, calm_weighs, weighs_calm, weighs_alike, weighed_alike, lock_calm, count_calm, set_duty_calm, count_tick_calm, drop_calm, finish_op_calm, run_tick_calm, send_back_calm, set_looped_calm, hold_calm, set_class_weighs, walk_from_calm, remark_alike, charge_alike}
use Rattle.sd_laws.proofs.Goes.{All, Others, Goes, Puts, single_back, calm_goes, goes_alike, calm_puts, weighs_puts, puts_alike, puts_to, put_puts, woken_puts, dispatched_goes, stolen_goes, sent_away_puts}
use Rattle.sd_laws.proofs.Basics.{none_of, runs_one, running_rests}
use Rattle.sd_laws.proofs.Calls.{some_ready, most_ready, charge_called, remark_called, tick_base, requeue_base, other_base}
use Rattle.sd_laws.proofs.Outcomes.{Known, Home, IsOff, Rests, Remarks, Outcome, stays_rests, put_off, queue_off, queue_here, put_home, requeued_home, runs_at, queued_at, ready_at, queue_home, neighbour_set}
use Rattle.sd_laws.proofs.Outcomes.Outcome.{alike, weighed, puts, leaves, comes}
use Rattle.sd_laws.proofs.Words.{weighs_to, preempted_goes, yielded_goes, left_goes, released_weighs, cv_waited_goes, woken_weight, handed_puts, unblocked_puts, reader_puts, writer_puts, roused_puts, woke_puts_one, walked_weighs}
use Rattle.std.proofs.lemmas.Option.{none-some}

-- Places.

-- a thread that stands where none runs
off_by : (on : Place → Bool) → ((d : CpuId) → on (Running d) ≡ false) → (p : Place) → on p ≡ true → IsOff p
off_by on none (Running d) e x = absurd (false≢true (sym (none d) ∙ e))
off_by on none p e x = refl

off_remarks : (s r : State) (t : ℕ) (x : Weight) → IsOff (thread_of s t).place → Remarks s r t x
off_remarks s r t x off d u inside runs queued less = absurd (false≢true (sym (off d) ∙ runs))

weighs_weighed : (s r : State) (t : ℕ) (x : Weight) → Weighs s r t x → Weighed s r t x
weighs_weighed s r t x a = weighs_alike s r r t x a (calm_alike r r (all_calm r))

-- and marks that are set later
pub outcome_alike : (w : Work) (s r q : State) (c : ℕ) → Outcome w s r c → Alike r q → Outcome w s q c
outcome_alike w s r q c (alike a) b = alike (then_alike s r q a b)
outcome_alike w s r q c (weighed t x a rests remarks) b = weighed t x (weighed_alike s r q t x a b) rests
    (λ d u inside runs queued less. elim (remarks d u inside runs queued less) [ inl now ↦ inl (b.marks.marks d now) | inr was ↦ inr was ])
outcome_alike w s r q c (puts t place x a home off was) b = puts t place x (puts_alike All s r q t place x a b) home off was
outcome_alike w s r q c (leaves t place x a runs home off calls) b = leaves t place x (goes_alike (Others c) s r q t place x a b) runs home off
    (λ d v inside other queued rv less.
    let same : eff_of q v ≡ eff_of r v = ap heft (b.weights v) in
    b.marks.marks d (calls d v inside other queued (ap (is_running d) (sym (b.keeps.places v)) ∙ rv) (omega (arith, same, less))))
outcome_alike w s r q c (comes t k x is a nobody own bound top off) b = comes t k x is (goes_alike (Others c) s r q t (Running k) x a b) nobody own bound top off

-- Changes that leave all of this.

-- the kinds of changes that do
abbrev calm_kind : Kind → Bool
calm_kind Over = true
calm_kind Ran = true
calm_kind Back = true
calm_kind Held = true
calm_kind Looped = true
calm_kind Dutied = true
calm_kind Ticked = true
calm_kind Locked = true
calm_kind Counted = true
calm_kind _ = false

calm_keeps : (w : Work) (k : Kind) → calm_kind k ≡ true → Keeps w Any Calm k
calm_keeps w Over is = λ s t its. finish_op_calm w s t
calm_keeps w Ran is = λ s t its. run_tick_calm w s t
calm_keeps w Back is = λ s t its. send_back_calm s t
calm_keeps w Held is = λ s t its l. hold_calm s t l
calm_keeps w Looped is = λ s t its b. set_looped_calm s t b
calm_keeps w Dutied is = λ s c d. set_duty_calm s c d
calm_keeps w Ticked is = λ s c. count_tick_calm w s c
calm_keeps w Locked is = λ s l x. lock_calm s l x
calm_keeps w Counted is = λ s k n. count_calm s k n
calm_keeps w _ is = cc

-- and the deeds: what is refused changes nothing
abbrev calm_deed : Deed → Bool
calm_deed (MovesCpu d to assign.Changed) = false
calm_deed (MovesCpu d to _) = true
calm_deed (BindsThread u d (bind_answer.Changed at)) = false
calm_deed (BindsThread u d _) = true
calm_deed d = list_all calm_kind (kinds d)

deed_calm : (w : Work) (n : ℕ) (c : CpuId) (s : State) (d : Deed) → calm_deed d ≡ true → Calm s (did w n c s d)
deed_calm w n c s (MovesCpu d to assign.Changed) is = cc
deed_calm w n c s (MovesCpu d to _) is = all_calm s
deed_calm w n c s (BindsThread u d (bind_answer.Changed at)) is = cc
deed_calm w n c s (BindsThread u d _) is = all_calm s
deed_calm w n c s d is = deed_made w all_calm then_calm calm_kind (λ k kind. calm_keeps w k kind) n c s d is

deeds_calm : (w : Work) (n : ℕ) (c : CpuId) (s : State) (ds : List Deed) → list_all calm_deed ds ≡ true → Calm s (all_did w n c s ds)
deeds_calm w n c s ds is = all_keep w n c all_calm then_calm calm_deed (λ r d calm. deed_calm w n c r d calm) s ds is

-- A thread leaves its processor for where it rests, at most, and the rest changes none of this.

abbrev rests : Whither → Bool
rests ToQueue = false
rests _ = true

abbrev is_quiet : List Deed → Bool
is_quiet (GoesTo t whither ∷ ds) = rests whither && list_all calm_deed ds
is_quiet ds = list_all calm_deed ds

moved_puts : (w : Work) (s : State) (n t : ℕ) (at : Put) → t < length s.threads → Puts All s (moved w s n t at) t (place_put w n t at) (weight_part (thread_of s t))
unfolding moved
moved_puts w s n t at inside = put_puts w s n t at inside

-- no change of a set, and none of a binding
abbrev pub keeps_sets : Event → Bool
keeps_sets (Assign t d to assign.Changed) = false
keeps_sets (Joined to) = false
keeps_sets (Bind t u d (bind_answer.Changed at)) = false
keeps_sets _ = true

module _ (w : Work) (s : State) (k : Known w s) (n : ℕ) (c : CpuId) (c_in : c.0 < length s.cpus) where
  -- A thread keeps its place.

  calm_out : (e : Event) → Calm (drop_ageing s c.0 e) (after w s n c e) → Outcome w s (after w s n c e) c.0
  calm_out e a = alike (calm_alike s _ (then_calm s (drop_ageing s c.0 e) _ (drop_calm s c.0 e) a))

  -- the class of the running thread counts a tick
  counts_out : (q : State) (t : ℕ) → Calm s q → Runs s c.0 t → Outcome w s (class_counts w q c.0 t) c.0
  counts_out q t before runs_c = weighed t x (weighs_alike s p r t x weighs (charge_alike p c.0 t (class_expires kind) runs_p)) (inr (running_rests c.0 (thread_of s t).place runs)) remarks
    where
      runs : is_running c.0 (thread_of s t).place ≡ true
      runs = (runner_found s c.0 t runs_c).stands

      kind : ClassState
      kind = (thread_of q t).body.class

      x : Weight
      x = (ticked_class w kind, (thread_of q t).body.willed.items)

      p : State
      p = set_class q t (ticked_class w kind)

      r : State
      r = charge p c.0 t (class_expires kind)

      inside_q : t < length q.threads
      inside_q = let many = before.keeps.many in let inside = (runner_found s c.0 t runs_c).inside in omega (arith, many, inside)

      weighs : Weighs s p t x
      weighs = calm_weighs s q p t x before (set_class_weighs q t (ticked_class w kind) inside_q)

      runs_p : is_running c.0 (thread_of p t).place ≡ true
      runs_p = ap (is_running c.0) (weighs.keeps.places t) ∙ runs

      remarks : Remarks s r t x
      remarks d u inside runs_d queued less = subst (λ i. (is_marked (cpu_of r i) ≡ true) ⊎ (eff_of s t < eff_of s u)) (sym same) (by (class_expires kind) refl)
        where
          same : d ≡ c.0
          same = runs_one (thread_of s t).place c.0 d runs runs_d

          other : u ≢ t
          other e = false≢true (sym (running_not_queued c.0 d (thread_of s t).place runs) ∙ (ap (λ v. is_queued d (thread_of s v).place) (sym e) ∙ queued))

          here_p : c.0 < length p.cpus
          here_p = let cpus = weighs.keeps.cpus in omega (arith, cpus, c_in)

          queued_p : is_queued c.0 (thread_of p u).place ≡ true
          queued_p = ap (is_queued c.0) (weighs.keeps.places u) ∙ subst (λ i. is_queued i (thread_of s u).place ≡ true) same queued

          by : (b : Bool) → class_expires kind ≡ b → (is_marked (cpu_of (charge p c.0 t b) c.0) ≡ true) ⊎ (eff_of s t < eff_of s u)
          by true expires =
              let mine : eff_of p t ≡ heft x = ap heft weighs.weights.at in
              let its : eff_of p u ≡ eff_of s u = ap heft (weighs.weights.others u other) in
              inl (charge_called p c.0 t u here_p queued_p (omega (arith, mine, its, less)))
          by false goes_on =
              let base : heft x ≡ heft (weight_part (thread_of q t)) = ap (λ (m : ℕ). greatest_willed m (thread_of q t).body.willed.items) (tick_base w kind goes_on) in
              let old : heft (weight_part (thread_of q t)) ≡ eff_of s t = ap heft (before.weights t) in
              inr (omega (arith, base, old, less))

  ticked_out : (q : State) (t : ℕ) → Calm s q → Runs s c.0 t → Outcome w s (ticked w q c.0 t) c.0
  unfolding ticked
  ticked_out q t a runs = counts_out (run_tick w (count_tick w q c.0) t) t (then_calm s q _ a (then_calm _ _ _ (count_tick_calm w q c.0) (run_tick_calm w _ t))) runs

  spun_out : (q : State) (t : ℕ) → Calm s q → Runs s c.0 t → Outcome w s (spun w q c.0 t) c.0
  unfolding spun
  spun_out q t a runs = counts_out (count_tick w q c.0) t (then_calm s q _ a (count_tick_calm w q c.0)) runs

  -- the running thread's priority may have fallen, and its processor is looked at
  remark_remarks : (p : State) (t y : ℕ) (x : Weight) → Weighs s p t x → is_running y (thread_of s t).place ≡ true → Remarks s (remark p y) t x
  remark_remarks p t y x weighs runs d u inside runs_d queued less =
      let same : d ≡ y = runs_one (thread_of s t).place y d runs runs_d in
      let other : u ≢ t = λ e. false≢true (sym (running_not_queued y d (thread_of s t).place runs) ∙ (ap (λ v. is_queued d (thread_of s v).place) (sym e) ∙ queued)) in
      let mine : eff_of p t ≡ heft x = ap heft weighs.weights.at in
      let its : eff_of p u ≡ eff_of s u = ap heft (weighs.weights.others u other) in
      let cpus = weighs.keeps.cpus in
      inl (subst (λ i. is_marked (cpu_of (remark p y) i) ≡ true) (sym same)
      (remark_called p y t u (single_back s p weighs.keeps k.one) (omega (arith, same, inside, cpus)) (ap (is_running y) (weighs.keeps.places t) ∙ runs)
      (ap (is_queued y) (weighs.keeps.places u) ∙ subst (λ i. is_queued i (thread_of s u).place ≡ true) same queued) (omega (arith, mine, its, less))))

  -- a thread is ordered anew by its new priority
  reordered_out : (q : State) (t : ℕ) (x : Weight) (at : Option Put) → Weighs s q t x → t < length s.threads → IsRequeuedAt w s t (heft x) at → Outcome w s (reordered w q n t (eff_of s t) at) c.0
  unfolding reordered put_where
  reordered_out q t x at weighs inside goes = subst (λ p. Outcome w s (reordered_at w q n t (eff_of s t) at p) c.0) (sym (weighs.keeps.places t)) (by (thread_of s t).place refl)
    where
      elsewhere : IsOff (thread_of s t).place → (a : Option Put) → IsRequeuedAt w s t (heft x) a → Outcome w s (put_where w q n t a) c.0
      elsewhere off None e = weighed t x (weighs_weighed s q t x weighs) (stays_rests (thread_of s t).place (eff_of s t) (heft x) (thread_of s t).body.bound e) (off_remarks s q t x off)
      elsewhere off (Some a) e =
          let many = weighs.keeps.many in
          puts t (place_put w n t a) x (puts_to All s _ t _ _ _ (weighs_puts All s q _ t _ _ _ weighs (put_puts w q n t a (omega (arith, many, inside)))) weighs.weights.at)
          (requeued_home w s k n t x a e) (put_off w n t a) off

      here : (y : CpuId) → (thread_of s t).place ≡ Running y → Outcome w s (if nat_lt (eff_of q t) (eff_of s t) then remark q y.0 else q) c.0
      here y is = fell (nat_lt (eff_of q t) (eff_of s t)) refl
        where
          runs : is_running y.0 (thread_of s t).place ≡ true
          runs = ap (is_running y.0) is ∙ same_itself y.0

          rests : Rests s t x
          rests = inr (running_rests y.0 (thread_of s t).place runs)

          fell : (b : Bool) → nat_lt (eff_of q t) (eff_of s t) ≡ b → Outcome w s (if b then remark q y.0 else q) c.0
          fell true less = weighed t x (weighs_alike s q (remark q y.0) t x weighs (remark_alike q y.0)) rests (remark_remarks q t y.0 x weighs runs)
          fell false most = weighed t x (weighs_weighed s q t x weighs) rests
              (λ d u inside runs_d queued less.
              let mine : eff_of q t ≡ heft x = ap heft weighs.weights.at in
              let up : eff_of s t ≤ eff_of q t = grind (arith, nat_tests) in
              inr (omega (arith, mine, up, less)))

      by : (p : Place) → (thread_of s t).place ≡ p → Outcome w s (reordered_at w q n t (eff_of s t) at p) c.0
      by (Running y) is = here y is
      by (Queued y key) is = elsewhere (λ d. ap (is_running d) is) at goes
      by (RealTime y key) is = elsewhere (λ d. ap (is_running d) is) at goes
      by (Waiting l side key) is = elsewhere (λ d. ap (is_running d) is) at goes
      by (Asleep j key) is = elsewhere (λ d. ap (is_running d) is) at goes
      by (Napping y due) is = elsewhere (λ d. ap (is_running d) is) at goes
      by Ended is = elsewhere (λ d. ap (is_running d) is) at goes

  -- A thread is made runnable.

  in_drop : (e : Event) (t : ℕ) → t < length s.threads → t < length (drop_ageing s c.0 e).threads
  in_drop e t inside = let many = (drop_calm s c.0 e).keeps.many in omega (arith, many, inside)

  cpu_drop : (e : Event) → c.0 < length (drop_ageing s c.0 e).cpus
  cpu_drop e = let many = (drop_calm s c.0 e).keeps.cpus in omega (arith, many, c_in)

  puts_out : (e : Event) (t : ℕ) (at : Put) (x : Weight) → Puts All (drop_ageing s c.0 e) (after w s n c e) t (place_put w n t at) x → IsPutAt w s t (heft x) at → IsOff (thread_of s t).place → Outcome w s (after w s n c e) c.0
  puts_out e t at x a put off = puts t (place_put w n t at) x (calm_puts All s (drop_ageing s c.0 e) _ t _ x (drop_calm s c.0 e) a) (put_home w s k n t x at put) (put_off w n t at) off

  wake_out : (t : ThreadId) (j : ChanId) (u : Option (ThreadId × Put)) → WakesBest w s j.0 u → Outcome w s (after w s n c (Wake t j u)) c.0
  unfolding after effect drop_ageing set_duty woke
  wake_out t j None wakes = calm_out (Wake t j None) (finish_op_calm w _ t.0)
  wake_out t j (Some u) wakes =
      let found = sleeper_found s j.0 u.0.0 wakes.best in
      puts_out (Wake t j (Some u)) u.0.0 u.1 (woken_weight w (weight_part (thread_of s u.0.0))) (woke_puts_one w (drop_ageing s c.0 (Wake t j (Some u))) n t.0 u (in_drop (Wake t j (Some u)) u.0.0 found.inside)) wakes.put
      (off_by (is_asleep j.0) (λ d. refl) (thread_of s u.0.0).place found.stands)

  rouse_out : (j : ChanId) (below : ℤ) (u : Option (ThreadId × Put)) → RousesBest w s j.0 below u → Outcome w s (after w s n c (Rouse j u)) c.0
  unfolding after effect drop_ageing set_duty roused
  rouse_out j below None rouses = calm_out (Rouse j None) (set_duty_calm _ c.0 duty.Nothing)
  rouse_out j below (Some u) rouses =
      let found = sleeper_below_found s j.0 below u.0.0 rouses.0 in
      puts_out (Rouse j (Some u)) u.0.0 u.1 (woken_weight w (weight_part (thread_of s u.0.0)))
      (roused_puts w (drop_ageing s c.0 (Rouse j (Some u))) n c j u (cpu_of (drop_ageing s c.0 (Rouse j (Some u))) c.0).duty (in_drop (Rouse j (Some u)) u.0.0 found.inside)) rouses.1
      (off_by (is_asleep_below j.0 below) (λ d. refl) (thread_of s u.0.0).place found.stands)

  -- the duty of a processor that passes a lock on is not dropped
  duty_drop : (e : Event) (d : Duty) → (cpu_of s c.0).duty ≡ d → dropped_duty e d ≡ d → (cpu_of (drop_ageing s c.0 e) c.0).duty ≡ d
  duty_drop e d is same = (drop_duties s c.0 e (ap (λ x. dropped_duty e x) is ∙ same ∙ sym is)).each c.0 ∙ is

  writer_weight : LockId → ℕ → Weight
  writer_weight l u = woken_weight w ((thread_of s u).body.class, changed_number l (others_waiting s l u) (thread_of s u).body.willed.items)

  drop_writer : (e : Event) (l : LockId) (u : ℕ) → woken_weight w ((thread_of (drop_ageing s c.0 e) u).body.class, changed_number l (others_waiting (drop_ageing s c.0 e) l u) (thread_of (drop_ageing s c.0 e) u).body.willed.items) ≡ writer_weight l u
  unfolding writer_weight drop_ageing set_duty
  drop_writer e l u = refl

  drop_reader : (e : Event) (u : ℕ) → woken_weight w (weight_part (thread_of (drop_ageing s c.0 e) u)) ≡ woken_weight w (weight_part (thread_of s u))
  drop_reader e u = ap (woken_weight w) ((drop_calm s c.0 e).weights u)

  writer_put : (l : LockId) (u : ℕ) (at : Put) → IsPutAt w s u (writer_priority w s l u) at → IsPutAt w s u (heft (writer_weight l u)) at
  unfolding writer_weight
  writer_put l u at put = put

  grant_out : (l : LockId) (u : ThreadId) (at : Put) → IsCause w s c.0 (Grant l u at) → Outcome w s (after w s n c (Grant l u at)) c.0
  unfolding after effect
  grant_out l u at (inl cause) =
      let e : Event = Grant l u at in
      let found = waiter_found s l.0 Writer u.0 cause.1 in
      puts_out e u.0 at (writer_weight l u.0)
      (subst (λ d. Puts All (drop_ageing s c.0 e) (granted w (drop_ageing s c.0 e) n c l u.0 at d) u.0 (place_put w n u.0 at) (writer_weight l u.0)) (sym (duty_drop e (duty.GrantWriter l) cause.0 refl))
      (puts_to All (drop_ageing s c.0 e) _ u.0 _ _ _ (writer_puts w (drop_ageing s c.0 e) n u.0 at (in_drop e u.0 found.inside) c l) (drop_writer e l u.0)))
      (writer_put l u.0 at cause.2) (off_by (is_waiting_at l.0 Writer) (λ d. refl) (thread_of s u.0).place found.stands)
  grant_out l u at (inr cause) =
      let e : Event = Grant l u at in
      let found = waiter_found s l.0 Reader u.0 cause.1 in
      puts_out e u.0 at (woken_weight w (weight_part (thread_of s u.0)))
      (subst (λ d. Puts All (drop_ageing s c.0 e) (granted w (drop_ageing s c.0 e) n c l u.0 at d) u.0 (place_put w n u.0 at) (woken_weight w (weight_part (thread_of s u.0)))) (sym (duty_drop e (duty.GrantReaders l) cause.0 refl))
      (puts_to All (drop_ageing s c.0 e) _ u.0 _ _ _ (reader_puts w (drop_ageing s c.0 e) n u.0 at (in_drop e u.0 found.inside) l) (drop_reader e u.0)))
      cause.2 (off_by (is_waiting_at l.0 Reader) (λ d. refl) (thread_of s u.0).place found.stands)

  -- A thread leaves the processor.

  leave_out : (e : Event) (t : ℕ) (place : Place) (x : Weight) → Runs s c.0 t → Goes (Others c.0) (drop_ageing s c.0 e) (after w s n c e) t place x → Home w s t x place → IsOff place
      → ((d : ℕ) → d ≢ c.0 → is_queued d place ≡ true → ⊥) → Outcome w s (after w s n c e) c.0
  leave_out e t place x runs a home off apart =
      leaves t place x (calm_goes (Others c.0) s (drop_ageing s c.0 e) _ t place x (drop_calm s c.0 e) a) (runner_found s c.0 t runs).stands home off (λ d v inside other queued rv less. absurd (apart d other queued))

  -- who is preempted is bound here or nowhere
  preempt_bound : (b : Option CpuId) → (b ≡ None) ⊎ ((d : CpuId) × (b ≡ Some d) × (d.0 ≡ c.0)) → (d : CpuId) → b ≡ Some d → d.0 ≡ c.0
  preempt_bound b (inl none) d is = absurd (none-some d (sym none ∙ is))
  preempt_bound b (inr (f, at, same)) d is = let e : d ≡ f = cc in ap (λ (y : CpuId). y.0) e ∙ same

  -- and so is who runs where the kernel's mark is not set
  yield_bound : (t : ℕ) → Runs s c.0 t → must_leave (cpu_of s c.0) (thread_of s t).body ≡ false → (d : CpuId) → (thread_of s t).body.bound ≡ Some d → d.0 ≡ c.0
  yield_bound t runs stays d is = elim (cases_eq d.0 c.0) [
    | inl same ↦ same
    | inr other ↦ absurd (false≢true (sym (or_parts (cpu_of s c.0).kernel _ stays).0 ∙ (runs_at w s k t c (runner_found s c.0 t runs).stands).1 d is other))
  ]

  aged_base : (kind : ClassState) → is_ts kind ≡ true → base_of (aged_class w kind) < 100
  aged_base (Ts m) e = omega arith
  aged_base (Fx m) e = cc
  aged_base (Sys m) e = cc
  aged_base (Rt m) e = cc

  aged_out : (q : State) (t : ℕ) → Calm s q → t < length s.threads → (is_queued c.0 (thread_of s t).place && is_ts (thread_of s t).body.class) ≡ true
      → Outcome w s (lifted w (set_class q t (aged_class w (thread_of q t).body.class)) n c t (eff_of q t)) c.0
  aged_out q t before inside stands = by (eff_of p t == eff_of q t) refl
    where
      queued : is_queued c.0 (thread_of s t).place ≡ true
      queued = and_left (is_queued c.0 (thread_of s t).place) (is_ts (thread_of s t).body.class) stands

      off : IsOff (thread_of s t).place
      off = off_by (is_queued c.0) (λ d. refl) (thread_of s t).place queued

      p : State
      p = set_class q t (aged_class w (thread_of q t).body.class)

      x : Weight
      x = (aged_class w (thread_of s t).body.class, (thread_of s t).body.willed.items)

      weighs : Weighs s p t x
      weighs = weighs_to s p t _ x (calm_weighs s q p t _ before (set_class_weighs q t (aged_class w (thread_of q t).body.class) (let many = before.keeps.many in omega (arith, many, inside)))) (ap (λ (y : Weight). (aged_class w y.0, y.1)) (before.weights t))

      low : (m : ℕ) → m < 100 → m ≡ eff_of s t → heft x < 100
      low m less is =
          let old : greatest_willed (base_of (thread_of s t).body.class) (thread_of s t).body.willed.items < 100 = omega (arith, less, is) in
          other_base (base_of (thread_of s t).body.class) (base_of (aged_class w (thread_of s t).body.class)) 100 (thread_of s t).body.willed.items (aged_base (thread_of s t).body.class (and_right (is_queued c.0 (thread_of s t).place) _ stands)) old

      home : Home w s t x (Queued c (back_key n))
      home =
          let at = queued_at w s k t c queued in
          (at.0, elim at.1 [ inl few ↦ inl (few.0, low (eff_of s t) few.1 refl) | inr bound ↦ inr bound ])

      by : (b : Bool) → (eff_of p t == eff_of q t) ≡ b → Outcome w s (if b then p else put w p n t (Cpu c)) c.0
      by true is =
          let same : eff_of p t ≡ eff_of q t = eqb-true (eff_of p t) (eff_of q t) is in
          let mine : eff_of p t ≡ heft x = ap heft weighs.weights.at in
          let old : eff_of q t ≡ eff_of s t = ap heft (before.weights t) in
          weighed t x (weighs_weighed s p t x weighs) (inl (sym mine ∙ same ∙ old)) (off_remarks s p t x off)
      by false is =
          puts t (Queued c (back_key n)) x (puts_to All s _ t _ _ _ (weighs_puts All s p _ t _ _ _ weighs (put_puts w p n t (Cpu c) (let many = weighs.keeps.many in omega (arith, many, inside)))) weighs.weights.at) home (λ d. refl) off

  age_drop : (t : ThreadId) (p : ℕ) → t.0 < length s.threads → (is_queued c.0 (thread_of s t.0).place && is_ts (thread_of s t.0).body.class) ≡ true → Outcome w s (after w s n c (Age t p)) c.0
  unfolding after effect aged
  age_drop t p inside stands =
      let q : State = drop_ageing s c.0 (Age t p) in
      outcome_alike w s (lifted w (set_class q t.0 (aged_class w (thread_of q t.0).body.class)) n c t.0 (eff_of q t.0)) _ c.0 (aged_out q t.0 (drop_calm s c.0 (Age t p)) inside stands)
      (calm_alike _ _ (set_duty_calm _ c.0 _))

  changed_out : (q : State) (t : ℕ) (u : ThreadId) (r : Request) (p : ℕ) (at : Option Put) → Calm s q → u.0 < length s.threads → IsAnswered w s c.0 t u.0 r (Changed p at)
      → (thread_of q u.0).place ≡ (thread_of s u.0).place → (kind : ClassState) → p ≡ eff_as kind (thread_of s u.0).body
      → Outcome w s (walk_from (reordered w (set_class q u.0 kind) n u.0 (eff_of q u.0) at) c u (thread_of q u.0).place) c.0
  changed_out q t u r p at before inside answered stays kind is =
      let x : Weight = (kind, (thread_of s u.0).body.willed.items) in
      let weighs : Weighs s (set_class q u.0 kind) u.0 x =
      weighs_to s _ u.0 _ x (calm_weighs s q _ u.0 _ before (set_class_weighs q u.0 kind (let many = before.keeps.many in omega (arith, many, inside)))) (ap (λ (y : Weight). let z : Weight = (kind, y.1) in z) (before.weights u.0)) in
      let old : eff_of q u.0 ≡ eff_of s u.0 = ap heft (before.weights u.0) in
      let goes : IsRequeuedAt w s u.0 (heft x) at = subst (λ m. IsRequeuedAt w s u.0 m at) is answered.3 in
      outcome_alike w s (reordered w (set_class q u.0 kind) n u.0 (eff_of q u.0) at) _ c.0
      (subst (λ m. Outcome w s (reordered w (set_class q u.0 kind) n u.0 m at) c.0) (sym old) (reordered_out (set_class q u.0 kind) u.0 x at weighs inside goes))
      (calm_alike _ _ (walk_from_calm _ c u (thread_of q u.0).place))

  prio_out : (t u : ThreadId) (answer : PrioAnswer) → IsCause w s c.0 (Prio t u answer) → Outcome w s (after w s n c (Prio t u answer)) c.0
  unfolding after effect drop_ageing set_duty reprioritised
  prio_out t u (Changed p at) cause =
      let e : Event = Prio t u (Changed p at) in
      let q : State = drop_ageing s c.0 e in
      let inside = prio_thread w s c.0 t.0 u cause.0 k.whole.ready.fits cause.1 in
      outcome_alike w s (changed_on w q n c t.0 u at (op_of w t.0 (thread_of s t.0).body)) _ c.0
      (subst (λ o. Outcome w s (changed_on w q n c t.0 u at o) c.0) (sym cause.1.stands)
      (subst (λ a. Outcome w s (changed_by w q n c u at a) c.0) (sym cause.2.1)
      (changed_out q t.0 u cause.0 p at (drop_calm s c.0 e) inside cause.2 refl (new_class w s u.0 cause.2.0) cause.2.2)))
      (calm_alike _ _ (finish_op_calm w _ t.0))
  prio_out t u (Refused denied) cause = calm_out (Prio t u (Refused denied)) (finish_op_calm w _ t.0)

  -- A thread comes to the processor.

  nobody : runner s c.0 ≡ None → (u : ℕ) → is_running c.0 (thread_of s u).place ≡ false
  nobody none u = nobody_runs s c.0 none u

  dispatch_out : (t : ThreadId) (p : ℕ) → IsCause w s c.0 (Dispatch t p) → Outcome w s (after w s n c (Dispatch t p)) c.0
  unfolding after effect drop_ageing set_duty
  dispatch_out t p cause =
      let e : Event = Dispatch t p in
      let found = ready_found s c.0 t.0 cause.1 in
      let at = ready_at w s k t.0 c found.stands in
      comes t.0 c (weight_part (thread_of s t.0)) refl
      (calm_goes (Others c.0) s (drop_ageing s c.0 e) _ t.0 (Running c) _ (drop_calm s c.0 e) (dispatched_goes (drop_ageing s c.0 e) c t.0 (in_drop e t.0 found.inside) (cpu_drop e)))
      (nobody cause.0.idle.nobody) at.0 at.1 (λ u queued. most_ready s c.0 t.0 u cause.1 queued)
      (off_by (is_ready c.0 (cpu_of s c.0).set.0) (λ d. refl) (thread_of s t.0).place found.stands)

  steal_out : (v : CpuId) (t : ThreadId) (p : ℕ) → IsCause w s c.0 (Steal v t p) → Outcome w s (after w s n c (Steal v t p)) c.0
  unfolding after effect drop_ageing set_duty
  steal_out v t p cause =
      let e : Event = Steal v t p in
      let found = unbound_found s v.0 t.0 cause.3 in
      let queued = and_left (is_queued v.0 (thread_of s t.0).place) (is_none (thread_of s t.0).body.bound) found.stands in
      let unbound = none_of (thread_of s t.0).body.bound (and_right (is_queued v.0 (thread_of s t.0).place) (is_none (thread_of s t.0).body.bound) found.stands) in
      comes t.0 c (weight_part (thread_of s t.0)) refl
      (calm_goes (Others c.0) s (drop_ageing s c.0 e) _ t.0 (Running c) _ (drop_calm s c.0 e) (stolen_goes (drop_ageing s c.0 e) c t.0 (in_drop e t.0 found.inside)))
      (nobody cause.0.idle.nobody) (sym (neighbour_set w s k c.0 v cause.2) ∙ (queued_at w s k t.0 v queued).0) (λ d is. absurd (none-some d (sym unbound ∙ is)))
      (λ u here. absurd (some_ready s c.0 u here cause.1)) (off_by (is_queued v.0) (λ d. refl) (thread_of s t.0).place queued)

  -- Each event.

  away_out : (t : ThreadId) (d : CpuId) → IsCause w s c.0 (Away t d) → Outcome w s (after w s n c (Away t d)) c.0
  unfolding after effect drop_ageing set_duty
  away_out t d cause =
      let e : Event = Away t d in
      let found = runner_found s c.0 t.0 cause.0.runs in
      let x : Weight = weight_part (thread_of s t.0) in
      let put = calm_puts (Others c.0) s (drop_ageing s c.0 e) _ t.0 (Queued d (back_key n)) x (drop_calm s c.0 e) (sent_away_puts (drop_ageing s c.0 e) n c t.0 d (in_drop e t.0 found.inside) (cpu_drop e)) in
      leaves t.0 (Queued d (back_key n)) x put.goes found.stands (((k.homes t.0).bound d cause.1).0, inr cause.1) (λ y. refl) (λ y v inside other queued rv less. put.called k.one y v inside queued rv less)

  preempt_out : (t : ThreadId) (end : End) → IsCause w s c.0 (Preempt t end) → Outcome w s (after w s n c (Preempt t end)) c.0
  unfolding after effect drop_ageing set_duty
  preempt_out t end cause =
      let e : Event = Preempt t end in
      let found = runner_found s c.0 t.0 cause.0.runs in
      let x : Weight = (class_requeue (thread_of s t.0).body.back (thread_of s t.0).body.class, (thread_of s t.0).body.willed.items) in
      leave_out e t.0 (queue_place w t.0 c (key_at n end) (thread_of s t.0).body) x cause.0.runs (preempted_goes w (drop_ageing s c.0 e) n c t.0 (in_drop e t.0 found.inside) (cpu_drop e) end)
      (queue_home w s k t.0 c (key_at n end) x (runs_at w s k t.0 c found.stands).0 (preempt_bound (thread_of s t.0).body.bound cause.1) (ap (λ (m : ℕ). greatest_willed m (thread_of s t.0).body.willed.items) (requeue_base (thread_of s t.0).body.back (thread_of s t.0).body.class)))
      (queue_off w t.0 c (key_at n end) (thread_of s t.0).body) (λ d other queued. other (queue_here w t.0 c (key_at n end) (thread_of s t.0).body d queued))

  yield_out : (t : ThreadId) → IsCause w s c.0 (Yield t) → Outcome w s (after w s n c (Yield t)) c.0
  unfolding after effect drop_ageing set_duty
  yield_out t cause =
      let e : Event = Yield t in
      let found = runner_found s c.0 t.0 cause.runs in
      leave_out e t.0 (queue_place w t.0 c (back_key n) (thread_of s t.0).body) (weight_part (thread_of s t.0)) cause.runs (yielded_goes w (drop_ageing s c.0 e) n c t.0 (in_drop e t.0 found.inside) (cpu_drop e))
      (queue_home w s k t.0 c (back_key n) (weight_part (thread_of s t.0)) (runs_at w s k t.0 c found.stands).0 (yield_bound t.0 cause.runs cause.stays) refl)
      (queue_off w t.0 c (back_key n) (thread_of s t.0).body) (λ d other queued. other (queue_here w t.0 c (back_key n) (thread_of s t.0).body d queued))

  exit_out : (t : ThreadId) (l : LockId) → IsCause w s c.0 (Exit t l) → Outcome w s (after w s n c (Exit t l)) c.0
  unfolding after effect drop_ageing set_duty exited
  exit_out t l cause =
      let e : Event = Exit t l in
      let found = runner_found s c.0 t.0 cause.runs in
      let q : State = drop_ageing s c.0 e in
      let x : Weight = ((thread_of s t.0).body.class, without_number l (thread_of s t.0).body.willed.items) in
      let p : State = finish_op w (released w q c t.0 l) t.0 in
      let weighs : Weighs s p t.0 x = calm_weighs s q p t.0 x (drop_calm s c.0 e) (weighs_calm q (released w q c t.0 l) p t.0 x (released_weighs w q n c t.0 (in_drop e t.0 found.inside) (cpu_drop e) l) (finish_op_calm w _ t.0)) in
      weighed t.0 x (weighs_alike s p _ t.0 x weighs (remark_alike p c.0)) (inr (running_rests c.0 (thread_of s t.0).place found.stands)) (remark_remarks p t.0 c.0 x weighs found.stands)

  will_out : (l : LockId) (o : ThreadId) (p : ℕ) (at : Option Put) → IsCause w s c.0 (Will l o p at) → Outcome w s (after w s n c (Will l o p at)) c.0
  unfolding after effect drop_ageing set_duty willed
  will_out l o p at cause =
      let e : Event = Will l o p at in
      let q : State = drop_ageing s c.0 e in
      let inside = owner_thread s l o k.whole.ready.agreed cause.1 in
      let x : Weight = ((thread_of s o.0).body.class, changed_number l (greatest_waiting l.0 s.threads) (thread_of s o.0).body.willed.items) in
      reordered_out (walked q c l o) o.0 x at (calm_weighs s q (walked q c l o) o.0 x (drop_calm s c.0 e) (walked_weighs q c l o (in_drop e o.0 inside))) inside (subst (λ m. IsRequeuedAt w s o.0 m at) cause.2 cause.3)

  acts_leave : (e : Event) (t : ℕ) (place : Place) (x : Weight) → Runs s c.0 t → (t < length (drop_ageing s c.0 e).threads → c.0 < length (drop_ageing s c.0 e).cpus → Goes (Others c.0) (drop_ageing s c.0 e) (after w s n c e) t place x)
      → Home w s t x place → IsOff place → ((d : ℕ) → is_queued d place ≡ false) → Outcome w s (after w s n c e) c.0
  acts_leave e t place x runs a home off apart =
      leave_out e t place x runs (a (in_drop e t (runner_found s c.0 t runs).inside) (cpu_drop e)) home off (λ d other queued. false≢true (sym (apart d) ∙ queued))

  rests_at : (q : State) (t : ℕ) (whither : Whither) → rests whither ≡ true → Home w s t (weight_part (thread_of q t)) (place_to w n c q t whither)
      × IsOff (place_to w n c q t whither) × ((d : ℕ) → is_queued d (place_to w n c q t whither) ≡ false)
  rests_at q t ToQueue is = cc
  rests_at q t (ToSleep j) is = (tt, λ d. refl, λ d. refl)
  rests_at q t (ToWait l) is = (tt, λ d. refl, λ d. refl)
  rests_at q t ToNap is = (tt, λ d. refl, λ d. refl)
  rests_at q t ToEnd is = (tt, λ d. refl, λ d. refl)

  after_deeds : (e : Event) (ds : List Deed) → deeds e ≡ ds → all_did w n c (drop_ageing s c.0 e) ds ≡ after w s n c e
  unfolding after
  after_deeds e ds is = sym (effect_did w (drop_ageing s c.0 e) n c e ∙ ap (λ xs. all_did w n c (drop_ageing s c.0 e) xs) is)

  -- of such deeds
  quiet_out : (e : Event) (ds : List Deed) → deeds e ≡ ds → is_quiet ds ≡ true → ((t : ℕ) → leaver (stride_of e) ≡ Some t → Runs s c.0 t) → Outcome w s (after w s n c e) c.0
  quiet_out e (GoesTo t whither ∷ ds) is quiet runs =
      let q : State = drop_ageing s c.0 e in
      let place : Place = place_to w n c q t whither in
      let both = and_parts (rests whither) (list_all calm_deed ds) quiet in
      let at = rests_at q t whither both.0 in
      acts_leave e t place (weight_part (thread_of q t)) (runs t (ap (λ xs. leaver (first moves xs)) is))
      (λ i h. subst (λ r. Goes (Others c.0) q r t place (weight_part (thread_of q t))) (after_deeds e (GoesTo t whither ∷ ds) is)
      (left_goes w q n c t i h (all_did w n c (leave q c.0 t place) ds) place (deeds_calm w n c (leave q c.0 t place) ds both.1)))
      at.0 at.1 at.2
  quiet_out e ds is quiet runs = calm_out e (subst (λ r. Calm (drop_ageing s c.0 e) r) (after_deeds e ds is) (deeds_calm w n c (drop_ageing s c.0 e) ds quiet))

  pub event_out : (e : Event) → keeps_sets e ≡ true → IsCause w s c.0 e → Outcome w s (after w s n c e) c.0
  unfolding after effect drop_ageing set_duty
  event_out (Tick t) settled cause =
      ticked_out (drop_ageing s c.0 (Tick t)) t.0 (drop_calm s c.0 (Tick t)) cause.0.1.runs
  event_out (Spin t l) settled cause = spun_out (drop_ageing s c.0 (Spin t l)) t.0 (drop_calm s c.0 (Spin t l)) cause.0.1.acts.runs
  event_out (Dispatch t p) settled cause = dispatch_out t p cause
  event_out (Steal v t p) settled cause = steal_out v t p cause
  event_out (Preempt t end) settled cause = preempt_out t end cause
  event_out (Away t d) settled cause = away_out t d cause
  event_out (Yield t) settled cause = yield_out t cause
  event_out (Napend t at) settled cause =
      let found = due_found s c.0 t.0 cause.0 in
      puts_out (Napend t at) t.0 at (woken_weight w (weight_part (thread_of s t.0))) (woken_puts w (drop_ageing s c.0 (Napend t at)) n t.0 at (in_drop (Napend t at) t.0 found.inside)) cause.1
      (off_by (is_due c.0 (cpu_of s c.0).count) (λ d. refl) (thread_of s t.0).place found.stands)
  event_out (Wake t j u) settled cause = wake_out t j u cause.1
  event_out (Rouse j u) settled cause = rouse_out j cause.0 u cause.2
  event_out (Will l o p at) settled cause = will_out l o p at cause
  event_out (Exit t l) settled cause = exit_out t l cause
  event_out (Unblock l u at) settled cause =
      let found = waiter_found s l.0 Writer u.0 cause.1 in
      puts_out (Unblock l u at) u.0 at (woken_weight w (weight_part (thread_of s u.0))) (unblocked_puts w (drop_ageing s c.0 (Unblock l u at)) n u.0 at (in_drop (Unblock l u at) u.0 found.inside) c l) cause.2
      (off_by (is_waiting_at l.0 Writer) (λ d. refl) (thread_of s u.0).place found.stands)
  event_out (Grant l u at) settled cause = grant_out l u at cause
  event_out (Age t p) settled cause =
      let found = age_found s c.0 (cause.0).0 t.0 cause.2 in
      age_drop t p found.inside found.stands
  event_out (Prio t u answer) settled cause = prio_out t u answer cause
  event_out (CvWait t j l) settled cause = acts_leave (CvWait t j l) t.0 _ _ cause.runs (λ i h. cv_waited_goes w (drop_ageing s c.0 (CvWait t j l)) n c t.0 i h j l) tt (λ d. refl) (λ d. refl)
  event_out (SemaVWake t j u at) settled cause =
      let found = sleeper_found s j.0 u.0 cause.1.best in
      puts_out (SemaVWake t j u at) u.0 at (woken_weight w (weight_part (thread_of s u.0))) (handed_puts w (drop_ageing s c.0 (SemaVWake t j u at)) n u.0 at (in_drop (SemaVWake t j u at) u.0 found.inside) t.0) cause.1.put
      (off_by (is_asleep j.0) (λ d. refl) (thread_of s u.0).place found.stands)
  event_out (Assign t d to assign.Changed) settled cause = cc
  event_out (Move t at) settled cause =
      let found = queued_found s c.0 t.0 cause.1 in
      puts_out (Move t at) t.0 at (weight_part (thread_of s t.0)) (moved_puts w (drop_ageing s c.0 (Move t at)) n t.0 at (in_drop (Move t at) t.0 found.inside)) cause.2
      (off_by (is_queued c.0) (λ d. refl) (thread_of s t.0).place found.stands)
  event_out (Joined to) settled cause = cc
  event_out (Bind t u d (bind_answer.Changed at)) settled cause = cc
  event_out e settled cause = quiet_out e (deeds e) refl refl (leaver_runs w s c.0 e cause)
