-- Where a walk goes, and where it ends.
use Rattle.std.proofs.Common.{◌≡◌, ◌≢◌, ℕ, ◌<◌, Bool, true, false, ◌&&◌, length, Option, ℤ, refl, sym, ap, ◌∙◌, inl, inr, ◌⊎◌, ◌==◌, arith}
use Rattle.std.specs.Prelude.{int_lt, if◌then◌else◌}
use Rattle.std.specs.Ordering.{int_eq}
use Rattle.std.proofs.lemmas.Bool.{cases_Bool}
use Rattle.std.proofs.lemmas.Bool.Decides.{nat_tests}
use Rattle.std.proofs.lemmas.Int.{ints}
use Rattle.sd_types.specs.declared.numbers.CpuId.{CpuId}
use Rattle.sd_types.specs.declared.numbers.LockId.{LockId}
use Rattle.sd_types.specs.declared.numbers.Side.{Side}
use Rattle.sd_types.specs.declared.numbers.ThreadId.{ThreadId}
use Rattle.sd_types.specs.declared.events.Duty.TheVariants.{Nothing, Walk}
use Rattle.sd_types.specs.declared.events.Event.TheVariants as event
use Rattle.sd_types.specs.declared.events.Put.{Put}
use Rattle.sd_types.specs.declared.works.Work.{Work}
use Rattle.sd_machine.specs.Graphs.{InCycle}
use Rattle.sd_machine.proofs.Steps.{cycle_stays}
use Rattle.sd_machine.proofs.WillMove.{closed_cycle}
use Rattle.sd_state.specs.declared.states.Place.{Place}
use Rattle.sd_state.specs.declared.states.Place.TheVariants.{Running, Queued, RealTime, Waiting, Asleep, Napping, Ended}
use Rattle.sd_state.specs.declared.states.State.{State}
use Rattle.sd_state.specs.States.{thread_of, cpu_of}
use Rattle.sd_machine.specs.Changes.{back_key}
use Rattle.sd_machine.specs.Walking.{next_walk}
use Rattle.sd_machine.specs.LockGraph.{wait_of, owner_of, walk_of, graph}
use Rattle.sd_machine.specs.Events.{after}
use Rattle.sd_frames.specs.Causes.{IsCause}
use Rattle.sd_invariants.proofs.Ready.{ready_cause, maker_inside}
use Rattle.sd_laws.specs.InheritanceLaws.{Closes, WalkGoesOn, WalksGoOn, WalksEndAtUnowned}
use Rattle.sd_laws.proofs.Begun.{will_duty, end_duty}
use Rattle.sd_laws.proofs.Runs.{Steps, IsChained, reached_chained, step_after}
use Rattle.sd_laws.proofs.WalkMoves.{walk}

-- The duty that follows.

module _ (l : LockId) (seek : ThreadId) (key : ℤ) (o : ThreadId) where
  goes_next : (looped : Bool) (m : LockId) (side : Side) (k : ℤ) → (looped ≡ true → ⊥) → (seek.0 ≡ o.0 → key ≡ k → ⊥)
      → next_walk (Walk l seek key) o looped (Waiting m side k) ≡ (if int_lt key k then Walk m o k else Walk m seek key)
  goes_next true m side k not_looped apart = absurd (not_looped refl)
  goes_next false m side k not_looped apart = elim (cases_Bool ((seek.0 == o.0) && int_eq key k)) [
    | inl back ↦ absurd (apart (let e : seek.0 ≡ o.0 = grind (arith, nat_tests) in e) (let e : key ≡ k = grind (arith, ints) in e))
    | inr on ↦ rw on refl
  ]

  looped_next : (looped : Bool) (m : LockId) (side : Side) (k : ℤ) → looped ≡ true → next_walk (Walk l seek key) o looped (Waiting m side k) ≡ Nothing
  looped_next true m side k e = refl
  looped_next false m side k e = cc

  back_next : (looped : Bool) (m : LockId) (side : Side) → seek.0 ≡ o.0 → next_walk (Walk l seek key) o looped (Waiting m side key) ≡ Nothing
  back_next true m side same = refl
  back_next false m side same =
      let a : (seek.0 == o.0) ≡ true = grind (arith, nat_tests) in
      let b : int_eq key key ≡ true = grind (arith, ints) in
      rw a (rw b refl)

  rests_next : (looped : Bool) (place : Place) → ((m : LockId) (side : Side) (k : ℤ) → place ≢ Waiting m side k) → next_walk (Walk l seek key) o looped place ≡ Nothing
  rests_next looped (Waiting m side k) away = absurd (away m side k refl)
  rests_next looped place away = refl

  -- why a walk ends
  abbrev Ends : Bool → Place → Type 0
  Ends looped place = ((m : LockId) (side : Side) (k : ℤ) → place ≢ Waiting m side k) ⊎ ((looped ≡ true) ⊎ ((m : LockId) × (side : Side) × (place ≡ Waiting m side key) × (seek.0 ≡ o.0)))

  goes_on : (b : Bool) (m : LockId) (k : ℤ) → (if b then Walk m o k else Walk m seek key) ≢ Nothing
  goes_on true m k e = cc
  goes_on false m k e = cc

  ends_next : (looped : Bool) (place : Place) → next_walk (Walk l seek key) o looped place ≡ Nothing → Ends looped place
  ends_next true (Waiting m side k) none = inr (inl refl)
  ends_next false (Waiting m side k) none = elim (cases_Bool ((seek.0 == o.0) && int_eq key k)) [
    | inl back ↦ (
        let a : seek.0 ≡ o.0 = grind (arith, nat_tests) in
        let b : key ≡ k = grind (arith, ints) in
        inr (inr (m, side, ap (λ j. Waiting m side j) (sym b), a)))
    | inr on ↦ absurd (goes_on (int_lt key k) m k (sym (goes_next false m side k (λ e. cc) (λ a b. by a b on)) ∙ none))
  ]
    where
      by : seek.0 ≡ o.0 → key ≡ k → ((seek.0 == o.0) && int_eq key k) ≡ false → ⊥
      by a b on = let c : ((seek.0 == o.0) && int_eq key k) ≡ true = grind (arith, nat_tests, ints) in cc
  ends_next looped (Running c) none = inl (λ m side k e. cc)
  ends_next looped (Queued c j) none = inl (λ m side k e. cc)
  ends_next looped (RealTime q j) none = inl (λ m side k e. cc)
  ends_next looped (Asleep i j) none = inl (λ m side k e. cc)
  ends_next looped (Napping c due) none = inl (λ m side k e. cc)
  ends_next looped Ended none = inl (λ m side k e. cc)

-- Each walk goes on.

module _ (w : Work) (n : ℕ) (s : State) (c : CpuId) (l : LockId) (o : ThreadId) (p : ℕ) (at : Option Put) (seek : ThreadId) (key : ℤ)
    (chained : IsChained w n s) (here : c.0 < length s.cpus) (stands : (cpu_of s c.0).duty ≡ Walk l seek key) (cause : IsCause w s c.0 (event.Will l o p at)) where
  step : Steps n s (after w s n c (event.Will l o p at))
  step = step_after w s n c chained.ready here chained.sound (event.Will l o p at) cause

  follows : (cpu_of (after w s n c (event.Will l o p at)) c.0).duty ≡ next_walk (Walk l seek key) o (thread_of s o.0).body.looped (thread_of s o.0).place
  follows = (will_duty w s n c l o p at seek key here stands).put.at

  -- with the place written out
  follows_at : (m : LockId) (side : Side) (k : ℤ) → (thread_of s o.0).place ≡ Waiting m side k
      → (cpu_of (after w s n c (event.Will l o p at)) c.0).duty ≡ next_walk (Walk l seek key) o (thread_of s o.0).body.looped (Waiting m side k)
  follows_at m side k is = follows ∙ ap (λ x. next_walk (Walk l seek key) o (thread_of s o.0).body.looped x) is

  closes_cycle : Closes s o seek key → InCycle (graph s) o.0
  closes_cycle (inl looped) = chained.sound.looped o.0 looped
  closes_cycle (inr (m, side, is, same)) =
      closed_cycle (back_key n) (graph s) c.0 (walk l seek key) o.0 chained.sound (ap walk_of stands) (ap owner_of cause.1) (record { lock = m.0; key = key }, ap wait_of is, same, refl)

  ends_at : (m : LockId) (side : Side) (k : ℤ) → (thread_of s o.0).place ≡ Waiting m side k → Closes s o seek key → (cpu_of (after w s n c (event.Will l o p at)) c.0).duty ≡ Nothing
  ends_at m side k is (inl looped) = follows_at m side k is ∙ looped_next l seek key o (thread_of s o.0).body.looped m side k looped
  ends_at m side k is (inr (i, other, there, same)) = follows_at i other key there ∙ back_next l seek key o (thread_of s o.0).body.looped i other same

  pub walk_goes_on : WalkGoesOn s (after w s n c (event.Will l o p at)) c.0 o seek key
  walk_goes_on = record {
    goes = λ m side k is not_closed. follows_at m side k is
        ∙ goes_next l seek key o (thread_of s o.0).body.looped m side k (λ looped. not_closed (inl looped)) (λ same e. not_closed (inr (m, side, is ∙ ap (λ j. Waiting m side j) (sym e), same)));
    rests = λ away. follows ∙ rests_next l seek key o (thread_of s o.0).body.looped (thread_of s o.0).place away;
    closes = λ m side k is closed.
        let cycle = closes_cycle closed in
        (ends_at m side k is closed, cycle, cycle_stays (graph s) (graph (after w s n c (event.Will l o p at))) step.frame o.0 cycle);
    ends = λ none. ends_next l seek key o (thread_of s o.0).body.looped (thread_of s o.0).place (sym follows ∙ none);
  }

pub go_on_law : WalksGoOn
go_on_law = λ w n s c h l o p at reached makes.
    let chained = reached_chained w n s reached in
    let inside : c.0 < w.cpus = maker_inside w s c h (event.Will l o p at) makes in
    let many : length s.cpus ≡ w.cpus = chained.ready.fits.cpus in
    let cause : IsCause w s c.0 (event.Will l o p at) = ready_cause w s c h (event.Will l o p at) chained.ready makes in
    (cause.0.0, cause.0.1, cause.0.2, cause.1, walk_goes_on w n s c l o p at cause.0.0 cause.0.1 chained (omega (arith, inside, many)) cause.0.2 cause)

pub end_law : WalksEndAtUnowned
end_law = λ w n s c h l reached makes.
    let chained = reached_chained w n s reached in
    let inside : c.0 < w.cpus = maker_inside w s c h (event.End l) makes in
    let many : length s.cpus ≡ w.cpus = chained.ready.fits.cpus in
    let cause : IsCause w s c.0 (event.End l) = ready_cause w s c h (event.End l) chained.ready makes in
    (cause.0.0, cause.0.1, cause.0.2, cause.1, (end_duty w s n c l cause.0.0 cause.0.1 (omega (arith, inside, many)) cause.0.2).put.at)
