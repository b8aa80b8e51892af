-- An entry that wakes a thread or makes one run counts no tick.
use Rattle.std.proofs.Common.{◌≡◌, ℕ, ◌+◌, Bool, true, false, ◌&&◌, [], ◌∷◌, ◌++◌, length, Some, refl, ap, ◌∙◌, arith, inl, inr, ◌⊎◌}
use Rattle.std.specs.Prelude.{◌==◌, if◌then◌else◌}
use Rattle.sd_types.specs.declared.numbers.ThreadId.{ThreadId}
use Rattle.sd_types.specs.declared.events.Event.{Event}
use Rattle.sd_types.specs.declared.events.Event.TheVariants.{Tick, Spin, Idle}
use Rattle.sd_types.specs.Events.{ticks}
use Rattle.sd_state.specs.declared.states.State.{State}
use Rattle.sd_state.specs.Opening.{opening}
use Rattle.sd_state.specs.States.{cpu_of}
use Rattle.sd_machine.specs.Runs.{IsReached, IsStep, final}
use Rattle.sd_machine.proofs.RunLemmas.{IsRun-from, IsRunFrom-front, final-push, from-IsRun, last_number, last_step}
use Rattle.sd_invariants.proofs.Ready.{maker_inside}
use Rattle.sd_invariants.proofs.Counts.{rise_law}
use Rattle.sd_stretches.specs.Changes.{woken_by}
use Rattle.sd_longest.specs.Laws.{TicksAreReported}
use Rattle.sd_longest.specs.Waits.{run_by}

no_tick : (e : Event) (t : ThreadId) → (woken_by e ≡ Some t) ⊎ (run_by e ≡ Some t) → ticks e ≡ false
no_tick (Tick u) t (inl is) = cc
no_tick (Tick u) t (inr is) = cc
no_tick (Spin u l) t (inl is) = cc
no_tick (Spin u l) t (inr is) = cc
no_tick Idle t (inl is) = cc
no_tick Idle t (inr is) = cc
no_tick _ t is = refl

none_more : (own takes : Bool) (n : ℕ) → takes ≡ false → n + (if own && takes then 1 else 0) ≡ n
none_more true true n is = cc
none_more true false n is = omega arith
none_more false takes n is = omega arith

pub reported_law : TicksAreReported
reported_law = λ w es e t run is.
    let s = final w (opening w) es in
    let from = IsRun-from w (es ++ e ∷ []) run in
    let step : IsStep w s e = last_step w (opening w) 0 es e from in
    let number : length es ≡ e.number = let n = last_number w (opening w) 0 es e from in omega (arith, n) in
    let reached : IsReached w e.number s = record { entries = es; run = from-IsRun w es (IsRunFrom-front w (opening w) 0 es (e ∷ []) from); many = number; ends = refl } in
    let inside = maker_inside w s e.cpu e.hints e.event step in
    ap (λ (z : State). (cpu_of z e.cpu.0).count) (final-push w (opening w) es e)
    ∙ rise_law w e.number s e.cpu e.hints e.event reached step e.cpu.0 inside
    ∙ none_more (e.cpu.0 == e.cpu.0) (ticks e.event) (cpu_of s e.cpu.0).count (no_tick e.event t is)
