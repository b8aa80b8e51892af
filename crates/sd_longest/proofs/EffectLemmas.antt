-- What effects say of events.
use Rattle.std.proofs.Common.{◌≡◌, Bool, true, false, Option, Some, None, refl, ap, ◌∙◌, arith}
use Rattle.std.specs.Prelude.{if◌then◌else◌}
use Rattle.std.proofs.lemmas.Bool.Decides.{nat_tests}
use Rattle.sd_types.specs.declared.numbers.ThreadId.{ThreadId}
use Rattle.sd_types.specs.declared.events.Event.{Event}
use Rattle.sd_types.specs.declared.events.Event.TheVariants.{Dispatch, Steal}
use Rattle.sd_stretches.specs.Changes.{woken_by, is_that_thread}
use Rattle.sd_longest.specs.declared.edges.Effect.{Effect}
use Rattle.sd_longest.specs.declared.edges.Effect.TheVariants.{Opens, Ends, Passes}
use Rattle.sd_longest.specs.Effects.{effect_of}
use Rattle.sd_longest.specs.Waits.{run_by}

abbrev effect_by : Bool → Bool → Effect
effect_by run woken = if run then Ends else (if woken then Opens else Passes)

itself : (t : ThreadId) → is_that_thread t (Some t) ≡ true
itself t = let same : t.0 ≡ t.0 = refl in grind (arith, nat_tests, same)

thread_same : (t : ThreadId) (o : Option ThreadId) → o ≡ Some t → is_that_thread t o ≡ true
thread_same t o is = ap (is_that_thread t) is ∙ itself t

same_thread : (t : ThreadId) (o : Option ThreadId) → is_that_thread t o ≡ true → o ≡ Some t
same_thread t None is = cc
same_thread t (Some u) is =
    let same : u.0 ≡ t.0 = grind (arith, nat_tests, is) in
    ap (λ n. let v : ThreadId = record { 0 = n } in Some v) same

module _ (t : ThreadId) (e : Event) where
  pub ends_of : run_by e ≡ Some t → effect_of t e ≡ Ends
  ends_of runs = ap (λ (b : Bool). effect_by b (is_that_thread t (woken_by e))) (thread_same t (run_by e) runs)

  pub runs_of : effect_of t e ≡ Ends → run_by e ≡ Some t
  runs_of ends = by (is_that_thread t (run_by e)) (is_that_thread t (woken_by e)) refl ends
    where
      by : (run woken : Bool) → is_that_thread t (run_by e) ≡ run → effect_by run woken ≡ Ends → run_by e ≡ Some t
      by true woken is effect = same_thread t (run_by e) is
      by false true is effect = cc
      by false false is effect = cc

  pub wakes_of : effect_of t e ≡ Opens → woken_by e ≡ Some t
  wakes_of opens = by (is_that_thread t (run_by e)) (is_that_thread t (woken_by e)) refl opens
    where
      by : (run woken : Bool) → is_that_thread t (woken_by e) ≡ woken → effect_by run woken ≡ Opens → woken_by e ≡ Some t
      by true woken is effect = cc
      by false true is effect = same_thread t (woken_by e) is
      by false false is effect = cc

-- an event that wakes makes none run
never_both : (e : Event) (t : ThreadId) → woken_by e ≡ Some t → run_by e ≡ None
never_both (Dispatch u p) t wakes = cc
never_both (Steal v u p) t wakes = cc
never_both _ t wakes = refl

pub opens_of : (t : ThreadId) (e : Event) → woken_by e ≡ Some t → effect_of t e ≡ Opens
opens_of t e wakes =
    ap (λ (b : Bool). effect_by b (is_that_thread t (woken_by e))) (ap (is_that_thread t) (never_both e t wakes))
    ∙ ap (λ (b : Bool). effect_by false b) (thread_same t (woken_by e) wakes)
