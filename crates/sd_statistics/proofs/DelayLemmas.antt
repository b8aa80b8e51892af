-- The delays of a thread are those of its own wakeups.
use Rattle.std.proofs.Common.{◌≡◌, ℕ, Bool, true, false, List, [], ◌∷◌, ◌++◌, refl, sym, ap, ◌∙◌}
use Rattle.std.specs.Prelude.{◌==◌, not, if◌then◌else◌}
use Rattle.sd_stretches.specs.declared.changes.Wakeup.{Wakeup}
use Rattle.sd_stretches.specs.declared.rows.Stretch.{Stretch}
use Rattle.sd_stretches.specs.Rows.{own_wakeups}
use Rattle.sd_statistics.specs.declared.rows.Measure.TheVariants.{WakeupToRun}
use Rattle.sd_statistics.specs.declared.rows.Subject.TheVariants.{Thread}
use Rattle.sd_statistics.specs.declared.spans.Span.{Span}
use Rattle.sd_statistics.specs.Delays.{delay_if, delay_to, delays_of, first_run}
use Rattle.sd_statistics.specs.Rows.{all_of, row_if}
use Rattle.sd_statistics.specs.Spans.{summary_of}
use Rattle.sd_statistics.specs.Threads.{delay_row}

step : (t : ℕ) (own : List Stretch) (x : Wakeup) (xs : List Wakeup) (b : Bool) → x.woken.0 == t ≡ b
    → delays_of t own (if b then x ∷ own_wakeups t xs else own_wakeups t xs) ≡ delay_if t own x ++ delays_of t own (own_wakeups t xs)
unfolding delays_of
step t own x xs true is = refl
step t own x xs false is = ap (λ c. (if not c then [] else delay_to x (first_run x.entry own)) ++ delays_of t own (own_wakeups t xs)) (sym is)

pub own_delays : (t : ℕ) (own : List Stretch) (xs : List Wakeup) → delays_of t own (own_wakeups t xs) ≡ delays_of t own xs
unfolding delays_of
own_delays t own [] = refl
own_delays t own (x ∷ xs) = step t own x xs (x.woken.0 == t) refl ∙ ap (λ ys. delay_if t own x ++ ys) (own_delays t own xs)

pub own_row : (t : ℕ) (own : List Stretch) (ws xs : List Wakeup) → ws ≡ own_wakeups t xs → delay_row t own ws ≡ delay_row t own xs
own_row t own ws xs are =
    ap (λ (ds : List Span). row_if (record { subject = Thread t; measure = WakeupToRun; figures = all_of (summary_of ds) }))
    (ap (delays_of t own) are ∙ own_delays t own xs)
