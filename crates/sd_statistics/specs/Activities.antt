-- What a thread does, and the spans over which it does it.
-- Source: Solaris Internals (thread states); the kinds are this project's own.
use Rattle.std.specs.Prelude.{Bool, true, false, ◌==◌, List, [], ◌∷◌, if◌then◌else◌}
use Rattle.std.specs.List.{flat_map}
use Rattle.sd_stretches.specs.declared.sights.Doing.{Doing}
use Rattle.sd_stretches.specs.declared.sights.Doing.TheVariants as doing
use Rattle.sd_stretches.specs.declared.rows.Stretch.{Stretch}
use Rattle.sd_statistics.specs.declared.activities.Activity.{Activity}
use Rattle.sd_statistics.specs.declared.activities.Activity.TheVariants.{Running, Spinning, Runnable, Waiting, Asleep, Napping, Ended, SpinningFor, WaitingFor}
use Rattle.sd_statistics.specs.declared.spans.Span.{Span}

-- doing this is of the activity
abbrev pub is_of : Activity → Doing → Bool
is_of Running (doing.Running c) = true
is_of Spinning (doing.Spinning c l) = true
is_of Runnable doing.Runnable = true
is_of Waiting (doing.Waiting l) = true
is_of Asleep (doing.Asleep k) = true
is_of Napping doing.Napping = true
is_of Ended doing.Ended = true
is_of (SpinningFor l) (doing.Spinning c m) = l.0 == m.0
is_of (WaitingFor l) (doing.Waiting m) = l.0 == m.0
is_of _ _ = false

abbrev pub span_of : Stretch → Span
span_of x = record { thread = x.thread; first = x.first; last = x.last; from = x.from; to = x.to }

abbrev pub span_if : Activity → Stretch → List Span
span_if a x = if is_of a x.doing then span_of x ∷ [] else []

-- the spans over which the activity lasts, from stretches or their pieces
unfoldable pub spans_of : Activity → List Stretch → List Span
spans_of a xs = flat_map (span_if a) xs
