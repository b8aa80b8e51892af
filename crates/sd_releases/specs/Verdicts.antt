-- To which lines a task set expands, or why it is refused. The first line at fault is the first by the set's own rules, or the line of the
-- set from which the first line at fault of the judged workload comes, whichever is found first; of the causes of a line the one with
-- the least number counts. At the end the set is at fault where the workload to which it expands has more than a limit allows.
-- Source: this project's own.
use Rattle.std.specs.Prelude.{◌≡◌, ℕ, ◌-◌, Bool, false, ◌&&◌, ◌==◌, List, ◌++◌, length, nat_lt, cond, slice_get, option_map, Option, Some, None}
use Rattle.sd_types.specs.Limits.{most_workload_bytes}
use Rattle.sd_declare.specs.Causes.{number_of_cause}
use Rattle.sd_declare.specs.declared.causes.WorkCause.{WorkCause}
use Rattle.sd_declare.specs.declared.causes.WorkCause.TheVariants.{Limits}
use Rattle.sd_workload.specs.Texts.{Verdict, Accepts, Refuses, verdict_of}
use Rattle.sd_tasks.specs.Readings.{Reading, reading_of}
use Rattle.sd_tasks.specs.Written.{Written, text_of}
use Rattle.sd_tasks.specs.WrittenKept.{lines_kept}
use Rattle.sd_releases.specs.declared.expanding.Expansion.{Expansion}
use Rattle.sd_releases.specs.declared.expanding.SetFault.{SetFault}
use Rattle.sd_releases.specs.declared.expanding.SetFault.TheVariants.{At, Memory}
use Rattle.sd_releases.specs.Tails.{tail}

-- a set expands to lines, or is refused at a line
pub data SetVerdict : Type 0 where
  Expands : List Written → SetVerdict
  RefusesSet : ℕ → WorkCause → SetVerdict

-- ---- the end of the input

-- the workload to which a set expands has more than a limit allows: bytes, or what makes it refused
abbrev pub unless_refused : List Written → ℕ → Verdict → SetVerdict
unless_refused lines number (Accepts d) = Expands lines
unless_refused lines number (Refuses line cause) = RefusesSet number Limits

abbrev pub end_verdict : List Written → ℕ → SetVerdict
end_verdict lines number =
    cond (nat_lt most_workload_bytes (length (text_of lines))) (RefusesSet number Limits) (unless_refused lines number (verdict_of (text_of lines)))

-- the lines of the set, and those behind them
abbrev pub whole : Reading → List Written
whole r = r.seen.written ++ tail r.seen.above r.number

-- ---- lines

-- by the set's own rules
abbrev pub own_verdict : Reading → Option WorkCause → SetVerdict
own_verdict r None = end_verdict (whole r) r.number
own_verdict r (Some cause) = RefusesSet r.number cause

-- the first line at fault of the judged workload, told at the line from which it comes; the end of that workload is not judged
abbrev pub judged_fault : List Written → Verdict → Option (ℕ × WorkCause)
judged_fault lines (Accepts d) = None
judged_fault lines (Refuses line cause) = option_map (λ w. (w.line, cause)) (slice_get lines (line - 1))

abbrev pub is_less : Option WorkCause → WorkCause → Bool
is_less None cause = false
is_less (Some own) cause = nat_lt (number_of_cause own) (number_of_cause cause)

-- by its own rules the line is at fault by a cause of a lesser number
abbrev pub is_own : Reading → ℕ × WorkCause → Bool
is_own r fault = (r.number == fault.0) && is_less r.cause fault.1

abbrev pub first_verdict : Reading → Option (ℕ × WorkCause) → SetVerdict
first_verdict r None = own_verdict r r.cause
first_verdict r (Some fault) = cond (is_own r fault) (own_verdict r r.cause) (RefusesSet fault.0 fault.1)

abbrev pub verdict_of_reading : Reading → SetVerdict
verdict_of_reading r = first_verdict r (judged_fault r.seen.judged (verdict_of (text_of r.seen.judged)))

unfoldable pub set_verdict : List ℕ → SetVerdict
set_verdict text = verdict_of_reading (reading_of text)

-- ---- what is returned

-- the lines to which the set expands, and their text
pub record IsExpansion (verdict : SetVerdict) (e : Expansion) : Type 0 where
  pub expands : verdict ≡ Expands (lines_kept e.lines.items)
  pub text : e.text.items ≡ text_of (lines_kept e.lines.items)

-- the refusal, or memory ran out
abbrev pub IsSetFault : SetVerdict → SetFault → Type 0
IsSetFault verdict (At line cause) = verdict ≡ RefusesSet line cause
IsSetFault verdict Memory = Unit {0}
