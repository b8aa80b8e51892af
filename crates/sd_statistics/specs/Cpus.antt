-- The rows of processors.
-- Source: Solaris Internals (dispatcher statistics); the rows are this project's own.
use Rattle.std.specs.Prelude.{ℕ, Bool, true, false, ◌&&◌, ◌==◌, List, ◌++◌, count_by, filter}
use Rattle.std.specs.List.{flat_map, range_with_len}
use Rattle.sd_types.specs.declared.events.Event.{Event}
use Rattle.sd_types.specs.declared.events.Event.TheVariants.{Tick, Spin, Idle, Dispatch, Steal, Preempt, Away}
use Rattle.sd_types.specs.declared.works.Work.{Work}
use Rattle.sd_stretches.specs.declared.changes.Happening.{Happening}
use Rattle.sd_stretches.specs.declared.histories.History.{History}
use Rattle.sd_statistics.specs.declared.cpus.Deed.{Deed}
use Rattle.sd_statistics.specs.declared.cpus.Deed.TheVariants.{Runs, Spins, Idles, Dispatches, Steals, Preempts}
use Rattle.sd_statistics.specs.declared.rows.Figures.{Figures}
use Rattle.sd_statistics.specs.declared.rows.Measure.TheVariants.{Makes}
use Rattle.sd_statistics.specs.declared.rows.Row.{Row}
use Rattle.sd_statistics.specs.declared.rows.Subject.TheVariants as subject
use Rattle.sd_statistics.specs.Rows.{count_figures, row_if, tick_figures}

abbrev pub is_deed : Deed → Event → Bool
is_deed Runs (Tick t) = true
is_deed Spins (Spin t l) = true
is_deed Idles Idle = true
is_deed Dispatches (Dispatch t p) = true
is_deed Steals (Steal v t p) = true
is_deed Preempts (Preempt t end) = true
is_deed Preempts (Away t c) = true
is_deed _ _ = false

-- the entries of processor c
abbrev pub cpu_entries : ℕ → List Happening → List Happening
cpu_entries c xs = filter (λ x. x.cpu.0 == c) xs

-- how many entries of processor c are of the kind
abbrev pub deeds : Deed → ℕ → List Happening → ℕ
deeds deed c xs = count_by (λ x. (x.cpu.0 == c) && is_deed deed x.event) xs

-- ticks, or how often
abbrev pub deed_figures : Deed → ℕ → Figures
deed_figures Runs n = tick_figures n
deed_figures Spins n = tick_figures n
deed_figures Idles n = tick_figures n
deed_figures Dispatches n = count_figures n
deed_figures Steals n = count_figures n
deed_figures Preempts n = count_figures n

abbrev pub deed_row : ℕ → List Happening → Deed → List Row
deed_row c xs deed = row_if (record { subject = subject.Cpu c; measure = Makes deed; figures = deed_figures deed (deeds deed c xs) })

unfoldable pub cpu_part : List Happening → ℕ → List Row
cpu_part xs c = deed_row c xs Runs ++ deed_row c xs Spins ++ deed_row c xs Idles ++ deed_row c xs Dispatches ++ deed_row c xs Steals ++ deed_row c xs Preempts

-- the rows of all processors
unfoldable pub cpu_rows : Work → History → List Row
cpu_rows w h = flat_map (cpu_part h.happenings.items) (range_with_len 0 w.cpus)
