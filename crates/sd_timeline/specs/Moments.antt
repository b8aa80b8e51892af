-- The parts of the run that are drawn, and the marks of threads that run without taking a tick: a line across the row of the
-- processor, and across the thread's.
-- Source: this project's own.
use Rattle.std.specs.Prelude.{ℕ, Bool, not, ◌&&◌, ◌||◌, ◌==◌, List, [], ◌++◌, length, codes, filter, Option, Some, None, if◌then◌else◌}
use Rattle.std.specs.List.{flat_map, range_with_len}
use Rattle.sd_types.specs.declared.works.Work.{Work}
use Rattle.sd_stretches.specs.declared.sights.Doing.{Doing}
use Rattle.sd_stretches.specs.declared.sights.Doing.TheVariants.{Running}
use Rattle.sd_stretches.specs.declared.histories.History.{History}
use Rattle.sd_stretches.specs.declared.rows.Stretch.{Stretch}
use Rattle.sd_stretches.specs.declared.spin_pieces.Track.TheVariants as track
use Rattle.sd_stretches.specs.SpinPieces.{pieces}
use Rattle.sd_layout.specs.declared.layouts.Row.{Row}
use Rattle.sd_layout.specs.declared.layouts.Row.TheVariants.{Cpu, Thread}
use Rattle.sd_layout.specs.Layouts.{Layout, across, column, row_of, shows, width}
use Rattle.sd_stretches.specs.Sights.{does_run}
use Rattle.sd_timeline.specs.Pieces.{path_start, path_end}
use Rattle.sd_timeline.specs.Bars.{stretch_title}

-- a thread runs, but takes no tick, and what is drawn shows when
abbrev pub is_moment : Layout → Stretch → Bool
is_moment f x = does_run x.doing && (x.from == x.to) && shows f x.from

-- it has a bar or a mark
abbrev pub is_drawn : Layout → Stretch → Bool
is_drawn f x = is_moment f x || not (width f x.from x.to == 0)

abbrev pub drawn_by : Work → Layout → History → ℕ → List Stretch
drawn_by w f h t = filter (is_drawn f) (pieces (track.Thread t) h w.limit)

-- those of all threads
unfoldable pub drawn_pieces : Work → Layout → History → List Stretch
drawn_pieces w f h = flat_map (drawn_by w f h) (range_with_len 0 (length w.threads))

unfoldable pub moment_line : Work → Layout → Row → Stretch → List ℕ
moment_line w f row x = path_start (codes "moment") (column f x.from) (across f row) ++ stretch_title w x ++ path_end

abbrev pub cpu_moment : Work → Layout → Stretch → Doing → List ℕ
cpu_moment w f x (Running c) = moment_line w f (Cpu c.0) x
cpu_moment w f x _ = []

abbrev pub thread_moment : Work → Layout → Stretch → Option ℕ → List ℕ
thread_moment w f x None = []
thread_moment w f x (Some t) = moment_line w f (Thread t) x

abbrev pub moment_lines : Work → Layout → Stretch → List ℕ
moment_lines w f x = cpu_moment w f x x.doing ++ thread_moment w f x (row_of f x.thread)

abbrev pub moment_text : Work → Layout → Stretch → List ℕ
moment_text w f x = if is_moment f x then moment_lines w f x else []
