-- What stands above the rows, and the names of the rows.
-- Source: Scalable Vector Graphics 1.1; the layout is this project's own.
use Rattle.std.specs.Prelude.{ℕ, ◌+◌, ◌-◌, ◌*◌, ◌%◌, ◌&&◌, ◌==◌, nat_lt, List, [], ◌++◌, length, codes, decimal, Option, Some, None, if◌then◌else◌}
use Rattle.std.specs.List.{flat_map, range_with_len}
use Rattle.sd_types.specs.declared.numbers.CpuId.{CpuId}
use Rattle.sd_types.specs.declared.works.Work.{Work}
use Rattle.sd_types.specs.Partitions.{set_of_cpu}
use Rattle.sd_machine.specs.Texts.{set_name}
use Rattle.sd_state.specs.Texts.{thread_name}
use Rattle.sd_layout.specs.declared.folds.Column.{Column}
use Rattle.sd_layout.specs.declared.layouts.Row.TheVariants.{Cpu, Thread}
use Rattle.sd_layout.specs.Layouts.{Layout, axes, axis_base, base, beneath, bottom, column, floor, is_clear, shown, step, top, total_width}
use Rattle.sd_timeline.specs.Colours.{colour_name, colour_of, texture_cover, texture_of}
use Rattle.sd_timeline.specs.Pieces.{attribute, cover, grid_line, label_start, label_end, number_label, word_label}
use Rattle.sd_timeline.specs.Style.{page, patterns, style}

unfoldable pub view_box : ℕ → ℕ → List ℕ
view_box width height = (codes " viewBox=\"0 0 " ++ decimal width) ++ (codes " " ++ decimal height) ++ codes "\">\n"

unfoldable pub measures : ℕ → ℕ → List ℕ
measures width height = attribute (codes "width") width ++ attribute (codes "height") height ++ view_box width height

-- so many lines of the legend stand under the rows
abbrev pub height : Layout → ℕ → ℕ
height f lines = bottom f + 34 + 24 * lines

unfoldable pub size : Layout → ℕ → List ℕ
size f lines = measures (total_width f) (height f lines)

unfoldable pub opened : List ℕ
opened = codes "<svg xmlns=\"http://www.w3.org/2000/svg\""

-- which ticks are drawn, of how many
unfoldable pub ticks_text : Work → Layout → List ℕ
ticks_text w f =
    (codes "ticks " ++ decimal f.from) ++ (codes " to " ++ decimal f.to) ++ (codes " of " ++ decimal w.limit) ++ (codes ", " ++ decimal w.hz)
    ++ codes " in a second"

-- how many threads and processors the workload has
unfoldable pub counts_text : Work → List ℕ
counts_text w = (codes "threads: " ++ decimal (length w.threads)) ++ (codes ", processors: " ++ decimal w.cpus)

-- the title of the file, for readers of screens, and what it shows
unfoldable pub file_title : Work → List ℕ
file_title w = codes "<title>" ++ counts_text w ++ codes "</title>\n"

unfoldable pub description : Work → Layout → List ℕ
description w f = codes "<desc>" ++ ticks_text w f ++ codes "</desc>\n"

-- the start of the file, up to the white page
unfoldable pub start : Work → Layout → ℕ → List ℕ
start w f lines = opened ++ size f lines ++ file_title w ++ description w f ++ style ++ patterns ++ page

-- how many threads have no row, where some have none
unfoldable pub rowless_text : ℕ → List ℕ
rowless_text n = codes "; threads that have no row: " ++ decimal n

abbrev pub rowless : Work → Layout → List ℕ
rowless w f = if nat_lt f.threads (length w.threads) then rowless_text (length w.threads - f.threads) else []

unfoldable pub heading : Work → Layout → List ℕ
heading w f = label_start (codes "head") 20 20 ++ ticks_text w f ++ codes "; " ++ counts_text w ++ rowless w f ++ label_end

-- the number of a tick on the axis between rows
unfoldable pub inner_number : Layout → ℕ → ℕ → List ℕ
inner_number f tick k = number_label (codes "tick") (column f tick) (axis_base f k) [] tick

-- the number of a tick on the axis, a line down from it, and the number again below, and after every 40 rows
unfoldable pub mark : Layout → ℕ → List ℕ
mark f tick =
    grid_line (codes "grid") (column f tick, 50) (column f tick, bottom f) ++ number_label (codes "tick") (column f tick) 44 [] tick
    ++ number_label (codes "tick") (column f tick) (bottom f + 14) [] tick ++ flat_map (inner_number f tick) (range_with_len 0 (axes f))

abbrev pub mark_if : Layout → ℕ → List ℕ
mark_if f n = if n % step f == 0 && is_clear f (f.from + n) then mark f (f.from + n) else []

-- the ticks on both sides of a fold
unfoldable pub fold_marks : Layout → Column → List ℕ
fold_marks f x = mark f x.from ++ mark f x.to

unfoldable pub axis : Layout → List ℕ
axis f = word_label (codes "side") 126 44 (codes "tick") ++ flat_map (mark_if f) (range_with_len 0 (shown f)) ++ mark_if f (shown f) ++ flat_map (fold_marks f) f.folds

-- the name of the set of a processor, under its name; the default partition has none
unfoldable pub set_label : Work → Layout → ℕ → ℕ → List ℕ
set_label w f c set = if set == 0 then [] else word_label (codes "side") 126 (beneath f (Cpu c)) (set_name w set)

-- the name of a processor's row, and the line on which its bars stand
unfoldable pub cpu_head : Work → Layout → ℕ → List ℕ
cpu_head w f c =
    set_label w f c (set_of_cpu w c)
    ++ number_label (codes "name") 126 (base f (Cpu c)) (codes "processor ") c
    ++ grid_line (codes "base") (150, floor f (Cpu c)) (column f f.to, floor f (Cpu c))

-- the colour and the texture of a thread, beside its name
abbrev pub swatch : Layout → ℕ → ℕ → List ℕ
swatch f row t =
    cover (colour_name (colour_of t)) 131 (top f (Thread row) + 3) 12 12 ++ texture_cover (texture_of t) 131 (top f (Thread row) + 3) 12 12

-- the name of a thread at its row
unfoldable pub thread_head : Work → Layout → ℕ → ℕ → List ℕ
thread_head w f row t = word_label (codes "name") 126 (base f (Thread row)) (thread_name w t) ++ swatch f row t

-- to which processor a thread is bound, under its name
abbrev pub bound_label : Layout → ℕ → Option CpuId → List ℕ
bound_label f row None = []
bound_label f row (Some c) = number_label (codes "side") 126 (beneath f (Thread row)) (codes "bound to ") c.0

-- all that stands above the rows, and the names of the processors' rows, where the legend has so many lines
unfoldable pub head : Work → Layout → ℕ → List ℕ
head w f lines = start w f lines ++ heading w f ++ axis f ++ flat_map (cpu_head w f) (range_with_len 0 f.cpus)
