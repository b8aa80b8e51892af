-- Reports are whole lines: each ends with a newline.
use Rattle.std.proofs.Common.{ℕ, Bool, true, false, cond, eqb, List, [], ◌∷◌, ◌++◌, length, refl, subst, append_assoc}
use Rattle.std.specs.Prelude.{◌||◌, codes, decimal, nat_le}
use Rattle.std.specs.List.{flat_map}
use Rattle.csv.specs.Writing.{default_writer, is_blank, row_body, row_text}
use Rattle.sd_types.specs.declared.works.Work.{Work}
use Rattle.sd_state.specs.declared.states.State.{State}
use Rattle.sd_text.specs.Lines.{EndsLine}
use Rattle.sd_text.proofs.PieceLemmas.{EndsLine-append, EndsLine-flat_map, EndsLine-newline}
use Rattle.sd_stretches.specs.declared.histories.History.{History}
use Rattle.sd_statistics.specs.declared.rows.Row.{Row}
use Rattle.sd_statistics.specs.Cpus.{cpu_rows}
use Rattle.sd_statistics.specs.Locks.{lock_rows}
use Rattle.sd_statistics.specs.Tasks.{task_rows}
use Rattle.sd_statistics.specs.Threads.{thread_rows}
use Rattle.sd_report.specs.Cells.{left, right}
use Rattle.sd_report.specs.Words.{holder}
use Rattle.sd_report.specs.Sheets.{word_fields, number_fields, longest_fields, sheet_row, head_row, rows_text, thread_sheet, task_sheet, lock_sheet, cpu_sheet, sheet_text}
use Rattle.sd_report.specs.Tables.{row_words, row_cells, by_text, table_line, head_line, section, skew_line, tasks_part, ticks_line, thread_section, task_section, lock_section, cpu_section, report_text}

-- ---- as a table

line-ends : (w : Work) (x : Row) → EndsLine (table_line w x)
unfolding table_line
line-ends w x = EndsLine-newline (row_words w x ++ row_cells x ++ by_text (holder w x))

pub some-ends : (b : Bool) (text : List ℕ) → EndsLine text → EndsLine (cond b [] text)
some-ends true text h = refl
some-ends false text h = h

section-ends : (w : Work) (title : List ℕ) (rows : List Row) → EndsLine title → EndsLine (section w title rows)
unfolding section
section-ends w title rows h =
    some-ends (eqb (length rows) 0) (title ++ flat_map (table_line w) rows)
    (EndsLine-append title (flat_map (table_line w) rows) h (EndsLine-flat_map (table_line w) (line-ends w) rows))

head-ends : EndsLine head_line
unfolding head_line
head-ends =
    EndsLine-newline (left 17 (codes "who") ++ left 15 (codes "what") ++ left 17 (codes "of") ++ right 8 (codes "number") ++ right 9 (codes "ticks") ++ right 10 (codes "priority")
    ++ right 9 (codes "longest") ++ right 12 (codes "from entry") ++ right 10 (codes "to entry"))

ticks-ends : (w : Work) (h : History) → EndsLine (ticks_line w h)
unfolding ticks_line
ticks-ends w h =
    let ticks = (codes "ticks " ++ decimal w.limit) ++ (codes ", entries " ++ decimal h.entries) in
    subst EndsLine (append_assoc ticks (codes "\n") (codes "\n")) (EndsLine-newline (ticks ++ codes "\n"))

skew-ends : (w : Work) (rows : List Row) → EndsLine (skew_line w rows)
unfolding skew_line
skew-ends w rows =
    some-ends (nat_le w.cpus 1 || eqb (length rows) 0)
    (codes "a task that is not bound: each time a job comes to another processor, its response may become a tick more or less\n") refl

tasks-end : (w : Work) (rows : List Row) → EndsLine (tasks_part w rows)
unfolding tasks_part
tasks-end w rows = EndsLine-append (section w (codes "\ntasks\n") rows) (skew_line w rows) (section-ends w (codes "\ntasks\n") rows refl) (skew-ends w rows)

pub report-ends : (w : Work) (h : History) (s : State) → EndsLine (report_text w h s)
unfolding report_text thread_section task_section lock_section cpu_section
report-ends w h s =
    let head = ticks_line w h ++ head_line in
    let threads = head ++ thread_section w h in
    let tasks = threads ++ task_section w h s in
    let locks = tasks ++ lock_section w h in
    EndsLine-append locks (cpu_section w h)
    (EndsLine-append tasks (lock_section w h)
    (EndsLine-append threads (task_section w h s)
    (EndsLine-append head (thread_section w h)
    (EndsLine-append (ticks_line w h) head_line (ticks-ends w h) head-ends)
    (section-ends w (codes "\nthreads\n") (thread_rows w h) refl))
    (tasks-end w (task_rows w h s)))
    (section-ends w (codes "\nlocks\n") (lock_rows w h) refl))
    (section-ends w (codes "\nprocessors\n") (cpu_rows w h) refl)

-- ---- as comma-separated rows

pub fields-end : (fields : List (List ℕ)) → EndsLine (row_text default_writer fields)
fields-end fields =
    let body = row_body default_writer fields in
    let quotes = cond (is_blank default_writer fields) (34 ∷ 34 ∷ []) [] in
    subst EndsLine (append_assoc body quotes (codes "\n")) (EndsLine-newline (body ++ quotes))

row-ends : (w : Work) (x : Row) → EndsLine (sheet_row w x)
unfolding sheet_row
row-ends w x = fields-end (word_fields w x ++ number_fields x ++ longest_fields w x)

rows-end : (w : Work) (rows : List Row) → EndsLine (rows_text w rows)
unfolding rows_text
rows-end w rows = EndsLine-flat_map (sheet_row w) (row-ends w) rows

heading-ends : EndsLine head_row
unfolding head_row
heading-ends = refl

pub sheet-ends : (w : Work) (h : History) (s : State) → EndsLine (sheet_text w h s)
unfolding sheet_text thread_sheet task_sheet lock_sheet cpu_sheet
sheet-ends w h s =
    let threads = head_row ++ thread_sheet w h in
    let tasks = threads ++ task_sheet w h s in
    let locks = tasks ++ lock_sheet w h in
    EndsLine-append locks (cpu_sheet w h)
    (EndsLine-append tasks (lock_sheet w h)
    (EndsLine-append threads (task_sheet w h s)
    (EndsLine-append head_row (thread_sheet w h) heading-ends (rows-end w (thread_rows w h)))
    (rows-end w (task_rows w h s)))
    (rows-end w (lock_rows w h)))
    (rows-end w (cpu_rows w h))
