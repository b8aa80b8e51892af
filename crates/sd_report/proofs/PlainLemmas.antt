-- Which bytes reports are made of.
use Rattle.std.proofs.Common.{ℕ, zero, suc, ◌-◌, List, [], ◌++◌, length, Option, Some, None, refl}
use Rattle.std.specs.Prelude.{◌==◌, ◌||◌, codes, nat_le}
use Rattle.std.specs.List.{flat_map}
use Rattle.std.proofs.lemmas.List.Folds.{list_all-append}
use Rattle.sd_types.specs.declared.works.Work.{Work}
use Rattle.sd_state.specs.declared.states.State.{State}
use Rattle.sd_stretches.specs.declared.histories.History.{History}
use Rattle.sd_stretches.specs.Plain.{is_text_byte, IsText}
use Rattle.sd_stretches.proofs.TextLemmas.{chan-text, decimal-text, either-text, flat-text, lock-text, thread-text}
use Rattle.sd_statistics.specs.declared.activities.Activity.{Activity}
use Rattle.sd_statistics.specs.declared.activities.Activity.TheVariants as activity
use Rattle.sd_statistics.specs.declared.cpus.Deed.{Deed}
use Rattle.sd_statistics.specs.declared.cpus.Deed.TheVariants as deed
use Rattle.sd_statistics.specs.declared.rows.Measure.{Measure}
use Rattle.sd_statistics.specs.declared.rows.Measure.TheVariants as measure
use Rattle.sd_statistics.specs.declared.rows.Row.{Row}
use Rattle.sd_statistics.specs.declared.rows.Subject.{Subject}
use Rattle.sd_statistics.specs.declared.rows.Subject.TheVariants as subject
use Rattle.sd_statistics.specs.declared.spans.Span.{Span}
use Rattle.sd_statistics.specs.Cpus.{cpu_rows}
use Rattle.sd_statistics.specs.Locks.{lock_rows}
use Rattle.sd_statistics.specs.Tasks.{task_rows}
use Rattle.sd_statistics.specs.Threads.{thread_rows}
use Rattle.sd_report.specs.Cells.{blanks, cell, left, right}
use Rattle.sd_report.specs.Words.{activity_object, activity_word, deed_word, holder_by, measure_object, measure_word, object_by, row_object, subject_name}
use Rattle.sd_report.specs.Tables.{by_text, cpu_section, head_line, lock_section, longest_cells, report_text, row_cells, row_words, section, skew_line, table_line, task_section, tasks_part, thread_section, ticks_line}

-- ---- cells

blanks-text : (n : ℕ) → IsText (blanks n)
blanks-text zero = refl
blanks-text (suc n) = blanks-text n

pub left-text : (width : ℕ) (text : List ℕ) → IsText text → IsText (left width text)
unfolding left
left-text width text h = simp (list_all-append is_text_byte, h, blanks-text (width - length text))

pub right-text : (width : ℕ) (text : List ℕ) → IsText text → IsText (right width text)
unfolding right
right-text width text h = simp (list_all-append is_text_byte, h, blanks-text (width - length text))

pub cell-text : (n : Option ℕ) → IsText (cell n)
cell-text None = refl
cell-text (Some n) = decimal-text n

pub number-text : (width : ℕ) (n : Option ℕ) → IsText (right width (cell n))
number-text width n = right-text width (cell n) (cell-text n)

-- ---- words

name-text : (w : Work) (s : Subject) → IsText (subject_name w s)
name-text w (subject.Thread t) = thread-text w t
name-text w (subject.Cpu c) = decimal-text c
name-text w (subject.Lock l) = lock-text w l.0
name-text w (subject.Task t k) = thread-text w t

activity-text : (a : Activity) → IsText (activity_word a)
activity-text activity.Running = refl
activity-text a = refl

deed-text : (d : Deed) → IsText (deed_word d)
deed-text deed.Runs = refl
deed-text d = refl

measure-text : (m : Measure) → IsText (measure_word m)
measure-text (measure.Does a) = activity-text a
measure-text (measure.Makes d) = deed-text d
measure-text m = refl

activity-object-text : (w : Work) (a : Activity) → IsText (activity_object w a)
activity-object-text w (activity.SpinningFor l) = lock-text w l.0
activity-object-text w (activity.WaitingFor l) = lock-text w l.0
activity-object-text w a = refl

measure-object-text : (w : Work) (m : Measure) → IsText (measure_object w m)
measure-object-text w (measure.Does a) = activity-object-text w a
measure-object-text w m = refl

object-text : (w : Work) (s : Subject) (m : Measure) → IsText (object_by w s m)
object-text w (subject.Thread t) m = measure-object-text w m
object-text w (subject.Cpu c) m = measure-object-text w m
object-text w (subject.Lock l) m = measure-object-text w m
object-text w (subject.Task t k) m = chan-text w k.0

holder-text : (w : Work) (s : Subject) (x : Option Span) → IsText (holder_by w s x)
holder-text w (subject.Thread t) x = refl
holder-text w (subject.Cpu c) x = refl
holder-text w (subject.Lock l) None = refl
holder-text w (subject.Lock l) (Some x) = thread-text w x.thread
holder-text w (subject.Task t k) x = refl

-- ---- lines

words-text : (w : Work) (x : Row) → IsText (row_words w x)
unfolding row_words
words-text w x =
    simp (
      list_all-append is_text_byte,
      left-text 17 (subject_name w x.subject) (name-text w x.subject),
      left-text 15 (measure_word x.measure) (measure-text x.measure),
      left-text 17 (row_object w x) (object-text w x.subject x.measure),
    )

longest-text : (x : Option Span) → IsText (longest_cells x)
unfolding longest_cells
longest-text x = simp (list_all-append is_text_byte, number-text)

cells-text : (x : Row) → IsText (row_cells x)
unfolding row_cells
cells-text x = simp (list_all-append is_text_byte, number-text, longest-text)

by-text : (name : List ℕ) → IsText name → IsText (by_text name)
by-text name h = either-text (length name == 0) [] (codes "  by " ++ name) refl h

line-text : (w : Work) (x : Row) → IsText (table_line w x)
unfolding table_line
line-text w x =
    simp (
      list_all-append is_text_byte,
      words-text w x,
      cells-text x,
      by-text (holder_by w x.subject x.figures.longest) (holder-text w x.subject x.figures.longest),
    )

lines-text : (w : Work) (rows : List Row) (title : List ℕ) → IsText title → IsText (section w title rows)
unfolding section
lines-text w rows title h =
    either-text (length rows == 0) [] (title ++ flat_map (table_line w) rows) refl
    (simp (list_all-append is_text_byte, h, flat-text (table_line w) (line-text w) rows))

ticks-text : (w : Work) (h : History) → IsText (ticks_line w h)
unfolding ticks_line
ticks-text w h = simp (list_all-append is_text_byte, decimal-text)

head-text : IsText head_line
unfolding head_line left right
head-text = refl

skew-text : (w : Work) (rows : List Row) → IsText (skew_line w rows)
unfolding skew_line
skew-text w rows =
    either-text (nat_le w.cpus 1 || length rows == 0) []
    (codes "a task that is not bound: each time a job comes to another processor, its response may become a tick more or less\n") refl refl

tasks-text : (w : Work) (rows : List Row) → IsText (tasks_part w rows)
unfolding tasks_part
tasks-text w rows = simp (list_all-append is_text_byte, lines-text w rows (codes "\ntasks\n") refl, skew-text w rows)

pub report-text : (w : Work) (h : History) (s : State) → IsText (report_text w h s)
unfolding report_text thread_section task_section lock_section cpu_section
report-text w h s =
    simp (
      list_all-append is_text_byte,
      ticks-text w h,
      head-text,
      lines-text w (thread_rows w h) (codes "\nthreads\n") refl,
      tasks-text w (task_rows w h s),
      lines-text w (lock_rows w h) (codes "\nlocks\n") refl,
      lines-text w (cpu_rows w h) (codes "\nprocessors\n") refl,
    )
