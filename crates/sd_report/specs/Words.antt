-- The words of a row.
-- Source: this project's own.
use Rattle.std.specs.Prelude.{ℕ, List, [], codes, decimal, Option, Some}
use Rattle.sd_types.specs.declared.works.Work.{Work}
use Rattle.sd_state.specs.Texts.{chan_name, lock_name, thread_name}
use Rattle.sd_statistics.specs.declared.activities.Activity.{Activity}
use Rattle.sd_statistics.specs.declared.activities.Activity.TheVariants.{Running, Spinning, Runnable, Waiting, Asleep, Napping, Ended, SpinningFor, WaitingFor}
use Rattle.sd_statistics.specs.declared.cpus.Deed.{Deed}
use Rattle.sd_statistics.specs.declared.cpus.Deed.TheVariants.{Runs, Spins, Idles, Dispatches, Steals, Preempts}
use Rattle.sd_statistics.specs.declared.rows.Measure.{Measure}
use Rattle.sd_statistics.specs.declared.rows.Measure.TheVariants.{Does, Twice, WakeupToRun, Inherits, Makes, Held, Contended, HandsOn, Responds, Unfinished}
use Rattle.sd_statistics.specs.declared.rows.Row.{Row}
use Rattle.sd_statistics.specs.declared.rows.Subject.{Subject}
use Rattle.sd_statistics.specs.declared.rows.Subject.TheVariants.{Thread, Cpu, Lock, Task}
use Rattle.sd_statistics.specs.declared.spans.Span.{Span}

-- of what kind it is of which a row speaks
abbrev pub subject_word : Subject → List ℕ
subject_word (Thread t) = codes "thread"
subject_word (Cpu c) = codes "processor"
subject_word (Lock l) = codes "lock"
subject_word (Task t k) = codes "task"

-- its name, and of a processor its number
abbrev pub subject_name : Work → Subject → List ℕ
subject_name w (Thread t) = thread_name w t
subject_name w (Cpu c) = decimal c
subject_name w (Lock l) = lock_name w l.0
subject_name w (Task t k) = thread_name w t

abbrev pub activity_word : Activity → List ℕ
activity_word Running = codes "running"
activity_word Spinning = codes "spinning"
activity_word Runnable = codes "runnable"
activity_word Waiting = codes "waiting"
activity_word Asleep = codes "asleep"
activity_word Napping = codes "napping"
activity_word Ended = codes "ended"
activity_word (SpinningFor l) = codes "spinning for"
activity_word (WaitingFor l) = codes "waiting for"

abbrev pub deed_word : Deed → List ℕ
deed_word Runs = codes "running"
deed_word Spins = codes "spinning"
deed_word Idles = codes "idle"
deed_word Dispatches = codes "dispatches"
deed_word Steals = codes "steals"
deed_word Preempts = codes "preemptions"

abbrev pub measure_word : Measure → List ℕ
measure_word (Does a) = activity_word a
measure_word Twice = codes "in two states"
measure_word WakeupToRun = codes "wakeup to run"
measure_word Inherits = codes "inherits"
measure_word (Makes d) = deed_word d
measure_word Held = codes "held"
measure_word Contended = codes "contended"
measure_word HandsOn = codes "hands on"
measure_word Responds = codes "response"
measure_word Unfinished = codes "unfinished"

abbrev pub activity_object : Work → Activity → List ℕ
activity_object w (SpinningFor l) = lock_name w l.0
activity_object w (WaitingFor l) = lock_name w l.0
activity_object w _ = []

-- the lock of which a measure speaks, if it does
abbrev pub measure_object : Work → Measure → List ℕ
measure_object w (Does a) = activity_object w a
measure_object w _ = []

abbrev pub object_by : Work → Subject → Measure → List ℕ
object_by w (Task t k) m = chan_name w k.0
object_by w _ m = measure_object w m

-- the lock of which a row speaks, or the semaphore of a task
abbrev pub row_object : Work → Row → List ℕ
row_object w x = object_by w x.subject x.measure

abbrev pub holder_by : Work → Subject → Option Span → List ℕ
holder_by w (Lock l) (Some x) = thread_name w x.thread
holder_by w _ _ = []

-- of a row of a lock, the thread of the longest
abbrev pub holder : Work → Row → List ℕ
holder w x = holder_by w x.subject x.figures.longest
