-- The words of which events are made.
-- Source: Trace Event Format (ts in microseconds, pid, tid); which process has which tracks is this project's own.
use Rattle.std.specs.Prelude.{ℕ, ◌+◌, ◌*◌, ◌==◌, min, List, ◌++◌, codes, decimal, if◌then◌else◌}
use Rattle.sd_types.specs.declared.classes.Class.{Class}
use Rattle.sd_types.specs.declared.classes.Class.TheVariants.{Ts, Fx, Sys, Rt}
use Rattle.sd_types.specs.declared.works.Work.{Work}

-- a tick in microseconds: there are 100 or 1000 of them in a second
abbrev pub micros : Work → ℕ → ℕ
micros w ticks = if w.hz == 1000 then ticks * 1000 else ticks * 10000

-- The numbers of the tracks of processors and of threads. Some viewers know a track by its number alone, and put a counter on
-- the track with the number of its process, so no two tracks have the same number, and none has that of a process: there are
-- at most 64 processors.
abbrev pub cpu_number : ℕ → ℕ
cpu_number c = c + 11

abbrev pub thread_number : ℕ → ℕ
thread_number t = t + 101

-- The tracks of what a thread holds, one for each lane, behind those of the at most 2,048 threads: locks that a thread holds at once
-- need not be given up in turn, so that their slices would cross on one track.
abbrev pub hold_number : ℕ → ℕ → ℕ
hold_number t lane = 8 * t + min lane 7 + 3001

-- the time, the process (1 has the processors, 2 the threads, 3 what they hold) and the track
unfoldable pub place_at : Work → ℕ → ℕ → ℕ → List ℕ
place_at w tick process track = (codes ",\"ts\":" ++ decimal (micros w tick)) ++ (codes ",\"pid\":" ++ decimal process) ++ (codes ",\"tid\":" ++ decimal track)

abbrev pub class_word : Class → List ℕ
class_word Ts = codes "ts"
class_word Fx = codes "fx"
class_word Sys = codes "sys"
class_word Rt = codes "rt"
