-- That no two tracks have the same number, and none that of a process.
-- Source: this project's own.
use Rattle.std.specs.Prelude.{ℕ, ◌+◌, ◌<◌, length}
use Rattle.sd_types.specs.declared.works.Work.{Work}
use Rattle.sd_trace.specs.Words.{cpu_number, hold_number, thread_number}

-- behind the three processes come the processors of a workload, behind those its threads, and behind those what they hold
abbrev pub TracksStandApart : Type 0
TracksStandApart =
    (w : Work) (c t u lane : ℕ) → c < w.cpus → t < length w.threads
    → (3 < cpu_number c) × (cpu_number c < thread_number t) × (thread_number t < hold_number u lane) × (hold_number u lane < hold_number (u + 1) 0)
