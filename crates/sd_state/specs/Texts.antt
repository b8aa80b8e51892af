-- The texts of names, and of the accounts with which a journal ends.
-- Source: this project's own.
use Rattle.std.specs.Prelude.{ℕ, List, [], ◌++◌, length, flat_map, codes, decimal, option_map, unwrap_or, slice_get}
use Rattle.std.specs.List.{range_with_len}
use Rattle.sd_types.specs.declared.events.End.{End}
use Rattle.sd_types.specs.declared.events.End.TheVariants.{Front, Back}
use Rattle.sd_types.specs.declared.events.Entry.{Entry}
use Rattle.sd_types.specs.declared.works.Work.{Work}
use Rattle.sd_state.specs.declared.states.Place.{Place}
use Rattle.sd_state.specs.declared.states.Place.TheVariants.{Running, Queued, RealTime, Waiting, Asleep, Napping, Ended}
use Rattle.sd_state.specs.declared.states.State.{State}
use Rattle.sd_state.specs.States.{thread_of}
use Rattle.sd_state.specs.Accounts.{thread_ticks, thread_dispatches, thread_preempts, thread_wakes, cpu_ticks, cpu_idle}

abbrev pub thread_name : Work → ℕ → List ℕ
thread_name w t = unwrap_or (option_map (λ d. d.name.text.items) (slice_get w.threads t)) []

abbrev pub lock_name : Work → ℕ → List ℕ
lock_name w l = unwrap_or (option_map (λ d. d.0.text.items) (slice_get w.locks l)) []

abbrev pub chan_name : Work → ℕ → List ℕ
chan_name w k = unwrap_or (option_map (λ d. d.0.text.items) (slice_get w.chans k)) []

abbrev pub end_text : End → List ℕ
end_text Front = codes " front"
end_text Back = codes " back"

-- the last word of a thread's account
abbrev pub state_text : Work → Place → List ℕ
state_text w (Running c) = codes "running"
state_text w (Queued c k) = codes "queued"
state_text w (RealTime p k) = codes "queued"
state_text w (Waiting l side k) = codes "waiting " ++ lock_name w l.0
state_text w (Asleep ch k) = codes "asleep " ++ chan_name w ch.0
state_text w (Napping c due) = codes "napping"
state_text w Ended = codes "ended"

-- a thread's counts over the entries
unfoldable pub thread_counts : List Entry → ℕ → List ℕ
thread_counts es t =
    codes " ticks " ++ decimal (thread_ticks t es) ++ (codes " dispatches " ++ decimal (thread_dispatches t es))
    ++ (codes " preempts " ++ decimal (thread_preempts t es)) ++ (codes " wakes " ++ decimal (thread_wakes t es))

unfoldable pub thread_line : Work → List Entry → State → ℕ → List ℕ
thread_line w es s t = codes "thread " ++ thread_name w t ++ thread_counts es t ++ codes " " ++ state_text w (thread_of s t).place ++ codes "\n"

unfoldable pub cpu_line : List Entry → ℕ → List ℕ
cpu_line es c = codes "cpu " ++ decimal c ++ codes " ticks " ++ decimal (cpu_ticks c es) ++ codes " idle " ++ decimal (cpu_idle c es) ++ codes "\n"

unfoldable pub threads_text : Work → List Entry → State → List ℕ
threads_text w es s = flat_map (thread_line w es s) (range_with_len 0 (length w.threads))

unfoldable pub cpus_text : Work → List Entry → List ℕ
cpus_text w es = flat_map (cpu_line es) (range_with_len 0 w.cpus)

unfoldable pub accounts_text : Work → List Entry → State → List ℕ
accounts_text w es s = codes "accounts\n" ++ (threads_text w es s ++ cpus_text w es)
