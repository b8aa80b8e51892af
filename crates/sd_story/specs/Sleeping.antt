-- Sentences on naps, sleep and wakeups. Each is said of the state before the entry.
-- Source: Solaris Internals (sleep queues, condition variables, semaphores); the sentences are this project's own.
use Rattle.std.specs.Prelude.{ℕ, ◌+◌, ◌-◌, List, [], ◌++◌, codes, Option, Some, None}
use Rattle.sd_types.specs.declared.numbers.CpuId.{CpuId}
use Rattle.sd_types.specs.declared.numbers.ThreadId.{ThreadId}
use Rattle.sd_types.specs.declared.numbers.LockId.{LockId}
use Rattle.sd_types.specs.declared.numbers.ChanId.{ChanId}
use Rattle.sd_types.specs.declared.events.Put.{Put}
use Rattle.sd_types.specs.declared.works.Work.{Work}
use Rattle.sd_state.specs.declared.states.State.{State}
use Rattle.sd_state.specs.States.{cpu_of, thread_of}
use Rattle.sd_state.specs.Operations.{op_of}
use Rattle.sd_machine.specs.Sleeping.{nap_ticks}
use Rattle.sd_machine.specs.Threads.{count_of}
use Rattle.sd_story.specs.Words.{thread_then, lock_then, chan_then, cpu_then, number_then, runnable_words}

-- when the nap ends, in ticks of its processor
abbrev pub nap_end : Work → State → CpuId → ThreadId → ℕ
nap_end w s c t = (cpu_of s c.0).count + nap_ticks (op_of w t.0 (thread_of s t.0).body)

unfoldable pub nap_sentence : Work → State → CpuId → ThreadId → List ℕ
nap_sentence w s c t = thread_then w t (codes " naps until tick ") ++ number_then (nap_end w s c t) []

unfoldable pub napend_sentence : Work → ThreadId → Put → List ℕ
napend_sentence w t at = codes "a nap is over: " ++ runnable_words w t at

unfoldable pub sleep_sentence : Work → ThreadId → ChanId → List ℕ
sleep_sentence w t k = thread_then w t (codes " sleeps on ") ++ chan_then w k []

abbrev pub wake_sentence : Work → ThreadId → ChanId → Option (ThreadId × Put) → List ℕ
wake_sentence w t k None = thread_then w t (codes " finds nobody asleep on ") ++ chan_then w k (codes ": the wakeup is lost")
wake_sentence w t k (Some u) = thread_then w t (codes " wakes the best that sleeps on ") ++ chan_then w k (codes ": ") ++ runnable_words w u.0 u.1

unfoldable pub wakeall_sentence : Work → CpuId → ThreadId → ChanId → List ℕ
wakeall_sentence w c t k =
    thread_then w t (codes " wakes all that sleep on ") ++ chan_then w k (codes ": ") ++ cpu_then c (codes " is to rouse them one by one")

abbrev pub rouse_sentence : Work → CpuId → ChanId → Option (ThreadId × Put) → List ℕ
rouse_sentence w c k None = cpu_then c (codes " finds nobody left to rouse on ") ++ chan_then w k []
rouse_sentence w c k (Some u) = cpu_then c (codes " rouses the best that sleeps on ") ++ chan_then w k (codes ": ") ++ runnable_words w u.0 u.1

unfoldable pub cvwait_sentence : Work → ThreadId → ChanId → LockId → List ℕ
cvwait_sentence w t k l = thread_then w t (codes " gives up ") ++ lock_then w l (codes " and sleeps on ") ++ chan_then w k []

unfoldable pub semap_sentence : Work → State → ThreadId → ChanId → List ℕ
semap_sentence w s t k =
    thread_then w t (codes " takes one from ") ++ chan_then w k (codes ", whose count falls from ") ++ number_then (count_of s k.0) (codes " to ")
    ++ number_then (count_of s k.0 - 1) []

unfoldable pub semawait_sentence : Work → ThreadId → ChanId → List ℕ
semawait_sentence w t k = thread_then w t (codes " sleeps on ") ++ chan_then w k (codes ", whose count is 0")

unfoldable pub handed_sentence : Work → ThreadId → ChanId → ThreadId → Put → List ℕ
handed_sentence w t k u at =
    thread_then w t (codes " gives to ") ++ chan_then w k (codes ", and the best that sleeps on it takes it: ") ++ runnable_words w u at

unfoldable pub counted_sentence : Work → ThreadId → ChanId → ℕ → List ℕ
counted_sentence w t k n = thread_then w t (codes " gives to ") ++ chan_then w k (codes ", on which nobody sleeps: its count is ") ++ number_then n []
