-- Sentences on locks, and on the walk by which a waiter's priority passes to the owner. Each is said of the state before the entry.
-- Source: Solaris Internals (adaptive mutexes, rwlocks, turnstiles, priority inheritance); the sentences are this project's own.
use Rattle.std.specs.Prelude.{ℕ, List, [], ◌++◌, codes, nat_lt, Option, None, if◌then◌else◌}
use Rattle.sd_types.specs.declared.numbers.CpuId.{CpuId}
use Rattle.sd_types.specs.declared.numbers.ThreadId.{ThreadId}
use Rattle.sd_types.specs.declared.numbers.LockId.{LockId}
use Rattle.sd_types.specs.declared.events.Put.{Put}
use Rattle.sd_types.specs.declared.works.Work.{Work}
use Rattle.sd_state.specs.declared.states.LockState.{LockState}
use Rattle.sd_state.specs.declared.states.LockState.TheVariants.{Free, Owned, ReadHeld, Passing}
use Rattle.sd_state.specs.declared.states.State.{State}
use Rattle.sd_state.specs.States.{thread_of, eff_of}
use Rattle.sd_machine.specs.Bodies.{eff_as_with}
use Rattle.sd_machine.specs.Threads.{greater, greatest_waiting, has_waiters, lock_of}
use Rattle.sd_story.specs.Words.{thread_then, lock_then, cpu_then, number_then, requeued_words, runnable_words, change_words}

unfoldable pub enter_sentence : Work → ThreadId → LockId → List ℕ
enter_sentence w t l = thread_then w t (codes " takes the mutex ") ++ lock_then w l []

unfoldable pub read_sentence : Work → ThreadId → LockId → List ℕ
read_sentence w t l = thread_then w t (codes " takes ") ++ lock_then w l (codes " to read")

unfoldable pub write_sentence : Work → ThreadId → LockId → List ℕ
write_sentence w t l = thread_then w t (codes " takes ") ++ lock_then w l (codes " to write")

-- the greatest priority that will wait for the lock with thread t
abbrev pub waiting_with : State → ThreadId → LockId → ℕ
waiting_with s t l = greater (eff_of s t.0) (greatest_waiting l.0 s.threads)

-- who holds the lock, and what its owner will inherit
abbrev pub block_words : Work → ℕ → LockState → List ℕ
block_words w p Free = []
block_words w p (Owned o) = codes ", which " ++ thread_then w o (codes " owns: it is to inherit ") ++ number_then p []
block_words w p (ReadHeld n) = codes ", which readers hold"
block_words w p (Passing c n) = []

unfoldable pub block_sentence : Work → State → ThreadId → LockId → List ℕ
block_sentence w s t l = thread_then w t (codes " blocks on ") ++ lock_then w l [] ++ block_words w (waiting_with s t l) (lock_of s l.0)

unfoldable pub will_sentence : Work → State → LockId → ThreadId → ℕ → Option Put → List ℕ
will_sentence w s l o p at =
    thread_then w o (codes " inherits through ") ++ lock_then w l (codes ": its priority ") ++ change_words (eff_of s o.0) p ++ requeued_words at

-- why the walk ends
abbrev pub end_words : LockState → List ℕ
end_words Free = codes ", which is free"
end_words (Owned o) = []
end_words (ReadHeld n) = codes ", which readers hold"
end_words (Passing c n) = codes ", which is being handed over"

unfoldable pub end_sentence : Work → State → LockId → List ℕ
end_sentence w s l = codes "the walk ends at " ++ lock_then w l [] ++ end_words (lock_of s l.0)

-- the effective priority of thread t without what it inherits through the lock
abbrev pub left_priority : State → ThreadId → LockId → ℕ
left_priority s t l = eff_as_with (thread_of s t.0).body.class l None (thread_of s t.0).body

-- the thread falls from one priority to another, where the other is less
unfoldable pub fall_words : ℕ → ℕ → List ℕ
fall_words before after = if nat_lt after before then codes "; its priority " ++ change_words before after else []

unfoldable pub waiters_words : State → LockId → List ℕ
waiters_words s l = if has_waiters s l.0 then codes ", for which others wait" else codes ", for which nobody waits"

unfoldable pub exit_sentence : Work → State → ThreadId → LockId → List ℕ
exit_sentence w s t l =
    thread_then w t (codes " gives up ") ++ lock_then w l [] ++ waiters_words s l ++ fall_words (eff_of s t.0) (left_priority s t l)

unfoldable pub unblock_sentence : Work → CpuId → LockId → ThreadId → Put → List ℕ
unblock_sentence w c l u at = cpu_then c (codes " wakes the best that waits for ") ++ lock_then w l (codes ": ") ++ runnable_words w u at

unfoldable pub grant_sentence : Work → CpuId → LockId → ThreadId → Put → List ℕ
grant_sentence w c l u at = cpu_then c (codes " hands ") ++ lock_then w l (codes " over: ") ++ runnable_words w u at

unfoldable pub passed_sentence : Work → LockId → List ℕ
passed_sentence w l = codes "no reader is left to whom " ++ lock_then w l (codes " is to be handed")
