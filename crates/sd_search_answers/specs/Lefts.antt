-- What is said of the threads that have operations left where a run ends: whether each runs, spins, is runnable, waits, sleeps or naps.
-- Source: Solaris Internals (thread states, adaptive mutexes); the words are this project's own.
use Rattle.std.specs.Prelude.{ℕ, Bool, true, false, List, [], ◌++◌, length, codes, flat_map, Option, Some, None, if◌then◌else◌}
use Rattle.std.specs.List.{range_with_len}
use Rattle.sd_types.specs.declared.events.Event.{Event}
use Rattle.sd_types.specs.declared.events.Event.TheVariants.{Spin}
use Rattle.sd_types.specs.declared.numbers.LockId.{LockId}
use Rattle.sd_types.specs.declared.scripts.Op.{Op}
use Rattle.sd_types.specs.declared.scripts.Op.TheVariants as op
use Rattle.sd_types.specs.declared.works.Work.{Work}
use Rattle.sd_state.specs.declared.states.Place.{Place}
use Rattle.sd_state.specs.declared.states.Place.TheVariants.{Running, Queued, RealTime, Waiting, Asleep, Napping, Ended}
use Rattle.sd_state.specs.declared.states.State.{State}
use Rattle.sd_state.specs.Operations.{op_of}
use Rattle.sd_state.specs.States.{thread_of}
use Rattle.sd_state.specs.Texts.{chan_name, lock_name, thread_name}
use Rattle.sd_machine.specs.Locking.{enter_event, read_event, write_event}
use Rattle.sd_machine.specs.Threads.{lock_of}
use Rattle.sd_search.specs.Questions.{is_left}

abbrev pub is_spin : Event → Bool
is_spin (Spin t l) = true
is_spin _ = false

abbrev pub lock_if : Bool → LockId → Option LockId
lock_if spins l = if spins then Some l else None

-- the lock for which a thread spins that runs: the event of its operation, as the locks stand, is a spin
abbrev pub spun_for : State → ℕ → Option Op → Option LockId
spun_for s t (Some (op.Enter l)) = lock_if (is_spin (enter_event s t l (lock_of s l.0))) l
spun_for s t (Some (op.Read l)) = lock_if (is_spin (read_event s t l (lock_of s l.0))) l
spun_for s t (Some (op.Write l)) = lock_if (is_spin (write_event t l (lock_of s l.0))) l
spun_for s t _ = None

abbrev pub running_words : Work → Option LockId → List ℕ
running_words w None = codes " runs"
running_words w (Some l) = codes " spins for " ++ lock_name w l.0

abbrev pub place_words : Work → State → ℕ → Place → List ℕ
place_words w s t (Running c) = running_words w (spun_for s t (op_of w t (thread_of s t).body))
place_words w s t (Queued c k) = codes " is runnable"
place_words w s t (RealTime p k) = codes " is runnable"
place_words w s t (Waiting l side k) = codes " waits for " ++ lock_name w l.0
place_words w s t (Asleep ch k) = codes " sleeps on " ++ chan_name w ch.0
place_words w s t (Napping c due) = codes " naps"
place_words w s t Ended = codes " has ended"

unfoldable pub left_line : Work → State → ℕ → List ℕ
left_line w s t = codes "thread " ++ thread_name w t ++ place_words w s t (thread_of s t).place ++ codes "\n"

-- a thread that has ended, or has no operations left, has no line
unfoldable pub line_if_left : Work → State → ℕ → List ℕ
line_if_left w s t = if is_left w t (thread_of s t) then left_line w s t else []

unfoldable pub lefts_text : Work → State → List ℕ
lefts_text w s = flat_map (line_if_left w s) (range_with_len 0 (length s.threads))
