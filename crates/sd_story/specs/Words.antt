-- The words of which the sentences on a run are made: a name or a number, and the words behind it.
-- Source: this project's own.
use Rattle.std.specs.Prelude.{ℕ, List, [], ◌++◌, codes, decimal, nat_lt, Option, Some, None, if◌then◌else◌}
use Rattle.sd_types.specs.declared.numbers.CpuId.{CpuId}
use Rattle.sd_types.specs.declared.numbers.ThreadId.{ThreadId}
use Rattle.sd_types.specs.declared.numbers.LockId.{LockId}
use Rattle.sd_types.specs.declared.numbers.ChanId.{ChanId}
use Rattle.sd_types.specs.declared.numbers.SetId.{SetId}
use Rattle.sd_types.specs.declared.events.Put.{Put}
use Rattle.sd_types.specs.declared.events.Put.TheVariants.{Cpu, RealTime as OnRealTime}
use Rattle.sd_types.specs.declared.works.Work.{Work}
use Rattle.sd_state.specs.Texts.{thread_name, lock_name, chan_name}
use Rattle.sd_machine.specs.Texts.{set_name}

unfoldable pub thread_then : Work → ThreadId → List ℕ → List ℕ
thread_then w t words = thread_name w t.0 ++ words

unfoldable pub lock_then : Work → LockId → List ℕ → List ℕ
lock_then w l words = lock_name w l.0 ++ words

unfoldable pub chan_then : Work → ChanId → List ℕ → List ℕ
chan_then w k words = chan_name w k.0 ++ words

unfoldable pub cpu_then : CpuId → List ℕ → List ℕ
cpu_then c words = codes "processor " ++ decimal c.0 ++ words

unfoldable pub number_then : ℕ → List ℕ → List ℕ
number_then n words = decimal n ++ words

-- a processor set by its name, or the default partition, which has none
unfoldable pub set_words : Work → SetId → List ℕ
set_words w p = if nat_lt 0 p.0 then codes "the set " ++ set_name w p.0 else codes "the default partition"

-- where a thread stands that was made runnable
abbrev pub place_words : Put → List ℕ
place_words (Cpu x) = codes " on the queue of " ++ cpu_then x []
place_words (OnRealTime x) = codes " on the real-time queue, for " ++ cpu_then x []

-- a queued thread was put elsewhere, or nowhere
abbrev pub requeued_words : Option Put → List ℕ
requeued_words None = []
requeued_words (Some at) = codes "; it is queued again" ++ place_words at

unfoldable pub runnable_words : Work → ThreadId → Put → List ℕ
runnable_words w t at = thread_then w t (codes " is runnable") ++ place_words at

-- how a priority changes
unfoldable pub change_words : ℕ → ℕ → List ℕ
change_words before after =
    if nat_lt before after then codes "rises from " ++ number_then before (codes " to ") ++ number_then after []
    else if nat_lt after before then codes "falls from " ++ number_then before (codes " to ") ++ number_then after []
    else codes "stays " ++ number_then after []
