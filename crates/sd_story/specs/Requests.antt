-- Sentences on classes, processor sets and bindings. Each is said of the state before the entry.
-- Source: priocntl(2), psrset(1M), pbind(1M); the sentences are this project's own.
use Rattle.std.specs.Prelude.{ℕ, List, [], ◌++◌, codes, Option, Some, None}
use Rattle.sd_types.specs.declared.numbers.CpuId.{CpuId}
use Rattle.sd_types.specs.declared.numbers.ThreadId.{ThreadId}
use Rattle.sd_types.specs.declared.numbers.SetId.{SetId}
use Rattle.sd_types.specs.declared.events.Put.{Put}
use Rattle.sd_types.specs.declared.events.Denied.{Denied}
use Rattle.sd_types.specs.declared.events.Denied.TheVariants as denied
use Rattle.sd_types.specs.declared.events.PrioAnswer.{PrioAnswer}
use Rattle.sd_types.specs.declared.events.PrioAnswer.TheVariants as prio
use Rattle.sd_types.specs.declared.events.AssignAnswer.{AssignAnswer}
use Rattle.sd_types.specs.declared.events.AssignAnswer.TheVariants as assign
use Rattle.sd_types.specs.declared.events.BindAnswer.{BindAnswer}
use Rattle.sd_types.specs.declared.events.BindAnswer.TheVariants as bind
use Rattle.sd_types.specs.declared.works.Work.{Work}
use Rattle.sd_state.specs.declared.states.State.{State}
use Rattle.sd_state.specs.States.{eff_of}
use Rattle.sd_story.specs.Words.{thread_then, cpu_then, set_words, requeued_words, runnable_words, change_words}

unfoldable pub age_sentence : Work → State → ThreadId → ℕ → List ℕ
age_sentence w s t p = thread_then w t (codes " has waited a second more: its priority ") ++ change_words (eff_of s t.0) p

abbrev pub denied_words : Denied → List ℕ
denied_words denied.ESRCH = codes ": that thread has ended (ESRCH)"
denied_words denied.EINVAL = codes ": that cannot be granted (EINVAL)"
denied_words denied.EPERM = codes ": it may not (EPERM)"

abbrev pub prio_words : ℕ → PrioAnswer → List ℕ
prio_words before (prio.Changed p at) = codes ", whose priority " ++ change_words before p ++ requeued_words at
prio_words before (prio.Refused d) = denied_words d

unfoldable pub prio_sentence : Work → State → ThreadId → ThreadId → PrioAnswer → List ℕ
prio_sentence w s t u answer = thread_then w t (codes " sets the class or priority of ") ++ thread_then w u [] ++ prio_words (eff_of s u.0) answer

abbrev pub assign_words : AssignAnswer → List ℕ
assign_words assign.Changed = codes ": it closes"
assign_words assign.EPERM = codes ": the thread may not (EPERM)"
assign_words assign.EINVAL = codes ": it is there already (EINVAL)"
assign_words assign.EBUSY = codes ": it is closing, the last open one of its set, or has a bound thread (EBUSY)"

unfoldable pub assign_sentence : Work → ThreadId → CpuId → SetId → AssignAnswer → List ℕ
assign_sentence w t d to answer = thread_then w t (codes " assigns ") ++ cpu_then d (codes " to ") ++ set_words w to ++ assign_words answer

unfoldable pub move_sentence : Work → CpuId → ThreadId → Put → List ℕ
move_sentence w c t at = cpu_then c (codes " is closing, and sends a thread away: ") ++ runnable_words w t at

unfoldable pub joined_sentence : Work → CpuId → SetId → List ℕ
joined_sentence w c to = cpu_then c (codes " is empty, and joins ") ++ set_words w to

abbrev pub bind_words : BindAnswer → List ℕ
bind_words (bind.Changed at) = requeued_words at
bind_words bind.ESRCH = codes ": that thread has ended (ESRCH)"
bind_words bind.EINVAL = codes ": that cannot be granted (EINVAL)"
bind_words bind.EPERM = codes ": it may not (EPERM)"
bind_words bind.EBUSY = codes ": the processor is closing (EBUSY)"

-- to a processor, or to none
abbrev pub bound_sentence : Work → ThreadId → ThreadId → Option CpuId → List ℕ
bound_sentence w t u None = thread_then w t (codes " unbinds ") ++ thread_then w u []
bound_sentence w t u (Some d) = thread_then w t (codes " binds ") ++ thread_then w u (codes " to ") ++ cpu_then d []

unfoldable pub bind_sentence : Work → ThreadId → ThreadId → Option CpuId → BindAnswer → List ℕ
bind_sentence w t u d answer = bound_sentence w t u d ++ bind_words answer
