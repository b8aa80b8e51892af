-- The duties whose keys come from where threads stand.
-- Source: this project's own; see `sd_machine`'s Walking, Prioritising and Sleeping.
use Rattle.std.specs.Prelude.{ℕ, Option}
use Rattle.sd_types.specs.declared.numbers.ChanId.{ChanId}
use Rattle.sd_types.specs.declared.numbers.CpuId.{CpuId}
use Rattle.sd_types.specs.declared.numbers.ThreadId.{ThreadId}
use Rattle.sd_state.specs.declared.states.State.{State}
use Rattle.sd_state.specs.States.{thread_of, cpu_of}
use Rattle.sd_machine.specs.Changes.{set_duty}
use Rattle.sd_machine.specs.Prioritising.{walk_from}
use Rattle.sd_machine.specs.Sleeping.{rouse_key}
use Rattle.sd_machine.specs.Threads.{best_sleeper_below}
use Rattle.sd_machine.specs.Walking.{next_walk}

-- where thread t waits, processor c walks from there on, seeking it
unfoldable pub walk_begun : State → CpuId → ThreadId → State
walk_begun s c t = walk_from s c t (thread_of s t.0).place

-- the walk of processor c goes on from the owner o, or ends there
unfoldable pub walk_gone_on : State → CpuId → ThreadId → State
walk_gone_on s c o = set_duty s c.0 (next_walk (cpu_of s c.0).duty o (thread_of s o.0).body.looped (thread_of s o.0).place)

-- the best on channel k of those that the duty of processor c is to wake
unfoldable pub next_to_rouse : State → CpuId → ChanId → Option ℕ
next_to_rouse s c k = best_sleeper_below s k.0 (rouse_key (cpu_of s c.0).duty)
