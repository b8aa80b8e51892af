-- A thread with its effective priority.
-- Source: this project's own.
use Rattle.std.specs.Prelude.{ℕ}
use Rattle.sd_types.specs.declared.numbers.ThreadId.{ThreadId}
use Rattle.sd_state.specs.declared.states.State.{State}
use Rattle.sd_state.specs.States.{eff_of}
use Rattle.sd_machine.specs.Threads.{thread_id}
use Rattle.sd_record.specs.Records.{ThreadRecord}
use Rattle.sd_homes.specs.Standing.{rank_of}

-- as a state has it
abbrev pub ranked_in : State → ℕ → ThreadId × ℕ
ranked_in s t = (thread_id t, eff_of s t)

-- as its record has it
abbrev pub with_rank : ThreadRecord → ThreadId × ℕ
with_rank r = (r.id, rank_of r)
