-- The duties of a walk, by the list and the record of a thread.
-- Source: this project's own; see `sd_machine`'s Walking and Prioritising.
use Rattle.std.specs.Prelude.{ℕ, ◌&&◌, ◌||◌, ◌==◌, int_lt, Option, Some, None, if◌then◌else◌}
use Rattle.std.specs.Ordering.{int_eq}
use Rattle.sd_types.specs.declared.events.Duty.{Duty}
use Rattle.sd_types.specs.declared.events.Duty.TheVariants.{Nothing, Walk}
use Rattle.sd_types.specs.declared.numbers.CpuId.{CpuId}
use Rattle.sd_types.specs.declared.numbers.ThreadId.{ThreadId}
use Rattle.sd_state.specs.declared.states.State.{State}
use Rattle.sd_machine.specs.Changes.{set_duty}
use Rattle.sd_record.specs.Records.{ThreadRecord}
use Rattle.sd_homes.specs.declared.list_id.ListId.{ListId}
use Rattle.sd_homes.specs.declared.list_id.ListId.TheVariants.{Waits}
use Rattle.sd_homes.specs.declared.home.Home.{Home}
use Rattle.sd_homes.specs.Families.{taken_from}

-- the thread of a home, if the list is one of those that wait for a lock
abbrev pub waiting_from : ℕ → ListId → Option Home → Option ThreadRecord
waiting_from t (Waits l side) home = taken_from t (Waits l side) home
waiting_from t _ home = None

-- the walk that begins where the thread waits
abbrev pub walk_at : ThreadId → ListId → Option ThreadRecord → Option Duty
walk_at t (Waits l side) (Some r) = Some (Walk l t r.key)
walk_at t _ _ = None

-- the walk that goes on from the owner o
abbrev pub next_walk_at : Duty → ThreadId → ListId → Option ThreadRecord → Duty
next_walk_at (Walk l seek key) o (Waits m side) (Some r) =
    if r.body.looped || ((seek.0 == o.0) && int_eq key r.key) then Nothing else if int_lt key r.key then Walk m o r.key else Walk m seek key
next_walk_at _ o _ _ = Nothing

-- the state with a duty, where there is one
abbrev pub given : State → CpuId → Option Duty → State
given s c None = s
given s c (Some d) = set_duty s c.0 d
