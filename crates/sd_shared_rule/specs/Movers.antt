-- The thread that an event may move to another place.
-- Source: this project's own; see `sd_machine`'s Events.
use Rattle.std.specs.Prelude.{◌≡◌, ℕ, Option, Some, None, option_map}
use Rattle.sd_types.specs.declared.numbers.ThreadId.{ThreadId}
use Rattle.sd_types.specs.declared.events.Event.{Event}
use Rattle.sd_machine.specs.Threads.{thread_id}
use Rattle.sd_frames.specs.Moves.{Stride, Comes, Goes, Falls, Leaves, Wakes, WakesAny, Reorders, Rises, Changes, Binds, stride_of}

-- by the way in which it moves one
abbrev pub strider : Option Stride → Option ThreadId
strider None = None
strider (Some (Comes t)) = Some (thread_id t)
strider (Some (Goes t whither)) = Some (thread_id t)
strider (Some (Falls t end)) = Some (thread_id t)
strider (Some (Leaves t d)) = Some (thread_id t)
strider (Some (Wakes t at)) = Some (thread_id t)
strider (Some (WakesAny u)) = option_map (λ x. x.0) u
strider (Some (Reorders o at)) = Some o
strider (Some (Rises t)) = Some (thread_id t)
strider (Some (Changes t u answer)) = Some u
strider (Some (Binds u answer)) = Some (thread_id u)

abbrev pub mover : Event → Option ThreadId
mover e = strider (stride_of e)

-- the thread of this number is the one that the event may move
abbrev pub IsMover : Event → ℕ → Type 0
IsMover e t = (u : ThreadId) × (mover e ≡ Some u) × (u.0 ≡ t)
