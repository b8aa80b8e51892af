-- Places and duties without their keys, and the keys that an entry gives.
-- Source: this project's own.
use Rattle.std.specs.Prelude.{ℕ, ⊤}
use Rattle.sd_types.specs.declared.numbers.CpuId.{CpuId}
use Rattle.sd_types.specs.declared.events.Duty.{Duty}
use Rattle.sd_types.specs.declared.events.Duty.TheVariants as duty
use Rattle.sd_state.specs.declared.states.Place.{Place}
use Rattle.sd_state.specs.declared.states.Place.TheVariants as place
use Rattle.sd_state.specs.declared.states.State.{State}
use Rattle.sd_machine.specs.Changes.{back_key, key_at}
use Rattle.sd_machine.specs.Needs.{IsChan, IsLock}
use Rattle.sd_store.specs.declared.spots.Chore.{Chore}
use Rattle.sd_store.specs.declared.spots.Chore.TheVariants as chore
use Rattle.sd_store.specs.declared.spots.Destination.{Destination}
use Rattle.sd_store.specs.declared.spots.Destination.TheVariants as to
use Rattle.sd_store.specs.declared.spots.Spot.{Spot}
use Rattle.sd_store.specs.declared.spots.Spot.TheVariants as spot
use Rattle.sd_store.specs.declared.spots.Task.{Task}
use Rattle.sd_store.specs.declared.spots.Task.TheVariants as task

abbrev pub spot_of : Place → Spot
spot_of (place.Running c) = spot.Running c
spot_of (place.Queued c key) = spot.Queued c
spot_of (place.RealTime p key) = spot.RealTime p
spot_of (place.Waiting l side key) = spot.Waiting l side
spot_of (place.Asleep k key) = spot.Asleep k
spot_of (place.Napping c due) = spot.Napping c
spot_of place.Ended = spot.Ended

abbrev pub task_of : Duty → Task
task_of duty.Nothing = task.Nothing
task_of (duty.Walk l seek key) = task.Walk l seek
task_of (duty.WakeMutex l) = task.WakeMutex l
task_of (duty.GrantWriter l) = task.GrantWriter l
task_of (duty.GrantReaders l) = task.GrantReaders l
task_of (duty.Rouse k below) = task.Rouse k
task_of (duty.Age u) = task.Age u

-- the duty that has no key
abbrev pub duty_of : Chore → Duty
duty_of chore.Nothing = duty.Nothing
duty_of (chore.WakeMutex l) = duty.WakeMutex l
duty_of (chore.GrantWriter l) = duty.GrantWriter l
duty_of (chore.GrantReaders l) = duty.GrantReaders l
duty_of (chore.Age u) = duty.Age u

-- the place to which a thread goes by entry n when it leaves processor c
abbrev pub place_by : ℕ → CpuId → Destination → Place
place_by n c (to.Queue d end) = place.Queued d (key_at n end)
place_by n c (to.RealTime p end) = place.RealTime p (key_at n end)
place_by n c (to.Turnstile l side) = place.Waiting l side (back_key n)
place_by n c (to.SleepQueue k) = place.Asleep k (back_key n)
place_by n c (to.Nap due) = place.Napping c due
place_by n c to.Nowhere = place.Ended

-- the lock or the channel is there
abbrev pub IsDestination : State → Destination → Type 0
IsDestination s (to.Turnstile l side) = IsLock s l
IsDestination s (to.SleepQueue k) = IsChan s k
IsDestination s _ = ⊤
