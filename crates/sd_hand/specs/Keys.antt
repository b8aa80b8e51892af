-- Spots and keys of those who stand in a list.
-- Source: this project's own.
use Rattle.std.specs.Prelude.{ℤ, pos, Bool, false, ◌&&◌, ◌==◌, Option, Some, None}
use Rattle.std.specs.Ordering.{int_eq}
use Rattle.sd_types.specs.declared.numbers.ThreadId.{ThreadId}
use Rattle.sd_types.specs.declared.events.Duty.{Duty}
use Rattle.sd_types.specs.declared.events.Duty.TheVariants.{Walk}
use Rattle.sd_record.specs.Records.{ThreadRecord}
use Rattle.sd_store.specs.declared.spots.Spot.{Spot}
use Rattle.sd_store.specs.declared.spots.Spot.TheVariants as spot
use Rattle.sd_homes.specs.declared.list_id.ListId.{ListId}
use Rattle.sd_homes.specs.declared.list_id.ListId.TheVariants.{Runs, Queues, Urgent, Waits, Sleeps, Naps, Ends}

abbrev pub spot_at : ListId → Spot
spot_at (Runs c) = spot.Running c
spot_at (Queues c) = spot.Queued c
spot_at (Urgent p) = spot.RealTime p
spot_at (Waits l side) = spot.Waiting l side
spot_at (Sleeps k) = spot.Asleep k
spot_at (Naps c) = spot.Napping c
spot_at (Ends c) = spot.Ended

-- the walk has come back to the thread that it seeks, at the owner o with this key in this list
abbrev pub is_back_at : Duty → ThreadId → ListId → ℤ → Bool
is_back_at (Walk l seek sought) o (Waits m side) key = (seek.0 == o.0) && int_eq sought key
is_back_at _ o _ key = false

-- the key of a thread that was found
abbrev pub key_or_zero : Option ThreadRecord → ℤ
key_or_zero None = pos 0
key_or_zero (Some r) = r.key
