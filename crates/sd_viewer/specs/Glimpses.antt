-- What a thread is seen to do where it stands.
-- Source: this project's own.
use Rattle.sd_store.specs.declared.spots.Spot.{Spot}
use Rattle.sd_store.specs.declared.spots.Spot.TheVariants as spot
use Rattle.sd_stretches.specs.declared.sights.Doing.{Doing}
use Rattle.sd_stretches.specs.declared.sights.Doing.TheVariants.{Running, Runnable, Waiting, Asleep, Napping, Ended}

abbrev pub doing_at : Spot → Doing
doing_at (spot.Running c) = Running c
doing_at (spot.Queued c) = Runnable
doing_at (spot.RealTime p) = Runnable
doing_at (spot.Waiting l side) = Waiting l
doing_at (spot.Asleep k) = Asleep k
doing_at (spot.Napping c) = Napping
doing_at spot.Ended = Ended
