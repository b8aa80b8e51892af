-- Which events take a tick of their processor.
-- Source: this project's own.
use Rattle.std.specs.Prelude.{Bool, true, false}
use Rattle.sd_types.specs.declared.events.Event.{Event}
use Rattle.sd_types.specs.declared.events.Event.TheVariants.{Tick, Spin, Idle}

abbrev pub ticks : Event → Bool
ticks (Tick t) = true
ticks (Spin t l) = true
ticks Idle = true
ticks _ = false
