-- The home with which a processor passes a gate.
-- Source: this project's own; which home a turn looks at first follows from the order of `sd_machine`'s Plans.
use Rattle.std.specs.Prelude.{Bool, is_some, ◌%◌}
use Rattle.sd_types.specs.declared.numbers.CpuId.{CpuId}
use Rattle.sd_types.specs.declared.numbers.HomeId.{HomeId}
use Rattle.sd_types.specs.declared.numbers.HomeId.TheVariants as home
use Rattle.sd_types.specs.declared.events.Duty.{Duty}
use Rattle.sd_types.specs.declared.events.Duty.TheVariants as duty
use Rattle.sd_hand.specs.declared.acting.Acting.{Acting}
use Rattle.sd_hand.specs.Hands.{held}

-- the processor's own where it has no duty or ages its queue, and else the chain of its lock or the sleepers of its channel
abbrev pub first_home : CpuId → Duty → HomeId
first_home c duty.Nothing = home.Cpu c
first_home c (duty.Age u) = home.Cpu c
first_home c (duty.Walk l seek key) = home.Chain (l.0 % 64)
first_home c (duty.WakeMutex l) = home.Chain (l.0 % 64)
first_home c (duty.GrantWriter l) = home.Chain (l.0 % 64)
first_home c (duty.GrantReaders l) = home.Chain (l.0 % 64)
first_home c (duty.Rouse k below) = home.Sleepers (k.0 % 64)

-- the hand has it
abbrev pub holds_first : Acting → Bool
holds_first x = is_some (held (first_home x.actor.cpu x.actor.duty) x.hand.slots)
