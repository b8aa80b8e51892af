-- Which lock a processor passes on, by its duty.
use Rattle.std.specs.Prelude.{true, false, Option, Some, None}
use Rattle.sd_types.specs.declared.events.Duty.{Duty}
use Rattle.sd_types.specs.declared.events.Duty.TheVariants.{WakeMutex, GrantWriter, GrantReaders}
use Rattle.sd_machine.specs.Holders as H

-- which lock a duty passes on; to one waiter alone, where it has no reader
abbrev pub pass_of : Duty → Option H.Pass
pass_of (WakeMutex l) = Some (record { lock = l.0; alone = true })
pass_of (GrantWriter l) = Some (record { lock = l.0; alone = true })
pass_of (GrantReaders l) = Some (record { lock = l.0; alone = false })
pass_of _ = None
