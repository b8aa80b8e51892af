-- A kept clock as plain data.
use Rattle.sd_tasks.specs.WrittenKept.{lines_kept}
use Rattle.sd_releases.specs.declared.clocks.ClockSoFar.{ClockSoFar}
use Rattle.sd_releases.specs.Clocks.{Clock}

abbrev pub clock_kept : ClockSoFar → Clock
clock_kept k = record { ops = lines_kept k.ops.items; tick = k.tick }
