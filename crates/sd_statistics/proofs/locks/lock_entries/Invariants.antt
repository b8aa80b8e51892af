use Rattle.std.proofs.Common.{◌≡◌, take}
use Rattle.std.specs.Prelude.{filter}
use Rattle.sd_statistics.specs.Locks.{is_about}
use Rattle.sd_statistics.proofs.locks.lock_entries.Given as goal

abbrev pub invariant-loop-x : goal.invariant-loop-x
invariant-loop-x l = l.own.items ≡ filter (is_about l.l) (take l.x-index l.happenings)
