use Rattle.std.proofs.Common.{◌≡◌, true, take}
use Rattle.std.specs.List.{list_all}
use Rattle.sd_entries.specs.Fitting.{is_byte}
use Rattle.sd_audit.proofs.ranges.are_bytes.Given as goal

abbrev pub invariant-loop-number : goal.invariant-loop-number
invariant-loop-number l = list_all is_byte (take l.number-index l.numbers) ≡ true
