use Rattle.std.proofs.Common.{◌≡◌, ◌++◌, take}
use Rattle.std.specs.List.{flat_map}
use Rattle.sd_canonical.specs.Canonical.{chan_text}
use Rattle.sd_canonical.proofs.lines.put_chans.Given as goal

abbrev pub invariant-loop-chan : goal.invariant-loop-chan
invariant-loop-chan l = l.out.items ≡ l.initial.out.items ++ flat_map chan_text (take l.chan-index l.work.chans)
