use Rattle.std.proofs.Common.{◌≡◌, ◌++◌, take}
use Rattle.std.specs.List.{flat_map}
use Rattle.sd_timeline.specs.Bars.{run_bar}
use Rattle.sd_timeline.proofs.bars.put_run_bars.Given as goal

abbrev pub invariant-loop-x : goal.invariant-loop-x
invariant-loop-x l = l.out.items ≡ l.initial.out.items ++ flat_map (run_bar l.work l.layout) (take l.x-index l.own)
