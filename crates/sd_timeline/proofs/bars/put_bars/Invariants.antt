use Rattle.std.proofs.Common.{◌≡◌, ◌++◌, take}
use Rattle.std.specs.List.{flat_map}
use Rattle.sd_layout.specs.declared.layouts.Row.TheVariants.{Thread}
use Rattle.sd_timeline.specs.Bars.{stretch_bar}
use Rattle.sd_timeline.proofs.bars.put_bars.Given as goal

abbrev pub invariant-loop-x : goal.invariant-loop-x
invariant-loop-x l = l.out.items ≡ l.initial.out.items ++ flat_map (stretch_bar l.work l.layout (Thread l.t)) (take l.x-index l.own)
