use Rattle.std.proofs.Common.{◌≡◌, ◌++◌, take}
use Rattle.std.specs.Prelude.{filter}
use Rattle.sd_timeline.specs.Legend.{occurs}
use Rattle.sd_timeline.proofs.legend.push_keys.Given as goal

abbrev pub invariant-loop-key : goal.invariant-loop-key
invariant-loop-key l = l.keys.items ≡ l.initial.keys.items ++ filter (occurs l.layout l.history l.drawn) (take l.key-index l.all)
