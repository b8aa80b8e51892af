use Rattle.std.proofs.Common.{◌≡◌, ◌++◌}
use Rattle.std.specs.List.{flat_map, range_with_len}
use Rattle.sd_timeline.specs.Picture.{thread_text}
use Rattle.sd_timeline.proofs.picture.put_threads.Given as goal

abbrev pub invariant-loop-t : goal.invariant-loop-t
invariant-loop-t l = l.out.items ≡ l.initial.out.items ++ flat_map (thread_text l.work l.layout l.history l.holds l.s) (range_with_len 0 l.t)
