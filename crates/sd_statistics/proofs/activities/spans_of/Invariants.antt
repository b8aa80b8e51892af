use Rattle.std.proofs.Common.{◌≡◌, take}
use Rattle.std.specs.List.{flat_map}
use Rattle.sd_statistics.specs.Activities.{span_if}
use Rattle.sd_statistics.proofs.activities.spans_of.Given as goal

abbrev pub invariant-loop-x : goal.invariant-loop-x
invariant-loop-x l = l.found.items ≡ flat_map (span_if l.activity) (take l.x-index l.pieces)
