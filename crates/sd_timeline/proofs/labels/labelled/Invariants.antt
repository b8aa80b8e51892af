use Rattle.std.proofs.Common.{◌≡◌, take}
use Rattle.std.specs.List.{flat_map}
use Rattle.sd_timeline.specs.Labels.{labelled_by}
use Rattle.sd_timeline.proofs.labels.labelled.Given as goal

abbrev pub invariant-loop-t : goal.invariant-loop-t
invariant-loop-t l = l.found.items ≡ flat_map (labelled_by l.work l.layout l.history) (take l.t-index l.layout.rows)
