use Rattle.std.proofs.Common.{◌≡◌, ◌++◌}
use Rattle.std.specs.Prelude.{slice_get}
use Rattle.std.specs.List.{flat_map, range_with_len}
use Rattle.sd_stretches.specs.Changes.{onset_if}
use Rattle.sd_stretches.proofs.changes.push_onsets.Given as goal

abbrev pub invariant-loop-t : goal.invariant-loop-t
invariant-loop-t l = l.out.items ≡ l.initial.out.items ++ flat_map (λ t. onset_if t l.first l.tick (slice_get l.old t) (slice_get l.new t)) (range_with_len 0 l.t)
