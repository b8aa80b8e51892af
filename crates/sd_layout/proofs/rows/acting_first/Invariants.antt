use Rattle.std.proofs.Common.{◌≡◌}
use Rattle.std.specs.Prelude.{filter, not}
use Rattle.std.specs.List.{range_with_len}
use Rattle.sd_layout.specs.Rows.{acts}
use Rattle.sd_layout.proofs.rows.acting_first.Given as goal

abbrev pub invariant-loop-t : goal.invariant-loop-t
invariant-loop-t l = record {
  first : l.first.items ≡ filter (acts l.work l.frame l.history) (range_with_len 0 l.t);
  others : l.others.items ≡ filter (λ t. not (acts l.work l.frame l.history t)) (range_with_len 0 l.t);
}
