use Rattle.std.proofs.Common.{◌≡◌, ◌≤◌, Some, take}
use Rattle.std.specs.List.{count_by}
use Rattle.sd_encoding.specs.Order.{is_below, key_in}
use Rattle.sd_encoding.proofs.ranks.duties_below.Given as goal

abbrev pub invariant-loop-cpu : goal.invariant-loop-cpu
invariant-loop-cpu l = record {
  many : l.many ≡ count_by (λ x. is_below (key_in x.duty) (Some l.key)) (take l.cpu-index l.cpus);
  few : l.many ≤ l.cpu-index;
}
