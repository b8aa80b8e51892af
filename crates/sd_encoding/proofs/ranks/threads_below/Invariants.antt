use Rattle.std.proofs.Common.{◌≡◌, ◌≤◌, Some, take}
use Rattle.std.specs.List.{count_by}
use Rattle.sd_encoding.specs.Order.{is_below, key_at}
use Rattle.sd_encoding.proofs.ranks.threads_below.Given as goal

abbrev pub invariant-loop-thread : goal.invariant-loop-thread
invariant-loop-thread l = record {
  many : l.many ≡ count_by (λ x. is_below (key_at x.place) (Some l.key)) (take l.thread-index l.threads);
  few : l.many ≤ l.thread-index;
}
