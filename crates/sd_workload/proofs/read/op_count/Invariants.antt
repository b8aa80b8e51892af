use Rattle.std.proofs.Common.{◌≡◌, ◌*◌, ◌≤◌, length, take, sum_by}
use Rattle.sd_workload.proofs.read.op_count.Given as goal

abbrev pub invariant-loop-thread : goal.invariant-loop-thread
invariant-loop-thread l = record {
  count : l.count ≡ sum_by (λ t. length t.script.ops) (take l.thread-index l.threads);
  bound : l.count ≤ 256 * l.thread-index;
}
