use Rattle.std.proofs.Common.{◌≡◌, length, take}
use Rattle.sd_search.proofs.copying.put_threads.Given as goal

abbrev pub invariant-loop-i : goal.invariant-loop-i
invariant-loop-i l = record {
  front : take l.i l.threads ≡ take l.i l.from;
  long : length l.threads ≡ length l.from;
}
