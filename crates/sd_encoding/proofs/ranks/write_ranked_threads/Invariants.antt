use Rattle.std.proofs.Common.{◌≡◌, ◌++◌, ◌∷◌, length, take}
use Rattle.std.specs.List.{All, flat_map}
use Rattle.sd_encoding.specs.Fits.{FitsThread}
use Rattle.sd_encoding.specs.Numbers.{thread as thread_numbers}
use Rattle.sd_encoding.specs.Ranks.{ranked_thread}
use Rattle.sd_encoding.proofs.ranks.write_ranked_threads.Given as goal

abbrev pub invariant-loop-thread : goal.invariant-loop-thread
invariant-loop-thread l = record {
  written : l.into ≡ l.fn.into ++ length l.fn.threads ∷ flat_map (λ x. thread_numbers (ranked_thread l.fn.state x)) (take l.thread-index l.fn.threads);
  fits : All (λ x. FitsThread (ranked_thread l.fn.state x)) (take l.thread-index l.fn.threads);
}
