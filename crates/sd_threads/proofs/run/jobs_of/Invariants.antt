use Rattle.std.proofs.Common.{◌≡◌, ◌++◌, length}
use Rattle.std.specs.Vec.Iter.{into_iter_items, into_iter_len}
use Rattle.sd_threads.specs.Jobs.{seats_in}
use Rattle.sd_threads.proofs.run.jobs_of.Given as goal

abbrev pub invariant-loop-seat : goal.invariant-loop-seat
invariant-loop-seat l = (l.yielded ++ into_iter_items l.seat-iterator ≡ into_iter_items l.initial.seat-iterator)
    × (seats_in l.jobs.items ≡ l.yielded)
    × (into_iter_len l.seat-iterator ≡ length (into_iter_items l.seat-iterator))
