use Rattle.std.proofs.Common.{◌≡◌, ◌≤◌, ◌==◌, not, filter, length, take}
use Rattle.sd_dispatcher.proofs.choosing.others.Given as goal

abbrev pub invariant-loop-d : goal.invariant-loop-d
invariant-loop-d l =
    (l.others.items ≡ filter (λ d. not (d.0 == l.c.0)) (take l.d-index l.cpus)) × (length l.others.items ≤ l.d-index)
