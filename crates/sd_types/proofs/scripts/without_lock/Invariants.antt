use Rattle.std.proofs.Common.{◌≡◌, ◌≤◌, length, take}
use Rattle.sd_types.specs.Scripts.{without_lock}
use Rattle.sd_types.proofs.scripts.without_lock.Given as goal

abbrev pub invariant-loop-lock : goal.invariant-loop-lock
invariant-loop-lock l =
    (l.rest.items ≡ without_lock l.l (take l.lock-index l.lock-items)) × (length l.rest.items ≤ l.lock-index)
