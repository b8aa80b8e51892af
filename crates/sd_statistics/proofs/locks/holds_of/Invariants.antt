use Rattle.std.proofs.Common.{◌≡◌, ◌≤◌, length, drop, reverse}
use Rattle.std.specs.Prelude.{filter}
use Rattle.sd_stretches.specs.Rows.{next_of}
use Rattle.sd_statistics.specs.Locks.{gives, holds_of}
use Rattle.sd_statistics.specs.Nexts.{AreNexts}
use Rattle.sd_statistics.proofs.locks.holds_of.Given as goal

abbrev pub invariant-loop-i : goal.invariant-loop-i
invariant-loop-i l =
    (l.i ≤ length l.own) × (reverse l.found.items ≡ holds_of l.entries l.end (drop l.i l.own))
    × AreNexts (λ t. next_of (filter (gives t) (drop l.i l.own))) l.nexts.items

abbrev pub decreases-loop-i : goal.decreases-loop-i
decreases-loop-i l = l.i
