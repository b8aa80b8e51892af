use Rattle.std.proofs.Common.{◌≡◌, ◌≤◌, length, drop}
use Rattle.sd_flat.specs.Passes.{pass}
use Rattle.sd_flat.proofs.passes.pass.Given as goal

abbrev pub invariant-loop-i : goal.invariant-loop-i
invariant-loop-i l = (l.i ≤ length l.threads) × (l.numbers ≡ pass l.which (drop l.i l.threads))

abbrev pub decreases-loop-i : goal.decreases-loop-i
decreases-loop-i l = l.i
