use Rattle.std.proofs.Common.{ℕ, ◌<◌, ◌≤◌, get_or}
use Rattle.sd_world.specs.Plain.{no_actor}
use Rattle.sd_world.proofs.turns.first_behind.Given as goal

abbrev pub invariant-loop-i : goal.invariant-loop-i
invariant-loop-i l = (j : ℕ) → j < l.i → l.count ≤ (get_or l.actors j no_actor).count
