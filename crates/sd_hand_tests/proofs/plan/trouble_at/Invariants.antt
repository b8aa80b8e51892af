use Rattle.std.proofs.Common.{◌≡◌, ℕ, ◌<◌, false, ◌==◌, get_or}
use Rattle.sd_hand_tests.specs.declared.plan.Trouble.{Trouble}
use Rattle.sd_hand_tests.proofs.plan.trouble_at.Given as goal

abbrev pub invariant-loop-trouble : goal.invariant-loop-trouble
invariant-loop-trouble l = (j : ℕ) (d : Trouble) → j < l.trouble-index → ((get_or l.plan j d).call == l.call) ≡ false
