use Rattle.std.proofs.Common.{◌≡◌, ◌<◌, ℕ, false}
use Rattle.sd_state.specs.States.{thread_of}
use Rattle.sd_search.specs.Questions.{is_left}
use Rattle.sd_search.proofs.judging.is_stuck.Given as goal

abbrev pub invariant-loop-t : goal.invariant-loop-t
invariant-loop-t l = (u : ℕ) → u < l.t → is_left l.work u (thread_of l.state u) ≡ false
