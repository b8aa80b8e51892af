use Rattle.std.proofs.Common.{◌≡◌, ◌<◌, ℕ}
use Rattle.sd_state.specs.Texts.{thread_name}
use Rattle.sd_search_answers.proofs.timings.thread_named.Given as goal

-- none of the threads before it has the name
abbrev pub invariant-loop-t : goal.invariant-loop-t
invariant-loop-t l = (t : ℕ) → t < l.t → thread_name l.work t ≡ l.name → ⊥
