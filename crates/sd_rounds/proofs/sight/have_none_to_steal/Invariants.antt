use Rattle.std.proofs.Common.{◌≡◌, ℕ, take, true}
use Rattle.sd_state.specs.declared.states.State.{State}
use Rattle.sd_hand.specs.Acting.{IsShown}
use Rattle.sd_rounds.specs.Searched.{all_show_zero}
use Rattle.sd_rounds.proofs.sight.have_none_to_steal.Given as goal

abbrev pub invariant-loop-d : goal.invariant-loop-d
invariant-loop-d l = (n : ℕ) (s : State) → IsShown l.x n s → all_show_zero s (take l.d-index l.cpus) ≡ true
