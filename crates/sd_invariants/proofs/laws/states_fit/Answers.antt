use Rattle.sd_invariants.proofs.Whole.{fit_reached}
use Rattle.sd_invariants.proofs.laws.states_fit.Goals as goal

pub returns : goal.returns
returns r = λ w n s reached. fit_reached w n s reached
