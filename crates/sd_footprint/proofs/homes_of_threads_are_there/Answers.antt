use Rattle.sd_footprint.proofs.ThereLemmas.{known_reached, stands_there}
use Rattle.sd_footprint.proofs.homes_of_threads_are_there.Goals as goal

pub returns : goal.returns
returns r = λ w n s t reached. stands_there w s (known_reached w n s reached) t
