use Rattle.sd_footprint.proofs.TouchedThere.{parts_there}
use Rattle.sd_footprint.proofs.parts_of_a_turn_are_there.Goals as goal

pub returns : goal.returns
returns r = parts_there
