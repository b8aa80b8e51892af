use Rattle.sd_footprint.proofs.FewHomes.{needs_four}
use Rattle.sd_footprint.proofs.a_turn_needs_four_homes.Goals as goal

pub returns : goal.returns
returns c = needs_four
