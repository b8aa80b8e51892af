use Rattle.sd_footprint.proofs.RanLast.{reached_changes}
use Rattle.sd_footprint.proofs.an_event_changes_only_its_homes.Goals as goal

pub returns : goal.returns
returns r = λ w n s c hints e reached is. reached_changes w n s c hints e reached is
