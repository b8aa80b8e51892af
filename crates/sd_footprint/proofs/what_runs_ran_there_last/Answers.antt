use Rattle.sd_footprint.proofs.RanLast.{reached_ran}
use Rattle.sd_footprint.proofs.what_runs_ran_there_last.Goals as goal

pub returns : goal.returns
returns r = λ w n s t reached. reached_ran w n s reached t
