use Rattle.sd_statistics.proofs.Follow.{slices_follow}
use Rattle.sd_statistics.proofs.slice_laws.slices_follow_in_time.Goals as goal

pub returns : goal.returns
returns c = slices_follow
