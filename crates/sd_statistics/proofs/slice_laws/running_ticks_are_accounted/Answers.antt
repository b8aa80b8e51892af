use Rattle.sd_statistics.proofs.Charged.{running_accounted}
use Rattle.sd_statistics.proofs.slice_laws.running_ticks_are_accounted.Goals as goal

pub returns : goal.returns
returns c = running_accounted
