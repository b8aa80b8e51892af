use Rattle.sd_statistics.proofs.Local.{others_law}
use Rattle.sd_statistics.proofs.slice_laws.others_keep_running.Goals as goal

pub returns : goal.returns
returns c = others_law
