use Rattle.sd_longest.proofs.ReportLemmas.{reported_law}
use Rattle.sd_longest.proofs.laws.ticks_are_reported.Goals as goal

pub returns : goal.returns
returns c = reported_law
