use Rattle.sd_statistics.proofs.DeedLemmas.{deeds_counts, deeds_ticks}
use Rattle.sd_statistics.proofs.statistics_laws.deeds_are_counts.Goals as goal

pub returns : goal.returns
returns c = record { counts = deeds_counts; ticks = deeds_ticks }
