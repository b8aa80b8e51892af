use Rattle.sd_statistics.proofs.SpanLemmas.{longest_none, longest_there, longest_greatest}
use Rattle.sd_statistics.proofs.statistics_laws.the_longest_is_longest.Goals as goal

pub returns : goal.returns
returns c = record { none = longest_none; there = longest_there; greatest = longest_greatest }
