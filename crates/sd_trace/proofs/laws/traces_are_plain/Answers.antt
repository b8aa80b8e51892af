use Rattle.sd_trace.proofs.TraceLemmas.{trace-text}
use Rattle.sd_trace.proofs.laws.traces_are_plain.Goals as goal

pub returns : goal.returns
returns c = trace-text
