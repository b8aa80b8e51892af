use Rattle.sd_stretches.proofs.RangeLemmas.{range_pushed}
use Rattle.sd_report.specs.Histograms.{bar_at}
use Rattle.sd_report.proofs.histograms.put_bars.Goals as goal

pub loop-i-preserved : goal.loop-i-preserved
loop-i-preserved c = range_pushed (bar_at c.args.spans.now c.args.from) c.loop-i.i _ _ _ c.loop-i.invariant c.in_ok-put_bar_at.ensures
