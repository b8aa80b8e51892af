use Rattle.sd_stretches.proofs.RangeLemmas.{range_pushed}
use Rattle.sd_report.specs.SetResponses.{response_at}
use Rattle.sd_report.proofs.set_responses.put_between.Goals as goal

pub loop-i-preserved : goal.loop-i-preserved
loop-i-preserved c = range_pushed (response_at c.args.work.now c.args.x c.args.spans.now c.args.from) c.loop-i.i _ _ _ c.loop-i.invariant c.in_ok-put_at.ensures
