use Rattle.sd_encoding.proofs.WritingLemmas.{pending_none, pending_byte}
use Rattle.sd_encoding.proofs.writer.write_pending.Goals as goal

pub returns-in_ok-push-clause-written : goal.returns-in_ok-push-clause-written
returns-in_ok-push-clause-written c = pending_byte c.args.begun c.args.into.now c.push.new.self c.args.last c.if-begun.true c.in_ok-push.ensures.written

pub returns-else-begun-clause-written : goal.returns-else-begun-clause-written
returns-else-begun-clause-written c = pending_none c.args.begun c.args.into.now c.args.last c.if-begun.false
