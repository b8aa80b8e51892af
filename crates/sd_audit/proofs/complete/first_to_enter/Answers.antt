use Rattle.std.proofs.Common.{arith}
use Rattle.sd_audit.proofs.EnterLemmas.{no_entry}
use Rattle.sd_audit.proofs.complete.first_to_enter.Goals as goal

pub returns-clause-none : goal.returns-clause-none
returns-clause-none c = no_entry c.args.work.now c.args.s.now c.loop-c.c (omega (arith, c.loop-c-test.false)) c.loop-c.invariant
