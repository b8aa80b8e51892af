use Rattle.std.proofs.Common.{arith}
use Rattle.std.proofs.lemmas.Bool.Decides.{nat_tests}
use Rattle.sd_script.proofs.FaultLemmas.{held_at_exit, well_formed}
use Rattle.sd_script.proofs.checks.check_ops.Goals as goal

pub returns-then-not-is_empty-clause-fault : goal.returns-then-not-is_empty-clause-fault
returns-then-not-is_empty-clause-fault c =
    held_at_exit c.args.ops.now c.in_ok-held.held.items (omega arith) (c.in_ok-held.ensures.held) c.in_ok-held.ensures.free (grind (arith, nat_tests))

pub returns-clause-ok : goal.returns-clause-ok
returns-clause-ok c =
    well_formed c.args.ops.now c.in_ok-held.held.items (omega arith) c.in_ok-held.ensures.held c.in_ok-held.ensures.free (grind (arith, nat_tests))
