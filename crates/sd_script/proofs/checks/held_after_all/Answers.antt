use Rattle.std.proofs.Common.{arith, ap, sym, ◌∙◌}
use Rattle.sd_types.specs.Scripts.{held_by}
use Rattle.sd_script.proofs.FaultLemmas.{take_front, held_by_more, free_more, fault_here}
use Rattle.sd_script.proofs.checks.held_after_all.Goals as goal

pub returns-in-Some-clause-fault : goal.returns-in-Some-clause-fault
returns-in-Some-clause-fault c =
    fault_here c.args.ops.now c.loop-i.i _ c.deref.result.now c.op_at.result c.in-Some.fault (omega arith) (omega arith) (c.deref.ensures.0 ∙ c.loop-i.invariant.0) c.op_at.ensures (sym c.fault_of.ensures ∙ c.in-Some.is) c.loop-i.invariant.1

pub loop-i-preserved : goal.loop-i-preserved
loop-i-preserved c = (
  held_by_more c.args.ops.now c.loop-i.i _ c.loop-i.held.items c.take_or_release.new.held.items (omega arith) c.loop-i.invariant.0 c.take_or_release.ensures,
  free_more c.args.ops.now c.loop-i.i _ c.deref.result.now c.op_at.result (omega arith) (c.deref.ensures.0 ∙ c.loop-i.invariant.0) c.op_at.ensures (sym c.fault_of.ensures ∙ c.in_default.is) c.loop-i.invariant.1,
)

pub returns-clause-held : goal.returns-clause-held
returns-clause-held c = c.loop-i.invariant.0 ∙ ap held_by (take_front c.args.ops.now c.loop-i.i (omega arith))
