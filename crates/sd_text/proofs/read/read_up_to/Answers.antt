use Rattle.std.proofs.Common.{arith, length-take}
use Rattle.sd_text.proofs.StreamLemmas.{TakesUpTo-too_large, TakesUpTo-past}
use Rattle.sd_text.proofs.read.read_up_to.Goals as goal

pub returns-then-most-len-clause-taken : goal.returns-then-most-len-clause-taken
returns-then-most-len-clause-taken g c =
    TakesUpTo-too_large _ _ _ _ _ c.read.new.buf c.in-Ok.count c.reads.invariant.taken c.in-Ok.ensures.bytes.0 c.in-Ok.ensures.bound (omega (arith, c.reads.bytes.ok, c.in-Ok.ensures.bound, length-take c.min-wanted.result c.reads.buffer))

pub returns-in_default-extend_from_slice-clause-taken :
    goal.returns-in_default-extend_from_slice-clause-taken
returns-in_default-extend_from_slice-clause-taken g c =
    TakesUpTo-past _ _ _ _ _ _ _ c.read.new.buf c.in-Ok.count _ c.reads.invariant.taken c.in-Ok.ensures.bytes.0 c.in-Ok.ensures.bound (omega (arith, c.reads.bytes.ok)) c.read_past.ensures.taken
