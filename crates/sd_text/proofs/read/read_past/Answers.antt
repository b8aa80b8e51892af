use Rattle.std.proofs.Common.{arith, ◌++◌, ◌∙◌, length-append, length-drop, length-take, drop, take}
use Rattle.std.proofs.KnownBytes.{Consumes-trans}
use Rattle.sd_text.proofs.StreamLemmas.{TakesUpTo-too_large, length-prefix}
use Rattle.sd_text.proofs.read.read_past.Goals as goal

pub returns-then-left-count-clause-taken : goal.returns-then-left-count-clause-taken
returns-then-left-count-clause-taken g c =
    TakesUpTo-too_large _ _ _ _ _ c.read.new.buf c.in-Ok.count c.reads.invariant.taken c.in-Ok.ensures.bytes.0 c.in-Ok.ensures.bound
    (omega (arith, c.reads.invariant.count, c.in-Ok.ensures.bound, length-take c.min-wanted.result c.reads.buffer))

pub reads-preserved : goal.reads-preserved
reads-preserved g c =
    let inv = c.reads.invariant in
    record {
      bytes = inv.bytes ++ take c.in-Ok.count c.read.new.buf;
      count = omega (arith, inv.count, length-prefix inv.bytes c.read.new.buf c.in-Ok.count c.in-Ok.ensures.bound);
      room = omega (arith, inv.room, length-append c.read.new.buf (drop c.min-wanted.result c.reads.buffer), length-drop c.min-wanted.result c.reads.buffer, length-take c.min-wanted.result c.reads.buffer);
      taken = Consumes-trans _ _ _ _ _ inv.taken c.in-Ok.ensures.bytes.0;
      no_fault = c.in-Ok.ensures.no_fault ∙ inv.no_fault;
    }
