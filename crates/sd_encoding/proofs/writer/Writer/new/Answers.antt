use Rattle.std.proofs.Common.{false, []}
use Rattle.sd_encoding.proofs.WritingLemmas.{closed, none_written, view_is}
use Rattle.sd_encoding.proofs.writer.Writer.new.Goals as goal

pub invariant_of-result : goal.invariant_of-result
invariant_of-result c = closed false c.new.result 192 [] (rw c.new.ensures none_written)

pub returns : goal.returns
returns c = view_is false c.new.result 192 [] (rw c.new.ensures none_written)
