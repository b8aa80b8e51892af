use Rattle.std.proofs.Common.{ap, ◌∙◌}
use Rattle.sd_encoding.specs.Bytes.{bytes_of}
use Rattle.sd_encoding.specs.Writing.{written}
use Rattle.sd_encoding.proofs.WritingLemmas.{all_bytes}
use Rattle.sd_encoding.proofs.writer.Writer.finish.Goals as goal

pub returns-clause-bytes : goal.returns-clause-bytes
returns-clause-bytes c =
    let w = c.self.inside in
    c.into_bytes.ensures ∙ c.in_ok-write_pending.ensures.written ∙ all_bytes w.begun w.bytes w.last (written w.begun w.bytes w.last) c.self.invariant ∙ ap bytes_of c.self.view_is
