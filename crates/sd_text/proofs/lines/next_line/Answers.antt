use Rattle.sd_text.proofs.LineLemmas.{lines-from}
use Rattle.sd_text.proofs.lines.next_line.Goals as goal

pub returns-clause-line : goal.returns-clause-line
returns-clause-line c = lines-from c.args.bytes.now c.args.from c.line_len-len.result c.if-bytes-from.false c.line_len-len.ensures.len
