use Rattle.std.proofs.Common.{sym, subst}
use Rattle.sd_log.specs.Parts.{whole}
use Rattle.sd_text.specs.Lines.{IsOneLine}
use Rattle.sd_program.proofs.LineLemmas.{entry-one_line}
use Rattle.sd_program.proofs.writing.put_entry.Goals as goal

pub put_line-requires : goal.put_line-requires
put_line-requires g c = subst IsOneLine (sym c.format_parts.ensures) (entry-one_line c.args.work.now (whole c.args.parts.now))
