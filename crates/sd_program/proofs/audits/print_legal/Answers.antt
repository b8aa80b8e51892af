use Rattle.std.proofs.Common.{sym, subst, ◌∙◌}
use Rattle.sd_text.specs.Lines.{IsOneLine}
use Rattle.sd_program.proofs.LineLemmas.{legal-one_line}
use Rattle.sd_program.proofs.audits.print_legal.Goals as goal

pub print_line-requires : goal.print_line-requires
print_line-requires g c = subst IsOneLine (sym (c.deref.ensures.value ∙ c.in_ok-line.ensures)) (legal-one_line c.args.entries)
