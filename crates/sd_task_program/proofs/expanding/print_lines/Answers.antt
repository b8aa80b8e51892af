use Rattle.std.proofs.Common.{sym, subst, ◌∙◌}
use Rattle.sd_text.specs.Lines.{EndsLine}
use Rattle.sd_tasks.specs.WrittenKept.{lines_kept}
use Rattle.sd_task_program.proofs.SetLemmas.{printed-ends}
use Rattle.sd_task_program.proofs.expanding.print_lines.Goals as goal

pub print_text-requires : goal.print_text-requires
print_text-requires g c =
    let text = c.deref.ensures.value ∙ c.in_ok-text.ensures in
    subst EndsLine (sym text) (printed-ends c.args.is_mapped (lines_kept c.args.lines.now))
