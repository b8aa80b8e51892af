use Rattle.std.proofs.Common.{sym, string_bytes, ◌∙◌}
use Rattle.sd_find.proofs.QuietLemmas.{asked_quiet}
use Rattle.sd_find.proofs.quiet.asked.Goals as goal

pub returns-then-is_quiet : goal.returns-then-is_quiet
returns-then-is_quiet c = asked_quiet string_bytes c.args.arguments.now (sym c.is_quiet.ensures ∙ c.if-is_quiet.true)
