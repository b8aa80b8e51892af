use Rattle.std.proofs.Common.{sym, subst}
use Rattle.std.specs.Prelude.{◌↔◌, IfOk, IsTrue}
use Rattle.sd_search.specs.declared.questions.Question.{Question}
use Rattle.sd_search.specs.Questions.{HasPart}
use Rattle.sd_search.proofs.judging.has_part.Goals as goal

pub returns-in-Blocked : goal.returns-in-Blocked
returns-in-Blocked c = subst (λ (q : Question). IfOk c.is_blocked.result (λ r. IsTrue r ↔ HasPart c.args.work.now q c.args.state.now)) (sym c.in-Blocked.is) c.is_blocked.ensures
