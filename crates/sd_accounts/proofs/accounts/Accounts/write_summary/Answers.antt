use Rattle.std.proofs.Common.{ℕ, List, ◌++◌, ap, ◌∙◌}
use Rattle.std.proofs.lemmas.Result.{on_ok_weaker}
use Rattle.sd_accounts.proofs.TextLemmas.{summary_same}
use Rattle.sd_accounts.proofs.accounts.Accounts.write_summary.Goals as goal

pub returns-clause-ok : goal.returns-clause-ok
returns-clause-ok c =
    on_ok_weaker c.write_totals.result
    (λ appended w es taken. appended ∙ ap (λ (text : List ℕ). c.args.out.now.items ++ text) (summary_same w es c.args.s.now c.args.self.now taken))
    c.write_totals.ensures.ok
