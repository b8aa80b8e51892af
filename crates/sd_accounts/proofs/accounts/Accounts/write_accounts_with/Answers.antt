use Rattle.std.proofs.Common.{ℕ, List, ◌++◌, ap, ◌∙◌}
use Rattle.std.proofs.lemmas.Result.{on_ok_weaker}
use Rattle.sd_machine.specs.Texts.{cycles_text}
use Rattle.sd_accounts.proofs.TextLemmas.{accounts_same}
use Rattle.sd_accounts.proofs.accounts.Accounts.write_accounts_with.Goals as goal

pub returns-clause-ok : goal.returns-clause-ok
returns-clause-ok c =
    on_ok_weaker c.write_counted.result
    (λ appended es taken.
    appended
    ∙ ap (λ (text : List ℕ). c.args.out.now.items ++ (text ++ cycles_text c.args.work.now c.args.s.now)) (accounts_same c.args.work.now es c.args.s.now c.args.self.now taken))
    c.write_counted.ensures.ok
