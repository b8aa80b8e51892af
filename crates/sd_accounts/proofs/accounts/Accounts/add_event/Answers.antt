use Rattle.std.proofs.Common.{◌∙◌}
use Rattle.sd_accounts.proofs.CounterLemmas.{taken_as}
use Rattle.sd_accounts.proofs.accounts.Accounts.add_event.Goals as goal

pub returns-in-Idle : goal.returns-in-Idle
returns-in-Idle c w es e cpu event few taken =
    taken_as es e few w c.args.cpu _ c.args.self.now _ cpu (event ∙ c.in-Idle.is) c.count.ensures.threads c.count.ensures.cpus c.count.ensures.totals taken

pub returns-in-Tick : goal.returns-in-Tick
returns-in-Tick c w es e cpu event few taken =
    taken_as es e few w c.args.cpu _ c.args.self.now _ cpu (event ∙ c.in-Tick.is) c.count-in-Tick.ensures.threads c.count-in-Tick.ensures.cpus
    c.count-in-Tick.ensures.totals taken

pub returns-in_default : goal.returns-in_default
returns-in_default c w es e cpu event few taken =
    taken_as es e few w c.args.cpu _ c.args.self.now _ cpu event c.count-in_default.ensures.threads c.count-in_default.ensures.cpus
    c.count-in_default.ensures.totals taken
