use Rattle.std.proofs.Common.{◌≡◌, List, ◌++◌, subst}
use Rattle.std.specs.Prelude.{OnOk}
use Rattle.sd_statistics.specs.declared.rows.Row.{Row}
use Rattle.sd_statistics.proofs.DelayLemmas.{own_row}
use Rattle.sd_statistics.proofs.threads.push_delays.Goals as goal

pub returns-in-Some : goal.returns-in-Some
returns-in-Some c =
    subst (λ (rows : List Row). OnOk c.push_delay_row.result (c.push_delay_row.new.out.items ≡ c.args.out.now.items ++ rows))
    (own_row c.args.t c.args.own.now _ c.args.history.now.wakeups.items c.in-Some.ensures) c.push_delay_row.ensures
