use Rattle.std.proofs.Common.{◌≡◌, length, ap, ◌∙◌}
use Rattle.sd_types.specs.declared.tables.FixedTable.{FixedTable}
use Rattle.sd_rules.specs.DefaultTables.{default_rt_rows}
use Rattle.std.proofs.lemmas.Result.{IfOk-weaker}
use Rattle.sd_workload.proofs.WorkLemmas.{length-default_rt}
use Rattle.sd_workload.proofs.works.rt_table.Goals as goal

pub returns-in_default-clause-rows : goal.returns-in_default-clause-rows
returns-in_default-clause-rows c = IfOk-weaker c.default_rt.result (λ (t : FixedTable). t.rows ≡ default_rt_rows c.args.hz) (λ (t : FixedTable). length t.rows ≡ 60) (λ t e. ap length e ∙ length-default_rt c.args.hz) c.default_rt.ensures.rows
