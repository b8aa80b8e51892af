use Rattle.std.proofs.Common.{◌≡◌, List, ◌++◌, subst, ◌∙◌}
use Rattle.std.specs.Prelude.{OnOk}
use Rattle.sd_statistics.specs.declared.rows.Row.{Row}
use Rattle.sd_statistics.proofs.CpuLemmas.{part_own}
use Rattle.sd_statistics.proofs.cpus.push_cpu.Goals as goal

pub returns : goal.returns
returns c =
    subst (λ (rows : List Row). OnOk c.push_deeds.result (c.push_deeds.new.out.items ≡ c.args.out.now.items ++ rows))
    (part_own c.args.c _ c.args.happenings.now (c.deref.ensures.value ∙ c.in_ok-own.ensures)) c.push_deeds.ensures
