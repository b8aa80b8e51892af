use Rattle.std.proofs.Common.{sym, subst}
use Rattle.sd_declare.specs.Kept.{declarations}
use Rattle.sd_workload.specs.LineStarts.{NoneAbove, lines_from}
use Rattle.sd_workload.specs.Texts.{Outside, with_script}
use Rattle.sd_workload.proofs.JudgedLemmas.{none-above}
use Rattle.sd_workload.proofs.scripts.take_script.Goals as goal

pub returns-in-Err-clause-err : goal.returns-in-Err-clause-err
returns-in-Err-clause-err c =
    let to = c.in_ok-script.to in
    subst (NoneAbove to.number) (sym c.in_ok-script.ensures.ok)
    (none-above to.number (with_script (declarations c.args.d.now) c.args.thread c.in_ok-script.script.ops) Outside (lines_from c.args.bytes.now to))
