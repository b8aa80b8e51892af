use Rattle.sd_tasks.specs.WrittenKept.{lines_kept}
use Rattle.sd_releases.specs.Clocks.{clock_script}
use Rattle.sd_releases.proofs.ScriptLemmas.{script_written}
use Rattle.sd_releases.proofs.scripts.put_script.Goals as goal

pub returns : goal.returns
unfolding clock_script
returns c =
    script_written (lines_kept c.args.lines.now.items) _ _ _ _ _ _ _ _ _ _ c.in_ok-push_named.ensures c.in_ok-put_taking_over.ensures
    c.in_ok-put_script_ops.ensures c.in_ok-put_handing_over.ensures c.in_ok-push_end.ensures
