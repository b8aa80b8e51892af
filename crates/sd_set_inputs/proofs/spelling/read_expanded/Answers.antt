use Rattle.std.proofs.Common.{length, ap, ◌∙◌, arith}
use Rattle.sd_tasks.specs.WrittenKept.{lines_kept}
use Rattle.sd_releases.proofs.VerdictLemmas.{set-short}
use Rattle.sd_set_inputs.proofs.spelling.read_expanded.Goals as goal

pub read_work-requires : goal.read_work-requires
read_work-requires c =
    let e = c.in-Ok.ensures.ok in
    omega (arith, ap length (c.deref.ensures.value ∙ e.text), set-short c.args.bytes.now (lines_kept c.in-Ok.expansion.lines.items) e.expands)
