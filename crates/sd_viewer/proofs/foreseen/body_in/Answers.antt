use Rattle.std.proofs.Common.{length, sym, ap, ◌∙◌, subst, arith}
use Rattle.std.specs.Prelude.{◌<◌}
use Rattle.sd_world.specs.Plain.{told}
use Rattle.sd_viewer.proofs.GlimpseLemmas.{threads_told}
use Rattle.sd_viewer.proofs.foreseen.body_in.Goals as goal

pub returns-in-Some : goal.returns-in-Some
returns-in-Some c =
    let many = ap length c.items.ensures in
    let told_many = threads_told c.args.work.now c.args.world.now in
    (omega (arith, many, told_many), c.in-Some.ensures)
