use Rattle.std.proofs.Common.{arith}
use Rattle.sd_tasks.specs.Kept.{above_kept}
use Rattle.sd_releases.proofs.ClockLemmas.{count_found}
use Rattle.sd_releases.proofs.counts.count_at.Goals as goal

pub returns-in-Some : goal.returns-in-Some
returns-in-Some c =
    let found = count_found (above_kept c.args.facts.now) c.args.number c.args.counts.now c.args.cpu c.requires.counts c.requires.cpu in
    grind (arith, found)

pub returns-in-None : goal.returns-in-None
returns-in-None c =
    let found = count_found (above_kept c.args.facts.now) c.args.number c.args.counts.now c.args.cpu c.requires.counts c.requires.cpu in
    grind (arith, found)
