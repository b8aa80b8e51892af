use Rattle.std.proofs.Common.{arith}
use Rattle.sd_declare.proofs.PlaceLemmas.{any_kept}
use Rattle.sd_tasks.specs.Kept.{member_kept}
use Rattle.sd_releases.specs.Clocks.{is_on}
use Rattle.sd_releases.proofs.clocks.has_clock.Goals as goal

pub returns : goal.returns
returns c =
    let kept = any_kept member_kept (is_on c.args.cpu) c.args.facts.now.threads.items in
    grind (arith, kept)
