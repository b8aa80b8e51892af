use Rattle.std.proofs.Common.{◌&&◌, eqb, arith}
use Rattle.sd_declare.proofs.PlaceLemmas.{any_kept}
use Rattle.sd_tasks.specs.Above.{Member}
use Rattle.sd_tasks.specs.Kept.{member_kept}
use Rattle.sd_releases.specs.Starters.{is_timed}
use Rattle.sd_releases.proofs.starters.is_started.Goals as goal

pub returns : goal.returns
returns c =
    let kept = any_kept member_kept (λ (m : Member). is_timed m && eqb m.set c.args.set) c.args.facts.now.threads.items in
    grind (arith, kept)
