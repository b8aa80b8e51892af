use Rattle.std.proofs.Common.{sym, ◌∙◌}
use Rattle.sd_stretches.proofs.RowLemmas.{first_passes}
use Rattle.sd_statistics.specs.Locks.{wants}
use Rattle.sd_statistics.proofs.locks.first_wanting.Goals as goal

pub returns-then-wants : goal.returns-then-wants
returns-then-wants c =
    sym (first_passes (wants c.args.t) c.args.rest.now c.loop-x.x-index _ c.loop-x-test.true c.loop-x.invariant (sym c.wants.ensures ∙ c.if-wants.true))
