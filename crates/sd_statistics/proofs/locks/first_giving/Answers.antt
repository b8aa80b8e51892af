use Rattle.std.proofs.Common.{sym, ◌∙◌}
use Rattle.sd_stretches.proofs.RowLemmas.{first_passes}
use Rattle.sd_statistics.specs.Locks.{gives}
use Rattle.sd_statistics.proofs.locks.first_giving.Goals as goal

pub returns-then-gives : goal.returns-then-gives
returns-then-gives c =
    sym (first_passes (gives c.args.t) c.args.rest.now c.loop-x.x-index _ c.loop-x-test.true c.loop-x.invariant (sym c.gives.ensures ∙ c.if-gives.true))
