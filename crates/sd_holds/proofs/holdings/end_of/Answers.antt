use Rattle.std.proofs.Common.{sym, ◌∙◌}
use Rattle.sd_stretches.proofs.RowLemmas.{first_passes}
use Rattle.sd_stretches.specs.declared.changes.Happening.{Happening}
use Rattle.sd_holds.specs.Holds.{gives_up}
use Rattle.sd_holds.proofs.holdings.end_of.Goals as goal

pub returns-then-gives_up : goal.returns-then-gives_up
returns-then-gives_up c =
    sym (first_passes (λ (x : Happening). gives_up c.args.t c.args.l x.event) c.args.happenings.now c.loop-x.x-index _ c.loop-x-test.true c.loop-x.invariant (sym c.gives_up.ensures ∙ c.if-gives_up.true))
