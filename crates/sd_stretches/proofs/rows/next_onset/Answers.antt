use Rattle.std.proofs.Common.{arith, sym}
use Rattle.std.proofs.lemmas.Bool.Decides.{nat_tests}
use Rattle.std.specs.Prelude.{◌==◌}
use Rattle.sd_stretches.proofs.RowLemmas.{first_passes}
use Rattle.sd_stretches.proofs.rows.next_onset.Goals as goal

pub returns-then-x-t : goal.returns-then-x-t
returns-then-x-t c =
    let own = c.if-x-t.true in
    sym (first_passes (λ x. x.thread == c.args.t) c.args.onsets.now c.loop-x.x-index _ c.loop-x-test.true c.loop-x.invariant (grind (arith, nat_tests)))
