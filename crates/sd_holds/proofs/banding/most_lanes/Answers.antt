use Rattle.std.proofs.Common.{◌<◌, drop, ap, sym, ◌∙◌, arith}
use Rattle.std.specs.Prelude.{max}
use Rattle.std.proofs.lemmas.Bool.Decides.{nat_tests}
use Rattle.sd_holds.specs.Bands.{most_lanes}
use Rattle.sd_holds.proofs.ListLemmas.{lanes_more, lanes_none}
use Rattle.sd_holds.proofs.banding.most_lanes.Goals as goal

pub loop-i-init : goal.loop-i-init
loop-i-init c = (omega arith, lanes_none c.args.bands.now)

pub loop-i-preserved : goal.loop-i-preserved
loop-i-preserved c =
    let (within, so) = c.loop-i.invariant in
    let test = c.loop-i-test.true in
    let some : 0 < c.loop-i.i = grind (arith, nat_tests) in (
      omega (arith, within),
      c.max-most.ensures ∙ ap (max c.lanes_for.result) so ∙ ap (λ n. max n (most_lanes (drop c.loop-i.i c.args.bands.now))) c.lanes_for.ensures
          ∙ sym (lanes_more c.args.bands.now c.loop-i.i _ some within),
    )
