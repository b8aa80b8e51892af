use Rattle.std.proofs.Common.{◌<◌, drop, ap, sym, ◌∙◌, arith}
use Rattle.std.specs.Prelude.{max}
use Rattle.std.proofs.lemmas.Bool.Decides.{nat_tests}
use Rattle.sd_layout.specs.Frames.{last_act}
use Rattle.sd_layout.proofs.ActLemmas.{acts_more, acts_none}
use Rattle.sd_layout.proofs.frames.last_act.Goals as goal

pub loop-i-init : goal.loop-i-init
loop-i-init c = (omega arith, acts_none c.args.happenings.now)

pub loop-i-preserved : goal.loop-i-preserved
loop-i-preserved c =
    let (within, so) = c.loop-i.invariant in
    let test = c.loop-i-test.true in
    let some : 0 < c.loop-i.i = grind (arith, nat_tests) in (
      omega (arith, within),
      c.max-last.ensures ∙ ap (max c.act_tick.result) so ∙ ap (λ n. max n (last_act (drop c.loop-i.i c.args.happenings.now))) c.act_tick.ensures
          ∙ sym (acts_more c.args.happenings.now c.loop-i.i _ some within),
    )
