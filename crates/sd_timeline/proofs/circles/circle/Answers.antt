use Rattle.std.proofs.Common.{◌≡◌, ◌-◌, ◌<◌, ap, sym, ◌∙◌, arith}
use Rattle.sd_timeline.specs.Circles.{trimmed, trimmed_by}
use Rattle.sd_timeline.proofs.CircleLemmas.{trimmed_less, trimmed_none}
use Rattle.sd_timeline.proofs.circles.circle.Goals as goal

pub loop-left-preserved : goal.loop-left-preserved
loop-left-preserved c =
    let some : 0 < c.loop-left.left = omega (arith, c.loop-left-test.true) in
    ap (trimmed_by c.args.holds.now (c.loop-left.left - 1)) (c.in_ok-found.ensures ∙ ap (trimmed c.args.holds.now) c.deref.ensures.value)
    ∙ sym (trimmed_less c.args.holds.now c.loop-left.left c.loop-left.found.items some) ∙ c.loop-left.invariant

pub returns : goal.returns
returns c =
    let none : c.loop-left.left ≡ 0 = omega (arith, c.loop-left-test.false) in
    sym (trimmed_none c.args.holds.now c.loop-left.found.items) ∙ ap (λ n. trimmed_by c.args.holds.now n c.loop-left.found.items) (sym none)
    ∙ c.loop-left.invariant
