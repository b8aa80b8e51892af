use Rattle.std.proofs.Common.{arith}
use Rattle.sd_audit.proofs.DifferenceLemmas.{at_newline, at_byte, at_difference, at_end, at_other_end}
use Rattle.sd_audit.proofs.differences.newlines_before.Goals.{then-text-i-eq10, else-text-i-eq10}
use Rattle.sd_audit.proofs.differences.newlines_before.Goals as goal

pub loop-i-preserved : goal.loop-i-preserved
loop-i-preserved c =
    let xs = c.args.text.now in
    let ys = c.args.other.now in
    let l = c.loop-i in
    let inv = l.invariant in
    let all = inv.all in
    let bound = inv.bound in
    elim c.if-text-i-eq10.branch [
      | then-text-i-eq10 w ↦
          let is = w.newlines-is in
          let more = at_newline xs ys l.i c.loop-i-test.true c.if-i-other.true c.if-text-i.true w.if-text-i-eq10.true in
          record { within = omega (arith, c.loop-i-test.true); other_within = omega (arith, c.if-i-other.true); all = omega (arith, is, more, all); bound = omega (arith, is, bound) }
      | else-text-i-eq10 w ↦
          let is = w.newlines-is in
          let more = at_byte xs ys l.i c.loop-i-test.true c.if-i-other.true c.if-text-i.true w.if-text-i-eq10.false in
          record { within = omega (arith, c.loop-i-test.true); other_within = omega (arith, c.if-i-other.true); all = omega (arith, is, more, all); bound = omega (arith, is, bound) }
    ]

pub returns-else-text-i-clause-value : goal.returns-else-text-i-clause-value
returns-else-text-i-clause-value c =
    let none = at_difference c.args.text.now c.args.other.now c.loop-i.i c.loop-i-test.true c.if-i-other.true c.if-text-i.false in
    let all = c.loop-i.invariant.all in
    omega (arith, none, all)

pub returns-else-i-other-clause-value : goal.returns-else-i-other-clause-value
returns-else-i-other-clause-value c =
    let none = at_other_end c.args.text.now c.args.other.now c.loop-i.i (omega (arith, c.if-i-other.false)) in
    let all = c.loop-i.invariant.all in
    omega (arith, none, all)

pub returns-after-loop-i-clause-value : goal.returns-after-loop-i-clause-value
returns-after-loop-i-clause-value c =
    let none = at_end c.args.text.now c.args.other.now c.loop-i.i (omega (arith, c.loop-i-test.false)) in
    let all = c.loop-i.invariant.all in
    omega (arith, none, all)
