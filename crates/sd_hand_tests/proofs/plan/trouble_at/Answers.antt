use Rattle.std.proofs.Common.{sym, arith}
use Rattle.std.proofs.lemmas.Bool.{eq-eqb}
use Rattle.sd_hand_tests.specs.declared.plan.Trouble.{Trouble}
use Rattle.sd_hand_tests.specs.declared.plan.What.TheVariants.{NoMemory}
use Rattle.sd_hand_tests.proofs.PlanLemmas.{none_said, not_before}
use Rattle.sd_hand_tests.proofs.plan.trouble_at.Goals as goal

some_trouble : Trouble
some_trouble = record { call = 0; what = NoMemory }

pub returns-then-trouble-call : goal.returns-then-trouble-call
returns-then-trouble-call c = sym (not_before c.args.plan.now c.args.call c.loop-trouble.trouble-index _ (λ j l. c.loop-trouble.invariant j _ l) c.loop-trouble-test.true (eq-eqb _ _ c.if-trouble-call.true))

pub returns : goal.returns
returns c =
    let high = c.loop-trouble-test.false in
    sym (none_said c.args.plan.now c.args.call some_trouble (λ j l. c.loop-trouble.invariant j some_trouble (omega (arith, l, high))))
