use Rattle.std.proofs.Common.{ℕ, ◌+◌, drop, ap, ◌∙◌, subst, sym, ◌<◌}
use Rattle.std.proofs.lemmas.Grind.{common_steps}
use Rattle.std.proofs.Common.{arith}
use Rattle.sd_types.specs.Priorities.{greatest_willed}
use Rattle.sd_types.proofs.PriorityLemmas.{greatest-more, greatest-below}
use Rattle.sd_types.proofs.priorities.greatest_willed.Goals as goal

pub loop-number-preserved : goal.loop-number-preserved
loop-number-preserved c =
    ap (λ (n : ℕ). greatest_willed n (drop (c.loop-number.number-index + 1) c.args.willed.now)) c.max-most.ensures
    ∙ greatest-more c.loop-number.most c.args.willed.now c.loop-number.number-index _ c.loop-number-test.true
    ∙ c.loop-number.invariant

pub returns-clause-value : goal.returns-clause-value
returns-clause-value c = grind (arith, common_steps)

pub returns-clause-below : goal.returns-clause-below
returns-clause-below c = λ base all.
    subst (λ (n : ℕ). n < 160) (sym (returns-clause-value c)) (greatest-below c.args.base 160 c.args.willed.now base all)
