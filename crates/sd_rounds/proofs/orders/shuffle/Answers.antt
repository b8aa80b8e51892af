use Rattle.std.proofs.Common.{ℕ, ◌+◌, ◌-◌, ◌%◌, List, ap, sym, ◌∙◌, arith}
use Rattle.std.specs.Prelude.{swap}
use Rattle.rand_pcg.specs.Lcg.{Lcg}
use Rattle.sd_types.specs.declared.numbers.CpuId.{CpuId}
use Rattle.sd_rounds.proofs.OrderLemmas.{shuffled_on, shuffled_over}
use Rattle.sd_rounds.proofs.orders.shuffle.Goals as goal

pub loop-left-preserved : goal.loop-left-preserved
loop-left-preserved c =
    let l = c.loop-left in
    let word = c.next_word.ensures in
    record {
      same = shuffled_on l.left l.generator c.next_word.new.self l.order c.swap.new.self c.loop-left-test.true (ap (λ (p : ℕ × Lcg). p.1) word)
          (c.swap.ensures.after ∙ ap (λ (p : ℕ × Lcg). swap l.order (l.left - 1) (p.0 % (l.left - 1 + 1))) word) ∙ l.invariant.same;
      many = c.swap.ensures.len ∙ l.invariant.many;
      inside = let inside = l.invariant.inside in omega (arith, inside);
    }

pub returns-clause-order : goal.returns-clause-order
returns-clause-order c =
    let l = c.loop-left in
    ap (λ (p : List CpuId × Lcg). p.0) (sym (shuffled_over l.left l.generator l.order c.loop-left-test.false) ∙ l.invariant.same)

pub returns-clause-generator : goal.returns-clause-generator
returns-clause-generator c =
    let l = c.loop-left in
    ap (λ (p : List CpuId × Lcg). p.1) (sym (shuffled_over l.left l.generator l.order c.loop-left-test.false) ∙ l.invariant.same)
