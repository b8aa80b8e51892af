use Rattle.std.proofs.Common.{◌-◌, sym, ap, arith}
use Rattle.sd_dispq.specs.Ranks.{greatest_rank}
use Rattle.sd_dispq.proofs.LevelLemmas.{all_of-empty, greatest-busy}
use Rattle.sd_dispq.proofs.queue.greatest_of.Goals as goal

pub returns-in-None : goal.returns-in-None
returns-in-None g c = sym (ap (greatest_rank g.T.Ranked.rank) (all_of-empty g.T.Ranked.rank c.args.levels.now (λ i. c.in-None.ensures.next i (omega arith))))

pub returns-in-Some : goal.returns-in-Some
returns-in-Some g c =
    let n = c.requires.count in
    let h = c.in-Some.ensures.within in
    sym (greatest-busy g.T.Ranked.rank c.args.levels.now c.in-Some.level (159 - c.in-Some.level) c.requires.levelled c.in-Some.ensures.next (omega arith))
