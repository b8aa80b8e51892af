use Rattle.sd_cpu.proofs.AttemptLemmas as M
use Rattle.sd_world.proofs.WorldLemmas.{counts_same}
use Rattle.sd_cpu.proofs.attempts.hindrance.Goals as goal

pub returns-then-acting-work-clause-counts : goal.returns-then-acting-work-clause-counts
returns-then-acting-work-clause-counts g c = counts_same (g.W.World.meaning c.args.world.now)

pub returns-then-acting-work-clause-hinders : goal.returns-then-acting-work-clause-hinders
returns-then-acting-work-clause-hinders g c = M.high (g.W.World.meaning c.args.world.now) c.args.work.now c.acting.result.now c.requires.work c.acting.ensures c.if-acting-work.true

pub returns-in-None-clause-counts : goal.returns-in-None-clause-counts
returns-in-None-clause-counts g c = c.in-None.ensures.reads

pub returns-in-None-clause-hinders : goal.returns-in-None-clause-hinders
returns-in-None-clause-hinders g c =
    M.may_tick_of (g.W.World.meaning c.args.world.now) (g.W.World.meaning c.behind.new.self) c.args.work.now c.acting.result.now c.requires.work c.acting.ensures c.if-acting-work.false c.in-None.ensures.reads c.in-None.ensures.finds

pub returns-in-Some-clause-counts : goal.returns-in-Some-clause-counts
returns-in-Some-clause-counts g c = c.in-Some.ensures.reads

pub returns-in-Some-clause-hinders : goal.returns-in-Some-clause-hinders
returns-in-Some-clause-hinders g c =
    (M.low (g.W.World.meaning c.args.world.now) c.args.work.now c.acting.result.now c.requires.work c.acting.ensures c.if-acting-work.false, c.in-Some.ensures.finds)
