use Rattle.std.proofs.Common.{refl}
use Rattle.sd_cpu.proofs.AttemptLemmas.{can_commit, refuses}
use Rattle.sd_cpu.proofs.MeaningLemmas.{made_from}
use Rattle.sd_cpu.proofs.attempts.enter.Goals as goal

pub commit-requires-clause-can : goal.commit-requires-clause-can
commit-requires-clause-can g c =
    let r = c.in-Ok.ensures in
    can_commit (g.W.World.meaning c.args.world.now) (g.W.World.meaning c.reserve.new.self) c.args.work.now c.args.event c.args.hints c.requires.work c.requires.comes.noted c.requires.makes c.requires.holds r.same r.room.0 r.room.1

pub returns-in-Ok-clause-enters : goal.returns-in-Ok-clause-enters
returns-in-Ok-clause-enters g c =
    made_from (g.W.World.meaning c.args.world.now) (g.W.World.meaning c.reserve.new.self) (g.W.World.meaning c.commit.new.self) c.commit.result c.args.event c.args.hints _ c.in-Ok.ensures.same.stays c.requires.comes.given c.commit.ensures.commits refl

pub returns-in-Err-clause-enters : goal.returns-in-Err-clause-enters
returns-in-Err-clause-enters g c = refuses (g.W.World.meaning c.args.world.now) (g.W.World.meaning c.reserve.new.self) c.in-Err.stop c.in-Err.ensures.same c.in-Err.ensures.room
