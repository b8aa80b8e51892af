use Rattle.std.proofs.Common.{true}
use Rattle.sd_cpu.proofs.AttemptLemmas as M
use Rattle.sd_cpu.proofs.MeaningLemmas.{acts_made, enters_from, same_bit}
use Rattle.sd_cpu.proofs.SeekLemmas.{make_still}
use Rattle.sd_cpu.proofs.attempts.tick.Goals as goal

pub returns-in-Some-clause-acts : goal.returns-in-Some-clause-acts
returns-in-Some-clause-acts g c =
    M.hinders (g.W.World.meaning c.args.world.now) (g.W.World.meaning c.hindrance.new.world) c.args.event c.args.hints c.in-Some.turned (g.met.W.World.sound c.args.world.now c.requires.good) c.requires.comes c.requires.ticks c.in-Some.ensures.counts c.in-Some.ensures.hinders

pub make-requires-clause-work : goal.make-requires-clause-work
make-requires-clause-work g c = M.same_work (g.W.World.meaning c.args.world.now) (g.W.World.meaning c.hindrance.new.world) c.args.work.now c.requires.work c.in-None.ensures.counts.stays

pub make-requires-clause-comes : goal.make-requires-clause-comes
make-requires-clause-comes g c =
    let counts = c.in-None.ensures.counts in
    M.comes_still (g.W.World.meaning c.args.world.now) (g.W.World.meaning c.hindrance.new.world) c.args.event c.args.hints counts.stays counts.acting c.requires.comes

pub make-requires-clause-held : goal.make-requires-clause-held
make-requires-clause-held g c =
    let counts = c.in-None.ensures.counts in
    make_still (g.W.World.meaning c.args.world.now) (g.W.World.meaning c.hindrance.new.world) c.args.hints counts.stays counts.acting c.requires.held

pub make-requires-clause-makes : goal.make-requires-clause-makes
make-requires-clause-makes g c =
    let counts = c.in-None.ensures.counts in
    let m' = g.W.World.meaning c.hindrance.new.world in
    M.makes m' c.args.event c.args.hints (g.met.W.World.sound c.hindrance.new.world c.in-None.ensures.good)
    (M.comes_still (g.W.World.meaning c.args.world.now) m' c.args.event c.args.hints counts.stays counts.acting c.requires.comes) (λ t. c.in-None.ensures.hinders)

pub returns-in-None-clause-acts : goal.returns-in-None-clause-acts
returns-in-None-clause-acts g c =
    let counts = c.in-None.ensures.counts in
    let m = g.W.World.meaning c.args.world.now in
    let m'' = g.W.World.meaning c.make.new.world in
    acts_made m m'' true c.make.result c.turn_of.result c.turn_of.ensures
    (enters_from m (g.W.World.meaning c.hindrance.new.world) m'' true c.make.result counts.stays counts.stops (same_bit (g.W.World.meaning c.hindrance.new.world) m'' true _ c.make.result c.requires.ticks c.make.ensures.enters))
