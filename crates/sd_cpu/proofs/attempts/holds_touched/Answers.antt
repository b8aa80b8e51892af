use Rattle.std.proofs.Common.{sym, ◌∙◌}
use Rattle.sd_cpu.proofs.MeaningLemmas.{looks_same}
use Rattle.sd_cpu.proofs.SeekLemmas.{has_everything}
use Rattle.sd_cpu.proofs.attempts.holds_touched.Goals as goal

pub returns-then-has_all-clause-holds : goal.returns-then-has_all-clause-holds
returns-then-has_all-clause-holds g c =
    let m = g.W.World.meaning c.args.world.now in
    (looks_same m, has_everything m c.args.event (g.met.W.World.sound c.args.world.now c.requires.good) (sym c.has_all.ensures ∙ c.if-has_all.true) c.requires.way)
