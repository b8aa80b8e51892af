use Rattle.std.proofs.Common.{false, sym, ◌∙◌}
use Rattle.std.proofs.lemmas.Bool.{false≢true}
use Rattle.sd_cpu.proofs.AttemptLemmas as M
use Rattle.sd_cpu.proofs.MeaningLemmas.{acts_made, same_bit}
use Rattle.sd_cpu.proofs.attempts.come.Goals as goal

pub tick-requires-clause-ticks : goal.tick-requires-clause-ticks
tick-requires-clause-ticks g c = sym c.ticks.ensures ∙ c.if-ticks.true

pub make-requires-clause-makes : goal.make-requires-clause-makes
make-requires-clause-makes g c =
    M.makes (g.W.World.meaning c.args.world.now) c.args.event c.args.hints (g.met.W.World.sound c.args.world.now c.requires.good) c.requires.comes (λ t. absurd (false≢true (sym c.if-ticks.false ∙ (c.ticks.ensures ∙ t))))

pub returns-else-ticks-clause-acts : goal.returns-else-ticks-clause-acts
returns-else-ticks-clause-acts g c =
    let m = g.W.World.meaning c.args.world.now in
    let m' = g.W.World.meaning c.make.new.world in
    acts_made m m' false c.make.result c.turn_of.result c.turn_of.ensures (same_bit m m' false _ c.make.result (sym c.ticks.ensures ∙ c.if-ticks.false) c.make.ensures.enters)
