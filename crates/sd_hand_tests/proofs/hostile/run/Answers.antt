use Rattle.sd_hand_tests.proofs.hostile.run.Goals as goal

pub loop-turn-init : goal.loop-turn-init
loop-turn-init g c = c.requires.ready

pub repeat-requires : goal.repeat-requires
repeat-requires g c = record { ready = c.loop-turn.invariant }

pub returns-in_default : goal.returns-in_default
returns-in_default g c = c.repeat.ensures

pub returns-in_default-2 : goal.returns-in_default-2
returns-in_default-2 g c = c.repeat.ensures

pub loop-turn-preserved : goal.loop-turn-preserved
loop-turn-preserved g c = c.repeat.ensures.ready

pub returns : goal.returns
returns g c = record { ready = c.loop-turn.invariant }
