use Rattle.sd_hand_tests.proofs.ReadyLemmas.{ready_after}
use Rattle.sd_hand_tests.proofs.hostile.repeat.Goals as goal

pub loop-init : goal.loop-init
loop-init g c = c.requires.ready

pub attempt-requires-clause-good : goal.attempt-requires-clause-good
attempt-requires-clause-good g c = c.loop.invariant.hostile

pub attempt-requires-clause-work : goal.attempt-requires-clause-work
attempt-requires-clause-work g c = c.loop.invariant.work

pub attempt-requires-clause-empty : goal.attempt-requires-clause-empty
attempt-requires-clause-empty g c e = c.loop.invariant.empty

pub returns-in-Ok-Made : goal.returns-in-Ok-Made
returns-in-Ok-Made g c = record { ready = ready_after c.args.work.now c.loop.world c.attempt.new.world c.attempt.result c.loop.invariant c.attempt.ensures.good c.attempt.ensures.empty c.attempt.ensures.answers }

pub loop-preserved : goal.loop-preserved
loop-preserved g c = ready_after c.args.work.now c.loop.world c.attempt.new.world c.attempt.result c.loop.invariant c.attempt.ensures.good c.attempt.ensures.empty c.attempt.ensures.answers

pub returns : goal.returns
returns g c = record { ready = c.loop.invariant }
