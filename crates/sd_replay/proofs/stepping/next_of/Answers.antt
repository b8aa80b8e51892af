use Rattle.sd_replay.proofs.Needed.{is_state}
use Rattle.sd_replay.proofs.stepping.next_of.Goals as goal

pub returns : goal.returns
returns c = c.in-Ok.ensures.value 0 c.args.s.now (is_state c.args.work.now c.args.s.now c.requires.fit) (λ k. c.requires.fit.counts k.0)
