use Rattle.sd_replay.proofs.Needed.{is_state}
use Rattle.sd_replay.proofs.stepping.apply.Goals as goal

pub returns : goal.returns
returns c = (c.in-Ok.ensures.value c.args.s.now (is_state c.args.work.now c.args.s.now c.requires.fit) c.requires.needs).same
