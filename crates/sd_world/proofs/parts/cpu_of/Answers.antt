use Rattle.sd_world.proofs.PartLemmas.{cpu_is}
use Rattle.sd_world.proofs.parts.cpu_of.Goals as goal

pub returns : goal.returns
returns c s told is = cpu_is s c.args.actor.now.cpu.0 c.args.actor.now c.view_of-view.result (c.view_of-view.ensures s told) is
