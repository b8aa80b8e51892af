use Rattle.sd_types.proofs.WilledLemmas.{sound-taken}
use Rattle.sd_types.proofs.bodies.ThreadBody.take_lock.Goals as goal

pub returns-clause-sound : goal.returns-clause-sound
returns-clause-sound c = λ s new. sound-taken c.args.self.now c.args.l c.push.new.self.items s new c.push.ensures.items
