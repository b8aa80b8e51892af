use Rattle.sd_types.proofs.WilledLemmas.{sound-without}
use Rattle.sd_types.proofs.bodies.ThreadBody.waive.Goals as goal

pub returns-clause-sound : goal.returns-clause-sound
returns-clause-sound c = λ s. sound-without c.args.self.now c.args.l c.without_number-rest.result.items s c.without_number-rest.ensures
