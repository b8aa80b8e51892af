use Rattle.sd_types.proofs.WilledLemmas.{sound-released}
use Rattle.sd_types.proofs.bodies.ThreadBody.release_lock.Goals as goal

pub returns-clause-sound : goal.returns-clause-sound
returns-clause-sound c = λ s.
    sound-released c.args.self.now c.args.l c.without_number-numbers.result.items c.without_lock-locks.result.items s c.without_number-numbers.ensures c.without_lock-locks.ensures
