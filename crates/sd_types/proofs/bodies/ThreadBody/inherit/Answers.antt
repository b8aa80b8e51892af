use Rattle.std.proofs.Common.{arith}
use Rattle.sd_types.proofs.WilledLemmas.{room, sound-with}
use Rattle.sd_types.proofs.bodies.ThreadBody.inherit.Goals as goal

pub set_number-requires : goal.set_number-requires
set_number-requires c = λ none. room c.args.self.now c.args.l 8 c.requires.sound c.requires.held (omega arith) none

pub returns-clause-sound : goal.returns-clause-sound
returns-clause-sound c = sound-with c.args.self.now c.args.l c.args.pri c.set_number.new.willed.items c.requires.sound c.requires.held c.requires.below c.set_number.ensures
