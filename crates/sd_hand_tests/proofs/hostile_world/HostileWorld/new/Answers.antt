use Rattle.std.proofs.Common.{refl, ap}
use Rattle.sd_hand.specs.Hands.{how_many_held}
use Rattle.sd_hand_tests.proofs.HostileLemmas.{goes_on}
use Rattle.sd_hand_tests.proofs.hostile_world.HostileWorld.new.Goals as goal

pub returns-clause-good : goal.returns-clause-good
returns-clause-good c =
    goes_on (record { inner = c.args.inner; near = record { hand = c.in_ok-new.field-0; actor = c.args.inner.acting.actor }; plan = c.args.plan; calls = 0; stops = 0 })
    c.requires.stands refl (ap how_many_held c.in_ok-new.ensures) c.requires.possible
