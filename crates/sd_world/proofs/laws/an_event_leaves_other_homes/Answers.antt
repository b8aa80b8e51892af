use Rattle.sd_machine.specs.Events.{after}
use Rattle.sd_machine.proofs.ShapeLemmas.{after_shape}
use Rattle.sd_step.specs.Touched.{after_parts}
use Rattle.sd_world.proofs.OtherHomes.{other_home}
use Rattle.sd_footprint.proofs.RanLast.{reached_changes}
use Rattle.sd_world.proofs.laws.an_event_leaves_other_homes.Goals as goal

pub returns : goal.returns
returns r = λ w n s c hints e h reached is apart.
    other_home n s (after w s n c e) (after_parts w s c e) h (after_shape w s n c e) (reached_changes w n s c hints e reached is) apart
