-- A world on which attempts are made.
use Rattle.std.specs.Prelude.{◌≡◌}
use Rattle.sd_types.specs.declared.works.Work.{Work}
use Rattle.sd_hand.specs.Hands.{how_many_held}
use Rattle.sd_hand_tests.specs.declared.hostile_world.HostileWorld.{HostileWorld}
use Rattle.sd_hand_tests.specs.Hostile.{IsHostile}

-- no home is held, and its run is one of this workload
pub record IsReady (w : Work) (x : HostileWorld) : Type 0 where
  pub hostile : IsHostile x
  pub empty : how_many_held x.near.hand.slots ≡ 0
  pub work : w ≡ x.inner.work.now
