-- A thread keeps its number on its way.
use Rattle.std.proofs.Common.{◌≡◌, refl}
use Rattle.sd_record.specs.Records.{ThreadRecord}
use Rattle.sd_homes.specs.Standing.{id_of}
use Rattle.sd_hand.specs.declared.steps.Step.{Step}
use Rattle.sd_hand.specs.declared.steps.Step.TheVariants.{Arrive, Depart, Move, MoveAs}
use Rattle.sd_hand.specs.Steps.{stepped}

pub step_id : (step : Step) (r : ThreadRecord) → id_of (stepped step r) ≡ id_of r
step_id (Arrive c) r = refl
step_id (Depart count place) r = refl
step_id (Move place) r = refl
step_id (MoveAs class place) r = refl
