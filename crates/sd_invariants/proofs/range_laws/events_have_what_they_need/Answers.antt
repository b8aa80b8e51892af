use Rattle.sd_invariants.proofs.Ready.{maker_inside}
use Rattle.sd_invariants.proofs.Range.{needs_reached}
use Rattle.sd_invariants.proofs.range_laws.events_have_what_they_need.Goals as goal

pub returns : goal.returns
returns c = λ w n s cpu h e reached makes. (maker_inside w s cpu h e makes, needs_reached w n s cpu h e reached makes)
