use Rattle.sd_laws.proofs.OnePlace.{one_place}
use Rattle.sd_laws.proofs.belonging_laws.one_place.Goals as goal

pub returns : goal.returns
returns c = one_place
