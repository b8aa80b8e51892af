use Rattle.sd_dispq.proofs.LawLemmas.{front_is_ranked as holds}
use Rattle.sd_dispq.proofs.laws.front_is_ranked.Goals as goal

pub returns : goal.returns
returns g c = holds g.T.Ranked.rank g.T.Ranked.key
