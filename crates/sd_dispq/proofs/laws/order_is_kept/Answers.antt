use Rattle.sd_dispq.proofs.LawLemmas.{order_is_kept as holds}
use Rattle.sd_dispq.proofs.laws.order_is_kept.Goals as goal

pub returns : goal.returns
returns g c = holds g.T.Ranked.rank g.T.Ranked.key g.T.Ranked.id
