use Rattle.sd_releases.proofs.VerdictLemmas.{set-accepted, set-short}
use Rattle.sd_releases.proofs.laws.expansions_are_accepted.Goals as goal

pub returns-clause-accepted : goal.returns-clause-accepted
returns-clause-accepted c = set-accepted

pub returns-clause-short : goal.returns-clause-short
returns-clause-short c = set-short
