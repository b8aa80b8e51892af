use Rattle.sd_dispadmin.proofs.LawLemmas.{one_ts, one_fixed}
use Rattle.sd_dispadmin.proofs.laws.spellings_have_one_table.Goals as goal

pub returns-clause-ts : goal.returns-clause-ts
returns-clause-ts c = one_ts

pub returns-clause-fixed : goal.returns-clause-fixed
returns-clause-fixed c = one_fixed
