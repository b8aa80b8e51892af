use Rattle.sd_class.proofs.LawLemmas.{real_time, no_real_time, limit, own}
use Rattle.sd_class.proofs.laws.callers_without_privilege.Goals as goal

pub returns-clause-real_time : goal.returns-clause-real_time
returns-clause-real_time c = real_time

pub returns-clause-no_real_time : goal.returns-clause-no_real_time
returns-clause-no_real_time c = no_real_time

pub returns-clause-limit : goal.returns-clause-limit
returns-clause-limit c = limit

pub returns-clause-own : goal.returns-clause-own
returns-clause-own c = own
