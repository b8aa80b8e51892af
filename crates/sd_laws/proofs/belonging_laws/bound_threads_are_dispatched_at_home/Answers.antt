use Rattle.sd_laws.proofs.Dispatches.{dispatched_at_home, stolen_unbound}
use Rattle.sd_laws.proofs.belonging_laws.bound_threads_are_dispatched_at_home.Goals as goal

pub returns-clause-dispatched : goal.returns-clause-dispatched
returns-clause-dispatched c = dispatched_at_home

pub returns-clause-stolen : goal.returns-clause-stolen
returns-clause-stolen c = stolen_unbound
